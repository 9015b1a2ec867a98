-- Laws of rounds over edges.
pub mod EdgesLaws
pub mod StepLaws
pub mod RoundsLaws
pub mod GraphsLaws
pub mod TracingLaws
pub mod CodesLaws
