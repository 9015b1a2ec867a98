-- Laws of the name sheet.
pub mod FindsLaws
pub mod WalksLaws
pub mod MeaningLaws
pub mod FillingLaws
pub mod WaitingLaws
pub mod KnownLaws
