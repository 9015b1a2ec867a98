-- Laws of whole tables.
pub mod AnswersLaws
pub mod LoadingLaws
pub mod KeptLaws
pub mod PlacingLaws
pub mod BindingsLaws
pub mod SpacesLaws
pub mod SectionsLaws
pub mod FindingLaws
pub mod TableLaws
pub mod RowsForm
pub mod TableForm
pub mod GoodForm
pub mod SizesLaws
pub mod WholeForm
pub mod KeyTableForm
pub mod Theorems
