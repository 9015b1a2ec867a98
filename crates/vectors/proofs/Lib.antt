-- Laws of answer lines.
pub mod Examples
pub mod HashesLaws
pub mod LinesLaws
pub mod SheetsLaws
