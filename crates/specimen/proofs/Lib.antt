-- Laws of tables with other spaces.
pub mod TablesLaws
