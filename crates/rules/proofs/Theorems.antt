-- What follows from the rules alone: statements, each with its sentence; the proofs stand in the files that they cite.
pub mod Names
pub mod Sheets
pub mod Chains
pub mod Derivations
pub mod Verdicts
pub mod Translation
pub mod Specimen
