-- The reviewer's three demands, and the rows of the scope paper, over the promises of the public parts.
pub mod DemandOne
pub mod DemandTwo
pub mod DemandThree
pub mod Rows
pub mod Worthless
