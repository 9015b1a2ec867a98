-- Nodes and edges that are numbers, and the greatest depths.
pub mod Edges
pub mod Reached
pub mod Rounds
pub mod Graphs
