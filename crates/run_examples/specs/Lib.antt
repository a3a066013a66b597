pub mod After
pub mod WorkedRuns
