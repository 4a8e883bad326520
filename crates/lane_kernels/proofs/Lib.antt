pub mod LongestRuns
pub mod WordLanes
