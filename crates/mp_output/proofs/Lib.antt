pub mod Times
pub mod Held
pub mod Writing
pub mod ByTime
pub mod AnswerLines
pub mod Whole
pub mod Sending
pub mod RowsAlone
