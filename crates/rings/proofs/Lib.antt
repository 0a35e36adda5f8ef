pub mod AskingLaws
pub mod CursorSteps
pub mod RingSteps
pub mod SideSteps
