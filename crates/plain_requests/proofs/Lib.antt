pub mod AnswerSteps
pub mod Common
pub mod FileAnswers
pub mod FreeInodes
pub mod Listing
pub mod PieceSteps
pub mod RegionSteps
pub mod Room
