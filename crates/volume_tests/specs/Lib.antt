pub mod FailingBlocks
