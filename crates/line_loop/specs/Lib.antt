pub mod Asking
pub mod Gathering
pub mod LinesEnds
pub mod Protocol
pub mod ServeRun
pub mod Strikes
