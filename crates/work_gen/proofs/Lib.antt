pub mod Forms
mod Rising
