pub mod Kind
pub mod Bodies
