-- a body in its currency's parts
pub mod Bodies
-- a kind and its number
pub mod Numbers
