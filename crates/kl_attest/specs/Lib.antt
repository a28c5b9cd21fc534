pub mod Grammar
pub mod Pcrs
pub mod FirstFault
pub mod Views
pub mod Inner
