pub mod QuoteText
pub mod Size
