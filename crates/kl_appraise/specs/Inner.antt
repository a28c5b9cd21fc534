-- What private contracts alone cite.
pub mod TermsView
pub mod Checked
pub mod Listed
