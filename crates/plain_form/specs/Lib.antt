pub mod PlainForm
pub mod Examples
