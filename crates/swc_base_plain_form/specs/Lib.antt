pub mod PlainForm
pub mod Laws
