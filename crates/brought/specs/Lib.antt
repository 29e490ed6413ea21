pub mod Over16
pub mod Laws
