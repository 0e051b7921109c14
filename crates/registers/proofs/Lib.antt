-- Laws of the registers that belong to no one function.
pub mod Finding
pub mod Filling
pub mod Determined
