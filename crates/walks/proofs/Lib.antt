-- What every walk over lent records shares. It knows nothing of the records.
pub mod Locals
pub mod Statements
pub mod Data
pub mod Params
pub mod Walk
pub mod Elements
pub mod Calls
pub mod Counting
pub mod Lending
pub mod Arrays
pub mod Fronts
pub mod Spelt
pub mod Prelude
