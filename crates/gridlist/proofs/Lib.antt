-- What `listing::list` leaves, for the one function that calls it.
pub mod Whole
