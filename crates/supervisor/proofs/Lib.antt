-- What each step of the supervisor keeps.
mod Keeping
