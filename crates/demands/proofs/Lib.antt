-- Laws and theorems about calls on a lent memory. Demand 3 begins at `histories/Demand3`.
pub mod refusals
pub mod calls
pub mod bridge
pub mod histories
