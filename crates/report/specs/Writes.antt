-- The contract of what writes a line of the listing, or a piece of one.
use Rattle.std.specs.Prelude.{List, ℕ, ◌≤◌, length}
use Rattle.text.specs.Put.{Puts}

-- the text stands in the room from an index on, and it has at most so many bytes
pub record Writes (most : ℕ) (room : List ℕ) (at : ℕ) (text : List ℕ) (to : ℕ) (after : List ℕ) : Type 0 where
  pub puts : Puts room at text to after
  pub short : length text ≤ most
