-- What writing text into lent room leaves: the text at its place, and every other byte as it was.
use mathlib.Core.{Path.◌≡◌, List.{List, ◌++◌}}
use Rattle.std.specs.Prelude.{ℕ, ◌+◌, length, take, drop}

-- the room with a text from an index on
unfoldable pub put : List ℕ → ℕ → List ℕ → List ℕ
put room at text = take at room ++ (text ++ drop (at + length text) room)

-- the contract of a writer: the index past the text, and the room with the text
pub record Puts (room : List ℕ) (at : ℕ) (text : List ℕ) (to : ℕ) (after : List ℕ) : Type 0 where
  pub past : to ≡ at + length text
  pub room_after : after ≡ put room at text
