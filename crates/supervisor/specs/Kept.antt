-- The supervisor's board, and what it keeps from setup on, of the parts of its desk.
use Rattle.std.specs.Prelude.{◌≡◌, ℕ, ◌+◌, List, Option, None, Some, length, map}
use Rattle.demands.specs.{Memory.Memory, promises.{Reached.Reached, Notes.Agree}}
use Rattle.machine.specs.declared.{Settings.Settings, Name.Name}

-- long-lived, four channels, two of them out at once, names by diagonal
abbrev pub board : Settings
board = record { mode = 1; n = 4; k = 2; version = 2 }

-- the library's note of a row: its number and one more, 0 for none
abbrev pub note_of : Option Name → ℕ
note_of None = 0
note_of (Some name) = name.0 + 1

-- the invariant: there is an entry for each channel and a row for each name, the memory is one that an accepted setup
-- and then calls left, and the rows noted for the channels are the names that its records hold
pub record Kept (m : Memory) (rows : List (Option Name)) (totals : List ℕ) : Type 0 where
  pub long : length rows ≡ 4
  pub table : length totals ≡ 3
  pub reached : Reached board m
  pub agree : Agree board m (map note_of rows)
