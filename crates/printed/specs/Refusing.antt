-- 00, demand 1, for the listing: what listing a file into lent room is refused by, as a table of plain lines, and what
-- it answers and leaves otherwise. Theorem: `each_listing`.
use mathlib.Core.{Path.◌≡◌, Logic.◌⊎◌, List.{List, [], ◌∷◌, ◌++◌}}
use Rattle.std.specs.Prelude.{ℕ, ◌+◌, ◌*◌, ◌≤◌, ◌<◌, length, drop}
use Rattle.demands.specs.promises.Refusing.{Line, line, NoneHolds, RefusedExactly}
use Rattle.file.specs.{File.writing_said, Refusing.{sixteen, open_lines}}
use Rattle.printed.specs.{Listing.listing, Listed.listed}

-- 14: output room short. Of a file that opens 50 bytes and 56 an event are asked for, of one that does not 14 bytes
-- (docs/DECISIONS.md)
abbrev pub RoomShort : List ℕ → List ℕ → Type 0
RoomShort file room =
    (NoneHolds (open_lines file) × (length room < 50 + 56 * sixteen file 9))
    ⊎ ((NoneHolds (open_lines file) → ⊥) × (length room < 14))

abbrev pub list_lines : List ℕ → List ℕ → List Line
list_lines file room = line 14 (RoomShort file room) ∷ []

-- the listing's bytes from the start of the room, and how many; a refusal leaves the whole room
pub record ListingTold (file room : List ℕ) : Type 0 where
  pub exactly : RefusedExactly (writing_said (listed file room).answer) (list_lines file room)
  pub values : (writing_said (listed file room).answer).number ≡ 0
      → (writing_said (listed file room).answer).values ≡ length (listing file) ∷ []
  pub text : (writing_said (listed file room).answer).number ≡ 0
      → (listed file room).room ≡ listing file ++ drop (length (listing file)) room
  pub keeps : 1 ≤ (writing_said (listed file room).answer).number → (listed file room).room ≡ room

abbrev pub EachListing : Type 0
EachListing = (file room : List ℕ) → ListingTold file room
