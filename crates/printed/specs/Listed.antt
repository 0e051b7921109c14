-- What listing a file into lent room leaves.
use Rattle.std.specs.Prelude.{Err, Ok, List, [], ◌∷◌, ◌++◌, ℕ, ◌+◌, ◌*◌}
use lib.{Dec.ltb, ListN.{length, drop}}
use Rattle.demands.specs.Refusals.{Verdict, when, first}
use Rattle.machine.specs.declared.{Refusal.TheVariants.ShortRoom}
use Rattle.file.specs.File.{Opening, opening, Written, written_of}
use Rattle.printed.specs.Listing.{listing}

-- room that is enough for every listing: 23 bytes for the first line, 56 for an event's, 27 for the last; 14 where the
-- file is refused
abbrev pub room_by : Opening → ℕ
room_by (Ok opened) = 50 + 56 * opened.count
room_by (Err why) = 14

abbrev pub room_for : List ℕ → ℕ
room_for file = room_by (opening file)

-- a room that is shorter is refused by 14
abbrev pub list_verdict : List ℕ → List ℕ → Verdict
list_verdict file room = first (when (ltb (length room) (room_for file)) ShortRoom ∷ [])

-- just the text, from the start of the room, and how long it is; a refusal leaves the room as it was
abbrev pub listed_by : Verdict → List ℕ → List ℕ → Written
listed_by (Ok accepted) text room = written_of (Ok (length text)) (text ++ drop (length text) room)
listed_by (Err why) text room = written_of (Err why) room

abbrev pub listed : List ℕ → List ℕ → Written
listed file room = listed_by (list_verdict file room) (listing file) room
