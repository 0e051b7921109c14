-- Each line of a listing spells its words and numbers.
use mathlib.Core.List.{List, [], ◌∷◌, ◌++◌, append_assoc}
use Prim.Native.Nat.{ℕ, ◌≤◌}
use Rattle.std.specs.Prelude.{Err, None, Some, Ok, Option}
use native.Mathlib.Omega.{arith}
use Rattle.text.{specs.Decimal.decimal, proofs.Plain.decimal_plain}
use Rattle.machine.specs.RefusalNumbers.{number_of}
use Rattle.machine.specs.declared.{Kind.{Kind, TheVariants.{Ask, Turn, Release}}, Event.Event, Told.Told}
use Rattle.machine.specs.declared.{Register.{Register, TheVariants.{X, Mark}}, Letter.{Letter, TheVariants.{R, W}}}
use Rattle.machine.specs.declared.{Shown.Shown}
use Rattle.file.specs.File.{Opening, opening, opening_said}
use Rattle.printed.specs.Listing.{kind_text, letter_text, register_text, block_of, place_of, shown_text, fields_text}
use Rattle.printed.specs.Listing.{answer_text, event_line, refused_line, listing_by}
use Rattle.printed.specs.Text.{Piece, number, Spells, ended, a_word, a_number, space, line_feed, kind, seeks}
use Rattle.printed.specs.Text.{holds, freed, refused, letter, register, event_pieces, fields, behind, LinesSpelt}
use Rattle.demands.specs.Answers.{Reply}

-- a number in decimal, and what follows it
numbered : (n : ℕ) {rest : List ℕ} {pieces : List Piece} → Spells pieces rest
    → Spells (number n ∷ pieces) (decimal n ++ rest)
numbered n more = a_number (decimal_plain n) more

-- KIND and the space behind it
kind_spelt : (which : Kind) {rest : List ℕ} {pieces : List Piece} → Spells pieces rest
    → Spells (kind which ∷ space ∷ pieces) (kind_text which ++ rest)
kind_spelt Ask more = a_word (a_word more)
kind_spelt Turn more = a_word (a_word more)
kind_spelt Release more = a_word (a_word more)

-- an event's line, from what its answer says
event_spelt : (position : ℕ) (event : Event) (answer : Reply) (pieces : List Piece)
    → Spells (pieces ++ (line_feed ∷ [])) (answer_text event.kind answer ++ (10 ∷ []))
    → Spells (event_pieces position event pieces) (event_line position event answer)
event_spelt position event answer pieces more =
    numbered position (a_word (kind_spelt event.kind (numbered event.task.0 (a_word more))))

feed : Spells (line_feed ∷ []) (10 ∷ [])
feed = a_word ended

-- the fields of an access, to the end of the line
fields_spelt : (shown : Option Shown) → Spells (fields shown ++ (line_feed ∷ [])) (shown_text shown ++ (10 ∷ []))
fields_spelt None = a_word feed
fields_spelt (Some shown) =
    simp append_assoc (named shown.letter (placed shown.register (a_word (numbered shown.value feed))))
  where
    named : (l : Letter) {rest : List ℕ} {pieces : List Piece} → Spells pieces rest
        → Spells (letter l ∷ space ∷ pieces) (letter_text l ++ rest)
    named R more = a_word (a_word more)
    named W more = a_word (a_word more)

    placed : (r : Register) {rest : List ℕ} {pieces : List Piece} → Spells pieces rest
        → Spells (register r ++ pieces)
        (register_text r ++ (decimal (block_of r) ++ (0x20 ∷ (decimal (place_of r) ++ rest))))
    placed (X block) more = a_word (a_word (numbered block (a_word (numbered 0 more))))
    placed (Mark block place) more = a_word (a_word (numbered block (a_word (numbered place more))))

behind_spelt : (which : Kind) (shown : Option Shown)
    → Spells (behind which shown ++ (line_feed ∷ [])) (fields_text which shown ++ (10 ∷ []))
behind_spelt Ask shown = feed
behind_spelt Turn shown = a_word (fields_spelt shown)
behind_spelt Release shown = a_word (fields_spelt shown)

bad_line : (n : ℕ) → Spells (refused ∷ space ∷ number n ∷ line_feed ∷ []) (refused_line n)
bad_line n = a_word (a_word (numbered n feed))

pub lines_spelt : LinesSpelt
lines_spelt = record {
  first_line = λ s. a_word (a_word (numbered s.mode (a_word (numbered s.n (a_word (numbered s.k feed))))));
  seeks_line = λ position event shown. event_spelt position event (Ok (record { told = Told.Seeks; shown = shown }))
      (seeks ∷ behind event.kind shown)
      (simp append_assoc (a_word (behind_spelt event.kind shown)));
  holds_line = λ position event name shown. event_spelt position event
      (Ok (record { told = Told.Holds name; shown = shown }))
      (holds ∷ space ∷ number name.0 ∷ behind event.kind shown)
      (simp append_assoc (a_word (a_word (numbered name.0 (behind_spelt event.kind shown)))));
  freed_line = λ position event name shown. event_spelt position event
      (Ok (record { told = Told.Freed name; shown = shown }))
      (freed ∷ space ∷ number name.0 ∷ behind event.kind shown)
      (simp append_assoc (a_word (a_word (numbered name.0 (behind_spelt event.kind shown)))));
  refused_line_lem = λ position event why. event_spelt position event (Err why)
      (refused ∷ space ∷ number (number_of why) ∷ [])
      (a_word (a_word (numbered (number_of why) feed)));
  last_line = λ holders peak most. a_word (a_word
      (numbered holders (a_word (numbered peak (a_word (numbered most feed))))));
  bad_file = λ file. bad (opening file) file;
}
  where
    bad : (o : Opening) (file : List ℕ) → 1 ≤ (opening_said o).number
        → Spells (refused ∷ space ∷ number (opening_said o).number ∷ line_feed ∷ []) (listing_by o file)
    bad (Ok opened) file low = absurd (omega arith)
    bad (Err why) file low = bad_line (number_of why)
