-- What an opened file says of itself.
use mathlib.Core.{Path.{◌≡◌, ap, ◌∙◌}, List.List}
use Rattle.std.specs.Prelude.{Ok, ℕ, ◌+◌, ◌≤◌, ◌<◌}
use native.Mathlib.Omega.{arith}
use Rattle.std.specs.Borrow.{Bor}
use Rattle.machine.specs.declared.{Settings.Settings, Event.Event}
use Rattle.file.specs.File.{opened_as, Reading, Read, event_at, code_bad, count_of, opening, reading}
use Rattle.file.proofs.Headers.{header_accepted, file_accepted, reading_given}
use Rattle.counting.proofs.Some.{none_below}
use Rattle.schedule.specs.{Asked.Asked, declared.Reader.Reader}

module _ (file : List ℕ) (s : Settings) (count : ℕ) (opened : opening file ≡ opened_as s count) where
  -- there are at most 16,384 events
  pub events_few : count ≤ 16384
  events_few =
      let accepted = file_accepted file s count opened in
      let few = (header_accepted file accepted.passes).few in
      let same = accepted.counted in
      omega arith

  -- a reader at a position before the count gives the event there, and moves on by one
  pub reads : (before after : Reader) (answer : Reading) (i : ℕ) → i < count → before.file.now ≡ file → before.at ≡ i
      → Asked before answer after
      → (answer ≡ Ok (event_at file i)) × (after.file.now ≡ file) × (after.at ≡ i + 1)
  reads before after answer i l of_file at asked =
      let accepted = file_accepted file s count opened in
      let same = accepted.counted in
      let below : i < count_of file = omega arith in
      let given = reading_given file accepted.passes i below
      (none_below (code_bad file) (count_of file) accepted.codes i below) in
      let read : ◌≡◌ {A = Read} (reading before.file.now before.at) (reading file i) =
      λ k. reading (of_file k) (at k) in (
        asked.answered ∙ ap (λ (r : Read). r.answer) (read ∙ given),
        ap (λ (f : Bor (List ℕ)). f.now) asked.same_file ∙ of_file,
        asked.moved ∙ ap (λ (r : Read). r.at) (read ∙ given),
      )

-- what a reading says, it says of one event
pub given_is : (a b : Event) → ◌≡◌ {A = Reading} (Ok a) (Ok b) → a ≡ b
given_is a b e = cc
