-- 01, "Memory that is lent": "Longer rows are accepted; the surplus never changes and no answer depends on it."
-- Theorems: `surplus_never_changes`, `surplus_never_bears`.
use Rattle.std.specs.Prelude.{◌≡◌, take, drop}
use Rattle.machine.specs.Places.{blocks}
use Rattle.demands.specs.{Memory.{Memory, marks_needed}, Calls.{Outcome, call, setup}}
use Rattle.machine.specs.declared.{Settings.Settings, Event.Event}

-- what is needed of the three rows: N records, B X numbers, B or B times N marks
abbrev pub needed : Settings → Memory → Memory
needed s m = record {
  records = take s.n m.records;
  xs = take (blocks s) m.xs;
  marks = take (marks_needed s) m.marks;
}

-- what lies beyond
abbrev pub surplus : Settings → Memory → Memory
surplus s m = record {
  records = drop s.n m.records;
  xs = drop (blocks s) m.xs;
  marks = drop (marks_needed s) m.marks;
}

-- "the surplus never changes", in accepted and in refused calls
pub record SurplusNeverChanges : Type 0 where
  pub calls : (s : Settings) (event : Event) (m : Memory) → surplus s (call s event m).memory ≡ surplus s m
  pub setups : (s : Settings) (m : Memory) → surplus s (setup s m).memory ≡ surplus s m

-- two outcomes have the same answer and the same needed part
pub record SameOutcome (s : Settings) (outcome outcome' : Outcome) : Type 0 where
  pub answer : outcome.answer ≡ outcome'.answer
  pub memory : needed s outcome.memory ≡ needed s outcome'.memory

-- "no answer depends on it", nor what is needed afterwards: memories with the same needed part, rows too short or long
-- enough
pub record SurplusNeverBears : Type 0 where
  pub calls : (s : Settings) (event : Event) (m m' : Memory) → needed s m ≡ needed s m'
      → SameOutcome s (call s event m) (call s event m')
  pub setups : (s : Settings) (m m' : Memory) → needed s m ≡ needed s m' → SameOutcome s (setup s m) (setup s m')
