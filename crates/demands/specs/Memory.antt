-- 01, "Memory that is lent": the three rows, what a call needs of them, and what one register written leaves.
use mathlib.Core.{Bool.Bool, List.{List, ◌++◌}}
use Rattle.std.specs.Prelude.{ℕ, ◌+◌, ◌*◌}
use lib.{Dec.leb, ListN.{length, get_or, set, replicate, drop}}
use Rattle.counting.specs.Counting.{count, first_bad}
use Rattle.machine.specs.{Settings.width, Places.blocks, Records.{idle, is_out, record_in_range}}
use Rattle.machine.specs.declared.{Settings.Settings, State.State, Record.Record, View.View}
use Rattle.machine.specs.declared.Register.{Register, TheVariants.{X, Mark}}

-- what the supervisor lends; a row may be longer than needed
pub record Memory : Type 0 where
  pub records : List Record
  pub xs : List ℕ
  pub marks : List ℕ

-- how many marks are needed: B one-time, B times N long-lived
abbrev pub marks_needed : Settings → ℕ
marks_needed s = blocks s * width s

-- mark `place` of a block stands block after block
abbrev pub mark_index : Settings → ℕ → ℕ → ℕ
mark_index s block place = block * width s + place

abbrev pub record_of : Memory → ℕ → Record
record_of m p = get_or m.records p idle

abbrev pub state_of : Memory → ℕ → State
state_of m p = (record_of m p).state

-- the turns that task p has used since its ask, as its record has them
abbrev pub turns_in : Memory → ℕ → ℕ
turns_in m p = (record_of m p).turns

-- one element written, and nothing else
abbrev pub with_record : ℕ → Record → Memory → Memory
with_record p new m = record { records = set m.records p new; xs = m.xs; marks = m.marks }

abbrev pub with_x : ℕ → ℕ → Memory → Memory
with_x block value m = record { records = m.records; xs = set m.xs block value; marks = m.marks }

abbrev pub with_mark : ℕ → ℕ → Memory → Memory
with_mark index value m = record { records = m.records; xs = m.xs; marks = set m.marks index value }

-- what a register has, and one register written
abbrev pub content : Settings → Register → Memory → ℕ
content s (X block) m = get_or m.xs block 0
content s (Mark block place) m = get_or m.marks (mark_index s block place) 0

abbrev pub put : Settings → Register → ℕ → Memory → Memory
put s (X block) value m = with_x block value m
put s (Mark block place) value m = with_mark (mark_index s block place) value m

-- an X number is at most N, a mark 0 or 1
abbrev pub x_in_range : Settings → ℕ → Bool
x_in_range s x = leb x s.n

abbrev pub mark_in_range : ℕ → Bool
mark_in_range mark = leb mark 1

-- ---- searching and counting
-- the first value out of range of each row, searched in order; the count of needed values where all are in range
abbrev pub bad_record : Settings → List Record → ℕ
bad_record s records = first_bad (λ p. record_in_range s (get_or records p idle)) s.n

abbrev pub bad_x : Settings → List ℕ → ℕ
bad_x s xs = first_bad (λ block. x_in_range s (get_or xs block 0)) (blocks s)

abbrev pub bad_mark : Settings → List ℕ → ℕ
bad_mark s marks = first_bad (λ index. mark_in_range (get_or marks index 0)) (marks_needed s)

-- how many of the N tasks are out
abbrev pub out_of : Settings → List Record → ℕ
out_of s records = count (λ p. is_out (get_or records p idle).state) s.n

-- what a call of task p sees of the records
abbrev pub view_of : Settings → List Record → ℕ → View
view_of s records p = record {
  length = length records;
  bad = bad_record s records;
  out = out_of s records;
  own = get_or records p idle;
}

-- ---- setup

-- the first n elements become a, the surplus stays
abbrev pub fill : {A : Type 0} → ℕ → A → List A → List A
fill n a l = replicate n a ++ drop n l

-- rows that are long enough for every permitted setting, as `gridlist` lends them
abbrev pub largest : Memory
largest = record { records = replicate 256 idle; xs = replicate 120 0; marks = replicate 30720 0 }
