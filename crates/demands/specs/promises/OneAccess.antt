-- 01, "Rules of the grid" and "Numbers of refusal": "exactly one access", and "An access shows in its effect: tests
-- apart, of X and marks only the register read bears on the next record and the answer, and only the one written
-- changes." 02, P6: an answer shows that access. Theorems: `one_access`, `only_the_register_read_bears`,
-- `only_the_register_written_changes`, `each_shows`.
use mathlib.Core.{Path.◌≡◌, Bool.{Bool, true, false, not}, List.List}
use Rattle.std.specs.Prelude.{Option, None, Some, ℕ, ◌+◌, ◌≤◌, ◌<◌}
use lib.{Dec.T, ListN.{length, get_or}}
use Rattle.machine.specs.{Settings.{width, own}, Places.{blocks, block_number, cell}, Grid.touch}
use Rattle.machine.specs.Turn.{op_reads, access}
use Rattle.demands.specs.Memory.{Memory, marks_needed, mark_index, record_of, state_of, content}
use Rattle.demands.specs.Answers.{shown_in, is_accepted}
use Rattle.demands.specs.Calls.{record_after, call}
use Rattle.machine.specs.promises.Ranges.{WithinLimits, StandWithin}
use Rattle.machine.specs.declared.{Settings.Settings, Stand.Stand, State.{State, TheVariants.{Seeking, Holding}}}
use Rattle.machine.specs.declared.{Register.{Register, TheVariants.{X, Mark}}, Op.{Op, TheVariants.{Read, Write}}}
use Rattle.machine.specs.declared.{Access.Access, Letter.{Letter, TheVariants.{R, W}}, Shown.Shown, Event.Event}
use Rattle.machine.specs.declared.Kind.{Kind, TheVariants.{Ask, Turn, Release}}

-- ---- which register

-- a register that is needed: the X number of a block, or a place of a block's marks
abbrev pub Needed : Settings → Register → Type 0
Needed s (X block) = block < blocks s
Needed s (Mark block place) = (block < blocks s) × (place < width s) × (mark_index s block place < marks_needed s)

-- there is an access
abbrev pub touches : Option Access → Bool
touches None = false
touches (Some access) = true

-- the register of an access, where there is one, is needed
abbrev pub RegisterNeeded : Settings → Option Access → Type 0
RegisterNeeded s None = Unit {0}
RegisterNeeded s (Some access) = Needed s access.register

-- a fact where the operation reads, of the value that it writes, and of nowhere but where it writes
abbrev pub IfRead : Op → Type 0 → Type 0
IfRead Read fact = fact
IfRead (Write v) fact = Unit {0}

abbrev pub IfWritten : Op → (ℕ → Type 0) → Type 0
IfWritten Read fact = Unit {0}
IfWritten (Write v) fact = fact v

abbrev pub WrittenAt : Op → Type 0 → Type 0
WrittenAt Read at = ⊥
WrittenAt (Write v) at = at

-- the value that an access writes, where it writes one, is in its register's range: an X number is at most N, a mark 0
-- or 1
abbrev pub Takes : Settings → Register → ℕ → Type 0
Takes s (X block) v = v ≤ s.n
Takes s (Mark block place) v = v ≤ 1

abbrev pub Writable : Settings → Option Access → Type 0
Writable s None = Unit {0}
Writable s (Some access) = IfWritten access.op (Takes s access.register)

-- an ask: "No register is touched." A turn: "for a seeking task p, exactly one access". A release: "if r+c ≤ k-2 its
-- own mark in that block becomes 0; otherwise no access"
pub record OneAccess (s : Settings) (p : ℕ) : Type 0 where
  pub ask : (state : State) → access s Ask p state ≡ None
  pub turn : (stand : Stand) → StandWithin s stand
      → T (touches (access s Turn p (Seeking stand))) × RegisterNeeded s (access s Turn p (Seeking stand))
  pub release_block : (r c : ℕ) → r + c + 2 ≤ s.k
      → (access s Release p (Holding (cell r c)) ≡ touch (Mark (block_number s r c) (own s p)) (Write 0))
      × Needed s (Mark (block_number s r c) (own s p))
  pub release_edge : (r c : ℕ) → r + c + 1 ≡ s.k → access s Release p (Holding (cell r c)) ≡ None
  -- and what is written is in its register's range
  pub writes : (kind : Kind) (state : State) → Writable s (access s kind p state)

abbrev pub EachOneAccess : Type 0
EachOneAccess = (s : Settings) → WithinLimits s → (p : ℕ) → p < s.n → OneAccess s p

-- ---- its effect

-- the access that a call makes, by the record of its task
abbrev pub access_of : Settings → Event → Memory → Option Access
access_of s event m = access s event.kind event.task.0 (state_of m event.task.0)

-- the call is accepted on this memory
abbrev pub AcceptedIn : Settings → Event → Memory → Type 0
AcceptedIn s event m = T (is_accepted (call s event m).answer)

-- it reads a register
abbrev pub reads : Option Access → Bool
reads None = false
reads (Some access) = op_reads access.op

-- two memories agree on the register that an access reads
abbrev pub SameRead : Settings → Option Access → Memory → Memory → Type 0
SameRead s None m m' = Unit {0}
SameRead s (Some access) m m' = IfRead access.op (content s access.register m ≡ content s access.register m')

-- a call on two memories gives the same answer and the same next record
pub record SameEnd (s : Settings) (event : Event) (m m' : Memory) : Type 0 where
  pub answer : (call s event m).answer ≡ (call s event m').answer
  pub next_record : record_of (call s event m).memory event.task.0
      ≡ record_of (call s event m').memory event.task.0

-- "tests apart": the call is accepted on both memories. Then, from one record of the task, the register read decides
-- the rest, and where none is read, in an ask, a release or a turn that writes, no X and no mark bears
pub record ReadBears (s : Settings) (event : Event) (m m' : Memory) : Type 0 where
  pub register_read : SameRead s (access_of s event m) m m' → SameEnd s event m m'
  pub nothing_read : T (not (reads (access_of s event m))) → SameEnd s event m m'

abbrev pub OnlyTheRegisterReadBears : Type 0
OnlyTheRegisterReadBears =
    (s : Settings) (event : Event) (m m' : Memory) → AcceptedIn s event m → AcceptedIn s event m'
    → record_of m event.task.0 ≡ record_of m' event.task.0 → ReadBears s event m m'

-- the register is the X number of this block; it is the mark at this index
abbrev pub AtX : Register → ℕ → Type 0
AtX (X block) b = b ≡ block
AtX (Mark block place) b = ⊥

abbrev pub AtMark : Settings → Register → ℕ → Type 0
AtMark s (X block) i = ⊥
AtMark s (Mark block place) i = i ≡ mark_index s block place

-- an access writes the X number of this block; the mark at this index
abbrev pub WritesX : Option Access → ℕ → Type 0
WritesX None b = ⊥
WritesX (Some access) b = WrittenAt access.op (AtX access.register b)

abbrev pub WritesMark : Settings → Option Access → ℕ → Type 0
WritesMark s None i = ⊥
WritesMark s (Some access) i = WrittenAt access.op (AtMark s access.register i)

-- the register written has the value written
abbrev pub HasWritten : Settings → Option Access → Memory → Type 0
HasWritten s None after = Unit {0}
HasWritten s (Some access) after = IfWritten access.op (λ v. content s access.register after ≡ v)

-- a row is as long as before, and every element is as before but at these indices
pub record ChangesOnly {A : Type 0} (indices : ℕ → Type 0) (row after : List A) : Type 0 where
  pub long : length after ≡ length row
  pub others : (i : ℕ) (d : A) → (indices i → ⊥) → get_or after i d ≡ get_or row i d

-- from the memory before an accepted call to the memory after it: of X and marks only the element written changes, and
-- it has the value written; of the records only the task's own, and it is the next record
pub record WrittenChanges (s : Settings) (event : Event) (m after : Memory) : Type 0 where
  pub xs : ChangesOnly (WritesX (access_of s event m)) m.xs after.xs
  pub marks : ChangesOnly (WritesMark s (access_of s event m)) m.marks after.marks
  pub written : HasWritten s (access_of s event m) after
  pub records : ChangesOnly (λ q. q ≡ event.task.0) m.records after.records
  pub own : record_of after event.task.0
      ≡ record_after s event.kind event.task.0 (state_of m event.task.0) m

abbrev pub OnlyTheRegisterWrittenChanges : Type 0
OnlyTheRegisterWrittenChanges =
    (s : Settings) (event : Event) (m : Memory) → AcceptedIn s event m
    → WrittenChanges s event m (call s event m).memory

-- ---- what an answer shows of it

-- no X and no mark changes
pub record NothingChanges (m after : Memory) : Type 0 where
  pub xs : after.xs ≡ m.xs
  pub marks : after.marks ≡ m.marks

-- whatever X and marks are: accepted from the same record, the call ends the same
abbrev pub NothingBears : Settings → Event → Memory → Type 0
NothingBears s event m =
    (m' : Memory) → AcceptedIn s event m' → record_of m event.task.0 ≡ record_of m' event.task.0
    → SameEnd s event m m'

-- R: the register that was read, with the value that it had. It alone bears, and nothing changes
pub record ReadIs (s : Settings) (event : Event) (m : Memory) (register : Register) (v : ℕ) : Type 0 where
  pub needed : Needed s register
  pub had : content s register m ≡ v
  pub bears : (m' : Memory) → AcceptedIn s event m' → record_of m event.task.0 ≡ record_of m' event.task.0
      → content s register m' ≡ v → SameEnd s event m m'
  pub unchanged : NothingChanges m (call s event m).memory

-- W: the register that was written, with the value that it has. It alone changes, and nothing bears
pub record WrittenIs (s : Settings) (event : Event) (m : Memory) (register : Register) (v : ℕ) : Type 0 where
  pub needed : Needed s register
  pub has : content s register (call s event m).memory ≡ v
  pub xs : ChangesOnly (AtX register) m.xs (call s event m).memory.xs
  pub marks : ChangesOnly (AtMark s register) m.marks (call s event m).memory.marks
  pub bears : NothingBears s event m

abbrev pub ShownIs : Settings → Event → Memory → Letter → Register → ℕ → Type 0
ShownIs s event m R register v = ReadIs s event m register v
ShownIs s event m W register v = WrittenIs s event m register v

-- what is shown is so; where no access is shown none was made. A write that leaves what stood there has no effect to
-- tell it by: which access it was is said line by line in `Rules`
abbrev pub Shows : Settings → Event → Memory → Option Shown → Type 0
Shows s event m None = NothingChanges m (call s event m).memory × NothingBears s event m
Shows s event m (Some shown) = ShownIs s event m shown.letter shown.register shown.value

abbrev pub EachShows : Type 0
EachShows =
    (s : Settings) (event : Event) (m : Memory) → AcceptedIn s event m
    → Shows s event m (shown_in (call s event m).answer)
