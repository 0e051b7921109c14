-- What shows of a call's access: of X and marks the register read alone bears on the answer and the next record, and
-- the register written alone changes.
use mathlib.Core.{Path.{◌≡◌, refl, sym, ap, subst, ◌∙◌}, Bool.not, List.List}
use Prim.Native.Nat.{ℕ}
use Rattle.std.specs.Prelude.{Ok, Some, Option, None}
use native.Mathlib.Omega.{arith}
use lib.{Dec.T, ListN.{set, length-set}, Seq.{get_or-set_same, get_or-set_other}}
use Rattle.machine.specs.{Records.idle, Turn.{op_shown, op_reads, access, shown_by, next, turns_after}}
use Rattle.demands.specs.Memory.{Memory, mark_index, record_of, state_of, with_record, content, put}
use Rattle.demands.specs.{Touching.{value, store}, Calls.{Outcome, told_of, next_state, record_after, shown_of, call}}
use Rattle.machine.specs.declared.{Settings.Settings, State.State, Record.Record}
use Rattle.machine.specs.declared.{Register.{Register, TheVariants.{X, Mark}}, Op.TheVariants.{Read, Write}}
use Rattle.machine.specs.declared.{Access.Access, Kind.Kind, Event.Event}
use Rattle.machine.specs.declared.{Shown.Shown}
use Rattle.machine.specs.declared.Op.{Op}
use Rattle.machine.specs.Grid.{touch}
use Rattle.demands.specs.promises.OneAccess.{Needed, RegisterNeeded, access_of, AcceptedIn, reads, SameRead}
use Rattle.demands.specs.promises.OneAccess.{SameEnd, OnlyTheRegisterReadBears, AtX, AtMark, WritesX, WritesMark}
use Rattle.demands.specs.promises.OneAccess.{HasWritten, ChangesOnly, WrittenChanges}
use Rattle.demands.specs.promises.OneAccess.{OnlyTheRegisterWrittenChanges, ReadIs, WrittenIs, Shows, EachShows}
use Rattle.demands.specs.Answers.{shown_in}
use Rattle.machine.proofs.bridge.Accesses.{write_sees_nothing, read_shown, write_shown}
use Rattle.demands.proofs.refusals.{Refusing.ruled, Passing.{passed, by_the_rules}, Passed.{Passed, Fit}}
use Rattle.demands.proofs.calls.OneAccess.{call_needed}

-- ---- one access on a memory

module _ {A : Type 0} where
  same_row : (indices : ℕ → Type 0) (l : List A) → ChangesOnly indices l l
  same_row indices l = record { long = refl; others = λ i d other. refl }

  set_row : (l : List A) (i : ℕ) (a : A) → ChangesOnly (λ j. j ≡ i) l (set l i a)
  set_row l i a = record { long = length-set l i a; others = λ j d other. get_or-set_other l i j a d other }

module _ (s : Settings) (m : Memory) where
  -- one register written
  put_records : (register : Register) (v : ℕ) → (put s register v m).records ≡ m.records
  put_records (X block) v = refl
  put_records (Mark block place) v = refl

  put_xs : (register : Register) (v : ℕ) → ChangesOnly (AtX register) m.xs (put s register v m).xs
  put_xs (X block) v = set_row m.xs block v
  put_xs (Mark block place) v = same_row _ m.xs

  put_marks : (register : Register) (v : ℕ) → ChangesOnly (AtMark s register) m.marks (put s register v m).marks
  put_marks (X block) v = same_row _ m.marks
  put_marks (Mark block place) v = set_row m.marks (mark_index s block place) v

  put_content : (register : Register) (v : ℕ) → Fit s m → Needed s register
      → content s register (put s register v m) ≡ v
  put_content (X block) v fit h = get_or-set_same m.xs block v 0 (let long = fit.long.xs in omega arith)
  put_content (Mark block place) v fit h =
      get_or-set_same m.marks (mark_index s block place) v 0 (let long = fit.long.marks in omega arith)

  content_with : (register : Register) (p : ℕ) (new : Record) (after : Memory)
      → content s register (with_record p new after) ≡ content s register after
  content_with (X block) p new after = refl
  content_with (Mark block place) p new after = refl

  -- one access
  touch_records : (register : Register) (op : Op) → (store s (touch register op) m).records ≡ m.records
  touch_records register Read = refl
  touch_records register (Write v) = put_records register v

  pub store_records : (a : Option Access) → (store s a m).records ≡ m.records
  store_records None = refl
  store_records (Some a) = touch_records a.register a.op

  touch_xs : (register : Register) (op : Op)
      → ChangesOnly (WritesX (touch register op)) m.xs (store s (touch register op) m).xs
  touch_xs register Read = same_row _ m.xs
  touch_xs register (Write v) = put_xs register v

  store_xs : (a : Option Access) → ChangesOnly (WritesX a) m.xs (store s a m).xs
  store_xs None = same_row _ m.xs
  store_xs (Some a) = touch_xs a.register a.op

  touch_marks : (register : Register) (op : Op)
      → ChangesOnly (WritesMark s (touch register op)) m.marks (store s (touch register op) m).marks
  touch_marks register Read = same_row _ m.marks
  touch_marks register (Write v) = put_marks register v

  store_marks : (a : Option Access) → ChangesOnly (WritesMark s a) m.marks (store s a m).marks
  store_marks None = same_row _ m.marks
  store_marks (Some a) = touch_marks a.register a.op

  touch_stands : (register : Register) (op : Op) → Fit s m → Needed s register
      → HasWritten s (touch register op) (store s (touch register op) m)
  touch_stands register Read fit h = tt
  touch_stands register (Write v) fit h = put_content register v fit h

  stands : (a : Option Access) → Fit s m → RegisterNeeded s a → HasWritten s a (store s a m)
  stands None fit h = tt
  stands (Some a) fit h = touch_stands a.register a.op fit h

  -- a record put in beside it leaves what was written
  touch_with : (register : Register) (op : Op) (p : ℕ) (new : Record) (after : Memory)
      → HasWritten s (touch register op) after → HasWritten s (touch register op) (with_record p new after)
  touch_with register Read p new after h = h
  touch_with register (Write v) p new after h = content_with register p new after ∙ h

  stands_with : (a : Option Access) (p : ℕ) (new : Record) (after : Memory) → HasWritten s a after
      → HasWritten s a (with_record p new after)
  stands_with None p new after h = h
  stands_with (Some a) p new after h = touch_with a.register a.op p new after h

-- ---- only the register written changes

module _ (s : Settings) (event : Event) (m : Memory) (h : Passed s event m) where
  -- the record that the call puts in place
  abbrev next_of : Record
  next_of = record_after s event.kind event.task.0 (state_of m event.task.0) m

  next_in_place : record_of (ruled s event m).memory event.task.0 ≡ next_of
  next_in_place =
      let long = h.fit.long.records in
      let low = h.may.known in
      rw (store_records s m (access_of s event m))
      (get_or-set_same m.records event.task.0 next_of idle (omega arith))

  accepted_changes : WrittenChanges s event m (ruled s event m).memory
  accepted_changes = record {
    xs = store_xs s m (access_of s event m);
    marks = store_marks s m (access_of s event m);
    written = stands_with s m (access_of s event m) _ _ _
        (stands s m (access_of s event m) h.fit (call_needed s event m h));
    records = rw (store_records s m (access_of s event m)) (set_row m.records event.task.0 next_of);
    own = next_in_place;
  }

pub only_the_register_written_changes : OnlyTheRegisterWrittenChanges
only_the_register_written_changes s event m t =
    subst (λ (outcome : Outcome). WrittenChanges s event m outcome.memory) (sym (by_the_rules s event m t))
    (accepted_changes s event m (passed s event m t))

-- ---- only the register read bears

module _ (s : Settings) (m m' : Memory) where
  touch_value : (register : Register) (op : Op) → SameRead s (touch register op) m m'
      → value s (touch register op) m ≡ value s (touch register op) m'
  touch_value register Read same = same
  touch_value register (Write v) same =
      sym (write_sees_nothing v (content s register m)) ∙ write_sees_nothing v (content s register m')

  same_value : (a : Option Access) → SameRead s a m m' → value s a m ≡ value s a m'
  same_value None same = refl
  same_value (Some a) same = touch_value a.register a.op same

  touch_unread : (register : Register) (op : Op) → T (not (op_reads op)) → SameRead s (touch register op) m m'
  touch_unread register Read t = absurd t
  touch_unread register (Write v) t = tt

  unread_same : (a : Option Access) → T (not (reads a)) → SameRead s a m m'
  unread_same None t = tt
  unread_same (Some a) t = touch_unread a.register a.op t

-- the next state, from one state and one value read
same_next : (s : Settings) (kind : Kind) (p : ℕ) (state state' : State) (m m' : Memory) → state ≡ state'
    → SameRead s (access s kind p state) m m'
    → next_state s kind p state m ≡ next_state s kind p state' m'
same_next s kind p state state' m m' e same =
    ap (next s kind p state) (same_value s m m' (access s kind p state) same)
    ∙ ap (λ (st : State). next_state s kind p st m') e

-- and what is shown
same_shown : (s : Settings) (kind : Kind) (p : ℕ) (state state' : State) (m m' : Memory) → state ≡ state'
    → SameRead s (access s kind p state) m m'
    → shown_of s kind p state m ≡ shown_of s kind p state' m'
same_shown s kind p state state' m m' e same =
    ap (shown_by (access s kind p state)) (same_value s m m' (access s kind p state) same)
    ∙ ap (λ (st : State). shown_of s kind p st m') e

same_end : (s : Settings) (event : Event) (m m' : Memory) → AcceptedIn s event m → AcceptedIn s event m'
    → record_of m event.task.0 ≡ record_of m' event.task.0 → SameRead s (access_of s event m) m m'
    → SameEnd s event m m'
same_end s event m m' t t' e same =
    let p = event.task.0 in
    let before = ap (λ (r : Record). r.state) e in
    let after = same_next s event.kind p _ _ m m' before same in
    let shown = same_shown s event.kind p _ _ m m' before same in
    let rules = by_the_rules s event m t in
    let rules' = by_the_rules s event m' t' in
    let put = next_in_place s event m (passed s event m t) in
    let put' = next_in_place s event m' (passed s event m' t') in
    record {
      answer = ap (λ (o : Outcome). o.answer) rules
          ∙ (λ i. Ok (record { told = told_of s event.kind (before i) (after i); shown = shown i }))
          ∙ sym (ap (λ (o : Outcome). o.answer) rules');
      next_record =
          ap (λ (o : Outcome). record_of o.memory p) rules
          ∙ put
          ∙ (λ i. record { state = after i; turns = turns_after event.kind (before i) (e i).turns })
          ∙ sym put'
          ∙ sym (ap (λ (o : Outcome). record_of o.memory p) rules');
    }

pub only_the_register_read_bears : OnlyTheRegisterReadBears
only_the_register_read_bears s event m m' t t' e = record {
  register_read = same_end s event m m' t t' e;
  nothing_read = λ u. same_end s event m m' t t' e (unread_same s m m' (access_of s event m) u);
}

-- ---- what is shown is the access

module _ (s : Settings) (event : Event) (m : Memory) (t : AcceptedIn s event m) where
  abbrev ended : Memory
  ended = (call s event m).memory

  abbrev shown : Option Shown
  shown = shown_of s event.kind event.task.0 (state_of m event.task.0) m

  shown_answered : shown_in (call s event m).answer ≡ shown
  shown_answered = ap (λ (o : Outcome). shown_in o.answer) (by_the_rules s event m t)

  -- a row that changes nowhere is the same
  abbrev rows_after : WrittenChanges s event m ended
  rows_after = only_the_register_written_changes s event m t

  bearing : (m' : Memory) → AcceptedIn s event m' → record_of m event.task.0 ≡ record_of m' event.task.0
      → SameRead s (access_of s event m) m m' → SameEnd s event m m'
  bearing m' t' e same = same_end s event m m' t t' e same

  ended_stored : ended ≡ with_record event.task.0
      (record_after s event.kind event.task.0 (state_of m event.task.0) m)
      (store s (access_of s event m) m)
  ended_stored = ap (λ (o : Outcome). o.memory) (by_the_rules s event m t)

  register_needed : RegisterNeeded s (access_of s event m)
  register_needed = call_needed s event m (passed s event m t)

  -- each access shows as the promise has it: none, a read, a write
  none_is : access_of s event m ≡ None → Shows s event m None
  none_is is = (record { xs = xs_same; marks = marks_same }, λ m' t' e. bearing m' t' e (rw is tt))
    where
      xs_same : ended.xs ≡ m.xs
      xs_same = rw (ended_stored, is)

      marks_same : ended.marks ≡ m.marks
      marks_same = rw (ended_stored, is)

  read_is : (register : Register) → access_of s event m ≡ touch register Read
      → ReadIs s event m register (content s register m)
  read_is register is = record {
    needed = rw is at register_needed;
    had = refl;
    bears = λ m' t' e has. bearing m' t' e (rw is (sym has));
    unchanged = record { xs = rw (ended_stored, is); marks = rw (ended_stored, is) };
  }

  written_is : (register : Register) (v : ℕ) → access_of s event m ≡ touch register (Write v)
      → WrittenIs s event m register v
  written_is register v is = record {
    needed = rw is at register_needed;
    has = rw is at rows_after.written;
    xs = rw is at rows_after.xs;
    marks = rw is at rows_after.marks;
    bears = λ m' t' e. bearing m' t' e (rw is tt);
  }

  touch_shows : (register : Register) (op : Op) → access_of s event m ≡ touch register op
      → Shows s event m (op_shown op register (value s (touch register op) m))
  touch_shows register Read is =
      subst (Shows s event m) (read_shown register (content s register m)) (read_is register is)
  touch_shows register (Write v) is =
      subst (Shows s event m) (write_shown register v (value s (touch register (Write v)) m)) (written_is register v is)

  shows : (a : Option Access) → access_of s event m ≡ a → Shows s event m (shown_by a (value s a m))
  shows None is = none_is is
  shows (Some a) is = touch_shows a.register a.op is

pub each_shows : EachShows
each_shows s event m t =
    subst (Shows s event m) (sym (shown_answered s event m t)) (shows s event m t (access_of s event m) refl)
