-- The surplus: no call writes there, and a call on the needed part alone goes as on the whole.
use mathlib.Core.{Path.{◌≡◌, refl, sym, ap, ap₂, ◌∙◌}, Bool.{Bool, true, false, cond}, List.{List, append-nil}}
use Prim.Native.Nat.{ℕ, ◌≤◌, ◌<◌, min}
use Rattle.std.specs.Prelude.{None, Some, Err, Option, Ok}
use native.Mathlib.{Omega.arith, Decide.dec_le}
use lib.{Dec.ltb, ListN.{length, take, drop, replicate, length-take, length-replicate, drop_of_length-le}}
use lib.Seq.{drop-set-lt, take-set-lt, get_or-take, take_at, drop_at}
use borrow.Author.Tests.{lt-ltb, le-ltb, le-leb}
use Rattle.machine.specs.{Places.blocks, Records.{idle, is_out, record_in_range}}
use Rattle.machine.specs.Turn.{op_writes, seen, left, access, shown_by, next, turns_after}
use Rattle.demands.specs.Memory.{Memory, marks_needed, mark_index, state_of, with_record, content, put, x_in_range}
use Rattle.demands.specs.Memory.{mark_in_range, bad_record, bad_x, bad_mark, out_of, view_of, fill}
use Rattle.demands.specs.{Touching.{value, store}, Refusals.{Verdict, row_short, setup_verdict}, Answers.plain}
use Rattle.demands.specs.Calls.{Outcome, told_of, next_state, shown_of, record_after, accept, refuse_or, verdict_of}
use Rattle.demands.specs.Calls.{call, cleared, setup}
use Rattle.machine.specs.declared.{Settings.Settings, State.State, Record.Record}
use Rattle.machine.specs.declared.Register.{Register, TheVariants.{X, Mark}}
use Rattle.machine.specs.declared.{Access.Access, Kind.Kind, Event.Event}
use Rattle.machine.specs.declared.Told.{Told}
use Rattle.demands.specs.promises.OneAccess.{Needed, RegisterNeeded, access_of, AcceptedIn}
use Rattle.demands.specs.promises.Surplus.{needed, surplus, SurplusNeverChanges, SurplusNeverBears}
use Rattle.demands.proofs.refusals.{Refusing.{ruled, started, ruled_accepted}, Passing.passed}
use Rattle.demands.proofs.calls.OneAccess.{call_needed}
use Rattle.counting.proofs.Searching.{first_bad_same, count_same}

-- two memories with the same rows are the same
pub same_rows : {m m' : Memory} → m.records ≡ m'.records → m.xs ≡ m'.xs → m.marks ≡ m'.marks → m ≡ m'
same_rows r x k = λ i. record { records = r i; xs = x i; marks = k i }

-- ---- the surplus never changes

beyond_fill : {A : Type 0} (n : ℕ) (a : A) (l : List A) → drop n (fill n a l) ≡ drop n l
beyond_fill n a l = drop_at (replicate n a) (drop n l) n (length-replicate n a)

module _ (s : Settings) (m : Memory) where
  put_surplus : (register : Register) (v : ℕ) → Needed s register → surplus s (put s register v m) ≡ surplus s m
  put_surplus (X block) v h = same_rows refl (drop-set-lt (blocks s) m.xs block v h) refl
  put_surplus (Mark block place) v h =
      same_rows refl refl (drop-set-lt (marks_needed s) m.marks (mark_index s block place) v h.2)

  store_surplus : (a : Option Access) → RegisterNeeded s a → surplus s (store s a m) ≡ surplus s m
  store_surplus None h = refl
  store_surplus (Some a) h = go (op_writes a.op)
    where
      go : (writes : Bool)
          → surplus s (cond writes (put s a.register (left a.op (content s a.register m)) m) m) ≡ surplus s m
      go true = put_surplus a.register _ h
      go false = refl

  record_surplus : (p : ℕ) (new : Record) → p < s.n → surplus s (with_record p new m) ≡ surplus s m
  record_surplus p new low = same_rows (drop-set-lt s.n m.records p new low) refl refl

  cleared_surplus : surplus s (cleared s m) ≡ surplus s m
  cleared_surplus = same_rows refl (beyond_fill (blocks s) 0 m.xs)
      (beyond_fill (marks_needed s) 0 m.marks)

accepted_in : (s : Settings) (event : Event) (m : Memory) → verdict_of s event m ≡ Ok tt
    → AcceptedIn s event m
accepted_in s event m e = rw e (ruled_accepted s event m)

call_surplus : (s : Settings) (event : Event) (m : Memory) → surplus s (call s event m).memory ≡ surplus s m
call_surplus s event m = go (verdict_of s event m) refl
  where
    go : (verdict : Verdict) → verdict_of s event m ≡ verdict
        → surplus s (refuse_or verdict m (ruled s event m)).memory ≡ surplus s m
    go (Ok accepted) e =
        let h = passed s event m (accepted_in s event m e) in
        record_surplus s _ event.task.0 _ h.may.known
        ∙ store_surplus s m (access_of s event m) (call_needed s event m h)
    go (Err why) e = refl

setup_surplus : (s : Settings) (m : Memory) → surplus s (setup s m).memory ≡ surplus s m
setup_surplus s m = go (setup_verdict s (view_of s m.records 0) m)
  where
    go : (verdict : Verdict) → surplus s (refuse_or verdict m (started s m)).memory ≡ surplus s m
    go (Ok accepted) = cleared_surplus s m
    go (Err why) = refl

pub surplus_never_changes : SurplusNeverChanges
surplus_never_changes = record { calls = call_surplus; setups = setup_surplus }

-- ---- nor does it bear

-- a row is short where its needed part is
short_take : {A : Type 0} (n : ℕ) (l : List A) → ltb (length (take n l)) n ≡ ltb (length l) n
short_take n l = rw (length-take n l) (go (dec_le n (length l)))
  where
    go : Dec (n ≤ length l) → ltb (min n (length l)) n ≡ ltb (length l) n
    go (yes long) = le-ltb (min n (length l)) n (omega arith) ∙ sym (le-ltb (length l) n long)
    go (no short) = lt-ltb (min n (length l)) n (omega arith) ∙ sym (lt-ltb (length l) n (omega arith))

module _ (s : Settings) (m : Memory) where
  same_short : row_short s (length (needed s m).records) (needed s m) ≡ row_short s (length m.records) m
  same_short = rw (short_take s.n m.records, short_take (blocks s) m.xs, short_take (marks_needed s) m.marks)

  same_bad_record : bad_record s (needed s m).records ≡ bad_record s m.records
  same_bad_record = first_bad_same _ _ s.n (λ p low. ap (record_in_range s) (get_or-take s.n m.records p idle low))

  same_bad_x : bad_x s (needed s m).xs ≡ bad_x s m.xs
  same_bad_x = first_bad_same _ _ (blocks s) (λ b low. ap (x_in_range s) (get_or-take (blocks s) m.xs b 0 low))

  same_bad_mark : bad_mark s (needed s m).marks ≡ bad_mark s m.marks
  same_bad_mark = first_bad_same _ _ (marks_needed s)
      (λ i low. ap mark_in_range (get_or-take (marks_needed s) m.marks i 0 low))

  same_out : out_of s (needed s m).records ≡ out_of s m.records
  same_out = count_same _ _ s.n (λ p low. ap (λ (r : Record). is_out r.state)
      (get_or-take s.n m.records p idle low))

  same_verdict : (event : Event) → verdict_of s event (needed s m) ≡ verdict_of s event m
  same_verdict event = go (dec_le s.n event.task.0)
    where
      go : Dec (s.n ≤ event.task.0) → verdict_of s event (needed s m) ≡ verdict_of s event m
      go (yes beyond) = rw (
        same_short,
        same_bad_record,
        same_bad_x,
        same_bad_mark,
        le-leb s.n event.task.0 beyond,
      )
      go (no within) = rw (
        same_short,
        same_bad_record,
        same_bad_x,
        same_bad_mark,
        same_out,
        get_or-take s.n m.records event.task.0 idle (let low : event.task.0 < s.n = omega arith in low),
      )

  needed_content : (register : Register) → Needed s register → content s register (needed s m) ≡ content s register m
  needed_content (X block) h = get_or-take (blocks s) m.xs block 0 h
  needed_content (Mark block place) h = get_or-take (marks_needed s) m.marks (mark_index s block place) 0 h.2

  needed_put : (register : Register) (v : ℕ) → Needed s register
      → put s register v (needed s m) ≡ needed s (put s register v m)
  needed_put (X block) v h = same_rows refl (sym (take-set-lt (blocks s) m.xs block v h)) refl
  needed_put (Mark block place) v h =
      same_rows refl refl (sym (take-set-lt (marks_needed s) m.marks (mark_index s block place) v h.2))

  needed_store : (a : Option Access) → RegisterNeeded s a → store s a (needed s m) ≡ needed s (store s a m)
  needed_store None h = refl
  needed_store (Some a) h = rw (needed_content a.register h) (go (op_writes a.op))
    where
      go : (writes : Bool)
          → cond writes (put s a.register (left a.op (content s a.register m)) (needed s m)) (needed s m)
          ≡ needed s (cond writes (put s a.register (left a.op (content s a.register m)) m) m)
      go true = needed_put a.register _ h
      go false = refl

  needed_value : (a : Option Access) → RegisterNeeded s a → value s a (needed s m) ≡ value s a m
  needed_value None h = refl
  needed_value (Some a) h = ap (seen a.op) (needed_content a.register h)

  needed_with : (p : ℕ) (new : Record) → p < s.n → with_record p new (needed s m) ≡ needed s (with_record p new m)
  needed_with p new low = same_rows (sym (take-set-lt s.n m.records p new low)) refl refl

-- of a row that is filled the needed part is the filling
pub fill_needed : {A : Type 0} (n : ℕ) (a : A) (l : List A) → take n (fill n a l) ≡ replicate n a
fill_needed n a l = take_at (replicate n a) (drop n l) n (length-replicate n a)

needed_fill : {A : Type 0} (n : ℕ) (a : A) (l : List A) → fill n a (take n l) ≡ take n (fill n a l)
needed_fill n a l =
    let none = drop_of_length-le (take n l) {i = n} (rw (length-take n l) (omega arith)) in
    rw none (append-nil (replicate n a)) ∙ sym (fill_needed n a l)

-- an outcome with the needed part of its memory
abbrev cut : Settings → Outcome → Outcome
cut s outcome = record { answer = outcome.answer; memory = needed s outcome.memory }

-- the rules on the needed part, from the same state
accept_cut : (s : Settings) (kind : Kind) (p : ℕ) (state : State) (m : Memory) → p < s.n
    → RegisterNeeded s (access s kind p state)
    → accept s kind p state (needed s m) ≡ cut s (accept s kind p state m)
accept_cut s kind p state m low h =
    let read = needed_value s m (access s kind p state) h in
    let same : next_state s kind p state (needed s m) ≡ next_state s kind p state m = ap (next s kind p state) read in
    let shown : shown_of s kind p state (needed s m) ≡ shown_of s kind p state m =
    ap (shown_by (access s kind p state)) read in
    let own = get_or-take s.n m.records p idle low in
    let after : record_after s kind p state (needed s m) ≡ record_after s kind p state m =
    λ i. record { state = same i; turns = turns_after kind state (own i).turns } in
    let memory =
    ap₂ (with_record p) after (needed_store s m (access s kind p state) h)
    ∙ needed_with s (store s (access s kind p state) m) p (record_after s kind p state m) low
    in
    λ i. record { answer = Ok (record { told = told_of s kind state (same i); shown = shown i }); memory = memory i }

call_cut : (s : Settings) (event : Event) (m : Memory) → call s event (needed s m) ≡ cut s (call s event m)
call_cut s event m = rw (same_verdict s m event) (go (verdict_of s event m) refl)
  where
    go : (verdict : Verdict) → verdict_of s event m ≡ verdict
        → refuse_or verdict (needed s m) (ruled s event (needed s m))
        ≡ cut s (refuse_or verdict m (ruled s event m))
    go (Ok accepted) e =
        let h = passed s event m (accepted_in s event m e) in
        let p = event.task.0 in
        let state = ap (λ (r : Record). r.state) (get_or-take s.n m.records p idle h.may.known) in
        ap (λ (st : State). accept s event.kind p st (needed s m)) state
        ∙ accept_cut s event.kind p (state_of m p) m h.may.known (call_needed s event m h)
    go (Err why) e = refl

setup_cut : (s : Settings) (m : Memory) → setup s (needed s m) ≡ cut s (setup s m)
setup_cut s m = rw (same_short s m, same_out s m, same_bad_record s m) (go (setup_verdict s (view_of s m.records 0) m))
  where
    filled : cleared s (needed s m) ≡ needed s (cleared s m)
    filled = same_rows refl (needed_fill (blocks s) 0 m.xs)
        (needed_fill (marks_needed s) 0 m.marks)

    go : (verdict : Verdict) → refuse_or verdict (needed s m) (started s (needed s m)) ≡ cut s
        (refuse_or verdict m (started s m))
    go (Ok accepted) = λ i. record { answer = plain Told.Done; memory = filled i }
    go (Err why) = refl

pub surplus_never_bears : SurplusNeverBears
surplus_never_bears = record {
  calls = λ s event m m' same.
      let one = sym (call_cut s event m) ∙ ap (call s event) same ∙ call_cut s event m' in
      record { answer = ap (λ (o : Outcome). o.answer) one; memory = ap (λ (o : Outcome). o.memory) one };
  setups = λ s m m' same.
      let one = sym (setup_cut s m) ∙ ap (setup s) same ∙ setup_cut s m' in
      record { answer = ap (λ (o : Outcome). o.answer) one; memory = ap (λ (o : Outcome). o.memory) one };
}
