-- What it says that the tests of a call passed, in three parts: what is lent is long enough, what it holds is in range,
-- and the task may.
use mathlib.Core.{Path.◌≡◌, Logic.{◌⊎◌, inl, inr, ⊎_elim}, Bool.false}
use native.Mathlib.{Omega.arith, Nat.le_refl}
use Prim.Native.Nat.{ℕ, ◌≤◌, ◌<◌}
use lib.{Dec.{T, ltb}, ListN.{length, get_or}}
use borrow.Author.Tests.{le-ltb}
use Rattle.counting.proofs.{Bools.and_in, Tested.{Tested, below, either, passes, misses}, Searching.none_bad}
use Rattle.machine.specs.{Places.blocks, Records.{state_in_range, turns_in_range, record_in_range}}
use Rattle.demands.specs.Memory.{Memory, marks_needed, record_of, state_of, turns_in, x_in_range, mark_in_range}
use Rattle.demands.specs.Memory.{bad_record, bad_x, bad_mark, out_of, view_of}
use Rattle.demands.specs.Refusals.{first, row_short, one_time_release, wrong_moment, too_many_out, task_cases}
use Rattle.demands.specs.Calls.{verdict_of}
use Rattle.machine.specs.promises.Ranges.{WithinLimits}
use Rattle.machine.specs.declared.{Settings.Settings, Event.Event}
use Rattle.machine.proofs.refusals.Limits.{limits_tested}

-- what is lent is long enough
pub record Long (s : Settings) (count : ℕ) (m : Memory) : Type 0 where
  pub records : s.n ≤ count
  pub xs : blocks s ≤ length m.xs
  pub marks : marks_needed s ≤ length m.marks

-- what it holds is in range
pub record InRange (s : Settings) (m : Memory) : Type 0 where
  pub records : (p : ℕ) → p < s.n → T (state_in_range s (state_of m p))
  pub turns : (p : ℕ) → p < s.n → T (turns_in_range s (state_of m p) (turns_in m p))
  pub xs : (block : ℕ) → block < blocks s → T (x_in_range s (get_or m.xs block 0))
  pub marks : (index : ℕ) → index < marks_needed s → T (mark_in_range (get_or m.marks index 0))

-- a record in range, by its two parts
pub record_in_range_lem : (s : Settings) (m : Memory) → InRange s m → (p : ℕ) → p < s.n
    → T (record_in_range s (record_of m p))
record_in_range_lem s m h p l =
    and_in (state_in_range s (state_of m p)) (turns_in_range s (state_of m p) (turns_in m p)) (h.records p l)
    (h.turns p l)

-- J0: both, so that tests 2 and 3 pass
pub record Fit (s : Settings) (m : Memory) : Type 0 where
  pub long : Long s (length m.records) m
  pub in_range : InRange s m

-- the task may: no test of 4, 5, 15 to 17, 7 refuses the call
pub record May (s : Settings) (event : Event) (m : Memory) : Type 0 where
  pub known : event.task.0 < s.n
  pub lived : one_time_release s event.kind ≡ false
  pub moment : wrong_moment event.kind (state_of m event.task.0) ≡ false
  pub room : too_many_out s event.kind (out_of s m.records) ≡ false

pub record Passed (s : Settings) (event : Event) (m : Memory) : Type 0 where
  pub limits : WithinLimits s
  pub fit : Fit s m
  pub may : May s event m

-- ---- 2: no row is short

short_tested : (s : Settings) (count : ℕ) (m : Memory)
    → Tested (row_short s count m)
    ((count < s.n) ⊎ ((length m.xs < blocks s) ⊎ (length m.marks < marks_needed s)))
short_tested s count m =
    either (below count s.n) (either (below (length m.xs) (blocks s)) (below (length m.marks) (marks_needed s)))

pub none_short_long : (s : Settings) (count : ℕ) (m : Memory) → row_short s count m ≡ false
    → Long s count m
none_short_long s count m e =
    let none : T (row_short s count m) → ⊥ = λ t. let z : T false = rw e at t in z in
    let records : count < s.n → ⊥ = λ l. none ((short_tested s count m).shows (inl l)) in
    let xs : length m.xs < blocks s → ⊥ = λ l. none ((short_tested s count m).shows (inr (inl l))) in
    let marks : length m.marks < marks_needed s → ⊥ = λ l. none ((short_tested s count m).shows (inr (inr l))) in
    record { records = omega arith; xs = omega arith; marks = omega arith }

-- ---- a fit memory leaves the tests of the task

pub none_short : (s : Settings) (m : Memory) → Fit s m → row_short s (length m.records) m ≡ false
none_short s m fit =
    let long = fit.long in
    misses (short_tested s (length m.records) m)
    (⊎_elim (λ l. omega (arith, long.records))
    (⊎_elim (λ l. omega (arith, long.xs)) (λ l. omega (arith, long.marks))))

none_below : (n first : ℕ) → first ≡ n → ltb first n ≡ false
none_below n first e = rw e (le-ltb n n (le_refl n))

pub fit_verdict : (s : Settings) (m : Memory) (event : Event) → WithinLimits s → Fit s m
    → verdict_of s event m ≡ first (task_cases s event.kind event.task.0 (view_of s m.records event.task.0))
fit_verdict s m event l fit =
    rw (
      passes (limits_tested s) l,
      none_short s m fit,
      none_below s.n (bad_record s m.records) (none_bad _ s.n (record_in_range_lem s m fit.in_range)),
      none_below (blocks s) (bad_x s m.xs) (none_bad _ (blocks s) fit.in_range.xs),
      none_below (marks_needed s) (bad_mark s m.marks) (none_bad _ (marks_needed s) fit.in_range.marks),
    )
