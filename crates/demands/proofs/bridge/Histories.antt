-- Histories: what holds after setup and is kept by every call, accepted or refused, holds after every list of calls.
use mathlib.Core.{Path.{◌≡◌, refl, sym, ap, subst}, Bool.{true≢false, false}, List.{List, [], ◌∷◌, ◌++◌}}
use Prim.Native.Nat.{ℕ, suc, ◌+◌, ◌≤◌, ◌<◌, zero-le}
use Rattle.std.specs.Prelude.{Ok, Err}
use native.Mathlib.{Nat.{le_trans, not-suc-le-zero}, Decide.ℕ_discrete, Omega.arith}
use lib.Dec.{T}
use borrow.Author.Tests.{leb-false}
use Rattle.machine.specs.{Settings.width, Records.is_out}
use Rattle.demands.specs.Memory.{Memory, marks_needed, state_of, turns_in, out_of, fill}
use Rattle.demands.specs.Refusals.{Verdict, wrong_moment}
use Rattle.demands.specs.Calls.{Outcome, refuse_or, verdict_of, call, accept, setup}
use Rattle.demands.specs.History.{run, Answered, history}
use Rattle.demands.specs.promises.Demands.{SetUp, memory_after}
use Rattle.machine.specs.promises.Ranges.{WithinLimits}
use Rattle.machine.specs.declared.{Settings.Settings, State.{State, TheVariants.{Idle, Seeking, Holding}}}
use Rattle.machine.specs.declared.{Record.Record, Kind.{Kind, TheVariants.{Ask, Turn, Release}}, Event.Event}
use Rattle.demands.proofs.calls.Fresh.{fill_at, setup_within, setup_memory, fresh_idle, fresh_none_out}
use Rattle.demands.proofs.calls.{Fresh.fresh_fit, Outcomes.{Called, taken, refused, called}, Fitting.accept_fits}
use Rattle.demands.proofs.bridge.AsGrid.{stand_of, grid_of, all_unmarked}
use Rattle.demands.proofs.{calls.Spending.{spent_after, turns_stay}, bridge.Spending.spending}
use Rattle.demands.proofs.calls.After.{caller_record, others_record, others_after}
use Rattle.demands.proofs.{bridge.Steps.{in_place, accepted_step}, refusals.{Passed.{Fit, May}, Passing.passed}}
use Rattle.demands.proofs.refusals.Refusing.{ruled, ruled_accepted}
use Rattle.counting.specs.Counting.{count}
use Rattle.counting.proofs.{Bools.is_false, Searching.count_none, Counting.{count_most, count_but_one}}
pub use Rattle.demands.proofs.bridge.Spending.{rules}
use Rattle.grid.proofs.{Cover.{beyond, beyond_out}, Stands.{idle, Grid, Marks, HoldsAt, column_reach}}
use Rattle.grid.proofs.{Covered.reach_of, Invariant.{AllInPlace, Invariant, invariant_kept}}

-- ---- lists of calls

-- what every call keeps, every list of calls keeps
pub run_keeps : (s : Settings) (Kept : Memory → Type 0)
    → ((event : Event) (m : Memory) → Kept m → Kept (call s event m).memory)
    → (events : List Event) (m : Memory) → Kept m → Kept (run s events m)
run_keeps s Kept step [] m h = h
run_keeps s Kept step (event ∷ events) m h = run_keeps s Kept step events (call s event m).memory (step event m h)

pub run_append : (s : Settings) (events more : List Event) (m : Memory)
    → run s (events ++ more) m ≡ run s more (run s events m)
run_append s [] more m = refl
run_append s (event ∷ events) more m = run_append s events more (call s event m).memory

pub history_append : (s : Settings) (events more : List Event) (m : Memory)
    → history s (events ++ more) m ≡ history s events m ++ history s more (run s events m)
history_append s [] more m = refl
history_append s (event ∷ events) more m =
    ap (λ (rest : List Answered). record { event = event; answer = (call s event m).answer } ∷ rest)
    (history_append s events more (call s event m).memory)

-- how many tasks a call may bring out: an ask one, any other none
abbrev pub asked : Kind → ℕ
asked Ask = 1
asked Turn = 0
asked Release = 0

-- ---- the invariants of a history

module _ (s : Settings) (fair : WithinLimits s) where
  -- J0 to J3, where at most m are out at once
  pub record Invariants (m : ℕ) (memory : Memory) : Type 0 where
    pub fit : Fit s memory
    pub spent : (q : ℕ) → q < s.n → (spending s fair).Spent (state_of memory q) (turns_in memory q)
    pub invariant : Invariant (rules s fair) m (grid_of s memory)

  pub all_in_place : (memory : Memory) → Fit s memory → AllInPlace (rules s fair) (grid_of s memory)
  all_in_place memory h q l = in_place s fair (state_of memory q) (h.in_range.records q l)

  -- who reaches anywhere is out
  reaches_out : (state : State) → 0 < column_reach (stand_of (width s) state) → T (is_out state)
  reaches_out Idle l = absurd (not-suc-le-zero l)
  reaches_out (Seeking stand) l = tt
  reaches_out (Holding place) l = tt

  cover_out : (memory : Memory) → count (beyond (reach_of (grid_of s memory)) 0 0) s.n ≤ out_of s memory.records
  cover_out memory =
      count_most (beyond (reach_of (grid_of s memory)) 0 0) (λ q. is_out (state_of memory q)) s.n
      (λ q _ t. reaches_out (state_of memory q) (beyond_out (reach_of (grid_of s memory)) 0 0 q t).1)

  -- what is so of one task's record
  abbrev SpentIn : Memory → ℕ → Type 0
  SpentIn memory q = (spending s fair).Spent (state_of memory q) (turns_in memory q)

  -- a call keeps them, as long as no more than m are out
  pub invariants_kept : (m : ℕ) (event : Event) (memory : Memory) → Invariants m memory
      → out_of s (call s event memory).memory.records ≤ m
      → Invariants m (call s event memory).memory
  invariants_kept m event memory g = go (call s event memory) (called s fair event memory g.fit)
    where
      go : (outcome : Outcome) → Called s event memory outcome → out_of s outcome.memory.records ≤ m
          → Invariants m outcome.memory
      go outcome (refused why its_task) few = g
      go outcome (taken o) few = record {
        fit = accept_fits s fair event.kind event.task.0 memory g.fit o.known o.moment
            (turns_stay s fair (spending s fair) memory g.fit event.task.0 o.known event.kind o.moment
            (g.spent event.task.0 o.known));
        spent = λ q l. elim (ℕ_discrete q event.task.0) [
          | yes its ↦ subst (λ (p : ℕ). SpentIn (ruled s event memory).memory p) (sym its)
              (subst (λ (r : Record). (spending s fair).Spent r.state r.turns)
              (sym (caller_record s memory g.fit event.task.0 o.known event.kind
              (state_of memory event.task.0)))
              (spent_after s fair (spending s fair) memory g.fit event.task.0 o.known event.kind o.moment
              (g.spent event.task.0 o.known)))
          | no other ↦ subst (λ (r : Record). (spending s fair).Spent r.state r.turns)
              (sym (others_record s memory event.task.0 event.kind
              (state_of memory event.task.0) q other)) (g.spent q l)
        ];
        invariant = invariant_kept (rules s fair) m (grid_of s memory) (grid_of s (ruled s event memory).memory)
            (accepted_step s fair memory g.fit event.task.0 o.known event.kind o.lived o.moment)
            (all_in_place memory g.fit) (le_trans (cover_out (ruled s event memory).memory) few) g.invariant;
      }

  -- ---- never more than k out

  turn_out : (state : State) → wrong_moment Turn state ≡ false → T (is_out state)
  turn_out Idle e = absurd (true≢false e)
  turn_out (Seeking stand) e = tt
  turn_out (Holding place) e = tt

  release_out : (state : State) → wrong_moment Release state ≡ false → T (is_out state)
  release_out Idle e = absurd (true≢false e)
  release_out (Seeking stand) e = tt
  release_out (Holding place) e = tt

  module _ (kind : Kind) (p : ℕ) (memory : Memory) (sound : Fit s memory) (below : p < s.n) where
    still_out : (q : ℕ) → (q ≡ p → ⊥) → T (is_out (state_of (accept s kind p (state_of memory p) memory).memory q))
        → T (is_out (state_of memory q))
    still_out q d t = rw (others_after s memory p kind (state_of memory p) q d) at t

    pub one_more_out : out_of s (accept s kind p (state_of memory p) memory).memory.records ≤ suc
        (out_of s memory.records)
    one_more_out =
        count_but_one (λ q. is_out (state_of (accept s kind p (state_of memory p) memory).memory q))
        (λ q. is_out (state_of memory q)) s.n p
        (λ q _ d t. still_out q d t)

    none_more_out : T (is_out (state_of memory p))
        → out_of s (accept s kind p (state_of memory p) memory).memory.records ≤ out_of s memory.records
    none_more_out was =
        count_most (λ q. is_out (state_of (accept s kind p (state_of memory p) memory).memory q))
        (λ q. is_out (state_of memory q)) s.n
        (λ q _ t. go q t (ℕ_discrete q p))
      where
        go : (q : ℕ) → T (is_out (state_of (accept s kind p (state_of memory p) memory).memory q)) → Dec (q ≡ p)
            → T (is_out (state_of memory q))
        go q t (yes e) = rw e was
        go q t (no d) = still_out q d t

  accepted_out : (kind : Kind) (p : ℕ) (memory : Memory) → Fit s memory
      → May s (record { kind = kind; task = record { 0 = p } }) memory
      → out_of s (accept s kind p (state_of memory p) memory).memory.records ≤ out_of s memory.records + asked kind
  accepted_out Ask p memory sound o = let more = one_more_out Ask p memory sound o.known in omega arith
  accepted_out Turn p memory sound o =
      let none = none_more_out Turn p memory sound o.known (turn_out (state_of memory p) o.moment) in omega arith
  accepted_out Release p memory sound o =
      let none = none_more_out Release p memory sound o.known (release_out (state_of memory p) o.moment) in
      omega arith

  pub call_out : (event : Event) (memory : Memory) → Fit s memory
      → out_of s (call s event memory).memory.records ≤ out_of s memory.records + asked event.kind
  call_out event memory fit = go (call s event memory) (called s fair event memory fit)
    where
      go : (outcome : Outcome) → Called s event memory outcome
          → out_of s outcome.memory.records ≤ out_of s memory.records + asked event.kind
      go outcome (refused why its_task) = omega arith
      go outcome (taken o) = accepted_out event.kind event.task.0 memory fit o

  accepted_few : (kind : Kind) (p : ℕ) (memory : Memory) → Fit s memory
      → May s (record { kind = kind; task = record { 0 = p } }) memory
      → out_of s memory.records ≤ s.k → out_of s (accept s kind p (state_of memory p) memory).memory.records ≤ s.k
  accepted_few Ask p memory sound o few =
      le_trans (one_more_out Ask p memory sound o.known) (leb-false s.k (out_of s memory.records) o.room)
  accepted_few Turn p memory sound o few = let none = accepted_out Turn p memory sound o in omega arith
  accepted_few Release p memory sound o few = let none = accepted_out Release p memory sound o in omega arith

-- a call that is accepted has passed its tests, so this asks nothing of the memory
pub call_few : (s : Settings) (event : Event) (memory : Memory) → out_of s memory.records ≤ s.k
    → out_of s (call s event memory).memory.records ≤ s.k
call_few s event memory few = go (verdict_of s event memory) refl
  where
    go : (verdict : Verdict) → verdict_of s event memory ≡ verdict
        → out_of s (refuse_or verdict memory (ruled s event memory)).memory.records ≤ s.k
    go (Err why) e = few
    go (Ok accepted) e =
        let tests = passed s event memory (rw e (ruled_accepted s event memory)) in
        accepted_few s tests.limits event.kind event.task.0 memory tests.fit tests.may few

-- ---- every memory of a history

module _ (s : Settings) (fair : WithinLimits s) where
  -- J0 to J3 with m = k, and at most k out
  pub record InOrder (memory : Memory) : Type 0 where
    pub invariants : Invariants s fair s.k memory
    pub few : out_of s memory.records ≤ s.k

  pub in_order_kept : (event : Event) (memory : Memory) → InOrder memory → InOrder (call s event memory).memory
  in_order_kept event memory f =
      let few = call_few s event memory f.few in
      record { invariants = invariants_kept s fair s.k event memory f.invariants few; few = few }

  -- ---- setup

  -- a grid where everybody is idle and no mark is set
  idle_invariant : (m : ℕ) (v : Grid) → ((q : ℕ) → q < s.n → v.stand q ≡ idle) → ((r c l : ℕ) → v.mark r c l ≡ 0)
      → Invariant (rules s fair) m v
  idle_invariant m v nobody unmarked = record {
    mark_set = λ r c q l b t. absurd (let z : Marks (width s) idle r c = rw (nobody q l) at t in z);
    mark_owned = λ _ r c q l b e. absurd (omega (arith, unmarked r c ((rules s fair).own q)));
    mark_witnessed = λ _ r c l b h e. absurd (omega (arith, unmarked r c l));
    holder_alone = λ p q r c lp lq d b h. absurd (let z : HoldsAt idle r c = rw (nobody p lp) at h in z);
    covered = λ r c l. rw (count_none (beyond (reach_of v) r c) s.n (λ q h. is_false (beyond (reach_of v) r c q) (λ t.
        let z : c < column_reach idle = rw (nobody q h) at (beyond_out (reach_of v) r c q t).1 in not-suc-le-zero z)))
        (omega arith);
  }

module _ (s : Settings) (lent : Memory) (ok : SetUp s lent) where
  pub fresh_unmarked : (r c place : ℕ) → (grid_of s (setup s lent).memory).mark r c place ≡ 0
  fresh_unmarked =
      rw (setup_memory s lent ok)
      (all_unmarked s (setup_within s lent ok) (fill (marks_needed s) 0 lent.marks)
      (λ i l. fill_at (marks_needed s) i 0 0 lent.marks l))

  -- whatever the bound m
  pub fresh_invariants : (m : ℕ) → Invariants s (setup_within s lent ok) m (setup s lent).memory
  fresh_invariants m = record {
    fit = fresh_fit s lent ok;
    spent = λ q l. let used = turns_in (setup s lent).memory q in
        let spends = spending s (setup_within s lent ok) in
        subst (λ (state : State). spends.Spent state used) (sym (fresh_idle s lent ok q l)) (spends.idles used);
    invariant = idle_invariant s (setup_within s lent ok) m (grid_of s (setup s lent).memory)
        (λ q l. ap (stand_of (width s)) (fresh_idle s lent ok q l)) fresh_unmarked;
  }

  pub fresh_in_order : InOrder s (setup_within s lent ok) (setup s lent).memory
  fresh_in_order = record { invariants = fresh_invariants s.k; few = rw (fresh_none_out s lent ok) zero-le }

  pub always_in_order : (events : List Event) → InOrder s (setup_within s lent ok) (memory_after s lent events)
  always_in_order events =
      run_keeps s (InOrder s (setup_within s lent ok)) (in_order_kept s (setup_within s lent ok)) events
      (setup s lent).memory fresh_in_order
