-- Demand 3, "For each permitted mode, N and k some sequence makes one task need exactly that many": the worst schedule
-- does, with task 0; and setup takes a memory with rows long enough, so that there is a history to speak of.
use mathlib.Core.{Path.{◌≡◌, sym, ap, subst, ◌∙◌}, List.{List, [], ◌∷◌, ◌++◌}}
use Prim.Native.Nat.{ℕ, ◌≤◌, ◌<◌}
use native.Mathlib.Nat.{le_refl, mul-le-mul}
use lib.{Dec.T, ListN.{length, replicate, length-replicate}}
use borrow.Author.Tests.{le-ltb, not-false}
use Rattle.machine.specs.{Places.blocks, Records.{idle, is_seeking, is_out, record_in_range}}
use Rattle.demands.specs.Memory.{Memory, marks_needed, record_of, state_of, bad_record, out_of, largest}
use Rattle.demands.specs.{Answers.is_accepted, Calls.{Outcome, call, setup, turn}}
use Rattle.machine.specs.promises.Ranges.{WithinLimits}
use Rattle.demands.specs.promises.Demands.{SetUp, memory_after, history_of, Seeks, HoldsSome, all_accepted}
use Rattle.demands.specs.promises.Demands.{NeedsBound}
use Rattle.machine.specs.declared.{Settings.Settings, Record.Record, Event.Event}
use Rattle.demands.proofs.histories.{Worst.worst, Leads.{EndsWith, last_accepted, used_written}}
use Rattle.demands.proofs.histories.{WorstTurns.{worst_turns, worst_last}, WorstRun.worst_run}
use Rattle.demands.proofs.calls.{Fresh.setup_within, Outcomes.{Called, taken, refused, called}}
use Rattle.demands.proofs.bridge.Histories.{always_in_order}
use Rattle.machine.proofs.refusals.Limits.{limits_tested, width_most}
use Rattle.counting.proofs.{Tested.passes, Lists.one_value, Searching.{none_bad, count_none}}
use Rattle.grid.proofs.Triangle.{half_most}

-- ---- the worst schedule

-- a turn that is accepted was a seeking task's
taken_turn_seeks : (s : Settings) (m : Memory) (p : ℕ) (outcome : Outcome) → Called s (turn p) m outcome
    → T (is_accepted outcome.answer)
    → Seeks m p
taken_turn_seeks s m p outcome (refused why its_task) t = absurd t
taken_turn_seeks s m p outcome (taken o) t = rw (not-false (is_seeking (state_of m p)) o.moment) tt

-- so before a last turn of task 0, in calls of which none is refused, task 0 seeks
pub seeks_before_last : (s : Settings) (lent : Memory) → SetUp s lent
    → (events : List Event) (last : Event) (ends : EndsWith events last)
    → T (all_accepted (history_of s lent events)) → last ≡ turn 0 → Seeks (memory_after s lent ends.before) 0
seeks_before_last s lent ok events last ends accepted e =
    let m = memory_after s lent ends.before in
    let split : T (all_accepted (history_of s lent (ends.before ++ (turn 0 ∷ [])))) =
    subst (λ (all : List Event). T (all_accepted (history_of s lent all)))
    (ends.split ∙ ap (λ (z : Event). ends.before ++ (z ∷ [])) e) accepted in
    taken_turn_seeks s m 0 (call s (turn 0) m)
    (called s (setup_within s lent ok) (turn 0) m (always_in_order s lent ok ends.before).invariants.fit)
    (last_accepted s ends.before (turn 0) (setup s lent).memory split)

pub worst_needs_bound : (s : Settings) (lent : Memory) → SetUp s lent → NeedsBound s lent (worst s)
worst_needs_bound s lent ok =
    let bounds = setup_within s lent ok in
    let foot = worst_run s lent ok in
    let end = worst_last s bounds in
    record {
      accepted = foot.leads.accepted;
      before = end.ends.before;
      last = end.last;
      split = end.ends.split;
      its = end.its;
      late = λ more. seeks_before_last s lent ok (worst s) end.last end.ends foot.leads.accepted
          (end.late more);
      holds = subst (λ (m : Memory). HoldsSome m 0) (sym foot.leads.ends) foot.holds;
      exactly = used_written s 0 (worst s) (setup s lent).memory 0 foot.leads.accepted ∙ worst_turns s bounds;
    }

-- ---- setup

pub setup_takes_long_rows : (s : Settings) (m : Memory) → WithinLimits s → s.n ≤ length m.records
    → blocks s ≤ length m.xs
    → marks_needed s ≤ length m.marks → ((p : ℕ) → p < s.n → record_of m p ≡ idle) → SetUp s m
setup_takes_long_rows s m fair a b c fresh =
    let none : out_of s m.records ≡ 0 =
    count_none (λ p. is_out (state_of m p)) s.n (λ p l. ap (λ (r : Record). is_out r.state) (fresh p l)) in
    let good : bad_record s m.records ≡ s.n =
    none_bad (λ p. record_in_range s (record_of m p)) s.n
    (λ p l. subst (λ (r : Record). T (record_in_range s r)) (sym (fresh p l)) tt) in
    rw (
      passes (limits_tested s) fair,
      le-ltb (length m.records) s.n a,
      le-ltb (length m.xs) (blocks s) b,
      le-ltb (length m.marks) (marks_needed s) c,
      none,
      good,
      le-ltb s.n s.n (le_refl s.n),
    )

long : {A : Type 0} (n : ℕ) (a : A) (need : ℕ) → need ≤ n → need ≤ length (replicate n a)
long n a need l = rw (length-replicate n a) l

pub setup_takes_largest : (s : Settings) → WithinLimits s → SetUp s largest
setup_takes_largest s bounds =
    let few = half_most s.k bounds.k_most in
    setup_takes_long_rows s largest bounds (long 256 idle s.n bounds.n_most) (long {A = ℕ} 120 0 (blocks s) few)
    (long {A = ℕ} 30720 0 (marks_needed s) (mul-le-mul few (width_most s bounds)))
    (λ p l. one_value 256 p idle)
