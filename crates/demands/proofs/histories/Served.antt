-- Demand 3, "From an accepted ask, a task holds a name within (N+4)(k-1) of its own accepted turns if long-lived,
-- 4(k-1) if one-time, though every other task stops for good".
use mathlib.Core.{Path.{◌≡◌, refl, sym, ap, subst, ◌∙◌}, Logic.{◌⊎◌, inl, inr, ⊎_elim}}
use mathlib.Core.{Bool.{Bool, true, false, cond, ◌&&◌, true≢false}, List.{List, [], ◌∷◌, ◌++◌, append_assoc}}
use Prim.Native.Nat.{ℕ, zero, suc, ◌+◌, ◌≤◌, ◌<◌}
use native.Mathlib.Omega.{arith}
use lib.Dec.{T, eqb}
use borrow.Author.Tests.{eqb-true, eqb-false, eq-eqb}
use Rattle.machine.specs.{Settings.bound, Records.{is_seeking, is_holding, is_out}, Turn.turns_after}
use Rattle.demands.specs.{Memory.{Memory, state_of, turns_in}, Refusals.wrong_moment, Answers.is_accepted}
use Rattle.demands.specs.Calls.{Outcome, next_state, accept, call, setup, turn}
use Rattle.demands.specs.History.{run, Answered, history, counted, turns_of, turns}
use Rattle.demands.specs.promises.Demands.{SetUp, memory_after, history_of, used, Seeks, HoldsSome, TurnsTold}
use Rattle.machine.specs.promises.Ranges.{WithinLimits}
use Rattle.machine.specs.declared.{Settings.Settings, Record.Record}
use Rattle.machine.specs.declared.State.{State, TheVariants.{Idle, Seeking, Holding}}
use Rattle.machine.specs.declared.{Kind.{Kind, TheVariants.{Ask, Turn, Release}}, Event.Event}
use Rattle.demands.proofs.calls.Fresh.{setup_within, fresh_idle}
use Rattle.demands.proofs.calls.Outcomes.{Called, taken, refused, called, may_accepted}
use Rattle.demands.proofs.calls.After.{caller_record, others_record, caller_after}
use Rattle.demands.proofs.{calls.Spending.{spent_as, turned_out}, bridge.Spending.spending}
use Rattle.demands.proofs.bridge.Histories.{InOrder, in_order_kept, fresh_in_order, always_in_order, run_append}
use Rattle.demands.proofs.{bridge.Histories.history_append, histories.Seekers.seeker_may, refusals.Passed.Fit}
use Rattle.demands.proofs.refusals.Refusing.{ruled}
use Rattle.machine.proofs.refusals.RecordLines.{turns_line}

-- ---- records and stands

out_seeks_or_holds : (state : State) → T (is_out state) → T (is_seeking state) ⊎ T (is_holding state)
out_seeks_or_holds Idle out = absurd out
out_seeks_or_holds (Seeking stand) out = inl tt
out_seeks_or_holds (Holding place) out = inr tt

seeker_out : (state : State) → T (is_seeking state) → T (is_out state)
seeker_out Idle t = t
seeker_out (Seeking stand) t = tt
seeker_out (Holding place) t = tt

holder_out : (state : State) → T (is_holding state) → T (is_out state)
holder_out Idle t = t
holder_out (Seeking stand) t = tt
holder_out (Holding place) t = tt

-- ---- the turns in the record are those counted

-- where the task is out
abbrev Counts : Memory → ℕ → ℕ → Type 0
Counts m p t = T (is_out (state_of m p)) → turns_in m p ≡ t

turns_out : (kind : Kind) (state after : State) (used t : ℕ) → wrong_moment kind state ≡ false
    → (T (is_out state) → used ≡ t) → (kind ≡ Release → after ≡ Idle) → T (is_out after)
    → turns_after kind state used ≡ counted kind t
turns_out Ask state after used t e same freed out = refl
turns_out Turn Idle after used t e same freed out = absurd (true≢false e)
turns_out Turn (Seeking stand) after used t e same freed out = ap (λ (n : ℕ). n + 1) (same tt)
turns_out Turn (Holding place) after used t e same freed out = absurd (true≢false e)
turns_out Release state after used t e same freed out =
    absurd (let z : T (is_out Idle) = rw (freed refl) at out in z)

module _ (s : Settings) (fair : WithinLimits s) (p : ℕ) (m : Memory) (sound : Fit s m) (t : ℕ) where
  own_call_counts : (kind : Kind) → p < s.n → wrong_moment kind (state_of m p) ≡ false → Counts m p t
      → Counts (accept s kind p (state_of m p) m).memory p (counted kind t)
  own_call_counts kind l e h =
      subst (λ (r : Record). T (is_out r.state) → r.turns ≡ counted kind t)
      (sym (caller_record s m sound p l kind (state_of m p)))
      (turns_out kind (state_of m p) (next_state s kind p (state_of m p) m) (turns_in m p) t e h (freed kind))
    where
      freed : (k : Kind) → k ≡ Release → next_state s k p (state_of m p) m ≡ Idle
      freed Ask release = absurd (let z : ◌≡◌ {A = ℕ} 0 1 = cc in let none : ⊥ = omega arith in none)
      freed Turn release = absurd (let z : ◌≡◌ {A = ℕ} 0 1 = cc in let none : ⊥ = omega arith in none)
      freed Release release = refl

  call_counts : (event : Event) → Counts m p t
      → Counts (call s event m).memory p (cond (is_accepted (call s event m).answer && eqb event.task.0 p)
      (counted event.kind t) t)
  call_counts event h = go (call s event m) (called s fair event m sound) (eqb event.task.0 p) refl
    where
      go : (outcome : Outcome) → Called s event m outcome → (its : Bool) → eqb event.task.0 p ≡ its
          → Counts outcome.memory p (cond (is_accepted outcome.answer && its) (counted event.kind t) t)
      go outcome (refused why its_task) its e = h
      go outcome (taken o) true e =
          let z : event.task.0 ≡ p = eqb-true event.task.0 p e in
          rw z
          (own_call_counts event.kind (rw z at o.known) (rw z at o.moment) h)
      go outcome (taken o) false e =
          let d : p ≡ event.task.0 → ⊥ = λ f. eqb-false event.task.0 p e (sym f) in
          subst (λ (r : Record). T (is_out r.state) → r.turns ≡ t)
          (sym (others_record s m event.task.0 event.kind (state_of m event.task.0) p d)) h

counts_on : (s : Settings) (fair : WithinLimits s) (p : ℕ) (events : List Event) (m : Memory) (t : ℕ)
    → InOrder s fair m → Counts m p t → Counts (run s events m) p (turns_of p (history s events m) t)
counts_on s fair p [] m t f h = h
counts_on s fair p (event ∷ events) m t f h =
    counts_on s fair p events (call s event m).memory _ (in_order_kept s fair event m f)
    (call_counts s fair p m f.invariants.fit t event h)

-- ---- every history

pub turns_append : (p : ℕ) (done more : List Answered) (t : ℕ)
    → turns_of p (done ++ more) t ≡ turns_of p more (turns_of p done t)
turns_append p [] more t = refl
turns_append p (one ∷ done) more t = turns_append p done more _

module _ (s : Settings) (lent : Memory) (ok : SetUp s lent) (p : ℕ) (l : p < s.n) where
  abbrev fair : WithinLimits s
  fair = setup_within s lent ok

  sound : (events : List Event) → Fit s (memory_after s lent events)
  sound events = (always_in_order s lent ok events).invariants.fit

  -- the turns in the record are the turns used
  pub turns_counted : (events : List Event) → T (is_out (state_of (memory_after s lent events) p))
      → turns_in (memory_after s lent events) p ≡ used s lent events p
  turns_counted events =
      counts_on s fair p events (setup s lent).memory 0 (fresh_in_order s lent ok)
      (λ out. absurd (let z : T (is_out Idle) = rw (fresh_idle s lent ok p l) at out in z))

  -- and they are in range
  pub turns_told : (events : List Event) → TurnsTold s lent events p
  turns_told events = record {
    counted = ⊎_elim (λ seeks. turns_counted events (seeker_out (state_of (memory_after s lent events) p) seeks))
        (λ holds. turns_counted events (holder_out (state_of (memory_after s lent events) p) holds));
    in_range = (turns_line s fair (state_of (memory_after s lent events) p) (turns_in (memory_after s lent events) p)
        ).says ((sound events).in_range.turns p l);
  }

  -- and tied to its state
  pub always_spent : (events : List Event)
      → (spending s fair).Spent (state_of (memory_after s lent events) p) (used s lent events p)
  always_spent events =
      spent_as s fair (spending s fair) (state_of (memory_after s lent events) p)
      (turns_in (memory_after s lent events) p) (used s lent events p) (turns_counted events)
      ((always_in_order s lent ok events).invariants.spent p l)

  pub seeking_used : (events : List Event) → Seeks (memory_after s lent events) p → used s lent events p < bound s
  seeking_used events seeks =
      (spending s fair).seeking (state_of (memory_after s lent events) p) (used s lent events p)
      ((sound events).in_range.records p l) seeks (always_spent events)

  pub holding_used : (events : List Event) → HoldsSome (memory_after s lent events) p → used s lent events p ≤ bound s
  holding_used events holds =
      (spending s fair).holding (state_of (memory_after s lent events) p) (used s lent events p)
      ((sound events).in_range.records p l) holds (always_spent events)

  -- ---- its own turns alone

  abbrev and_turn : List Event → List Event
  and_turn events = events ++ (turn p ∷ [])

  turn_taken : (events : List Event) → Seeks (memory_after s lent events) p
      → call s (turn p) (memory_after s lent events) ≡ ruled s (turn p) (memory_after s lent events)
  turn_taken events seeks =
      may_accepted s fair (turn p) (memory_after s lent events) (sound events)
      (seeker_may s (memory_after s lent events) p l seeks)

  one_more_used : (events : List Event) → Seeks (memory_after s lent events) p
      → used s lent (and_turn events) p ≡ used s lent events p + 1
  one_more_used events seeks =
      ap (λ (h : List Answered). turns_of p h 0) (history_append s events (turn p ∷ []) (setup s lent).memory)
      ∙ turns_append p (history_of s lent events) _ 0
      ∙ rw (turn_taken events seeks, eq-eqb p p refl) refl

  seeks_or_holds : (events : List Event) → Seeks (memory_after s lent events) p
      → Seeks (memory_after s lent (and_turn events)) p ⊎ HoldsSome (memory_after s lent (and_turn events)) p
  seeks_or_holds events seeks =
      rw (run_append s events (turn p ∷ []) (setup s lent).memory
      ∙ ap (λ (outcome : Outcome). outcome.memory) (turn_taken events seeks))
      (out_seeks_or_holds (state_of (ruled s (turn p) (memory_after s lent events)).memory p)
      (rw (caller_after s (memory_after s lent events) (sound events) p l Turn
      (state_of (memory_after s lent events) p))
      (turned_out s p (state_of (memory_after s lent events) p) (memory_after s lent events)
      (seeker_may s (memory_after s lent events) p l seeks).moment)))

  -- Where a task that seeks has used fewer than `most` turns, and its own turn leaves the memory so (`Kept`), what is
  -- left of them is enough.
  module _ (most : ℕ) (Kept : Memory → Type 0)
      (fewer : (events : List Event) → Kept (memory_after s lent events) → Seeks (memory_after s lent events) p
      → used s lent events p < most)
      (keeps : (m : Memory) → Kept m → Kept (call s (turn p) m).memory) where
    abbrev HoldsWithin : List Event → Type 0
    HoldsWithin events =
        (more : ℕ) × (used s lent events p + more ≤ most)
        × HoldsSome (memory_after s lent (events ++ turns more p)) p
        × Kept (memory_after s lent (events ++ turns more p))

    served_left : (left : ℕ) (events : List Event) → Kept (memory_after s lent events)
        → most ≤ used s lent events p + left
        → Seeks (memory_after s lent events) p → HoldsWithin events
    served_left zero events kept b seeks = absurd (let z = fewer events kept seeks in omega arith)
    served_left (suc left) events kept b seeks =
        ⊎_elim
        (λ again. on (served_left left (and_turn events) still (omega (arith, one_more_used events seeks)) again))
        (λ holds. (1, (let z = fewer events kept seeks in omega arith), holds, still)) (seeks_or_holds events seeks)
      where
        still : Kept (memory_after s lent (and_turn events))
        still = rw (run_append s events (turn p ∷ []) (setup s lent).memory) (keeps (memory_after s lent events) kept)

        on : HoldsWithin (and_turn events) → HoldsWithin events
        on h =
            let joined = append_assoc events (turn p ∷ []) (turns h.0 p) in (
              suc h.0,
              omega (arith, one_more_used events seeks, h.1),
              subst (λ (all : List Event). HoldsSome (memory_after s lent all) p) joined h.2,
              subst (λ (all : List Event). Kept (memory_after s lent all)) joined h.3,
            )

    pub served_alone : (events : List Event) → Kept (memory_after s lent events) → Seeks (memory_after s lent events) p
        → HoldsWithin events
    served_alone events kept = served_left most events kept (omega arith)
