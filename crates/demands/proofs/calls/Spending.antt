-- What the shared proofs ask of a board about turns, as one predicate that ties the turns a task has used to its state;
-- and what follows for every board: a call keeps it, and the turns in the record stay in their range.
use mathlib.Core.{Path.{◌≡◌, subst}, Bool.{Bool, true, false, true≢false}}
use Prim.Native.Nat.{ℕ, ◌+◌, ◌≤◌, ◌<◌}
use lib.Dec.{T, le→leb, lt→ltb}
use borrow.Author.Tests.{not-false}
use Rattle.machine.specs.{Settings.bound, Records.{is_seeking, is_holding, is_out, state_in_range, turns_in_range}}
use Rattle.machine.specs.Turn.{stand_access, turns_after, begin}
use Rattle.demands.specs.{Memory.{Memory, state_of, turns_in}, Touching.value, Refusals.wrong_moment}
use Rattle.demands.specs.Calls.{next_state}
use Rattle.machine.specs.promises.Ranges.{WithinLimits}
use Rattle.machine.specs.declared.{Settings.Settings, State.{State, TheVariants.{Idle, Seeking, Holding}}}
use Rattle.machine.specs.declared.Kind.{Kind, TheVariants.{Ask, Turn, Release}}
use Rattle.demands.proofs.{refusals.Passed.Fit, calls.Fitting.next_in_range}
use Rattle.machine.proofs.bridge.Outs.{begin_out, stand_out}
use Rattle.machine.proofs.bridge.Turns.{ask_counts_anew, turn_counts, release_leaves_none}

pub record Spending (s : Settings) : Type 1 where
  -- a task in this state may have used so many turns since its ask
  pub Spent : State → ℕ → Type 0
  pub idles : (t : ℕ) → Spent Idle t
  pub asks : Spent (begin s) 0
  pub turns_on : (m : Memory) → Fit s m → (p t : ℕ) → p < s.n → wrong_moment Turn (state_of m p) ≡ false
      → Spent (state_of m p) t → Spent (next_state s Turn p (state_of m p) m) (t + 1)
  -- and they are few
  pub seeking : (state : State) (t : ℕ) → T (state_in_range s state) → T (is_seeking state) → Spent state t
      → t < bound s
  pub holding : (state : State) (t : ℕ) → T (state_in_range s state) → T (is_holding state) → Spent state t
      → t ≤ bound s

-- ---- who turns

-- who has a turn seeks
pub turner_seeks : (state : State) → wrong_moment Turn state ≡ false → T (is_seeking state)
turner_seeks state e = rw (not-false (is_seeking state) e) tt

is_out_lem : (b : Bool) → b ≡ true → T b
is_out_lem b e = rw e tt

-- and is out after it
pub turned_out : (s : Settings) (p : ℕ) (state : State) (m : Memory) → wrong_moment Turn state ≡ false
    → T (is_out (next_state s Turn p state m))
turned_out s p Idle m e = absurd (true≢false e)
turned_out s p (Seeking stand) m e = is_out_lem _ (stand_out s p stand (value s (stand_access s p stand) m))
turned_out s p (Holding place) m e = absurd (true≢false e)

-- ---- every board

module _ (s : Settings) (fair : WithinLimits s) (S : Spending s) where
  -- where the state is in range, so are the turns
  spent_in_range : (state : State) (t : ℕ) → T (state_in_range s state) → T (is_out state) → S.Spent state t
      → T (turns_in_range s state t)
  spent_in_range Idle t good out h = absurd out
  spent_in_range (Seeking stand) t good out h = lt→ltb t (bound s) (S.seeking (Seeking stand) t good tt h)
  spent_in_range (Holding place) t good out h = le→leb t (bound s) (S.holding (Holding place) t good tt h)

  -- what is so of one count is so of another, where the task is out
  pub spent_as : (state : State) (t u : ℕ) → (T (is_out state) → t ≡ u) → S.Spent state t → S.Spent state u
  spent_as Idle t u same h = S.idles u
  spent_as (Seeking stand) t u same h = subst (S.Spent (Seeking stand)) (same tt) h
  spent_as (Holding place) t u same h = subst (S.Spent (Holding place)) (same tt) h

  module _ (m : Memory) (sound : Fit s m) (p : ℕ) (below : p < s.n) where
    -- a call of task p keeps its turns tied to its state
    pub spent_after : (kind : Kind) → wrong_moment kind (state_of m p) ≡ false → S.Spent (state_of m p) (turns_in m p)
        → S.Spent (next_state s kind p (state_of m p) m) (turns_after kind (state_of m p) (turns_in m p))
    spent_after Ask e h = subst (S.Spent (begin s)) (ask_counts_anew (state_of m p) (turns_in m p)) S.asks
    spent_after Turn e h =
        subst (S.Spent (next_state s Turn p (state_of m p) m))
        (turn_counts (state_of m p) (turns_in m p) (turner_seeks (state_of m p) e))
        (S.turns_on m sound p (turns_in m p) below e h)
    spent_after Release e h = S.idles _

    -- and in range
    pub turns_stay : (kind : Kind) → wrong_moment kind (state_of m p) ≡ false → S.Spent (state_of m p) (turns_in m p)
        → T (turns_in_range s (next_state s kind p (state_of m p) m) (turns_after kind (state_of m p) (turns_in m p)))
    turns_stay Ask e h =
        spent_in_range (begin s) (turns_after Ask (state_of m p) (turns_in m p))
        (next_in_range s fair Ask p (state_of m p) m e (sound.in_range.records p below)) (is_out_lem _ (begin_out s))
        (spent_after Ask e h)
    turns_stay Turn e h =
        spent_in_range (next_state s Turn p (state_of m p) m) (turns_after Turn (state_of m p) (turns_in m p))
        (next_in_range s fair Turn p (state_of m p) m e (sound.in_range.records p below))
        (turned_out s p (state_of m p) m e) (spent_after Turn e h)
    turns_stay Release e h =
        subst (λ (t : ℕ). T (turns_in_range s Idle t)) (release_leaves_none (state_of m p) (turns_in m p)) tt
