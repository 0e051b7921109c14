-- On a grid the turns that a task has used are tied to the place where it stands (`grid`'s `Spent`). Every turn could
-- break it: it adds one, and it brings the task on.
use mathlib.Core.{Path.{◌≡◌, refl}, Bool.false}
use Prim.Native.Nat.{ℕ, ◌+◌, ◌≤◌, ◌<◌, zero-le}
use native.Mathlib.Nat.{le_trans}
use lib.Dec.{T}
use Rattle.machine.specs.{Settings.{width, bound}, Records.{is_seeking, is_holding, state_in_range}, Turn.begin}
use Rattle.demands.specs.{Memory.{Memory, state_of}, Refusals.wrong_moment, Calls.next_state}
use Rattle.machine.specs.promises.Ranges.{WithinLimits}
use Rattle.machine.specs.declared.Settings.{Settings}
use Rattle.machine.specs.declared.Point.{Point, TheVariants.{WriteX, Scan, WriteMark, ReadX, Clear}}
use Rattle.machine.specs.declared.{State.{State, TheVariants.{Idle, Seeking, Holding}}, Kind.TheVariants.Turn}
use Rattle.demands.proofs.{refusals.Passed.Fit, calls.Spending.{Spending, turner_seeks}}
use Rattle.demands.proofs.bridge.{AsGrid.{stage_of, stand_of}, Steps.{arrives, in_place, caller_moves}}
use Rattle.machine.proofs.bridge.AsRules.{rules_of, bound_enough}
use Rattle.grid.proofs.Stands.{Rules, Stand, idle, at}
use Rattle.grid.proofs.Spent.{Within, OutWithin, SeeksAt, arrives_within, turn_within, seeking_within, holding_within}

pub seeks_at : (W : ℕ) (state : State) → T (is_seeking state) → SeeksAt (stand_of W state)
seeks_at W Idle t = t
seeks_at W (Seeking stand) t = by_point stand.r stand.c stand.point
  where
    by_point : (r c : ℕ) (point : Point) → SeeksAt (at r c (stage_of W point))
    by_point r c WriteX = tt
    by_point r c (Scan h) = tt
    by_point r c WriteMark = tt
    by_point r c ReadX = tt
    by_point r c (Clear d) = tt
seeks_at W (Holding place) t = absurd t

pub out_within : (R : Rules) (stand : Stand) (t : ℕ) → OutWithin R stand t → Within R stand t
out_within R idle t h = tt
out_within R (at r c g) t h = h

module _ (s : Settings) (fair : WithinLimits s) where
  abbrev pub rules : Rules
  rules = rules_of s fair

  -- the turns of a task may be so many where it stands
  abbrev pub SpentAt : State → ℕ → Type 0
  SpentAt state t = Within rules (stand_of (width s) state) t

  pub turned_on : (m : Memory) → Fit s m → (p t : ℕ) → p < s.n → wrong_moment Turn (state_of m p) ≡ false
      → SpentAt (state_of m p) t → SpentAt (next_state s Turn p (state_of m p) m) (t + 1)
  turned_on m sound p t below e h =
      out_within rules (stand_of (width s) (next_state s Turn p (state_of m p) m)) (t + 1)
      (turn_within rules t (caller_moves s fair m sound p below Turn refl e).1
      (seeks_at (width s) (state_of m p) (turner_seeks (state_of m p) e))
      (in_place s fair (state_of m p) (sound.in_range.records p below)) h)

  pub seeker_below : (state : State) (t : ℕ) → T (state_in_range s state) → T (is_seeking state) → SpentAt state t
      → t < bound s
  seeker_below state t good seeks h =
      le_trans (seeking_within rules (stand_of (width s) state) t (seeks_at (width s) state seeks)
      (in_place s fair state good) h) (bound_enough s fair)

  pub holder_within : (state : State) (t : ℕ) → T (state_in_range s state) → T (is_holding state) → SpentAt state t
      → t ≤ bound s
  holder_within Idle t good holds h = absurd holds
  holder_within (Seeking stand) t good holds h = absurd holds
  holder_within (Holding place) t good holds h =
      le_trans (holding_within rules place.r place.c t (in_place s fair (Holding place) good) h)
      (bound_enough s fair)

  abbrev pub spending : Spending s
  spending = record {
    Spent = SpentAt;
    idles = λ t. tt;
    asks = out_within rules (stand_of (width s) (begin s)) 0
        (arrives_within rules 0 (arrives s fair 0 0 fair.k_least) zero-le);
    turns_on = turned_on;
    seeking = seeker_below;
    holding = holder_within;
  }
