-- Each range of a record, and who is idle and who is out, against the test that the definitions make for it.
use mathlib.Core.{Path.{◌≡◌, refl, ap}, Logic.{◌⊎◌, inl, inr, ◌↔◌}, Bool.◌&&◌}
use Prim.Native.Nat.{ℕ, ◌+◌, ◌<◌}
use native.Mathlib.Omega.{arith}
use lib.Dec.{eqb}
use Rattle.machine.specs.Settings.{width, bound}
use Rattle.machine.specs.Records.{idle, is_idle, is_out, point_in_range, stand_in_range, place_in_range, state_in_range}
use Rattle.machine.specs.Records.{turns_in_range}
use Rattle.machine.specs.promises.Ranges.{WithinLimits, PointWithin, StandWithin, PlaceWithin, StateWithin}
use Rattle.machine.specs.promises.Ranges.{TurnsWithin, seeks_or_holds}
use Rattle.machine.specs.declared.Settings.{Settings}
use Rattle.machine.specs.declared.Point.{Point, TheVariants.{WriteX, Scan, WriteMark, ReadX, Clear}}
use Rattle.machine.specs.declared.{Stand.Stand, Place.Place, State.{State, TheVariants.{Idle, Seeking, Holding}}}
use Rattle.machine.specs.declared.Record.{Record}
use Rattle.counting.proofs.Tested.{Tested, below, most, same, both, meaning, always, never}

module _ (s : Settings) (l : WithinLimits s) where
  -- the places of a scan, by the mode
  scan_places : (h : ℕ) → (h < width s) ↔ PointWithin s (Scan h)
  scan_places h = go l.modes
    where
      go : (s.mode ≡ 0) ⊎ (s.mode ≡ 1) → (h < width s) ↔ PointWithin s (Scan h)
      go (inl once) =
          let some = l.n_least in
          rw once (λ low. (omega arith, λ e. omega arith), λ within. let none = within.1 refl in omega arith)
      go (inr long) = rw long (λ low. (low, λ e. absurd (omega arith)), λ within. within.0)

  pub point_line : (point : Point) → Tested (point_in_range s point) (PointWithin s point)
  point_line WriteX = always tt
  point_line (Scan h) = meaning (below h (width s)) (scan_places h)
  point_line WriteMark = always tt
  point_line ReadX = always tt
  point_line (Clear direction) = same s.mode 1

  pub stand_line : (stand : Stand) → Tested (stand_in_range s stand) (StandWithin s stand)
  stand_line stand = both (most (stand.r + stand.c + 2) s.k) (point_line stand.point)

  pub place_line : (place : Place) → Tested (place_in_range s place) (PlaceWithin s place)
  place_line place = most (place.r + place.c + 1) s.k

  pub state_line : (state : State) → Tested (state_in_range s state) (StateWithin s state)
  state_line Idle = always tt
  state_line (Seeking stand) = stand_line stand
  state_line (Holding place) = place_line place

  pub turns_line : (state : State) (turns : ℕ) → Tested (turns_in_range s state turns) (TurnsWithin s state turns)
  turns_line Idle turns = same turns 0
  turns_line (Seeking stand) turns = below turns (bound s)
  turns_line (Holding place) turns = most turns (bound s)

-- ---- who is idle, and who is out

pub idle_tested : (state : State) → Tested (is_idle state) (state ≡ Idle)
idle_tested Idle = always refl
idle_tested (Seeking stand) = never (λ e. let z : ◌≡◌ {A = ℕ} 0 1 = cc in omega arith)
idle_tested (Holding place) = never (λ e. let z : ◌≡◌ {A = ℕ} 0 1 = cc in omega arith)

pub idle_record_tested : (state : State) (turns : ℕ)
    → Tested (is_idle state && eqb turns 0) (record { state = state; turns = turns } ≡ idle)
idle_record_tested state turns = meaning (both (idle_tested state) (same turns 0)) (
  λ (e, zero) i. record { state = e i; turns = zero i },
  λ e. (ap (λ (r : Record). r.state) e, ap (λ (r : Record). r.turns) e),
)

-- a record that is not idle is of a task that is out, or out of range
pub busy_how : (s : Settings) (state : State) (turns : ℕ) → (record { state = state; turns = turns } ≡ idle → ⊥)
    → (state ≡ Idle → ⊥) ⊎ (StateWithin s state × TurnsWithin s state turns → ⊥)
busy_how s Idle turns other = inr (λ (w, zero). other (λ i. record { state = Idle; turns = zero i }))
busy_how s (Seeking stand) turns other = inl (λ e. let z : ◌≡◌ {A = ℕ} 0 1 = cc in omega arith)
busy_how s (Holding place) turns other = inl (λ e. let z : ◌≡◌ {A = ℕ} 0 1 = cc in omega arith)

-- who is out seeks or holds
pub out_same : (state : State) → is_out state ≡ seeks_or_holds state
out_same Idle = refl
out_same (Seeking stand) = refl
out_same (Holding place) = refl
