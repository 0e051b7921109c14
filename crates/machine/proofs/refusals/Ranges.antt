-- What a record in range says of its numbers.
use mathlib.Core.Path.{◌≡◌, sym, subst}
use Prim.Native.Nat.{ℕ, ◌+◌, ◌-◌, ◌*◌, ◌^◌, ◌≤◌, ◌<◌}
use native.Mathlib.{Nat.{mul-zero, mul-le-mul}, Decide.ℕ_discrete, Omega.arith}
use lib.Dec.{T, leb, leb→le, ltb→lt}
use borrow.Author.Tests.{eq-eqb, ne_eqb}
use Rattle.machine.specs.{Settings.{width, bound}, Records.{point_in_range, stand_in_range, place_in_range}}
use Rattle.machine.specs.Records.{state_in_range, turns_in_range}
use Rattle.machine.specs.declared.{Settings.Settings, Point.{Point, TheVariants.Scan}}
use Rattle.machine.specs.declared.{Stand.Stand, Place.Place}
use Rattle.machine.specs.declared.State.{State, TheVariants.{Seeking, Holding}}
use Rattle.counting.proofs.Bools.{and_l, and_r}

-- a task that seeks stands in range, and one that holds holds a place in range
pub seeks_in_range : (s : Settings) (state : State) (stand : Stand) → T (state_in_range s state) → state ≡ Seeking stand
    → T (stand_in_range s stand)
seeks_in_range s state stand good is = rw is at good

pub holds_in_range : (s : Settings) (state : State) (place : Place) → T (state_in_range s state) → state ≡ Holding place
    → T (place_in_range s place)
holds_in_range s state place good is = rw is at good

-- it stands on a block, at a point in range
module _ (s : Settings) (stand : Stand) (good : T (stand_in_range s stand)) where
  pub on_block : stand.r + stand.c + 2 ≤ s.k
  on_block =
      leb→le (stand.r + stand.c + 2) s.k
      (and_l (leb (stand.r + stand.c + 2) s.k) (point_in_range s stand.point) good)

  pub at_point : T (point_in_range s stand.point)
  at_point = and_r (leb (stand.r + stand.c + 2) s.k) (point_in_range s stand.point) good

-- and the place is within the triangle
pub on_cell : (s : Settings) (place : Place) → T (place_in_range s place) → place.r + place.c + 1 ≤ s.k
on_cell s place good = leb→le (place.r + place.c + 1) s.k good

-- a scan is at one of the block's marks
pub scans_a_mark : (s : Settings) (point : Point) (h : ℕ) → T (point_in_range s point) → point ≡ Scan h → h < width s
scans_a_mark s point h good is = let z : T (point_in_range s (Scan h)) = rw is at good in ltb→lt h (width s) z

-- ---- the bound, by the mode, for any settings

module _ (s : Settings) where
  pub bound_none : s.k ≡ 0 → 0 ≡ bound s
  bound_none e = rw e (sym (mul-zero _))

  pub bound_once : s.mode ≡ 0 → 4 * (s.k - 1) ≡ bound s
  bound_once e = rw (eq-eqb s.mode 0 e)

  pub bound_long : (s.mode ≡ 0 → ⊥) → (s.n + 4) * (s.k - 1) ≡ bound s
  bound_long d = rw (ne_eqb s.mode 0 d)

  -- numbers of 16 and 8 bits make one of 32, also with one more
  module _ (tasks : s.n < 2 ^ 16) (side : s.k < 2 ^ 8) where
    pub product_few : (s.n + 4) * (s.k - 1) ≤ 65600 * 254
    product_few = mul-le-mul {n₁ = s.n + 4} {m₁ = s.k - 1} {n₂ = 65600} {m₂ = 254} (omega arith) (omega arith)

    pub bound_few : bound s ≤ 65600 * 254
    bound_few = go (ℕ_discrete s.mode 0)
      where
        go : Dec (s.mode ≡ 0) → bound s ≤ 65600 * 254
        go (yes e) = subst (λ (b : ℕ). b ≤ 65600 * 254) (bound_once e) (omega arith)
        go (no d) = subst (λ (b : ℕ). b ≤ 65600 * 254) (bound_long d) product_few

-- a task that seeks has used fewer turns than the bound
pub seeks_below : (s : Settings) (state : State) (stand : Stand) (turns : ℕ) → T (turns_in_range s state turns)
    → state ≡ Seeking stand → turns < bound s
seeks_below s state stand turns good is =
    let z : T (turns_in_range s (Seeking stand) turns) = rw is at good in ltb→lt turns (bound s) z
