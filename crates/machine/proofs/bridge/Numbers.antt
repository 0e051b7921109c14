-- The numbers of blocks and names are those that 01 writes, and the tests of a state say what they are called.
use mathlib.Core.Path.{◌≡◌, refl, ap}
use Prim.Native.Nat.{ℕ, ◌+◌, ◌-◌, ◌*◌, ◌/◌}
use native.Mathlib.{Nat.mul_comm, Omega.arith}
use Rattle.grid.specs.Triangle.{half, place_number, diagonal_number}
use Rattle.machine.proofs.bridge.Numbering.{name_numbering}
use Rattle.machine.specs.promises.Numbers.{EachNumbered, EachBuiltAt, EachStateTold}
use Rattle.machine.specs.declared.State.TheVariants.{Idle, Seeking, Holding}

-- half (d+1) is d(d+1)/2
next_product : (d : ℕ) → (d + 1) * (d + 1 - 1) ≡ d * (d + 1)
next_product d = let e : d + 1 - 1 ≡ d = omega arith in rw e (mul_comm (d + 1) d)

pub places_numbered : EachNumbered
unfolding half place_number diagonal_number
places_numbered s = record {
  block_count = refl;
  block_at = λ r c on. refl;
  name_count = refl;
  name_by_row = λ one place on. rw one;
  name_by_diagonal = λ two place on. rw two (ap (λ (n : ℕ). n / 2 + place.r) (next_product (place.r + place.c)));
  each_name_once = name_numbering s;
}

pub built_at : EachBuiltAt
built_at r c point = record {
  stand_row = refl;
  stand_column = refl;
  stand_point = refl;
  cell_row = refl;
  cell_column = refl;
}

-- states of two kinds are not equal
pub state_told : EachStateTold
state_told Idle = record {
  idle = (λ t. refl, λ e. tt);
  seeking = (λ t. absurd t, λ (stand, e). let z : ◌≡◌ {A = ℕ} 0 1 = cc in omega arith);
  holding = (λ t. absurd t, λ (place, e). let z : ◌≡◌ {A = ℕ} 0 1 = cc in omega arith);
}
state_told (Seeking stand) = record {
  idle = (λ t. absurd t, λ e. let z : ◌≡◌ {A = ℕ} 0 1 = cc in omega arith);
  seeking = (λ t. (stand, refl), λ h. tt);
  holding = (λ t. absurd t, λ (place, e). let z : ◌≡◌ {A = ℕ} 0 1 = cc in omega arith);
}
state_told (Holding place) = record {
  idle = (λ t. absurd t, λ e. let z : ◌≡◌ {A = ℕ} 0 1 = cc in omega arith);
  seeking = (λ t. absurd t, λ (stand, e). let z : ◌≡◌ {A = ℕ} 0 1 = cc in omega arith);
  holding = (λ t. (place, refl), λ h. tt);
}
