-- Names are a triangle of side k, by rows or by diagonals; blocks are one of side k - 1.
use mathlib.Core.{Path.{◌≡◌, refl, ap, ◌∙◌}, Bool.cond}
use Prim.Native.Nat.{ℕ, suc, ◌+◌, ◌-◌, ◌*◌, ◌/◌, ◌≤◌, ◌<◌}
use native.Mathlib.{Nat.mul-suc, Numerals.add-one, Decide.ℕ_discrete, Omega.arith}
use borrow.Author.Tests.{ne_eqb}
use Rattle.grid.specs.Triangle.{half, place_number, diagonal_number, Numbering}
use Rattle.grid.proofs.Triangle.{half_suc, half_square, triangle, diagonals}
use Rattle.machine.specs.Places.{blocks, block_number, names, name_number, place_name}
use Rattle.machine.specs.declared.{Settings.Settings, Place.Place}
use Rattle.machine.specs.promises.Ranges.{PlaceWithin}

-- the places of a triangle of side k
pub triangle_half : (k : ℕ) → k * (k + 1) / 2 ≡ half k + k
triangle_half k =
    let h = half_square k in
    let e : k * (k + 1) ≡ k * k + k = ap (λ (n : ℕ). k * n) (add-one k) ∙ mul-suc k k in
    rw e (omega arith)

pub names_half : (s : Settings) → names s ≡ half s.k + s.k
names_half s = triangle_half s.k

pub blocks_half : (s : Settings) → 1 ≤ s.k → blocks s ≡ half (s.k - 1) + (s.k - 1)
blocks_half s l = let e : s.k ≡ suc (s.k - 1) = omega arith in ap half e ∙ half_suc (s.k - 1)

-- the rule of each version
pub by_rows : (s : Settings) → s.version ≡ 1 → name_number s ≡ place_number s.k
by_rows s one = rw one

pub by_diagonals : (s : Settings) → (s.version ≡ 1 → ⊥) → name_number s ≡ diagonal_number
by_diagonals s other =
    ap {B = ℕ → ℕ → ℕ} (λ one r c. cond one (place_number s.k r c) (diagonal_number r c)) (ne_eqb s.version 1 other)

pub name_numbering : (s : Settings) → Numbering s.k (name_number s) (names s)
name_numbering s = rw (names_half s) (elim (ℕ_discrete s.version 1) [
  | yes one ↦ rw (by_rows s one) (triangle s.k)
  | no other ↦ rw (by_diagonals s other) (diagonals s.k)
])

pub block_numbering : (s : Settings) → 1 ≤ s.k → Numbering (s.k - 1) (block_number s) (blocks s)
block_numbering s l = rw (blocks_half s l) (triangle (s.k - 1))

-- ---- what a board gives: the name of a place in range is small, and no two places have one name

-- the name of a place is the number at its row and column
pub named_there : (s : Settings) (place : Place) → name_number s place.r place.c ≡ place_name s place
named_there s place = refl

pub name_below : (s : Settings) (place : Place) → PlaceWithin s place → place_name s place < s.k * (s.k + 1) / 2
name_below s place on = rw (← named_there s place) ((name_numbering s).below place.r place.c (omega arith))

pub names_apart : (s : Settings) (a b : Place) → PlaceWithin s a → PlaceWithin s b
    → place_name s a ≡ place_name s b → a ≡ b
names_apart s a b on_a on_b e =
    let same = (name_numbering s).apart a.r a.c b.r b.c (omega arith) (omega arith) e in
    rw (same.0, same.1)
