-- The settings as rules of the grid: its marks, and what a block costs there against the bound.
use mathlib.Core.{Path.{◌≡◌, sym, ◌∙◌}, Logic.{◌⊎◌, inl, inr}}
use Prim.Native.Nat.{ℕ, ◌*◌, ◌≤◌, ◌<◌, ◌-◌}
use native.Mathlib.{Nat.mul-le-mul_right, Omega.arith}
use borrow.Author.Tests.{eq-eqb, ne_eqb}
use Rattle.machine.specs.Settings.{width, own, bound}
use Rattle.machine.specs.declared.Settings.{Settings}
use Rattle.machine.specs.promises.Ranges.{WithinLimits}
use Rattle.grid.proofs.{Stands.Rules, Spent.cost}

pub width_one_time : (s : Settings) → s.mode ≡ 0 → width s ≡ 1
width_one_time s e = rw (eq-eqb s.mode 0 e)

pub width_long_lived : (s : Settings) → s.mode ≡ 1 → width s ≡ s.n
width_long_lived s e = rw (ne_eqb s.mode 0 (λ f. omega arith))

pub own_one_time : (s : Settings) (p : ℕ) → s.mode ≡ 0 → own s p ≡ 0
own_one_time s p e = rw (eq-eqb s.mode 0 e)

pub own_long_lived : (s : Settings) (p : ℕ) → s.mode ≡ 1 → own s p ≡ p
own_long_lived s p e = rw (ne_eqb s.mode 0 (λ f. omega arith))

pub own_below : (s : Settings) → WithinLimits s → (q : ℕ) → q < s.n → own s q < width s
own_below s l q h = go l.modes
  where
    go : (s.mode ≡ 0) ⊎ (s.mode ≡ 1) → own s q < width s
    go (inl e) = rw (own_one_time s q e, width_one_time s e) (omega arith)
    go (inr e) = rw (own_long_lived s q e, width_long_lived s e) h

pub own_whose : (s : Settings) → WithinLimits s → (place : ℕ) → place < width s
    → (q : ℕ) × (q < s.n) × (own s q ≡ place)
own_whose s l place h = go l.modes
  where
    go : (s.mode ≡ 0) ⊎ (s.mode ≡ 1) → (q : ℕ) × (q < s.n) × (own s q ≡ place)
    go (inl e) = let z : place < 1 = rw (width_one_time s e) at h in (0, l.n_least, own_one_time s 0 e ∙ omega arith)
    go (inr e) = (place, (rw (width_long_lived s e) at h), own_long_lived s place e)

abbrev pub rules_of : (s : Settings) → WithinLimits s → Rules
rules_of s l = record {
  mode = s.mode;
  n = s.n;
  k = s.k;
  width = width s;
  own = own s;
  own_below = own_below s l;
  own_apart = λ one p q e. sym (own_long_lived s p one) ∙ e ∙ own_long_lived s q one;
  own_whose = own_whose s l;
  modes = l.modes;
}

-- ---- the bound

-- the bound is enough for k - 1 blocks
pub bound_enough : (s : Settings) (l : WithinLimits s) → cost (rules_of s l) * (s.k - 1) ≤ bound s
bound_enough s l = go l.modes
  where
    go : (s.mode ≡ 0) ⊎ (s.mode ≡ 1) → cost (rules_of s l) * (s.k - 1) ≤ bound s
    go (inl e) = rw (eq-eqb s.mode 0 e) (mul-le-mul_right (s.k - 1) (omega arith))
    go (inr e) = rw (ne_eqb s.mode 0 (λ z. omega arith)) (mul-le-mul_right (s.k - 1) (omega arith))

-- and k - 1 blocks are worth it
pub bound_needed : (s : Settings) (l : WithinLimits s) → bound s ≤ cost (rules_of s l) * (s.k - 1)
bound_needed s l = go l.modes
  where
    go : (s.mode ≡ 0) ⊎ (s.mode ≡ 1) → bound s ≤ cost (rules_of s l) * (s.k - 1)
    go (inl e) = rw (eq-eqb s.mode 0 e) (mul-le-mul_right (s.k - 1) (omega arith))
    go (inr e) = rw (ne_eqb s.mode 0 (λ z. omega arith)) (mul-le-mul_right (s.k - 1) (omega arith))
