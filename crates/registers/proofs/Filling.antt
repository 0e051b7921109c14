-- One element more of a row becomes a.
use mathlib.Core.{Path.{◌≡◌, refl, ap}, List.{List, [], ◌∷◌}}
use Prim.Native.Nat.{ℕ, zero, suc, ◌+◌, ◌<◌}
use native.Mathlib.{Numerals.add-one, Omega.arith}
use lib.ListN.{length, set}
use Rattle.demands.specs.Memory.{fill}

fill_next : {A : Type 0} (a : A) (row : List A) (n : ℕ) → n < length row → set (fill n a row) n a ≡ fill (suc n) a row
fill_next a [] n l = absurd (let z : ⊥ = omega arith in z)
fill_next a (x ∷ row) zero l = refl
fill_next a (x ∷ row) (suc n) l = ap (λ rest. a ∷ rest) (fill_next a row n (omega arith))

pub fill_more : {A : Type 0} (a : A) (row : List A) (n : ℕ) → n < length row
    → set (fill n a row) n a ≡ fill (n + 1) a row
fill_more a row n l = rw add-one (fill_next a row n l)
