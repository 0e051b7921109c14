-- The half product is the definition's: the checker works out the definition's values at 0 to 16 and finds them to be
-- the table's entries; that such a value stands at its own place is one law, for any function and any count.
use Rattle.std.proofs.Common.{◌≡◌, refl, List, [], ◌∷◌, ℕ, zero, suc, ◌<◌, get_or, rules}
use native.Mathlib.Nat.{le_of_suc-le-suc, not-suc-le-zero}
use Rattle.grid.specs.Triangle.{half}
use Rattle.places.proofs.half.Goals as goal

-- the values of f at the numbers below n
abbrev values : (ℕ → ℕ) → ℕ → List ℕ
values f zero = []
values f (suc n) = f 0 ∷ values (λ r. f (suc r)) n

value_at : (f : ℕ → ℕ) (n r : ℕ) → r < n → get_or (values f n) r 0 ≡ f r
value_at f zero r low = absurd (not-suc-le-zero low)
value_at f (suc n) zero low = refl
value_at f (suc n) (suc r) low = value_at (λ i. f (suc i)) n r (le_of_suc-le-suc low)

-- the table is `values half 17`, computed
pub returns : goal.returns
unfolding half
returns c = value_at half 17 c.args.r (search rules)
