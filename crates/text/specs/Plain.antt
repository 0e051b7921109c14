-- What it is that a text is a number in plain decimal, without the definition that writes one. Theorem:
-- `decimal_plain`.
use mathlib.Core.{Path.◌≡◌, List.{List, [], ◌∷◌}}
use Rattle.std.specs.Prelude.{ℕ, ◌+◌, ◌-◌, ◌*◌, ◌≤◌, ◌<◌, length, get_or}
use Rattle.text.specs.Decimal.{decimal}

-- the value of digits, read from the left
abbrev pub value_from : ℕ → List ℕ → ℕ
value_from value [] = value
value_from value (digit ∷ rest) = value_from (10 * value + (digit - 48)) rest

-- digits 0 to 9 alone, at least one, none of them a leading zero, with this value
pub record Plain (n : ℕ) (text : List ℕ) : Type 0 where
  pub some : 1 ≤ length text
  pub digits : (i : ℕ) → i < length text → (48 ≤ get_or text i 0) × (get_or text i 0 ≤ 57)
  pub no_leading_zero : 1 < length text → get_or text 0 0 ≡ 48 → ⊥
  pub value : value_from 0 text ≡ n

abbrev pub DecimalPlain : Type 0
DecimalPlain = (n : ℕ) → Plain n (decimal n)
