-- Counting and searching the numbers below n by a test.
use Rattle.std.specs.Prelude.{Bool, true, false, ◌||◌, cond, ℕ, zero, suc, ltb}

-- one more where the test passes
abbrev pub tick : Bool → ℕ → ℕ
tick true n = suc n
tick false n = n

-- how many numbers below n pass the test
unfoldable pub count : (ℕ → Bool) → ℕ → ℕ
count test zero = zero
count test (suc n) = tick (test n) (count test n)

-- an earlier finding below n stays; else n itself is tried, and n + 1 says that it is good too
abbrev pub first_or : ℕ → ℕ → Bool → ℕ
first_or earlier n good = cond (ltb earlier n) earlier (tick good n)

-- the least number below n that fails the test; n where none does
unfoldable pub first_bad : (ℕ → Bool) → ℕ → ℕ
first_bad good zero = zero
first_bad good (suc n) = first_or (first_bad good n) n (good n)

-- some number below n passes the test
abbrev pub any_below : (ℕ → Bool) → ℕ → Bool
any_below test zero = false
any_below test (suc n) = any_below test n || test n
