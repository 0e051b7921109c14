-- Whether some number below n passes a test, found by looking from 0 on.
use mathlib.Core.{Path.{◌≡◌, refl, sym, ◌∙◌, ap}, Bool.{Bool, true, false, ◌||◌}, Logic.{◌⊎◌, inl, inr, ⊎_elim}}
use Prim.Native.Nat.{ℕ, zero, suc, ◌+◌, ◌<◌}
use lib.Dec.{T, ltb, ltb→lt, lt→ltb}
use native.Mathlib.{Nat.{eq-or-lt_of_le, le_of_suc-le-suc, not-suc-le-zero}, Numerals.add-one, Decide.ℕ_discrete}
use native.Mathlib.Omega.{arith}
use Rattle.std.{specs.List.{list_any, range_with_len}, proofs.Math.Bool.{or-false, or_assoc}}
use Rattle.counting.specs.Counting.{tick, count, any_below}
use Rattle.counting.proofs.{Tested.{Tested, either, meaning, never}, Counting.count_one}

or_true : (a b : Bool) → b ≡ true → a || b ≡ true
or_true true b e = refl
or_true false b e = e

-- a number that passes is found below every larger one
pub any_found : (test : ℕ → Bool) (i n : ℕ) → i < n → test i ≡ true → true ≡ any_below test n
any_found test i zero l e = absurd (not-suc-le-zero l)
any_found test i (suc n) l e =
    ⊎_elim (λ same. sym (or_true (any_below test n) (test n) (sym (ap test same) ∙ e)))
    (λ below. rw (sym (any_found test i n below e)))
    (eq-or-lt_of_le (le_of_suc-le-suc l))

-- one number more that does not pass
pub none_more : (test : ℕ → Bool) (i : ℕ) → any_below test i ≡ false → test i ≡ false → any_below test (i + 1) ≡ false
none_more test i none here = rw (add-one, none, here)

-- where none passes, each does not
pub none_below : (test : ℕ → Bool) (n : ℕ) → any_below test n ≡ false → (i : ℕ) → i < n → test i ≡ false
none_below test zero none i l = absurd (not-suc-le-zero l)
none_below test (suc n) none i l = go (λ e below. none_below test n e i below) (any_below test n) refl none
  where
    go : (any_below test n ≡ false → i < n → test i ≡ false) → (b : Bool) → any_below test n ≡ b → b || test n ≡ false
        → test i ≡ false
    go before true e none = cc
    go before false e none = ⊎_elim (λ same. ap test same ∙ none) (λ below. before e below)
        (eq-or-lt_of_le (le_of_suc-le-suc l))

-- and where each does not, none does
pub each_none : (test : ℕ → Bool) (n : ℕ) → ((i : ℕ) → i < n → test i ≡ false) → any_below test n ≡ false
each_none test zero each = refl
each_none test (suc n) each = rw (each_none test n (λ i l. each i (omega arith)), each n (omega arith))

-- some number below n passes
pub some_below : {Holds : ℕ → Type 0} (test : ℕ → Bool) → ((i : ℕ) → Tested (test i) (Holds i)) → (n : ℕ)
    → Tested (any_below test n) ((i : ℕ) × (i < n) × Holds i)
some_below test each zero = never (λ some. not-suc-le-zero some.1)
some_below {Holds = Holds} test each (suc n) = meaning (either (some_below test each n) (each n)) (there, back)
  where
    there : ((i : ℕ) × (i < n) × Holds i) ⊎ Holds n → (i : ℕ) × (i < suc n) × Holds i
    there (inl (i, l, here)) = (i, omega arith, here)
    there (inr here) = (n, omega arith, here)

    back : (i : ℕ) × (i < suc n) × Holds i → ((i : ℕ) × (i < n) × Holds i) ⊎ Holds n
    back (i, l, here) = go (ℕ_discrete i n)
      where
        go : Dec (i ≡ n) → ((i : ℕ) × (i < n) × Holds i) ⊎ Holds n
        go (yes e) = inr (rw e at here)
        go (no other) = inl (i, omega arith, here)

-- where some are counted, one of them is there
count_found : (test : ℕ → Bool) (n : ℕ) → 0 < count test n → (i : ℕ) × (i < n) × T (test i)
unfolding count
count_found test zero some = absurd (not-suc-le-zero some)
count_found test (suc n) some = go (λ before. count_found test n before) (test n) refl some
  where
    go : (0 < count test n → (i : ℕ) × (i < n) × T (test i)) → (b : Bool) → test n ≡ b → 0 < tick b (count test n)
        → (i : ℕ) × (i < suc n) × T (test i)
    go before true e some = (n, omega arith, rw e tt)
    go before false e some = let (i, l, here) = before some in (i, omega arith, here)

-- more than none are counted
pub some_counted : {Holds : ℕ → Type 0} (test : ℕ → Bool) → ((i : ℕ) → Tested (test i) (Holds i)) → (n : ℕ)
    → Tested (ltb 0 (count test n)) ((i : ℕ) × (i < n) × Holds i)
some_counted test each n = record {
  says = λ t. let (i, l, here) = count_found test n (ltb→lt 0 (count test n) t) in (i, l, (each i).says here);
  shows = λ (i, l, here). lt→ltb 0 (count test n) (count_one test n i l ((each i).shows here));
}

-- the first apart
pub any_first : (test : ℕ → Bool) (n : ℕ) → any_below test (suc n) ≡ test 0 || any_below (λ i. test (suc i)) n
any_first test zero = sym (or-false (test 0))
any_first test (suc n) = rw (any_first test n) (or_assoc (test 0) (any_below (λ i. test (suc i)) n) (test (suc n)))

-- a range, searched from its first number on
ranged : (test found : ℕ → Bool) (a n : ℕ) → ((i : ℕ) → found i ≡ test (a + i))
    → list_any test (range_with_len a n) ≡ any_below found n
ranged test found a zero alike = refl
ranged test found a (suc n) alike =
    let first : found 0 ≡ test a = alike 0 ∙ ap test (omega arith) in
    let rest = ranged test (λ i. found (suc i)) (a + 1) n (λ i. alike (suc i) ∙ ap test (omega arith)) in
    rw (any_first found n, first, ← rest) refl

pub any_ranged : (test : ℕ → Bool) (n : ℕ) → list_any test (range_with_len 0 n) ≡ any_below test n
any_ranged test n = ranged test test 0 n (λ i. ap test (omega arith))
