-- A number in decimal is plain: one digit more is put behind the digits of a tenth.
use mathlib.Core.{Path.{◌≡◌, refl, sym, subst, ◌∙◌}, List.{List, [], ◌∷◌, ◌++◌}}
use Prim.Native.Nat.{ℕ, zero, suc, ◌+◌, ◌-◌, ◌*◌, ◌/◌, ◌%◌, ◌≤◌, ◌<◌}
use native.Mathlib.{Nat.{le_refl, not-suc-le-zero}, Decide.{dec_lt, ℕ_discrete}, Omega.arith}
use lib.{ListN.{length, get_or, length-append, get_or-append}, Seq.get_or_at}
use Rattle.text.specs.{Decimal.decimal, Plain.{value_from, Plain, DecimalPlain}}
use Rattle.text.proofs.Digits.{one_digit, one_digit_more}

value_behind : (value : ℕ) (text : List ℕ) (digit : ℕ)
    → value_from value (text ++ (digit ∷ [])) ≡ 10 * value_from value text + (digit - 48)
value_behind value [] digit = refl
value_behind value (first ∷ text) digit = value_behind (10 * value + (first - 48)) text digit

plain_one : (n : ℕ) → n < 10 → Plain n ((48 + n) ∷ [])
plain_one n l = record {
  some = le_refl 1;
  digits = λ i low. let none : i ≡ 0 = omega arith in rw none (omega arith, omega arith);
  no_leading_zero = λ more e. absurd (omega arith);
  value = omega arith;
}

-- one digit behind a plain number above 0
module _ (n digit : ℕ) (some_left : 1 ≤ n) (small : digit < 10) where
  not_zero : (text : List ℕ) → Plain n text → get_or text 0 0 ≡ 48 → ⊥
  not_zero [] p e = absurd (omega (arith, p.some))
  not_zero (first ∷ []) p e = absurd (let v = p.value in omega arith)
  not_zero (first ∷ second ∷ text) p e = p.no_leading_zero (omega arith) e

  plain_more : (text : List ℕ) → Plain n text → Plain (10 * n + digit) (text ++ ((48 + digit) ∷ []))
  plain_more text p =
      let one_more = length-append text ((48 + digit) ∷ []) in
      let first : get_or (text ++ ((48 + digit) ∷ [])) 0 0 ≡ get_or text 0 0 =
      get_or-append text ((48 + digit) ∷ []) 0 0 p.some in
      record {
        some = omega (arith, one_more);
        digits = λ i low. go i low (ℕ_discrete i (length text));
        no_leading_zero = λ more e. not_zero text p (sym first ∙ e);
        value = value_behind 0 text (48 + digit) ∙ let v = p.value in omega arith;
      }
    where
      go : (i : ℕ) → i < length (text ++ ((48 + digit) ∷ [])) → Dec (i ≡ length text)
          → (48 ≤ get_or (text ++ ((48 + digit) ∷ [])) i 0) × (get_or (text ++ ((48 + digit) ∷ [])) i 0 ≤ 57)
      go i low (yes e) = rw (e, get_or_at text (48 + digit) [] 0 (length text) refl) (omega arith, omega arith)
      go i low (no d) =
          let one_more = length-append text ((48 + digit) ∷ []) in
          let inside : i < length text = omega arith in
          rw (get_or-append text ((48 + digit) ∷ []) 0 i inside) (p.digits i inside)

plain_below : (most n : ℕ) → n < most → Plain n (decimal n)
plain_below zero n l = absurd (not-suc-le-zero l)
plain_below (suc most) n l = go (plain_below most (n / 10)) (dec_lt n 10)
  where
    go : (n / 10 < most → Plain (n / 10) (decimal (n / 10))) → Dec (n < 10) → Plain n (decimal n)
    go less (yes small) = subst (Plain n) (sym (one_digit n small)) (plain_one n small)
    go less (no large) =
        let whole : 10 * (n / 10) + n % 10 ≡ n = omega arith in
        subst (λ (m : ℕ). Plain m (decimal n)) whole
        (subst (Plain (10 * (n / 10) + n % 10)) (sym (one_digit_more n (omega arith)))
        (plain_more (n / 10) (n % 10) (omega arith) (omega arith) (decimal (n / 10)) (less (omega arith))))

pub decimal_plain : DecimalPlain
decimal_plain n = plain_below (suc n) n (le_refl (suc n))
