-- Laws of a number in decimal: one digit, one digit more, how many digits there are, and what writing them puts.
use mathlib.Core.{Path.{◌≡◌, refl}, Bool.{Bool, true, false}, List.{List, [], ◌∷◌, ◌++◌}}
use Prim.Native.Nat.{ℕ, zero, suc, ◌+◌, ◌*◌, ◌/◌, ◌%◌, ◌^◌, ◌≤◌, ◌<◌}
use native.Mathlib.{Nat.{not-suc-le-zero, div-lt_iff_lt-mul, pow-suc}, Numerals.add-one, Omega.arith, Decide.dec_le}
use lib.{Dec.{ltb, lit<}, ListN.{length, set, length-append}}
use borrow.Author.Tests.{lt-ltb, le-ltb, ltb-true, ltb-false}
use Rattle.text.specs.{Decimal.{digits, decimal}, Put.Puts}
use Rattle.text.proofs.Putting.{put_byte, put_byte_after}

-- any bound above the number gives the same digits
digits_same : (f g n : ℕ) → n < f → n < g → digits f n ≡ digits g n
digits_same zero g n l m = absurd (not-suc-le-zero l)
digits_same (suc f) zero n l m = absurd (not-suc-le-zero m)
digits_same (suc f) (suc g) n l m = go (ltb n 10) refl (digits_same f g (n / 10))
  where
    go : (b : Bool) → ltb n 10 ≡ b → (n / 10 < f → n / 10 < g → digits f (n / 10) ≡ digits g (n / 10))
        → digits (suc f) n ≡ digits (suc g) n
    go true e same = let h = ltb-true n 10 e in rw (lt-ltb n 10 h)
    go false e same = let h = ltb-false n 10 e in rw (le-ltb n 10 h, same (omega arith) (omega arith))

pub one_digit : (n : ℕ) → n < 10 → decimal n ≡ (48 + n) ∷ []
unfolding decimal
one_digit n l = rw (add-one n, lt-ltb n 10 l)

pub one_digit_more : (n : ℕ) → 10 ≤ n → decimal n ≡ decimal (n / 10) ++ ((48 + n % 10) ∷ [])
unfolding decimal
one_digit_more n l = rw (add-one n, le-ltb n 10 l, digits_same n (n / 10 + 1) (n / 10) (omega arith) (omega arith))

pub digits_at_most : (d n : ℕ) → n < 10 ^ suc d → length (decimal n) ≤ suc d
digits_at_most zero n l = rw (one_digit n (omega arith)) (omega arith)
digits_at_most (suc d) n l = go (dec_le 10 n) (digits_at_most d (n / 10))
  where
    go : Dec (10 ≤ n) → (n / 10 < 10 ^ suc d → length (decimal (n / 10)) ≤ suc d) → length (decimal n) ≤ suc (suc d)
    go (no small) fewer = rw (one_digit n (omega arith)) (omega arith)
    go (yes large) fewer =
        let power : n < 10 ^ suc d * 10 = rw pow-suc at l in
        let most = fewer ((div-lt_iff_lt-mul (lit< tt)).1 power) in
        rw (one_digit_more n large, length-append (decimal (n / 10)) ((48 + n % 10) ∷ [])) (omega arith)

-- ---- digits put into room

pub one_digit_long : (n : ℕ) → n < 10 → length (decimal n) ≡ 1
one_digit_long n l = rw (one_digit n l)

pub one_digit_longer : (n : ℕ) → 10 ≤ n → length (decimal n) ≡ length (decimal (n / 10)) + 1
one_digit_longer n l = rw (one_digit_more n l) (length-append (decimal (n / 10)) ((48 + n % 10) ∷ []))

module _ (room : List ℕ) (at n : ℕ) (fits : at + length (decimal n) ≤ length room) where
  pub puts_one_digit : n < 10 → Puts room at (decimal n) (at + 1) (set room at (48 + n))
  puts_one_digit l =
      let long = one_digit_long n l in
      record { past = omega arith; room_after = rw (one_digit n l) (put_byte room at (48 + n) (omega arith)) }

  pub puts_one_digit_more : (to : ℕ) (after : List ℕ) → 10 ≤ n → Puts room at (decimal (n / 10)) to after
      → Puts room at (decimal n) (to + 1) (set after to (48 + n % 10))
  puts_one_digit_more to after l before =
      let long = one_digit_longer n l in
      let past = before.past in
      record {
        past = omega arith;
        room_after =
            rw (before.room_after, one_digit_more n l)
            (put_byte_after room at (decimal (n / 10)) (48 + n % 10) to past (omega arith));
      }
