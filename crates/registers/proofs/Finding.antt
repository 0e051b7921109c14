-- The first value of a row that is above a limit, as a search finds it: everything passed is at most the limit, and
-- what it stopped at is above.
use mathlib.Core.{Path.{◌≡◌, sym}, Bool.cond, List.List, Logic.{◌⊎◌, inl, inr}}
use Prim.Native.Nat.{ℕ, suc, ◌+◌, ◌*◌, ◌≤◌, ◌<◌}
use native.Mathlib.{Nat.{le_of_lt, suc-mul, mul-le-mul_right}, Numerals.add-one, Decide.dec_le, Omega.arith}
use borrow.Author.Tests.{le-ltb, lt-ltb, lt-leb, leb-false}
use lib.{Dec.{leb, le→leb, leb→le}, ListN.get_or}
use Rattle.std.specs.{Prelude.{Some, None, nat_lt, unwrap_or, take, length}, List.{position, position_or_len}}
use Rattle.std.proofs.lemmas.Bool.Decides.{nat_tests}
use Rattle.std.proofs.lemmas.List.{get_or-take, length-take-le, Sums.position_or_len_is}
use Rattle.demands.specs.Memory.{marks_needed, bad_mark}
use Rattle.machine.specs.declared.Settings.{Settings}
use Rattle.counting.{specs.Counting.first_bad, proofs.Searching.{first_bad_first, first_bad_is, none_bad}}

-- everything below n in a row is at most the limit
abbrev pub Low : List ℕ → ℕ → ℕ → Type 0
Low row limit n = (j : ℕ) → j < n → get_or row j 0 ≤ limit

abbrev pub first_above : List ℕ → ℕ → ℕ → ℕ
first_above row limit n = first_bad (λ i. leb (get_or row i 0) limit) n

module _ (row : List ℕ) (limit n : ℕ) where
  pub stops_at_first : (i : ℕ) → i < n → Low row limit i → limit < get_or row i 0 → i ≡ first_above row limit n
  stops_at_first i l low above =
      sym (first_bad_is (λ j. leb (get_or row j 0) limit) n i (record {
        within = le_of_lt l;
        before = λ j h. le→leb (get_or row j 0) limit (low j h);
        fails = λ h. lt-leb (get_or row i 0) limit above;
      }))

  pub stops_at_none : Low row limit n → n ≡ first_above row limit n
  stops_at_none low =
      sym (none_bad (λ j. leb (get_or row j 0) limit) n (λ j h. le→leb (get_or row j 0) limit (low j h)))

-- as an iterator finds it
pub first_above_position : (row : List ℕ) (limit n : ℕ) → n ≤ length row
    → unwrap_or (position (λ x. nat_lt limit x) (take n row)) n ≡ first_above row limit n
first_above_position row limit n enough =
    let first = first_bad_first (λ i. leb (get_or row i 0) limit) n in
    let i = first_above row limit n in
    let within : i ≤ n = first.within in
    let long = length-take-le n row enough in
    let at : position_or_len (λ x. nat_lt limit x) (take n row) ≡ i =
    position_or_len_is (λ x. nat_lt limit x) (take n row) i 0 (omega (arith, long))
    (λ k h. let there : k < n = omega arith in
    rw get_or-take (le-ltb limit (get_or row k 0) (leb→le (get_or row k 0) limit (first.before k h))))
    (λ h. let there : i < n = omega (arith, long) in
    rw get_or-take (lt-ltb limit (get_or row i 0) (leb-false (get_or row i 0) limit (first.fails there)))) in
    rw (at, long) (or_n i within)
  where
    or_n : (i : ℕ) → i ≤ n → unwrap_or (cond (nat_lt i n) (Some i) None) n ≡ i
    or_n i within = grind (arith, nat_tests)

-- either none of the first n is above the limit, or the one that is found is
pub first_above_found : (row : List ℕ) (limit n : ℕ)
    → (first_above row limit n ≡ n)
    ⊎ ((first_above row limit n < n) × (limit < get_or row (first_above row limit n) 0))
first_above_found row limit n =
    let good = λ (i : ℕ). leb (get_or row i 0) limit in
    let first = first_bad_first good n in
    elim (dec_le (suc (first_bad good n)) n) [
      | yes found ↦ inr (found, leb-false (get_or row (first_bad good n) 0) limit (first.fails found))
      | no none ↦ let within = first.within in inl (omega arith)
    ]

-- the same, of the first n as a part of the row
pub first_above_in : (row : List ℕ) (limit n : ℕ) → n ≤ length row
    → (first_above row limit n ≡ n)
    ⊎ ((first_above row limit n < length (take n row)) × (limit < get_or (take n row) (first_above row limit n) 0))
first_above_in row limit n enough = elim (first_above_found row limit n) [
  | inl none ↦ inl none
  | inr (found, above) ↦ inr (omega (arith, length-take-le n row enough), rw get_or-take above)
]

-- ---- block by block

-- the blocks up to one more
pub block_more : (b w : ℕ) → (b + 1) * w ≡ b * w + w
block_more b w = rw (add-one b) (suc-mul b w)

-- a place of a block is among all of them
pub block_within : (b w place n : ℕ) → b < n → place < w → b * w + place < n * w
block_within b w place n l h =
    let e = block_more b w in
    let m : (b + 1) * w ≤ n * w = mul-le-mul_right {m = b + 1} {n = n} w (omega arith) in
    omega arith

-- ---- the marks

-- either no needed mark is above 1, or the one that is found is
pub bad_mark_found : (s : Settings) (marks : List ℕ)
    → (bad_mark s marks ≡ marks_needed s)
    ⊎ ((bad_mark s marks < marks_needed s) × (1 < get_or marks (bad_mark s marks) 0))
bad_mark_found s marks = first_above_found marks 1 (marks_needed s)

-- the same, of the needed marks as a part of the row
pub bad_mark_in : (s : Settings) (marks : List ℕ) → marks_needed s ≤ length marks
    → (bad_mark s marks ≡ marks_needed s)
    ⊎ ((bad_mark s marks < length (take (marks_needed s) marks))
    × (1 < get_or (take (marks_needed s) marks) (bad_mark s marks) 0))
bad_mark_in s marks enough = first_above_in marks 1 (marks_needed s) enough
