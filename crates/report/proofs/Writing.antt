-- Laws of writing one piece of a line after another.
use mathlib.Core.{Path.{◌≡◌, ap, ◌∙◌}, List.{List, ◌++◌}}
use Prim.Native.Nat.{ℕ, ◌+◌, ◌≤◌, ◌<◌, ◌^◌}
use native.Mathlib.Omega.{arith}
use lib.ListN.{length, length-append}
use Rattle.text.specs.{Decimal.decimal, Put.{put, Puts}}
use Rattle.text.proofs.{Putting.{length_put, put_append, puts_determined}, Digits.digits_at_most}
use Rattle.report.specs.Writes.{Writes}

-- a 16-bit number has at most five digits
pub five_digits : (n : ℕ) → n < 2 ^ 16 → length (decimal n) ≤ 5
five_digits n l = digits_at_most 4 n (omega arith)

-- and a 32-bit number at most ten
pub ten_digits : (n : ℕ) → n < 2 ^ 32 → length (decimal n) ≤ 10
ten_digits n l = digits_at_most 9 n (omega arith)

module _ {a : ℕ} {room x after : List ℕ} {at mid : ℕ} (w : Writes a room at x mid after) (b : ℕ)
    (fits : at + (a + b) ≤ length room) where
  same_long : length after ≡ length room
  same_long =
      let p = w.puts in
      let short = w.short in
      ap length p.room_after ∙ length_put room at x (omega arith)

  -- what is left of the room serves the rest
  pub next : mid + b ≤ length after
  next =
      let p = w.puts in
      let past = p.past in
      let short = w.short in
      let long = same_long in
      omega arith

  -- one piece after another is the two as one
  both : {y end : List ℕ} {to : ℕ} → Writes b after mid y to end → Writes (a + b) room at (x ++ y) to end
  both {y} {end} {to} v =
      let p = w.puts in
      let q = v.puts in
      let past = p.past in
      let past' = q.past in
      let short = w.short in
      let short' = v.short in
      let long = length-append x y in
      record {
        puts = record {
          past = omega arith;
          room_after = q.room_after ∙ ap (λ (l : List ℕ). put l mid y) p.room_after
              ∙ put_append room at x y mid past (omega arith);
        };
        short = omega arith;
      }

  -- one piece, and then the rest in what is left of the room
  pub then : {y end : List ℕ} {to : ℕ} → (mid + b ≤ length after → Writes b after mid y to end)
      → Writes (a + b) room at (x ++ y) to end
  then rest = both (rest next)

-- a bound on the text, and a larger one
pub within : {room text after : List ℕ} {at to : ℕ} → Puts room at text to after → (most : ℕ) → length text ≤ most
    → Writes most room at text to after
within p most l = record { puts = p; short = l }

pub wider : {a : ℕ} {room text after : List ℕ} {at to : ℕ} → Writes a room at text to after → (most : ℕ) → a ≤ most
    → Writes most room at text to after
wider w most l = let short = w.short in record { puts = w.puts; short = omega arith }

-- two rooms that the contract of a line admits are equal, and so are the two indices
pub writes_determined : (most : ℕ) (room : List ℕ) (at : ℕ) (text : List ℕ) (to to' : ℕ) (after after' : List ℕ)
    → Writes most room at text to after → Writes most room at text to' after' → (to ≡ to') × (after ≡ after')
writes_determined most room at text to to' after after' p q =
    puts_determined room at text to to' after after' p.puts q.puts
