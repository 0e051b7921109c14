-- Laws of writing one piece of a line after another on a page.
use mathlib.Core.{Path.{◌≡◌, subst, ◌∙◌}, List.{List, ◌++◌}}
use Prim.Native.Nat.{ℕ, ◌+◌, ◌≤◌, ◌<◌, ◌^◌}
use lib.ListN.{length}
use Rattle.text.specs.{Decimal.decimal}
use Rattle.text.proofs.Putting.{puts_determined}
use Rattle.report.specs.{declared.Page.Page, Pages.{Adds, Fits}}
use Rattle.report.proofs.Writing as writing
use Rattle.report.proofs.Writing.{five_digits, ten_digits, within}

module _ {page after : Page} {a : ℕ} {x : List ℕ} (w : Adds a page x after) where
  -- another bound on the text, and the text said in another way
  pub at_most : (most : ℕ) → length x ≤ most → Adds most page x after
  at_most most l = record { same = w.same; long = w.long; line = within w.line.puts most l }

  pub wider : (most : ℕ) → a ≤ most → Adds most page x after
  wider most l = record { same = w.same; long = w.long; line = writing.wider w.line most l }

  pub said : {y : List ℕ} → x ≡ y → Adds a page y after
  said e = subst (λ text. Adds a page text after) e w

  -- what is left of the page serves the rest
  pub next : (b : ℕ) → Fits (a + b) page → Fits b after
  next b fits = writing.next w.line b fits

  -- one piece, and then the rest in what is left of the page
  pub then : (b : ℕ) → Fits (a + b) page → {end : Page} {y : List ℕ} → (Fits b after → Adds b after y end)
      → Adds (a + b) page (x ++ y) end
  then b fits rest =
      let v = rest (next b fits) in record {
        same = v.same ∙ w.same;
        long = v.long ∙ w.long;
        line = writing.then w.line b fits (λ more. v.line);
      }

module _ {page after : Page} where
  -- a number of 16 bits, and one of 32
  pub short : {m n : ℕ} → Adds (length (decimal m)) page (decimal m) after → m ≡ n → n < 2 ^ 16
      → Adds 5 page (decimal n) after
  short {m} {n} w e l = let long = five_digits n l in rw e at (at_most w 5 (rw e long))

  pub long : {n : ℕ} → Adds (length (decimal n)) page (decimal n) after → n < 2 ^ 32 → Adds 10 page (decimal n) after
  long {n} w l = at_most w 10 (ten_digits n l)

-- two pages that the contract of a line admits are written alike, as far as the same index
pub adds_determined : (most : ℕ) (page : Page) (text : List ℕ) (after after' : Page) → Adds most page text after
    → Adds most page text after' → (after.at ≡ after'.at) × (after.room.now ≡ after'.room.now)
adds_determined most page text after after' p q =
    puts_determined page.room.now page.at text after.at after'.at after.room.now after'.room.now p.line.puts q.line.puts
