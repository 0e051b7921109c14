-- What the test of a schedule's codes says of each of them.
use mathlib.Core.{Path.{◌≡◌, refl, sym}, Bool.{Bool, false}, List.{List, [], ◌∷◌}}
use Prim.Native.Nat.{ℕ, ◌/◌, ◌≤◌, ◌<◌}
use lib.{Dec.ltb, ListN.{length, get_or}}
use Rattle.std.{specs.List.list_any}
use borrow.Author.Tests.{ltb-false}
use Rattle.counting.{specs.Counting.any_below, proofs.Some.{none_below, any_first}}
use Rattle.file.specs.File.{number_bad}

-- where no event number below n has a code above 2, each has a code of 0 to 2
pub code_known : (events : List ℕ) (n i : ℕ) → any_below (number_bad events) n ≡ false → i < n
    → get_or events i 0 / 65536 ≤ 2
code_known events n i none l = ltb-false _ _ (none_below (number_bad events) n none i l)

-- whether some number of a list passes, looked for from its first on
any_listed : (test : ℕ → Bool) (numbers : List ℕ)
    → list_any test numbers ≡ any_below (λ i. test (get_or numbers i 0)) (length numbers)
any_listed test [] = refl
any_listed test (number ∷ numbers) =
    rw (any_listed test numbers)
    (sym (any_first (λ i. test (get_or (number ∷ numbers) i 0)) (length numbers)))

pub any_bad : (numbers : List ℕ)
    → list_any (λ number. ltb 2 (number / 65536)) numbers ≡ any_below (number_bad numbers) (length numbers)
any_bad numbers = any_listed (λ number. ltb 2 (number / 65536)) numbers
