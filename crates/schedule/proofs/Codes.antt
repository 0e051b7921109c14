-- What the test of a file's codes says of each of them.
use mathlib.Core.{Path.◌≡◌, Bool.false, List.List}
use Prim.Native.Nat.{ℕ, ◌+◌, ◌*◌, ◌≤◌, ◌<◌}
use lib.ListN.{get_or}
use borrow.Author.Tests.{ltb-false}
use Rattle.counting.{specs.Counting.any_below, proofs.Some.none_below}
use Rattle.file.specs.File.{code_bad}

-- where none of the first n events has a code above 2, each of them has a code of 0 to 2
pub code_known : (file : List ℕ) (n i : ℕ) → any_below (code_bad file) n ≡ false → i < n
    → get_or file (11 + 3 * i) 0 ≤ 2
code_known file n i none l = ltb-false _ _ (none_below (code_bad file) n none i l)
