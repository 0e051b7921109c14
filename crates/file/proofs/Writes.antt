-- A schedule that the writer accepts.
use mathlib.Core.{Path.{◌≡◌, sym}, Bool.{true, false}, List.{List, ◌++◌}}
use Prim.Native.Nat.{ℕ, ◌≤◌}
use Rattle.std.specs.Prelude.{Ok}
use native.Mathlib.Omega.{arith}
use lib.ListN.{length, drop}
use borrow.Author.Tests.{le-ltb}
use Rattle.machine.specs.{Settings.permitted, declared.{Settings.Settings}}
use Rattle.counting.specs.Counting.{any_below}
use Rattle.file.specs.File.{most_events, file_length, number_bad, file_bytes, Written, writing}
use Rattle.file.proofs.Lengths.{length_file}

-- it passes the tests 1, 11 and 12
pub record Writable (s : Settings) (numbers : List ℕ) : Type 0 where
  pub limits : permitted s ≡ true
  pub few : length numbers ≤ most_events
  pub codes : any_below (number_bad numbers) (length numbers) ≡ false

-- a room with the file's bytes at its start, and their count
abbrev pub filled : List ℕ → List ℕ → Written
filled file room = record { answer = Ok (length file); room = file ++ drop (length file) room }

-- into a room that is long enough a writable schedule is written
pub writable_written : (s : Settings) (numbers room : List ℕ) → Writable s numbers
    → length (file_bytes s numbers) ≤ length room
    → writing s numbers room ≡ filled (file_bytes s numbers) room
writable_written s numbers room good fits =
    let long : file_length (length numbers) ≤ length room = omega (arith, length_file s numbers) in
    rw (good.limits, le-ltb _ _ good.few, good.codes, le-ltb _ _ long, sym (length_file s numbers))
