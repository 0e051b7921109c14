-- A pass over the records, one record after the other.
use mathlib.Core.{Path.◌≡◌, List.List}
use Prim.Native.Nat.{ℕ, ◌+◌}
use native.Mathlib.Numerals.{add-one}
use lib.ListN.{get_or}
use Rattle.machine.specs.{Records.{idle, is_out, record_in_range}, declared.{Settings.Settings, Record.Record}}
use Rattle.std.proofs.lemmas.Bool.Decides.{nat_tests}
use Rattle.counting.specs.Counting.{tick, first_or, first_bad, count}

-- of the records before i: the first out of range, i where none is, and how many are out
abbrev pub bad_before : Settings → List Record → ℕ → ℕ
bad_before s row i = first_bad (λ p. record_in_range s (get_or row p idle)) i

abbrev pub out_before : Settings → List Record → ℕ → ℕ
out_before s row i = count (λ p. is_out (get_or row p idle).state) i

-- the record at i is seen after those before it
module _ (s : Settings) (row : List Record) (i : ℕ) where
  pub bad_next : bad_before s row (i + 1) ≡ first_or (bad_before s row i) i (record_in_range s (get_or row i idle))
  unfolding first_bad
  bad_next = rw add-one

  pub out_next : out_before s row (i + 1) ≡ tick (is_out (get_or row i idle).state) (out_before s row i)
  unfolding count
  out_next = rw add-one

pub ruleset passed = (bad_next, out_next, nat_tests)
