-- A count along the row of records is the count of the tasks below N.
use mathlib.Core.{Path.{◌≡◌, refl, sym}, Bool.{Bool, true, false}, List.List}
use Prim.Native.Nat.{ℕ, zero, suc, ◌≤◌}
use native.Mathlib.{Numerals.add-one, Omega.arith}
use lib.ListN.{length, get_or, take}
use Rattle.std.specs.List.{count_by}
use Rattle.std.proofs.lemmas.List.Sums.{count_by_more_yes, count_by_more_no}
use Rattle.machine.specs.{Records.idle, declared.Record.Record}
use Rattle.counting.specs.Counting.{tick, count}

pub counted : (test : Record → Bool) (records : List Record) (n : ℕ) → n ≤ length records
    → count_by test (take n records) ≡ count (λ p. test (get_or records p idle)) n
unfolding count
counted test records zero l = refl
counted test records (suc n) l = go (test (get_or records n idle)) refl (counted test records n (omega arith))
  where
    go : (yes : Bool) → test (get_or records n idle) ≡ yes
        → count_by test (take n records) ≡ count (λ p. test (get_or records p idle)) n
        → count_by test (take (suc n) records)
        ≡ tick (test (get_or records n idle)) (count (λ p. test (get_or records p idle)) n)
    go true e before =
        rw (e, sym before, sym (add-one n), sym (add-one (count_by test (take n records))))
        (count_by_more_yes test records n idle (omega arith) e)
    go false e before =
        rw (e, sym before, sym (add-one n)) (count_by_more_no test records n idle (omega arith) e)
