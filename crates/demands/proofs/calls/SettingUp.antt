-- Setup is done exactly where the settings are permitted, the rows long enough and the records idle, and clears what is
-- needed.
use mathlib.Core.{Path.{◌≡◌, refl, ap, ap₂, ◌∙◌}, List.{List, [], ◌∷◌}}
use Prim.Native.Nat.{ℕ, zero, suc, ◌≤◌, ◌<◌}
use Rattle.std.specs.Prelude.{Err, Ok}
use native.Mathlib.{Nat.{not-suc-le-zero, le_of_suc-le-suc}, Omega.arith}
use lib.{Dec.T, ListN.{length, get_or, take, replicate}}
use Rattle.machine.specs.{Places.blocks, Records.idle}
use Rattle.demands.specs.{Memory.{Memory, marks_needed, view_of}, Refusals.{Verdict, setup_verdict}}
use Rattle.demands.specs.{Answers.{Reply, said, is_accepted, plain}, Calls.{refuse_or, setup}}
use Rattle.machine.specs.declared.{Settings.Settings, Record.Record}
use Rattle.machine.specs.declared.{Told.Told}
use Rattle.demands.specs.promises.{Refusing.{NoneHolds, setup_lines, setup_says}, Surplus.needed}
use Rattle.demands.specs.promises.SettingUp.{clear, EachSetupClears}
use Rattle.demands.proofs.calls.{Fresh.{setup_memory, lent_long, lent_fresh}, Surplus.{same_rows, fill_needed}}
use Rattle.demands.proofs.refusals.Refusing.{accepted_zero, started, setup_exactly}

-- idle records, one by one and together
all_idle : (records : List Record) (n : ℕ) → n ≤ length records
    → ((p : ℕ) → p < n → get_or records p idle ≡ idle) → take n records ≡ replicate n idle
all_idle records zero long each = refl
all_idle [] (suc n) long each = absurd (not-suc-le-zero long)
all_idle (first ∷ records) (suc n) long each =
    ap₂ (λ (one : Record) (rest : List Record). one ∷ rest) (each 0 (omega arith))
    (all_idle records n (le_of_suc-le-suc long) (λ p l. each (suc p) (omega arith)))

module _ (s : Settings) (m : Memory) where
  -- what an accepted setup answers
  accepted_done : (setup_says s m).number ≡ 0 → (setup s m).answer ≡ plain Told.Done
  accepted_done e = go (setup_verdict s (view_of s m.records 0) m) ((accepted_zero (setup s m).answer).1 e)
    where
      go : (verdict : Verdict) → T (is_accepted (refuse_or verdict m (started s m)).answer)
          → (refuse_or verdict m (started s m)).answer ≡ plain Told.Done
      go (Ok accepted) t = refl
      go (Err why) t = absurd t

  lent_done : NoneHolds (setup_lines s m) → (setup s m).answer ≡ plain Told.Done
  lent_done none = accepted_done ((setup_exactly s m).accepted.1 none)

  done_lent : (setup s m).answer ≡ plain Told.Done → NoneHolds (setup_lines s m)
  done_lent e = (setup_exactly s m).accepted.0 (ap (λ (answer : Reply). (said answer).number) e)

  clears : NoneHolds (setup_lines s m) → needed s (setup s m).memory ≡ clear s
  clears none =
      ap (needed s) (setup_memory s m (lent_done none))
      ∙ same_rows
      (all_idle m.records s.n (lent_long s m (lent_done none)).records (lent_fresh s m (lent_done none)))
      (fill_needed (blocks s) 0 m.xs)
      (fill_needed (marks_needed s) 0 m.marks)

-- accepted or not, setup writes no record
records_stay : (s : Settings) (m : Memory) → (setup s m).memory.records ≡ m.records
records_stay s m = go (setup_verdict s (view_of s m.records 0) m)
  where
    go : (verdict : Verdict) → (refuse_or verdict m (started s m)).memory.records ≡ m.records
    go (Ok accepted) = refl
    go (Err why) = refl

pub setup_clears : EachSetupClears
setup_clears s m = record {
  done = (done_lent s m, lent_done s m);
  clears = clears s m;
  writes_no_record = records_stay s m;
}
