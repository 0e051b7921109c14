-- What an accepted setup leaves: a memory that passes the tests 1 to 3, with every task idle.
use mathlib.Core.{Path.{◌≡◌, refl, sym, ap, subst, ◌∙◌}, List.List}
use Prim.Native.Nat.{ℕ, ◌≤◌, ◌<◌, zero-le}
use Rattle.std.specs.Prelude.{Ok, Err}
use native.Mathlib.Omega.{arith}
use lib.Dec.{T, le→leb}
use lib.ListN.{length, get_or, replicate, drop, length-append, length-replicate, get_or-replicate, get_or-append}
use Rattle.machine.specs.{Places.blocks, Records.{idle, is_out, turns_in_range}}
use Rattle.demands.specs.Memory.{Memory, marks_needed, record_of, state_of, turns_in, out_of, view_of, fill}
use Rattle.demands.specs.{Refusals.{Verdict, setup_verdict}, Answers.{Reply, said, plain}}
use Rattle.demands.specs.Calls.{refuse_or, cleared, setup}
use Rattle.demands.specs.promises.{Demands.SetUp, Refusing.{NoneHolds, setup_lines}}
use Rattle.machine.specs.promises.Ranges.{WithinLimits}
use Rattle.machine.specs.declared.{Settings.Settings, State.TheVariants.Idle, Record.Record}
use Rattle.machine.specs.declared.{Told.Told}
use Rattle.demands.proofs.refusals.{Lines.short_line, Refusing.{within, started, setup_exactly}}
use Rattle.demands.proofs.refusals.Passed.{Long, Fit, none_short_long}
use Rattle.machine.proofs.refusals.RecordLines.{idle_record_tested}
use Rattle.counting.proofs.{Tested.{misses, cannot_fail}, Searching.count_none}

-- ---- rows that were filled

pub fill_long : {A : Type 0} (n : ℕ) (a : A) (l : List A) → n ≤ length (fill n a l)
fill_long n a l = rw (length-append (replicate n a) (drop n l), length-replicate n a) (omega arith)

pub fill_at : {A : Type 0} (n i : ℕ) (a d : A) (l : List A) → i < n → get_or (fill n a l) i d ≡ a
fill_at n i a d l h =
    let room : i < length (replicate n a) = rw (length-replicate n a) h in
    get_or-append (replicate n a) (drop n l) d i room ∙ get_or-replicate n i a d h

-- ---- an accepted setup

module _ (s : Settings) (lent : Memory) (ok : SetUp s lent) where
  -- it meets no line of its table
  met_none : NoneHolds (setup_lines s lent)
  met_none = (setup_exactly s lent).accepted.0 (ap (λ (answer : Reply). (said answer).number) ok)

  pub setup_within : WithinLimits s
  setup_within = within s met_none.0

  pub lent_long : Long s (length lent.records) lent
  lent_long =
      none_short_long s (length lent.records) lent (misses (short_line s setup_within lent) met_none.1.0)

  -- the records were idle before
  pub lent_fresh : (p : ℕ) → p < s.n → record_of lent p ≡ idle
  lent_fresh p l =
      cannot_fail (idle_record_tested (state_of lent p) (turns_in lent p)) (λ other. met_none.1.1.0 (p, l, other))

  pub lent_idle : (p : ℕ) → p < s.n → state_of lent p ≡ Idle
  lent_idle p l = ap (λ (r : Record). r.state) (lent_fresh p l)

  pub setup_memory : (setup s lent).memory ≡ cleared s lent
  setup_memory = go (setup_verdict s (view_of s lent.records 0) lent) ok
    where
      go : (v : Verdict) → (refuse_or v lent (started s lent)).answer ≡ plain Told.Done
          → (refuse_or v lent (started s lent)).memory ≡ cleared s lent
      go (Ok accepted) e = refl
      go (Err why) e =
          absurd (let z : ◌≡◌ {A = ℕ} 0 1 = cc in omega arith)

  pub fresh_fit : Fit s (setup s lent).memory
  fresh_fit = rw setup_memory (record {
    long = record {
      records = lent_long.records;
      xs = fill_long (blocks s) 0 lent.xs;
      marks = fill_long (marks_needed s) 0 lent.marks;
    };
    in_range = record {
      records = λ p l. rw (lent_idle p l) tt;
      turns = λ p l. subst (λ (r : Record). T (turns_in_range s r.state r.turns)) (sym (lent_fresh p l)) tt;
      xs = λ block l. rw (fill_at (blocks s) block 0 0 lent.xs l) (le→leb 0 s.n zero-le);
      marks = λ index l. rw (fill_at (marks_needed s) index 0 0 lent.marks l) tt;
    };
  })

  pub fresh_idle : (p : ℕ) → p < s.n → state_of (setup s lent).memory p ≡ Idle
  fresh_idle p l = rw setup_memory (lent_idle p l)

  pub fresh_none_out : out_of s (setup s lent).memory.records ≡ 0
  fresh_none_out = rw setup_memory (count_none (λ p. is_out (state_of lent p)) s.n (λ p l. rw (lent_idle p l)))
