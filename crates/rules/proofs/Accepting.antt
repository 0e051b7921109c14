-- What an accepted verdict tells: of the settings, the rows and the task, of the one access, and of the next record.
use mathlib.Core.{Path.{◌≡◌, sym, subst, ap}, Bool.false}
use Rattle.std.specs.Prelude.{Option, Ok, ℕ, ◌<◌}
use lib.Dec.{T}
use borrow.Author.Tests.{leb-false, not-false}
use Rattle.machine.specs.{Settings.permitted, Records.{state_in_range, turns_in_range, record_in_range}}
use Rattle.demands.specs.{Memory.Memory, Refusals.{wrong_moment, lent_cases, range_cases, task_cases, verdict}}
use Rattle.machine.specs.Turn.{access, next_record}
use Rattle.demands.specs.promises.OneAccess.{RegisterNeeded, Writable}
use Rattle.demands.proofs.{refusals.{Deciding.no_case, Passed.{Long, none_short_long}}, calls.OneAccess.access_needed}
use Rattle.machine.proofs.refusals.Limits.{limits}
use Rattle.machine.specs.declared.{Settings.Settings, View.View, Record.Record, Access.Access, Kind.Kind}
use Rattle.registers.specs.Touching.{Accessed, touched, touching}
use Rattle.rules.specs.Decision.{Sees}
use Rattle.counting.proofs.Bools.{and_l}
use Rattle.demands.proofs.calls.Fitting as fitting

pub record SeenPassed (s : Settings) (kind : Kind) (p : ℕ) (seen : View) (m : Memory) : Type 0 where
  pub limits : T (permitted s)
  pub long : Long s seen.length m
  pub known : p < s.n
  pub moment : wrong_moment kind seen.own.state ≡ false
  pub own_in_range : T (record_in_range s seen.own)
  pub state_good : T (state_in_range s seen.own.state)

pub seen_passed : (s : Settings) (kind : Kind) (p : ℕ) (seen : View) (m : Memory) → Sees s p seen
    → verdict s kind p seen m ≡ Ok tt → SeenPassed s kind p seen m
seen_passed s kind p seen m sees e =
    let (inside, (short, (records, (x_numbers, (mark_row, (unknown, (lived, (moment, last)))))))) =
    no_case (lent_cases s seen m (range_cases s seen m (task_cases s kind p seen))) e in
    let known = leb-false s.n p unknown in
    record {
      limits = subst T (sym (not-false (permitted s) inside)) tt;
      long = none_short_long s seen.length m short;
      known = known;
      moment = moment;
      own_in_range = sees records known;
      state_good = and_l (state_in_range s seen.own.state) (turns_in_range s seen.own.state seen.own.turns)
          (sees records known);
    }

module _ {s : Settings} {kind : Kind} {p : ℕ} {seen : View} {m : Memory} (ok : SeenPassed s kind p seen m)
    (touch : Option Access)
    (is : touch ≡ access s kind p seen.own.state) where
  -- the access is of a register that is needed
  pub touch_needed : RegisterNeeded s touch
  touch_needed = rw is (access_needed s (limits s ok.limits) p ok.known kind seen.own.state
      ok.state_good)

  -- and what it writes may stand there
  pub touch_writable : Writable s touch
  touch_writable = rw is (fitting.access_writes s (limits s ok.limits) kind p seen.own.state ok.known)

  -- the record after it is in range
  pub next_in_range : (v : ℕ) (left : Memory) (new : Record) → touched v left ≡ touching s touch m
      → new ≡ next_record s kind p seen.own v → T (state_in_range s new.state)
  next_in_range v left new read stands =
      let value = ap (λ (t : Accessed). t.value) read in
      let good =
      fitting.next_in_range s (limits s ok.limits) kind p seen.own.state m ok.moment ok.state_good in
      rw (stands, value, is) good
