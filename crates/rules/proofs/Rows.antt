-- What it says that the tests of what is lent pass, and the verdict by its parts.
use mathlib.Core.{Path.{◌≡◌, refl, sym, ap, subst, ◌∙◌}, Bool.{Bool, true, false, cond}, List.{List, [], ◌∷◌}}
use Rattle.std.specs.Prelude.{Ok, Err, ℕ}
use lib.Dec.{T, ltb}
use borrow.Author.Tests.{not-false}
use Rattle.machine.specs.{Settings.permitted, Places.blocks}
use Rattle.demands.specs.Memory.{Memory, marks_needed, bad_x, bad_mark}
use Rattle.demands.specs.Refusals.{Verdict, Case, when, first, outside_limits, row_short, row_busy, lent_cases}
use Rattle.demands.specs.Refusals.{range_cases}
use Rattle.demands.specs.Refusals.{task_cases, verdict, setup_verdict}
use Rattle.demands.proofs.refusals.{Deciding.no_case, Passed.{Long, none_short_long}}
use Rattle.machine.specs.declared.{Settings.Settings, View.View, Kind.Kind, Refusal.Refusal}

-- the two tests of what is lent pass
pub record LentPassed (s : Settings) (seen : View) (m : Memory) : Type 0 where
  pub limits : T (permitted s)
  pub none_is_short : row_short s seen.length m ≡ false
  pub long : Long s seen.length m

-- where a call's tests pass, those of what is lent do, whatever follows them
pub lent_passes : (s : Settings) (seen : View) (m : Memory) (rest : List Case)
    → first (lent_cases s seen m rest) ≡ Ok tt → LentPassed s seen m
lent_passes s seen m rest e =
    let (inside, (short, later)) = no_case (lent_cases s seen m rest) e in
    record {
      limits = subst T (sym (not-false (permitted s) inside)) tt;
      none_is_short = short;
      long = none_short_long s seen.length m short;
    }

-- ---- the verdicts by their parts

-- a first verdict, and if it passed, a second
abbrev pub then : Verdict → Verdict → Verdict
then (Ok accepted) later = later
then (Err why) later = Err why

two_then : (a b : Bool) (x y : Refusal) (later : Verdict)
    → cond a (Err x) (cond b (Err y) later)
    ≡ then (cond a (Err x) (cond b (Err y) (Ok tt))) later
two_then true b x y later = refl
two_then false true x y later = refl
two_then false false x y later = refl

three_then : (a b c : Bool) (x y z : Refusal) (later : Verdict)
    → cond a (Err x) (cond b (Err y) (cond c (Err z) later))
    ≡ then (cond a (Err x) (cond b (Err y) (cond c (Err z) (Ok tt)))) later
three_then true b c x y z later = refl
three_then false b c x y z later = two_then b c y z later

pub verdict_parts : (s : Settings) (kind : Kind) (p : ℕ) (seen : View) (m : Memory)
    → verdict s kind p seen m
    ≡ then (first (lent_cases s seen m []))
    (then (first (range_cases s seen m [])) (first (task_cases s kind p seen)))
verdict_parts s kind p seen m =
    two_then (outside_limits s) (row_short s seen.length m) Refusal.Limits Refusal.ShortRow
    (first (range_cases s seen m (task_cases s kind p seen)))
    ∙ ap (then (first (lent_cases s seen m [])))
    (three_then (ltb seen.bad s.n) (ltb (bad_x s m.xs) (blocks s)) (ltb (bad_mark s m.marks) (marks_needed s))
    _ _ _ (first (task_cases s kind p seen)))

pub setup_parts : (s : Settings) (seen : View) (m : Memory)
    → setup_verdict s seen m
    ≡ then (first (lent_cases s seen m [])) (first (when (row_busy s seen) Refusal.BusyRow ∷ []))
setup_parts s seen m =
    two_then (outside_limits s) (row_short s seen.length m) Refusal.Limits Refusal.ShortRow
    (first (when (row_busy s seen) Refusal.BusyRow ∷ []))
