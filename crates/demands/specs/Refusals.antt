-- 01, "Numbers of refusal", and 02, P1 and P4: each case by itself, and the first of them in each call's order.
use mathlib.Core.{Bool.{Bool, false, not, ◌||◌, cond}, List.{List, [], ◌∷◌}}
use Rattle.std.specs.Prelude.{Result, Ok, Err, ℕ}
use lib.{Dec.{eqb, leb, ltb}, ListN.length}
use Rattle.machine.specs.{Settings.permitted, Places.blocks, Records.{is_idle, is_seeking, is_holding}}
use Rattle.demands.specs.Memory.{Memory, marks_needed, bad_x, bad_mark}
use Rattle.machine.specs.declared.{Settings.Settings, State.{State, TheVariants.{Idle, Seeking, Holding}}}
use Rattle.machine.specs.declared.Kind.{Kind, TheVariants.{Ask, Turn, Release}}
use Rattle.machine.specs.declared.Row.TheVariants.{Records, Xs, Marks}
use Rattle.machine.specs.declared.Refusal.{Refusal, TheVariants.{Limits, ShortRow, BusyRow, OutOfRange, NoSuchTask}}
use Rattle.machine.specs.declared.Refusal.TheVariants.{OneTime, TaskIdle, TaskSeeks, TaskHolds, TooManyOut}
use Rattle.machine.specs.declared.View.{View}

-- what the tests of a call say: that it is accepted, or why it is refused
abbrev pub Verdict : Type 0
Verdict = Result (Unit {0}) Refusal

-- a refusal, and whether its case holds
pub record Case : Type 0 where
  pub holds : Bool
  pub refusal : Refusal

abbrev pub when : Bool → Refusal → Case
when holds refusal = record { holds = holds; refusal = refusal }

-- the first of the cases that holds
abbrev pub first : List Case → Verdict
first [] = Ok tt
first (case ∷ cases) = cond case.holds (Err case.refusal) (first cases)

-- 1: settings outside the limits
abbrev pub outside_limits : Settings → Bool
outside_limits s = not (permitted s)

-- 2: a lent row is shorter than needed
abbrev pub row_short : Settings → ℕ → Memory → Bool
row_short s records m =
    ltb records s.n || (ltb (length m.xs) (blocks s) || ltb (length m.marks) (marks_needed s))

-- 3: a needed value is out of range: records first, then X, then marks, each with the index of the first bad value;
-- `rest` follows
abbrev pub range_cases : Settings → View → Memory → List Case → List Case
range_cases s seen m rest =
    when (ltb seen.bad s.n) (OutOfRange Records seen.bad)
    ∷ when (ltb (bad_x s m.xs) (blocks s)) (OutOfRange Xs (bad_x s m.xs))
    ∷ when (ltb (bad_mark s m.marks) (marks_needed s)) (OutOfRange Marks (bad_mark s m.marks))
    ∷ rest

-- 4: identifier ≥ N
abbrev pub no_such_task : Settings → ℕ → Bool
no_such_task s p = leb s.n p

-- 5: release in mode 0
abbrev pub one_time_release : Settings → Kind → Bool
one_time_release s Ask = false
one_time_release s Turn = false
one_time_release s Release = eqb s.mode 0

-- the moment is wrong: ask when not idle; turn when not seeking; release when not holding
abbrev pub wrong_moment : Kind → State → Bool
wrong_moment Ask state = not (is_idle state)
wrong_moment Turn state = not (is_seeking state)
wrong_moment Release state = not (is_holding state)

-- 15 to 17, by what the task is at then
abbrev pub moment : State → Refusal
moment Idle = TaskIdle
moment (Seeking stand) = TaskSeeks
moment (Holding place) = TaskHolds

-- 7: ask when k or more tasks are out
abbrev pub too_many_out : Settings → Kind → ℕ → Bool
too_many_out s Ask out = leb s.k out
too_many_out s Turn out = false
too_many_out s Release out = false

-- the cases in their order: what is lent, 1 and 2; what it holds, 3, above; the task, 4, 5, one of 15 to 17, 7
abbrev pub lent_cases : Settings → View → Memory → List Case → List Case
lent_cases s seen m rest =
    when (outside_limits s) Limits
    ∷ when (row_short s seen.length m) ShortRow
    ∷ rest

abbrev pub task_cases : Settings → Kind → ℕ → View → List Case
task_cases s kind p seen =
    when (no_such_task s p) NoSuchTask
    ∷ when (one_time_release s kind) OneTime
    ∷ when (wrong_moment kind seen.own.state) (moment seen.own.state)
    ∷ when (too_many_out s kind seen.out) TooManyOut
    ∷ []

-- 18: a record of the N is other than idle: its task is out, or it is out of range
abbrev pub row_busy : Settings → View → Bool
row_busy s seen = ltb 0 seen.out || ltb seen.bad s.n

-- setup tests 1, 2, 18
abbrev pub setup_verdict : Settings → View → Memory → Verdict
setup_verdict s seen m = first (lent_cases s seen m (when (row_busy s seen) BusyRow ∷ []))

-- the other calls all but 18
abbrev pub verdict : Settings → Kind → ℕ → View → Memory → Verdict
verdict s kind p seen m = first (lent_cases s seen m (range_cases s seen m (task_cases s kind p seen)))
