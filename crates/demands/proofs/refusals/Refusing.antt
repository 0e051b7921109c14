-- Each number of refusal is answered exactly when its line is the first that holds, 3 tells the first bad value, and a
-- refusal changes nothing.
use mathlib.Core.{Path.{◌≡◌, refl, sym, ap, subst}, Logic.{inl, inr, ⊎_elim, ◌↔◌}, Bool.false}
use mathlib.Core.List.{List, [], ◌∷◌, ◌++◌}
use Rattle.std.specs.Prelude.{None, Ok, Err, ℕ, ◌≤◌}
use native.Mathlib.Omega.{arith}
use lib.{Dec.T, ListN.length}
use Rattle.demands.specs.Memory.{Memory, state_of, turns_in, view_of}
use Rattle.demands.specs.Refusals.{Case, when, first, lent_cases, range_cases, task_cases, outside_limits, row_short}
use Rattle.demands.specs.Refusals.{no_such_task, one_time_release, wrong_moment, moment, too_many_out, row_busy}
use Rattle.demands.specs.Refusals.{Verdict, setup_verdict}
use Rattle.demands.specs.Answers.{Reply, told_said, said, shown_in, is_accepted, plain}
use Rattle.demands.specs.Calls.{Outcome, accept, refuse_or, verdict_of, call, cleared, setup}
use Rattle.machine.specs.promises.Ranges.{WithinLimits, StateWithin, TurnsWithin}
use Rattle.demands.specs.promises.Refusing.{Line, line, FirstHolds, RefusedExactly, SomeBusy, task_lines}
use Rattle.demands.specs.promises.Refusing.{lent_lines, range_lines, setup_lines, call_lines, TellsFirstBad}
use Rattle.demands.specs.promises.Refusing.{in_records, in_xs, in_marks, call_says, setup_says, CallRefused}
use Rattle.demands.specs.promises.Refusing.{RefusalExact, RefusedChangesNothing}
use Rattle.machine.specs.declared.{Settings.Settings, State.{State}}
use Rattle.machine.specs.declared.{Record.Record, Event.Event}
use Rattle.machine.specs.declared.{Row.TheVariants.{Records, Xs, Marks}, View.View}
use Rattle.machine.specs.declared.Refusal.TheVariants.{BusyRow, NoSuchTask, OneTime, TooManyOut}
use Rattle.machine.specs.declared.Told.{Told, TheVariants.{Done, Seeks, Holds, Freed}}
use Rattle.machine.proofs.refusals.{Limits.limits_tested, RecordLines.busy_how, Numbered.refusal_says}
use Rattle.demands.proofs.refusals.Lines.{short_line, release_line, idle_line, seeking_line, holding_line}
use Rattle.demands.proofs.refusals.Lines.{out_tested, out_line, moment_cases, moment_as_three}
use Rattle.demands.proofs.refusals.BadValue.{found_line, first_found}
use Rattle.demands.proofs.refusals.Deciding.{decide_alike, not_first, Are, refused_exactly, refusal_keeps}
use Rattle.counting.proofs.Tested.{Tested, most, either, fails, meaning, passes, misses, cannot_fail}

-- ---- what answers say

-- an answer is accepted exactly if its number is 0
told_zero : (told : Told) → (told_said told).number ≡ 0
told_zero Done = refl
told_zero Seeks = refl
told_zero (Holds name) = refl
told_zero (Freed name) = refl

pub accepted_zero : (answer : Reply) → T (is_accepted answer) ↔ ((said answer).number ≡ 0)
accepted_zero (Ok answer) = (λ t. told_zero answer.told, λ e. tt)
accepted_zero (Err why) = (λ t. absurd t, λ e. let low = (refusal_says why).0 in absurd (omega arith))

-- what becomes of a call, and of a setup, that is accepted
abbrev pub ruled : Settings → Event → Memory → Outcome
ruled s event m = accept s event.kind event.task.0 (state_of m event.task.0) m

abbrev pub started : Settings → Memory → Outcome
started s m = record { answer = plain Done; memory = cleared s m }

pub ruled_accepted : (s : Settings) (event : Event) (m : Memory) → T (is_accepted (ruled s event m).answer)
ruled_accepted s event m = tt

-- ---- the cases of the definitions are the lines of the table

-- settings that are not outside the limits are within
pub within : (s : Settings) → ((WithinLimits s → ⊥) → ⊥) → WithinLimits s
within s = cannot_fail (limits_tested s)

-- 1 and 2, whichever task looks; what follows is tested within the limits
lent_are : (s : Settings) (p : ℕ) (m : Memory) (cases : List Case) (lines : List Line)
    → (WithinLimits s → Are cases lines)
    → Are (lent_cases s (view_of s m.records p) m cases) (lent_lines s m lines)
lent_are s p m cases lines rest = (
  record { numbered = refl; tested = fails (limits_tested s) },
  λ fair. (record { numbered = refl; tested = short_line s (within s fair) m }, λ whole. rest (within s fair)),
)

module _ (s : Settings) (event : Event) (m : Memory) where
  abbrev seen : View
  seen = view_of s m.records event.task.0

  abbrev own : State
  own = state_of m event.task.0

  -- 3
  range_are : (l : WithinLimits s) (cases : List Case) (lines : List Line) → Are cases lines
      → Are (range_cases s seen m cases) (range_lines s m lines)
  range_are l cases lines rest = (
    record { numbered = refl; tested = found_line s l m Records },
    λ records. (
      record { numbered = refl; tested = found_line s l m Xs },
      λ xs. (record { numbered = refl; tested = found_line s l m Marks }, λ marks. rest),
    ),
  )

  -- 4, 5 and 7; between them 15 to 17 one by one
  abbrev earlier : List Case
  earlier = when (no_such_task s event.task.0) NoSuchTask ∷ when (one_time_release s event.kind) OneTime ∷ []

  abbrev later : List Case
  later = when (too_many_out s event.kind seen.out) TooManyOut ∷ []

  abbrev each_case : List Case
  each_case = earlier ++ moment_cases event.kind own later

  task_are : Are each_case (task_lines s event m)
  task_are = (
    record { numbered = refl; tested = most s.n event.task.0 },
    λ known. (
      record { numbered = refl; tested = release_line s event.kind },
      λ lived. (
        record { numbered = refl; tested = idle_line event.kind own },
        λ idle. (
          record { numbered = refl; tested = seeking_line event.kind own },
          λ seeking. (
            record { numbered = refl; tested = holding_line event.kind own },
            λ holding. (record { numbered = refl; tested = out_line s event.kind m }, λ room. tt),
          ),
        ),
      ),
    ),
  )

  call_are : Are (lent_cases s seen m (range_cases s seen m each_case)) (call_lines s event m)
  call_are = lent_are s event.task.0 m (range_cases s seen m each_case) (range_lines s m (task_lines s event m))
      (λ l. range_are l each_case (task_lines s event m) task_are)

  -- the definitions' tests of the task are these, in this order
  abbrev own_cases : List Case
  own_cases = task_cases s event.kind event.task.0 seen

  task_each : first own_cases ≡ first each_case
  task_each = decide_alike earlier (when (wrong_moment event.kind own) (moment own) ∷ later)
      (moment_cases event.kind own later) (moment_as_three event.kind own later)

  verdict_each : verdict_of s event m ≡ first (lent_cases s seen m (range_cases s seen m each_case))
  verdict_each = decide_alike (lent_cases s seen m (range_cases s seen m [])) own_cases each_case task_each

  call_exactly : RefusedExactly (call_says s event m) (call_lines s event m)
  call_exactly =
      subst (λ v. RefusedExactly (said (refuse_or v m (ruled s event m)).answer) (call_lines s event m))
      (sym verdict_each)
      (refused_exactly (λ v. said (refuse_or v m (ruled s event m)).answer)
      ((accepted_zero (ruled s event m).answer).0 (ruled_accepted s event m)) (λ why. refl)
      (lent_cases s seen m (range_cases s seen m each_case)) (call_lines s event m) call_are)

  -- ---- 3 tells the first bad value

  tells_first_bad : FirstHolds (call_lines s event m) 3 → TellsFirstBad s m (call_says s event m).values
  tells_first_bad (inl (limits, e)) = absurd (omega arith)
  tells_first_bad (inr (fair, inl (short, e))) = absurd (omega arith)
  tells_first_bad (inr (fair, inr (long, three))) = rw (inside, whole) (go three)
    where
      l : WithinLimits s
      l = within s fair

      inside : outside_limits s ≡ false
      inside = misses (fails (limits_tested s)) fair

      whole : row_short s (length m.records) m ≡ false
      whole = misses (short_line s l m) long

      go : FirstHolds (range_lines s m (task_lines s event m)) 3
          → TellsFirstBad s m
          (said (refuse_or (first (range_cases s seen m own_cases)) m (ruled s event m)).answer).values
      go (inl (bad, e)) = rw (passes (found_line s l m Records) bad)
          (in_records (first_found s l m Records ((found_line s l m Records).shows bad)))
      go (inr (records, inl (bad, e))) =
          rw (misses (found_line s l m Records) records, passes (found_line s l m Xs) bad)
          (in_xs records (first_found s l m Xs ((found_line s l m Xs).shows bad)))
      go (inr (records, inr (xs, inl (bad, e)))) =
          rw (
            misses (found_line s l m Records) records,
            misses (found_line s l m Xs) xs,
            passes (found_line s l m Marks) bad,
          )
          (in_marks records xs (first_found s l m Marks ((found_line s l m Marks).shows bad)))
      go (inr (records, inr (xs, inr (marks, task)))) = absurd (not_first 3 (task_lines s event m) tt task)

  pub call_refused : CallRefused s event m
  call_refused = record {
    exactly = call_exactly;
    three_adds = λ three. tells_first_bad ((call_exactly.refused 3 (omega arith)).0 three);
  }

-- ---- setup

-- 18: a record of the N is other than idle
busy_line : (s : Settings) → WithinLimits s → (m : Memory)
    → Tested (row_busy s (view_of s m.records 0)) (SomeBusy s m)
busy_line s l m = meaning (either (out_tested s m) (found_line s l m Records)) (
  ⊎_elim (λ (p, low, out). (p, low, λ e. out (ap (λ (r : Record). r.state) e)))
      (λ (p, (low, bad)). (
        p,
        low,
        λ e. bad (subst
            (λ (r : Record). StateWithin s r.state × TurnsWithin s r.state r.turns) (sym e) (tt, refl)),
      )),
  λ (p, low, other). ⊎_elim (λ out. inl (p, low, out)) (λ bad. inr (p, (low, bad)))
      (busy_how s (state_of m p) (turns_in m p) other),
)

pub setup_exactly : (s : Settings) (m : Memory) → RefusedExactly (setup_says s m) (setup_lines s m)
setup_exactly s m =
    refused_exactly (λ v. said (refuse_or v m (started s m)).answer) refl (λ why. refl)
    (lent_cases s (view_of s m.records 0) m (when (row_busy s (view_of s m.records 0)) BusyRow ∷ [])) (setup_lines s m)
    (lent_are s 0 m (when (row_busy s (view_of s m.records 0)) BusyRow ∷ []) (line 18 (SomeBusy s m) ∷ [])
    (λ l. (record { numbered = refl; tested = busy_line s l m }, λ idle. tt)))

-- ---- and shows no access

call_shows_none : (s : Settings) (event : Event) (m : Memory) → 1 ≤ (call_says s event m).number
    → shown_in (call s event m).answer ≡ None
call_shows_none s event m low =
    refusal_keeps (λ v. said (refuse_or v m (ruled s event m)).answer)
    ((accepted_zero (ruled s event m).answer).0 (ruled_accepted s event m)) (λ why. refl)
    (λ v. shown_in (refuse_or v m (ruled s event m)).answer) None (λ why. refl) (verdict_of s event m) low

setup_shows_none : (s : Settings) (m : Memory) → shown_in (setup s m).answer ≡ None
setup_shows_none s m = go (setup_verdict s (view_of s m.records 0) m)
  where
    go : (v : Verdict) → shown_in (refuse_or v m (started s m)).answer ≡ None
    go (Ok accepted) = refl
    go (Err why) = refl

pub refusal_exact : RefusalExact
refusal_exact = record {
  calls = call_refused;
  setups = setup_exactly;
  calls_show_none = call_shows_none;
  setups_show_none = setup_shows_none;
  acceptance = accepted_zero;
  numbered = λ why. refl;
  six_retired = λ why. (refusal_says why).2;
}

-- ---- a refusal changes nothing

unchanged : (m : Memory) (outcome : Outcome) → (said outcome.answer).number ≡ 0 → (v : Verdict)
    → 1 ≤ (said (refuse_or v m outcome).answer).number
    → (refuse_or v m outcome).memory ≡ m
unchanged m outcome zero = refusal_keeps (λ v. said (refuse_or v m outcome).answer) zero (λ why. refl)
    (λ v. (refuse_or v m outcome).memory) m (λ why. refl)

pub refused_changes_nothing : RefusedChangesNothing
refused_changes_nothing = record {
  calls = λ s event m. unchanged m (ruled s event m)
      ((accepted_zero (ruled s event m).answer).0 (ruled_accepted s event m)) (verdict_of s event m);
  setups = λ s m. unchanged m (started s m) refl (setup_verdict s (view_of s m.records 0) m);
}
