-- The table of 01's starred edges, proved: the runs with fixed N and k by computing them, the open ones from what an
-- accepted setup leaves.
use mathlib.Core.{Path.{◌≡◌, refl, ap, ◌∙◌}, Logic.{inl, inr, ⊎_elim}, Bool.{Bool, true, false, cond, ◌&&◌}}
use Prim.Native.Nat.{ℕ, ◌<◌}
use Rattle.std.specs.Prelude.{Ok}
use native.Mathlib.Omega.{arith}
use lib.Dec.{eqb}
use borrow.Author.Tests.{le-leb, lt-leb}
use Rattle.grid.specs.Triangle.{half, place_number, diagonal_number}
use Rattle.counting.{specs.Counting.{count, first_bad}, proofs.Tested.misses}
use Rattle.demands.specs.{Memory.Memory, Answers.{is_accepted, plain}}
use Rattle.demands.specs.Calls.{call, setup, verdict_of, ask, release}
use Rattle.machine.specs.promises.Ranges.{WithinLimits}
use Rattle.demands.specs.promises.Demands.{SetUp}
use Rattle.machine.proofs.refusals.Limits.{zero_or_one, limits_tested, mode_most}
use Rattle.demands.proofs.refusals.{Passing.fits, Refusing.within, Passed.{Fit, fit_verdict}}
use Rattle.demands.proofs.histories.Exact.{setup_takes_largest}
use Rattle.demands.proofs.calls.Fresh.{setup_within, fresh_idle, fresh_none_out, fresh_fit}
use Rattle.machine.specs.declared.{Settings.Settings}
use Rattle.machine.specs.declared.{Row.TheVariants.{Records, Xs, Marks}}
use Rattle.text.specs.Decimal.{decimal}
use Rattle.printed.specs.Edges.{FiveNames, FiveByDiagonal, NoTurns, LoneTask, TheOtherTask, TheListing}
use Rattle.printed.specs.Edges.{TwoAsks, OneTimeMark, SetupAgain, TwoOut, LastIdentifier, NoRelease}
use Rattle.printed.specs.Edges.{NoReleaseIdle, settings}
use Rattle.printed.specs.Edges.{named}
use Rattle.printed.specs.Edges.{Refuses}
use Rattle.printed.specs.Edges.{SetupsTaken, Outside, OutsideRefused, Edges}
use Rattle.printed.proofs.OneTimePair.{one_time_pair}

five_names : FiveNames
unfolding half place_number
five_names s five one = rw (five, one) (refl, refl, refl, refl, refl)

five_by_diagonal : FiveByDiagonal
unfolding half diagonal_number
five_by_diagonal s five two = rw (five, two) (refl, refl, refl, refl, refl)

lone_task : LoneTask
unfolding half place_number diagonal_number count first_bad
lone_task = ((refl, refl), (refl, refl))

the_other_task : TheOtherTask
unfolding half place_number diagonal_number count first_bad
the_other_task = ((refl, refl), (refl, refl))

the_listing : TheListing
unfolding half place_number diagonal_number count first_bad decimal
the_listing = ((refl, refl, refl), (refl, refl, refl))

two_asks_lem : TwoAsks
unfolding half place_number diagonal_number count first_bad decimal
two_asks_lem = ((refl, refl), (refl, refl))

one_time_mark : OneTimeMark
unfolding half place_number diagonal_number count first_bad decimal
one_time_mark = (refl, refl)

setup_again : SetupAgain
unfolding half place_number diagonal_number count first_bad
setup_again = ((refl, refl), (refl, refl))

two_out : TwoOut
unfolding half place_number count first_bad
two_out = (
  (refl, refl, refl, refl, refl, refl, refl, refl),
  (refl, refl, refl, refl, refl, refl, refl, refl),
  (refl, refl, refl, refl, refl, refl, refl, refl),
  (refl, refl, refl, refl, refl, refl, refl, refl),
  (refl, refl, refl, refl, refl, refl, refl, refl),
  (refl, refl, refl, refl, refl, refl, refl, refl),
)

-- an ask of a task below N, right after setup, is accepted
fresh_ask : (s : Settings) (lent : Memory) → SetUp s lent → (p : ℕ) → p < s.n
    → verdict_of s (ask p) (setup s lent).memory ≡ Ok tt
fresh_ask s lent ok p l =
    let k_least = (setup_within s lent ok).k_least in
    fit_verdict s (setup s lent).memory (ask p) (setup_within s lent ok) (fresh_fit s lent ok)
    ∙ rw (lt-leb s.n p l, fresh_idle s lent ok p l, fresh_none_out s lent ok, lt-leb s.k 0 k_least)

cond_same : (b : Bool) (n : ℕ) → cond b n n ≡ n
cond_same true n = refl
cond_same false n = refl

-- the corner has name 0 in both versions
no_turns : NoTurns
unfolding half place_number diagonal_number
no_turns s lent ok one p l = (
  rw (fresh_ask s lent ok p l, one) (ap (λ (n : ℕ). plain (named n)) (cond_same (eqb s.version 1) 0)),
  cond_same (is_accepted (call s (ask p) (setup s lent).memory).answer && eqb p p) 0,
)

last_identifier : LastIdentifier
last_identifier s lent ok all = (
  rw (
    fit_verdict s (setup s lent).memory (ask 256) (setup_within s lent ok) (fresh_fit s lent ok),
    le-leb s.n 256 (omega arith),
  ),
  rw (fresh_ask s lent ok 255 (omega arith)) tt,
)

one_time_release : (s : Settings) (m : Memory) → s.mode ≡ 0 → WithinLimits s → Fit s m → (p : ℕ) → p < s.n
    → Refuses 5 (call s (release p) m).answer
one_time_release s m one_time l fit p low = rw (fit_verdict s m (release p) l fit, lt-leb s.n p low, one_time)

no_release : NoRelease
no_release s m one_time (fair, (long, (records, (xs, (marks, last))))) =
    let l = within s fair in
    one_time_release s m one_time l (fits s l m long (elim [ Records ↦ records | Xs ↦ xs | Marks ↦ marks ]))

no_release_idle : NoReleaseIdle
no_release_idle s lent ok one_time = one_time_release s (setup s lent).memory one_time (setup_within s lent ok)
    (fresh_fit s lent ok)

-- ---- the edges of the limits

setups_taken : SetupsTaken
setups_taken mode n k version modes n_least n_most k_least k_most k_within versions =
    setup_takes_largest (settings mode n k version)
    (record {
      modes = (zero_or_one mode).0 modes;
      n_least = n_least;
      n_most = n_most;
      k_least = k_least;
      k_most = k_most;
      k_within = k_within;
      versions = versions;
    })

outside_refused : OutsideRefused
outside_refused s outside m event = rw (misses (limits_tested s) (λ l. not_within l outside)) (refl, refl)
  where
    not_within : WithinLimits s → Outside s → ⊥
    not_within l (inl e) = omega (arith, l.k_most)
    not_within l (inr (inl (e, f))) = omega (arith, l.k_within)
    not_within l (inr (inr (inl e))) = omega (arith, l.n_most)
    not_within l (inr (inr (inr (inl e)))) = omega (arith, mode_most s l)
    not_within l (inr (inr (inr (inr (inl e))))) = ⊎_elim (λ one. omega arith) (λ two. omega arith) l.versions
    not_within l (inr (inr (inr (inr (inr e))))) = ⊎_elim (λ one. omega arith) (λ two. omega arith) l.versions

pub edges : Edges
edges = record {
  five_names = five_names;
  five_by_diagonal = five_by_diagonal;
  no_turns = no_turns;
  lone_task = lone_task;
  the_other_task = the_other_task;
  one_time_pair = one_time_pair;
  the_listing = the_listing;
  two_asks_lem = two_asks_lem;
  one_time_mark = one_time_mark;
  setup_again = setup_again;
  two_out = two_out;
  last_identifier = last_identifier;
  no_release = no_release;
  no_release_idle = no_release_idle;
  setups_taken = setups_taken;
  outside_refused = outside_refused;
}
