-- Demand 3, whole, and 02, P7: the nine statements of `specs/Demands`, proved. Read this file first. J0 to J3 hold
-- after every call (`Histories`), and so: no two tasks hold one place (`Names`), a holder knows its name (`Told`), a
-- seeking task's turn is accepted (`Seekers`), it takes no more turns than the bound and its record tells how many
-- (`Served`), and the worst schedule takes as many (`Exact`).
use mathlib.Core.Path.{◌≡◌, sym, ◌∙◌}
use native.Mathlib.Decide.{ℕ_discrete}
use Rattle.machine.specs.Settings.{bound}
use Rattle.demands.specs.promises.Demands.{HeldNamesDiffer, HeldNamesBelow, LastAnswerTrue, HeldNameAnswered}
use Rattle.demands.specs.promises.Demands.{SeekerNeverRefused, ServedWithin, EachTurnsTold, BoundExact}
use Rattle.demands.specs.promises.Demands.{SetupTakes}
use Rattle.machine.proofs.bridge.Numbering.{name_below, names_apart}
use Rattle.demands.proofs.{bridge.Names.{held_place, one_place}, histories.{Told.told, Seekers.seeker_accepted}}
use Rattle.demands.proofs.histories.{Served.{seeking_used, holding_used, served_alone, turns_told}, Worst.worst}
use Rattle.demands.proofs.histories.Exact.{worst_needs_bound, setup_takes_largest}
use Rattle.demands.proofs.histories.Told as told

-- two that hold one name hold one place, which only one task can
pub held_names_differ : HeldNamesDiffer
held_names_differ s lent events ok p q n lp lq hp hq = go (ℕ_discrete q p)
  where
    go : Dec (q ≡ p) → p ≡ q
    go (yes e) = sym e
    go (no d) =
        let same = names_apart s hq.place hp.place
        (held_place s lent events ok q hq.place lq hq.holds)
        (held_place s lent events ok p hp.place lp hp.holds) (sym hq.named ∙ hp.named) in
        absurd (one_place s lent events ok p q hp.place lp lq hp.holds (rw same at hq.holds) d)

pub held_names_below : HeldNamesBelow
held_names_below s lent events ok p n l h =
    rw h.named (name_below s h.place (held_place s lent events ok p h.place l h.holds))

pub last_answer_true : LastAnswerTrue
last_answer_true = told.last_answer_true

pub held_name_answered : HeldNameAnswered
held_name_answered s lent events ok p n l h = rw h.named (told s lent events ok p h.place l h.holds)

pub seeker_never_refused : SeekerNeverRefused
seeker_never_refused s lent events ok p l seeks = seeker_accepted s lent events ok p l seeks

pub served_within : ServedWithin
served_within s lent events ok p l = record {
  seeking = seeking_used s lent ok p l events;
  holding = holding_used s lent ok p l events;
  alone = λ seeks.
      let (more, within, holds, _) = served_alone s lent ok p l (bound s) (λ _. Unit {0})
      (λ before _. seeking_used s lent ok p l before) (λ _ _. tt) events tt seeks in
      (more, within, holds);
}

pub each_turns_told : EachTurnsTold
each_turns_told s lent events ok p l = turns_told s lent ok p l events

pub bound_exact : BoundExact
bound_exact s within = (worst s, worst_needs_bound s)

pub setup_takes : SetupTakes
setup_takes s fair = setup_takes_largest s fair
