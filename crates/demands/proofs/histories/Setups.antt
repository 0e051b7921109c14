-- Setups among the calls of a history: refused while somebody is out, and then nothing has happened.
use mathlib.Core.{Path.{◌≡◌, refl, ap, subst, ◌∙◌}, Logic.{inl, inr}, List.{List, [], ◌∷◌}}
use Prim.Native.Nat.{ℕ, ◌≤◌, ◌<◌}
use native.Mathlib.{Decide.ℕ_discrete, Omega.arith}
use lib.Dec.{T}
use Rattle.machine.specs.Records.{idle}
use Rattle.demands.specs.{Memory.{Memory, record_of, state_of}, Calls.{call, setup}}
use Rattle.demands.specs.History.{Answered, history, run}
use Rattle.demands.specs.promises.{Refusing.{SomeRowShort, setup_says}, Demands.{SetUp, memory_after}}
use Rattle.demands.specs.promises.Setups.{Act, calls, sets_up, calls_in, memory_of, answers_of, SetupsRefused}
use Rattle.demands.specs.promises.Setups.{SetupsAmongCalls}
use Rattle.machine.specs.promises.Ranges.{WithinLimits}
use Rattle.machine.specs.declared.{Settings.Settings, State.TheVariants.Idle, Record.Record, Event.Event}
use Rattle.demands.proofs.refusals.{Lines.short_line, Passed.{Fit, none_short}}
use Rattle.demands.proofs.{refusals.Refusing.{setup_exactly, refused_changes_nothing}, calls.Fresh.setup_within}
use Rattle.demands.proofs.bridge.Histories.{always_in_order}

-- no row of a fit memory is short
none_lacks : (s : Settings) (m : Memory) → WithinLimits s → Fit s m → SomeRowShort s m → ⊥
none_lacks s m l fit short = subst T (none_short s m fit) ((short_line s l m).shows short)

module _ (s : Settings) (lent : Memory) (events : List Event) (ok : SetUp s lent) (p : ℕ) (l : p < s.n)
    (out : state_of (memory_after s lent events) p ≡ Idle → ⊥) where
  abbrev m : Memory
  m = memory_after s lent events

  eighteen : (setup_says s m).number ≡ 18
  eighteen =
      let fair = setup_within s lent ok in
      let fit = (always_in_order s lent ok events).invariants.fit in
      ((setup_exactly s m).refused 18 (omega arith)).1
      (inr (
        λ outside. outside fair,
        inr (
          none_lacks s m fair fit,
          inl ((p, l, λ e. out (ap (λ (r : Record). r.state) e)), refl),
        ),
      ))

  declined : ((setup_says s m).number ≡ 18) × ((setup s m).memory ≡ m)
  declined = (eighteen, refused_changes_nothing.setups s m (let e = eighteen in omega arith))

setups_dropped : (s : Settings) (acts : List Act) (m : Memory) → SetupsRefused s acts m
    → (memory_of s acts m ≡ run s (calls_in acts) m) × (answers_of s acts m ≡ history s (calls_in acts) m)
setups_dropped s [] m refused = (refl, refl)
setups_dropped s (calls event ∷ acts) m refused =
    let (memory, answers) = setups_dropped s acts (call s event m).memory refused in
    (memory, ap (λ (rest : List Answered). record { event = event; answer = (call s event m).answer } ∷ rest) answers)
setups_dropped s (sets_up t ∷ acts) m refused =
    let (memory, answers) = setups_dropped s acts (setup t m).memory refused.1 in
    let stays = refused_changes_nothing.setups t m refused.0 in
    (memory ∙ ap (run s (calls_in acts)) stays, answers ∙ ap (history s (calls_in acts)) stays)

over_busy : (t : Settings) (m : Memory) (p : ℕ) → p < t.n → (record_of m p ≡ idle → ⊥)
    → (1 ≤ (setup_says t m).number) × ((setup t m).memory ≡ m)
over_busy t m p l out = (refused, refused_changes_nothing.setups t m refused)
  where
    refused : 1 ≤ (setup_says t m).number
    refused = elim (ℕ_discrete (setup_says t m).number 0) [
      | yes none ↦ absurd (((setup_exactly t m).accepted.0 none).1.1.0 (p, l, out))
      | no some ↦ omega arith
    ]

pub setups_among_calls : SetupsAmongCalls
setups_among_calls = record { declines = declined; never_over_busy = over_busy; dropped = setups_dropped }
