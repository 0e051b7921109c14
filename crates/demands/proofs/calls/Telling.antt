-- What each accepted call answers, by the record that it leaves; a release by the record that it found.
use mathlib.Core.{Path.{◌≡◌, refl, sym, ap, subst, ◌∙◌}, List.{List, [], ◌∷◌}}
use Rattle.std.specs.Prelude.{Result, Ok, Err, is_ok, ℕ}
use native.Mathlib.Omega.{arith}
use lib.Dec.{T}
use Rattle.machine.specs.{Records.is_seeking, RefusalNumbers.{Said, refusal_said}}
use Rattle.demands.specs.Memory.{Memory, state_of}
use Rattle.demands.specs.Calls.{Outcome, event_of, name_at, standing, freed, told_of, next_state, call}
use Rattle.demands.specs.Answers.{Reply, told_in, told_said, said, is_accepted, Tells}
use Rattle.demands.specs.promises.{OneAccess.AcceptedIn, Telling.EachAnswerTells}
use Rattle.machine.specs.declared.{Settings.Settings, State.{State, TheVariants.{Idle, Seeking, Holding}}, Place.Place}
use Rattle.machine.specs.declared.{Record.Record, Kind.{Kind, TheVariants.{Ask, Turn, Release}}, Told.Told}
use Rattle.machine.specs.declared.{Refusal.Refusal}
use Rattle.demands.proofs.{refusals.Passing.by_the_rules, calls.Effects.only_the_register_written_changes}

-- an answer says what its case tells
abbrev pub accepted : Told → Result Told Refusal
accepted told = Ok told

said_of : Result Told Refusal → Said
said_of (Ok told) = told_said told
said_of (Err why) = refusal_said why

pub some_told : (reply : Reply) → T (is_accepted reply) → T (is_ok (told_in reply))
some_told (Ok answer) t = tt
some_told (Err why) t = absurd t

-- what tells a case was accepted
pub told_accepted : (reply : Reply) (is : Told) → told_in reply ≡ Ok is → T (is_accepted reply)
told_accepted (Ok answer) is e = tt
told_accepted (Err why) is e = absurd (let z : ◌≡◌ {A = ℕ} 0 1 = cc in omega arith)

says : (reply : Reply) → said_of (told_in reply) ≡ said reply
unfolding said_of
says (Ok answer) = refl
says (Err why) = refl

pub tells : (reply : Reply) (is : Told) (values : List ℕ) → told_in reply ≡ Ok is → Tells (told_said is) values
    → (told_in reply ≡ Ok is) × Tells (said reply) values
unfolding said_of
tells reply is values e so =
    (e, subst (λ (says : Said). Tells says values) (ap said_of (sym e) ∙ says reply) so)

seeks_told : (s : Settings) (state : State) → T (is_seeking state) → standing s state ≡ Told.Seeks
seeks_told s Idle t = absurd t
seeks_told s (Seeking stand) t = refl
seeks_told s (Holding place) t = absurd t

module _ (s : Settings) (p : ℕ) (m : Memory) where
  abbrev next : Kind → State
  next kind = next_state s kind p (state_of m p) m

  -- the record and the answer of an accepted call
  pub state_after : (kind : Kind) → AcceptedIn s (event_of kind p) m
      → state_of (call s (event_of kind p) m).memory p ≡ next kind
  state_after kind t = ap (λ (r : Record). r.state) (only_the_register_written_changes s (event_of kind p) m t).own

  pub told_after : (kind : Kind) → AcceptedIn s (event_of kind p) m
      → told_in (call s (event_of kind p) m).answer ≡ Ok (told_of s kind (state_of m p) (next kind))
  told_after kind t = ap (λ (o : Outcome). told_in o.answer) (by_the_rules s (event_of kind p) m t)

  seeks_answered : (kind : Kind) → AcceptedIn s (event_of kind p) m → T (is_seeking (next kind))
      → told_in (call s (event_of kind p) m).answer ≡ Ok Told.Seeks
  seeks_answered Ask t seeks = told_after Ask t ∙ ap accepted (seeks_told s (next Ask) seeks)
  seeks_answered Turn t seeks = told_after Turn t ∙ ap accepted (seeks_told s (next Turn) seeks)
  seeks_answered Release t seeks = absurd seeks

  holds_answered : (kind : Kind) (place : Place) → AcceptedIn s (event_of kind p) m → next kind ≡ Holding place
      → told_in (call s (event_of kind p) m).answer ≡ Ok (Told.Holds (name_at s place))
  holds_answered Ask place t held = told_after Ask t ∙ ap (λ (state : State). accepted (standing s state)) held
  holds_answered Turn place t held = told_after Turn t ∙ ap (λ (state : State). accepted (standing s state)) held
  holds_answered Release place t held = let z : ◌≡◌ {A = ℕ} 0 1 = cc in absurd (let none : ⊥ = omega arith in none)

pub each_answer_tells : EachAnswerTells
each_answer_tells s p m = record {
  seeks = λ kind t seeks.
      tells _ Told.Seeks [] (seeks_answered s p m kind t
      (subst (λ (state : State). T (is_seeking state)) (state_after s p m kind t) seeks)) (refl, refl);
  holds = λ kind n t held.
      tells _ (Told.Holds (record { 0 = n })) (n ∷ [])
      (holds_answered s p m kind held.place t (sym (state_after s p m kind t) ∙ held.holds)
      ∙ ap (λ (name : ℕ). accepted (Told.Holds (record { 0 = name }))) (sym held.named))
      (refl, refl);
  frees = λ n t held.
      tells _ (Told.Freed (record { 0 = n })) (n ∷ [])
      (told_after s p m Release t ∙ ap (λ (state : State). accepted (freed s state)) held.holds
      ∙ ap (λ (name : ℕ). accepted (Told.Freed (record { 0 = name }))) (sym held.named)) (refl, refl);
  done = λ ok. (tells _ Told.Done [] (ap told_in ok) (refl, refl)).1;
}
