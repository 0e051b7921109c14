-- A caller's notes: the records of other tasks stay, a refused call changes nothing, and of an accepted one the answer
-- tells what its task holds (`NamesFollow`).
use mathlib.Core.{Path.{◌≡◌, refl, sym, ap, subst, ◌∙◌}, Logic.◌↔◌, Bool.true≢false, List.List}
use Rattle.std.specs.Prelude.{Result, Ok, Err, is_ok, ℕ, ◌+◌, ◌<◌}
use native.Mathlib.{Decide.ℕ_discrete, Omega.arith}
use lib.{Dec.T, ListN.{length, get_or}, Seq.{get_or-set_same, get_or-set_other}}
use Rattle.machine.specs.Records.{idle, is_idle}
use Rattle.demands.specs.{Memory.{Memory, state_of}, Refusals.Verdict, Answers.told_in}
use Rattle.demands.specs.Calls.{Outcome, refuse_or, verdict_of, call, setup}
use Rattle.demands.specs.promises.{Demands.{HoldsName}, OneAccess.AcceptedIn}
use Rattle.demands.specs.promises.Notes.{noted, Noted, Agree, notes_after, EachNotesKept}
use Rattle.machine.specs.declared.{Settings.Settings, Record.Record, Event.Event, Refusal.Refusal, Told.Told}
use Rattle.demands.proofs.refusals.Refusing.{ruled, ruled_accepted}
use Rattle.demands.proofs.calls.{Fresh.fresh_idle, SettingUp.setup_clears, Telling.{accepted, some_told}}
use Rattle.demands.proofs.histories.Reached.{case_of, name_in, reached_promises}

-- ---- who holds is said by the record

same_holds : (s : Settings) (m after : Memory) (p n : ℕ) → state_of after p ≡ state_of m p → HoldsName s m p n
    → HoldsName s after p n
same_holds s m after p n same h = record { place = h.place; holds = same ∙ h.holds; named = h.named }

same_agree : (s : Settings) (m after : Memory) (p n a b : ℕ) → a ≡ b → state_of after p ≡ state_of m p
    → (b ≡ n + 1) ↔ HoldsName s m p n → (a ≡ n + 1) ↔ HoldsName s after p n
same_agree s m after p n a b e same h =
    (λ is. same_holds s m after p n same (h.0 (sym e ∙ is)), λ held. e ∙ h.1 (same_holds s after m p n (sym same) held))

-- ---- what an accepted call tells

-- where no name was held before but "freed" is told, the note after says what is told
note_says : (told : Result Told Refusal) (before n : ℕ) → T (is_ok told)
    → ((m : ℕ) → before ≡ m + 1 → told ≡ Ok (Told.Freed (record { 0 = m })))
    → (noted told before ≡ n + 1) ↔ (told ≡ Ok (Told.Holds (record { 0 = n })))
note_says (Ok Told.Done) before n ok freed =
    (λ is. absurd (let z = ap case_of (freed n is) in omega arith), λ e. absurd (let z = ap case_of e in omega arith))
note_says (Ok Told.Seeks) before n ok freed =
    (λ is. absurd (let z = ap case_of (freed n is) in omega arith), λ e. absurd (let z = ap case_of e in omega arith))
note_says (Ok (Told.Holds name)) before n ok freed = (
  λ is. let same : name.0 ≡ n = omega arith in ap (λ (i : ℕ). accepted (Told.Holds (record { 0 = i }))) same,
  λ e. let same = ap name_in e in omega arith,
)
note_says (Ok (Told.Freed name)) before n ok freed =
    (λ is. absurd (let none : ⊥ = omega arith in none), λ e. absurd (let z = ap case_of e in omega arith))
note_says (Err why) before n ok freed = absurd ok

module _ (s : Settings) (event : Event) (m : Memory) (notes : List ℕ) (long : event.task.0 < length notes)
    (agree : Agree s m notes) where
  abbrev task : ℕ
  task = event.task.0

  abbrev note_of : Outcome → ℕ
  note_of outcome = noted (told_in outcome.answer) (get_or notes task 0)

  -- the task's own note
  own_kept : (n : ℕ) → task < s.n → (note_of (call s event m) ≡ n + 1) ↔ HoldsName s (call s event m).memory task n
  own_kept n l = go (verdict_of s event m) refl
    where
      go : (verdict : Verdict) → verdict_of s event m ≡ verdict
          → (note_of (refuse_or verdict m (ruled s event m)) ≡ n + 1)
          ↔ HoldsName s (refuse_or verdict m (ruled s event m)).memory task n
      go (Err why) e = agree task n l
      go (Ok accepted) e =
          let taken : AcceptedIn s event m = rw e (ruled_accepted s event m) in
          let follow = reached_promises.names_follow s event m in
          let is : call s event m ≡ ruled s event m = rw e in
          let says = note_says (told_in (call s event m).answer) (get_or notes task 0) n (some_told _ taken)
          (λ held was. (follow.frees_told held taken).0 ((agree task held l).0 was)) in
          subst (λ (outcome : Outcome). (note_of outcome ≡ n + 1) ↔ HoldsName s outcome.memory task n) is (
            λ noted_so. (follow.holds_told n taken).1 (says.0 noted_so),
            λ held. says.1 ((follow.holds_told n taken).0 held),
          )

  after_call : Agree s (call s event m).memory (notes_after s event m notes)
  after_call p n l = go (ℕ_discrete p task)
    where
      go : Dec (p ≡ task) → Noted (notes_after s event m notes) p n ↔ HoldsName s (call s event m).memory p n
      go (yes its) =
          subst (λ (q : ℕ). Noted (notes_after s event m notes) q n ↔ HoldsName s (call s event m).memory q n) (sym its)
          (same_agree s (call s event m).memory (call s event m).memory task n _ _
          (get_or-set_same notes task (note_of (call s event m)) 0 long) refl
          (own_kept n (subst (λ (q : ℕ). q < s.n) its l)))
      go (no other) =
          same_agree s m (call s event m).memory p n _ _
          (get_or-set_other notes task p (note_of (call s event m)) 0 other)
          (ap (λ (r : Record). r.state) ((reached_promises.names_follow s event m).others_keep p other)) (agree p n l)

pub notes_kept : EachNotesKept
notes_kept s = record {
  empty = λ lent notes ok none p n l. (
    λ is. absurd (let z : 0 ≡ n + 1 = sym (none p) ∙ is in let no : ⊥ = omega arith in no),
    λ held. absurd (true≢false (ap is_idle (sym (fresh_idle s lent ok p l) ∙ held.holds))),
  );
  over_setup = λ m notes agree p n l.
      same_agree s m (setup s m).memory p n _ _ refl
      (ap (λ (records : List Record). (get_or records p idle).state) (setup_clears s m).writes_no_record) (agree p n l);
  kept = after_call s;
  apart = λ m notes reached agree p q n lp lq np nq.
      (reached_promises.relied s m reached).names_differ p q n lp lq ((agree p n lp).0 np) ((agree q n lq).0 nq);
  below = λ m notes reached agree p n l noted_so.
      (reached_promises.relied s m reached).names_below p n l ((agree p n l).0 noted_so);
}
