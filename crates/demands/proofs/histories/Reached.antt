-- What a caller relies on, from demand 3 over the history that reached a memory; and what one call does to names, from
-- the record and the answer that it leaves.
use mathlib.Core.{Path.{◌≡◌, refl, sym, ap, subst, ◌∙◌}, Logic.inl, Bool.true≢false}
use mathlib.Core.List.{List, [], ◌∷◌, ◌++◌}
use Rattle.std.specs.Prelude.{Result, Ok, Err, ℕ, ◌≤◌, ◌<◌}
use native.Mathlib.Omega.{arith}
use Rattle.machine.specs.{Records.idle, promises.Ranges.WithinLimits}
use Rattle.demands.specs.{Memory.{Memory, record_of, state_of, view_of}, Answers.{said, told_in, plain}}
use Rattle.demands.specs.Refusals.{Verdict, setup_verdict}
use Rattle.demands.specs.Calls.{Outcome, event_of, standing, freed, next_state, refuse_or}
use Rattle.demands.specs.Calls.{verdict_of, call, cleared, setup}
use Rattle.demands.specs.promises.{Demands.{SetUp, memory_after, HoldsName}, Refusing.{SomeRowShort, call_says}}
use Rattle.demands.specs.promises.{OneAccess.AcceptedIn, Reached.{Reached, Relied, NamesFollow, ReachedPromises}}
use Rattle.machine.specs.declared.{Settings.Settings, State.{State, TheVariants.{Idle, Seeking, Holding}}}
use Rattle.machine.specs.declared.{Kind.{Kind, TheVariants.{Ask, Turn, Release}}, Event.Event}
use Rattle.machine.specs.declared.{Refusal.Refusal, Told.{Told, TheVariants.{Holds, Freed}}}
use Rattle.demands.proofs.refusals.{Passing.passed, Refusing.{accepted_zero, ruled, ruled_accepted}}
use Rattle.demands.proofs.calls.{Fresh.setup_within, SettingUp.setup_clears, Outcomes.{Called, taken, refused, called}}
use Rattle.demands.proofs.calls.Telling.{accepted, told_accepted, state_after, told_after, each_answer_tells}
use Rattle.demands.proofs.calls.{After.others_record}
use Rattle.demands.proofs.bridge.Histories.{run_append, always_in_order}
use Rattle.demands.proofs.histories.Demand3.{held_names_differ, held_names_below, seeker_never_refused}
use Rattle.demands.proofs.histories.Demand3.{served_within, each_turns_told}

-- ---- how a memory is reached

takes_fresh : (s : Settings) (lent : Memory) → WithinLimits s → (SomeRowShort s lent → ⊥)
    → ((p : ℕ) → p < s.n → record_of lent p ≡ idle) → SetUp s lent
takes_fresh s lent fair long fresh =
    (setup_clears s lent).done.1 (λ bad. bad fair, (long, (λ (p, low, busy). busy (fresh p low), tt)))

reached_by_setup : (s : Settings) (lent : Memory) → SetUp s lent → Reached s (setup s lent).memory
reached_by_setup s lent ok = record { lent = lent; events = []; set_up = ok; left = refl }

reached_kept : (s : Settings) (event : Event) (m : Memory) → Reached s m → Reached s (call s event m).memory
reached_kept s event m h = record {
  lent = h.lent;
  events = h.events ++ (event ∷ []);
  set_up = h.set_up;
  left = ap (λ (before : Memory). (call s event before).memory) h.left
      ∙ sym (run_append s h.events (event ∷ []) (setup s h.lent).memory);
}

-- what a setup comes to by its tests
abbrev set_up_by : Settings → Memory → Verdict → Outcome
set_up_by s m verdict = refuse_or verdict m (record { answer = plain Told.Done; memory = cleared s m })

reached_again : (s : Settings) (m : Memory) → Reached s m → Reached s (setup s m).memory
reached_again s m h = go (setup_verdict s (view_of s m.records 0) m) refl
  where
    go : (verdict : Verdict) → setup_verdict s (view_of s m.records 0) m ≡ verdict
        → Reached s (set_up_by s m verdict).memory
    go (Err why) e = h
    go (Ok accepted) e =
        subst (λ (verdict : Verdict). Reached s (set_up_by s m verdict).memory) e
        (reached_by_setup s m (ap (λ (verdict : Verdict). (set_up_by s m verdict).answer) e))

-- ---- what is so in a reached memory

-- tests 1 to 3 pass
about_the_task : (s : Settings) (lent : Memory) (events : List Event) (ok : SetUp s lent) (event : Event)
    → 1 ≤ (call_says s event (memory_after s lent events)).number
    → 4 ≤ (call_says s event (memory_after s lent events)).number
about_the_task s lent events ok event =
    go (call s event m) (called s (setup_within s lent ok) event m (always_in_order s lent ok events).invariants.fit)
  where
    m : Memory
    m = memory_after s lent events

    go : (outcome : Outcome) → Called s event m outcome → 1 ≤ (said outcome.answer).number
        → 4 ≤ (said outcome.answer).number
    go outcome (refused why its_task) h = its_task
    go outcome (taken o) h =
        let zero : (said (ruled s event m).answer).number ≡ 0 =
        (accepted_zero (ruled s event m).answer).0 (ruled_accepted s event m) in
        absurd (omega arith)

relied_after : (s : Settings) (lent : Memory) (events : List Event) → SetUp s lent
    → Relied s (memory_after s lent events)
relied_after s lent events ok = record {
  names_differ = held_names_differ s lent events ok;
  names_below = held_names_below s lent events ok;
  seeker_accepted = seeker_never_refused s lent events ok;
  seeker_below = λ p l seeks.
      rw ((each_turns_told s lent events ok p l).counted (inl seeks))
      ((served_within s lent events ok p l).seeking seeks);
  tests_pass = about_the_task s lent events ok;
}

-- ---- what one call does to names

-- which case an answer is, and the name in it
abbrev pub case_of : Result Told Refusal → ℕ
case_of (Ok Told.Done) = 0
case_of (Ok Told.Seeks) = 1
case_of (Ok (Holds name)) = 2
case_of (Ok (Freed name)) = 3
case_of (Err why) = 4

abbrev pub name_in : Result Told Refusal → ℕ
name_in (Ok Told.Done) = 0
name_in (Ok Told.Seeks) = 0
name_in (Ok (Holds name)) = name.0
name_in (Ok (Freed name)) = name.0
name_in (Err why) = 0

module _ (s : Settings) (m : Memory) (p n : ℕ) where
  -- a record of which "holds" is told, or of which "freed" is, holds that name
  holds_standing : (state : State) → state_of m p ≡ state → accepted (standing s state) ≡ Ok (Holds (record { 0 = n }))
      → HoldsName s m p n
  holds_standing Idle is e = absurd (let z = ap case_of e in omega arith)
  holds_standing (Seeking stand) is e = absurd (let z = ap case_of e in omega arith)
  holds_standing (Holding place) is e = record { place = place; holds = is; named = sym (ap name_in e) }

  holds_freed : (state : State) → state_of m p ≡ state → accepted (freed s state) ≡ Ok (Freed (record { 0 = n }))
      → HoldsName s m p n
  holds_freed Idle is e = absurd (let z = ap case_of e in omega arith)
  holds_freed (Seeking stand) is e = absurd (let z = ap case_of e in omega arith)
  holds_freed (Holding place) is e = record { place = place; holds = is; named = sym (ap name_in e) }

never_freed : (s : Settings) (state : State) (n : ℕ) → accepted (standing s state) ≡ Ok (Freed (record { 0 = n })) → ⊥
never_freed s Idle n e = let z = ap case_of e in omega arith
never_freed s (Seeking stand) n e = let z = ap case_of e in omega arith
never_freed s (Holding place) n e = let z = ap case_of e in omega arith

never_holds : (s : Settings) (state : State) (n : ℕ) → accepted (freed s state) ≡ Ok (Holds (record { 0 = n })) → ⊥
never_holds s Idle n e = let z = ap case_of e in omega arith
never_holds s (Seeking stand) n e = let z = ap case_of e in omega arith
never_holds s (Holding place) n e = let z = ap case_of e in omega arith

module _ (s : Settings) (p n : ℕ) (m : Memory) where
  abbrev told : Kind → Result Told Refusal
  told kind = told_in (call s (event_of kind p) m).answer

  holds_after : (kind : Kind) → AcceptedIn s (event_of kind p) m → told kind ≡ Ok (Holds (record { 0 = n }))
      → HoldsName s (call s (event_of kind p) m).memory p n
  holds_after Ask t e = holds_standing s _ p n _ (state_after s p m Ask t) (sym (told_after s p m Ask t) ∙ e)
  holds_after Turn t e = holds_standing s _ p n _ (state_after s p m Turn t) (sym (told_after s p m Turn t) ∙ e)
  holds_after Release t e = absurd (never_holds s (state_of m p) n (sym (told_after s p m Release t) ∙ e))

  -- who holds may be released, and nothing else
  held_freed : (kind : Kind) → AcceptedIn s (event_of kind p) m → HoldsName s m p n
      → told kind ≡ Ok (Freed (record { 0 = n }))
  held_freed Ask t held = absurd (true≢false (rw held.holds at (passed s (event_of Ask p) m t).may.moment))
  held_freed Turn t held = absurd (true≢false (rw held.holds at (passed s (event_of Turn p) m t).may.moment))
  held_freed Release t held = ((each_answer_tells s p m).frees n t held).0

  -- "freed" is told by a release, of the name that the task held
  freed_held : (kind : Kind) → AcceptedIn s (event_of kind p) m → told kind ≡ Ok (Freed (record { 0 = n }))
      → (kind ≡ Release) × HoldsName s m p n
  freed_held Ask t e =
      absurd (never_freed s (next_state s Ask p (state_of m p) m) n (sym (told_after s p m Ask t) ∙ e))
  freed_held Turn t e =
      absurd (never_freed s (next_state s Turn p (state_of m p) m) n (sym (told_after s p m Turn t) ∙ e))
  freed_held Release t e = (refl, holds_freed s m p n _ refl (sym (told_after s p m Release t) ∙ e))

-- a call leaves the records of the others, refused or not
others_kept : (s : Settings) (event : Event) (m : Memory) (q : ℕ) → (q ≡ event.task.0 → ⊥)
    → record_of (call s event m).memory q ≡ record_of m q
others_kept s event m q other = go (verdict_of s event m) refl
  where
    go : (verdict : Verdict) → verdict_of s event m ≡ verdict
        → record_of (refuse_or verdict m (ruled s event m)).memory q ≡ record_of m q
    go (Err why) e = refl
    go (Ok accepted) e = others_record s m event.task.0 event.kind (state_of m event.task.0) q other

follow : (s : Settings) (event : Event) (m : Memory) → NamesFollow s event m
follow s event m = record {
  others_keep = others_kept s event m;
  holds_told = λ n t. (
    λ held. ((each_answer_tells s event.task.0 m).holds event.kind n t held).0,
    λ e. holds_after s event.task.0 n m event.kind t e,
  );
  frees_told = λ n t. (
    λ held. held_freed s event.task.0 n m event.kind t held,
    λ e. (freed_held s event.task.0 n m event.kind t e).1,
  );
  freed_by_release = λ n e.
      (freed_held s event.task.0 n m event.kind
      (told_accepted (call s event m).answer _ e) e).0;
}

pub reached_promises : ReachedPromises
reached_promises = record {
  takes = takes_fresh;
  begins = reached_by_setup;
  kept = reached_kept;
  again = reached_again;
  relied = λ s m h. subst (Relied s) (sym h.left) (relied_after s h.lent h.events h.set_up);
  names_follow = follow;
}
