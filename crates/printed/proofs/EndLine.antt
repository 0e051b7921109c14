-- The listing's numbers are the history's own counts: the memory that a run stands at is that of the history, its list
-- of turns has each task's turns since its last accepted ask, and each maximum that it keeps is the greatest of the
-- positions so far.
use mathlib.Core.{Path.{◌≡◌, refl, sym, ap, ◌∙◌}, Logic.{◌⊎◌, inl, inr}}
use mathlib.Core.{Bool.{Bool, true, false, not, cond, ◌&&◌, ◌||◌}, List.{List, [], ◌∷◌, ◌++◌}}
use Prim.Native.Nat.{ℕ, zero, suc, ◌≤◌, ◌<◌, max, zero-le}
use Rattle.std.specs.Prelude.{Err, Ok, Result}
use native.Mathlib.{Nat.{le_refl, max-zero}, Omega.arith}
use lib.{Dec.{T, eqb, ltb, eqb→eq}, ListN.{get_or, replicate}}
use borrow.Author.Tests.{lt-ltb, le-ltb}
use Rattle.machine.specs.{Records.{idle, is_holding, is_out}, Settings.bound}
use Rattle.demands.specs.{Memory.{Memory, state_of, turns_in, out_of, largest}, Answers.{told_in, Reply, is_accepted}}
use Rattle.demands.specs.{Calls.{Outcome, name_at, told_of, call, setup}, History.{Answered, counted, turns_of}}
use Rattle.demands.specs.promises.{Refusing.tasks_out, Demands.{memory_after, history_of, used, HoldsSome}}
use Rattle.demands.specs.promises.OneAccess.{AcceptedIn}
use Rattle.demands.proofs.{refusals.{Lines.tasks_out_lem, Passing.{passed, by_the_rules}}, calls.SettingUp.setup_clears}
use Rattle.demands.proofs.calls.Effects.{only_the_register_written_changes}
use Rattle.demands.proofs.calls.Telling.{told_accepted, accepted}
use Rattle.demands.proofs.bridge.Histories.{run_keeps, run_append, history_append, call_few}
use Rattle.demands.proofs.histories.{Served.turns_append, Demand3.{served_within, each_turns_told, setup_takes}}
use Rattle.machine.specs.declared.{Settings.Settings, Name.Name, State.{State, TheVariants.{Idle, Seeking, Holding}}}
use Rattle.machine.specs.declared.{Kind.{Kind, TheVariants.{Ask, Turn, Release}}, Event.Event, Told.Told}
use Rattle.machine.specs.declared.{Record.Record}
use Rattle.machine.specs.declared.Refusal.{Refusal}
use Rattle.counting.specs.Counting.{tick, count, any_below}
use Rattle.counting.proofs.{Lists.one_value, Searching.{count_same, count_none}}
use Rattle.file.specs.File.{Opening, code_at, task_at, event_at}
use Rattle.printed.specs.Listing.{Progress, completed, progress, listing_by, holders_of}
use Rattle.printed.specs.EndLine.{events_of, memory_at, holders_at, out_at, answer_at, Completes, taken_at, turns_since}
use Rattle.printed.specs.EndLine.{turns_at, lines_of, Attained, NoneCounts, Greatest, EndLineCounted, EndCountsOne}
use Rattle.printed.specs.EndLine.{UsedCounted, MostWithinBound, PeakWithin}
use Rattle.printed.proofs.Greatest.{none_yet, one_skipped, one_counted, greatest_one}
use Rattle.demands.specs.Calls as calls

-- ---- counted since

-- the positions with a turn and no later ask, one position more: an ask ends the count, a turn adds one
module _ (asked turned : ℕ → Bool) where
  abbrev later : ℕ → ℕ → Bool
  later n i = any_below (λ j. ltb i j && asked j) n

  abbrev since : ℕ → ℕ
  since n = count (λ i. turned i && not (later n i)) n

  none_later : (i n : ℕ) → n ≤ suc i → later n i ≡ false
  none_later i zero l = refl
  none_later i (suc n) l = rw (none_later i n (omega arith), le-ltb i n (omega arith))

  last_turn : (n : ℕ) → turned n && not (later (suc n) n) ≡ turned n
  last_turn n = rw (none_later n (suc n) (le_refl (suc n))) (go (turned n))
    where
      go : (b : Bool) → b && true ≡ b
      go true = refl
      go false = refl

  earlier_turn : (n i : ℕ) → i < n → turned i && not (later (suc n) i) ≡ cond (asked n) false
      (turned i && not (later n i))
  earlier_turn n i l = rw (lt-ltb i n l) (go (turned i) (later n i) (asked n))
    where
      go : (turn before now : Bool) → turn && not (before || now) ≡ cond now false (turn && not before)
      go true true true = refl
      go true true false = refl
      go true false true = refl
      go true false false = refl
      go false before true = refl
      go false before false = refl

  earlier_turns : (n : ℕ) → count (λ i. turned i && not (later (suc n) i)) n ≡ cond (asked n) 0 (since n)
  earlier_turns n = go (asked n) (earlier_turn n)
    where
      go : (b : Bool) → ((i : ℕ) → i < n → turned i && not (later (suc n) i) ≡ cond b false
          (turned i && not (later n i)))
          → count (λ i. turned i && not (later (suc n) i)) n ≡ cond b 0 (since n)
      go true each = count_none (λ i. turned i && not (later (suc n) i)) n each
      go false each = count_same (λ i. turned i && not (later (suc n) i)) (λ i. turned i && not (later n i)) n each

  since_none : since 0 ≡ 0
  unfolding count
  since_none = refl

  since_more : (n : ℕ) → since (suc n) ≡ tick (turned n) (cond (asked n) 0 (since n))
  unfolding count
  since_more n = rw (last_turn n, earlier_turns n)

-- ---- one call more

-- a count of turns after one more call with its answer, as `turns_of` has it
abbrev ticked : ℕ → Event → Reply → ℕ → ℕ
ticked p event answer turns = cond (is_accepted answer && eqb event.task.0 p) (counted event.kind turns) turns

used_more : (s : Settings) (lent : Memory) (events : List Event) (event : Event) (p : ℕ)
    → used s lent (events ++ (event ∷ [])) p ≡ ticked p event (call s event (memory_after s lent events)).answer
    (used s lent events p)
used_more s lent events event p =
    ap (λ (h : List Answered). turns_of p h 0) (history_append s events (event ∷ []) (setup s lent).memory)
    ∙ turns_append p (history_of s lent events) _ 0

-- an accepted call counts by its kind, which its code says
ticked_by_code : (taken its ask turn : Bool) (turns : ℕ) → (T ask → T turn → ⊥)
    → cond (taken && its) (counted (cond ask Ask (cond turn Turn Release)) turns) turns
    ≡ tick (taken && (its && turn)) (cond (taken && (its && ask)) 0 turns)
ticked_by_code true true true true turns apart = absurd (apart tt tt)
ticked_by_code true true true false turns apart = refl
ticked_by_code true true false true turns apart = omega arith
ticked_by_code true true false false turns apart = refl
ticked_by_code true false ask turn turns apart = refl
ticked_by_code false its ask turn turns apart = refl

pub used_counted : UsedCounted
used_counted s file zero p = sym (since_none (taken_at s file Ask p) (taken_at s file Turn p))
used_counted s file (suc n) p =
    used_more s largest (events_of file n) (event_at file n) p
    ∙ ap (ticked p (event_at file n) (answer_at s file n)) (used_counted s file n p)
    ∙ ticked_by_code (is_accepted (answer_at s file n)) (eqb (task_at file n).0 p) (eqb (code_at file n) 0)
    (eqb (code_at file n) 1)
    (turns_since s file n p) (λ a b. let z = eqb→eq (code_at file n) 0 a in let y = eqb→eq (code_at file n) 1 b in
    omega arith)
    ∙ sym (since_more (taken_at s file Ask p) (taken_at s file Turn p) n)

-- ---- who is told that it holds does

module _ (s : Settings) (name : Name) where
  not_held : (told : Result Told Refusal) → completed told 1 ≡ 0 → told ≡ Ok (Told.Holds name) → ⊥
  not_held told none e = let one = ap (λ (other : Result Told Refusal). completed other 1) e in omega arith

  -- who is answered that it holds does so in the record that the call leaves
  standing_held : (after : State) → accepted (calls.standing s after) ≡ Ok (Told.Holds name) → T (is_holding after)
  standing_held Idle e = absurd (not_held (Ok Told.Seeks) refl e)
  standing_held (Seeking stand) e = absurd (not_held (Ok Told.Seeks) refl e)
  standing_held (Holding place) e = tt

  answer_held : (kind : Kind) (before after : State) → accepted (told_of s kind before after) ≡ Ok (Told.Holds name)
      → T (is_holding after)
  answer_held Ask before after e = standing_held after e
  answer_held Turn before after e = standing_held after e
  answer_held Release Idle after e = absurd (not_held (Ok Told.Seeks) refl e)
  answer_held Release (Seeking stand) after e = absurd (not_held (Ok Told.Seeks) refl e)
  answer_held Release (Holding place) after e = absurd (not_held (Ok (Told.Freed (name_at s place))) refl e)

  held_after : (event : Event) (m : Memory) → told_in (call s event m).answer ≡ Ok (Told.Holds name)
      → HoldsSome (call s event m).memory event.task.0
  held_after event m e =
      let taken : AcceptedIn s event m = told_accepted (call s event m).answer _ e in
      rw (ap (λ (r : Record). r.state) (only_the_register_written_changes s event m taken).own)
      (answer_held event.kind (state_of m event.task.0) _
      (sym (ap (λ (o : Outcome). told_in o.answer) (by_the_rules s event m taken)) ∙ e))

-- ---- the run

module _ (s : Settings) (file : List ℕ) where
  -- where the run stands after n events, and what it answers the next
  abbrev standing : ℕ → Progress
  standing n = progress s file n

  abbrev answered : ℕ → Reply
  answered n = (call s (event_at file n) (standing n).memory).answer

  memory_kept : (n : ℕ) → (standing n).memory ≡ memory_at s file n
  memory_kept zero = refl
  memory_kept (suc n) =
      ap (λ (m : Memory). (call s (event_at file n) m).memory) (memory_kept n)
      ∙ sym (run_append s (events_of file n) (event_at file n ∷ []) (setup s largest).memory)

  answer_kept : (n : ℕ) → answered n ≡ answer_at s file n
  answer_kept n = ap (λ (m : Memory). (call s (event_at file n) m).answer) (memory_kept n)

  holders_kept : (n : ℕ) → holders_of s (standing n).memory.records ≡ holders_at s file n
  holders_kept n = ap (λ (m : Memory). count (λ p. is_holding (state_of m p)) s.n) (memory_kept n)

  lines_kept : (n : ℕ) → (standing n).lines ≡ lines_of s file n
  lines_kept zero = refl
  lines_kept (suc n) = rw (lines_kept n, answer_kept n)

  -- ---- PEAK

  out_kept : (n : ℕ) → out_of s (standing n).memory.records ≡ out_at s file n
  out_kept n = tasks_out_lem s (standing n).memory ∙ ap (tasks_out s) (memory_kept n)

  abbrev OutMost : ℕ → ℕ → Type 0
  OutMost n a = Greatest n (λ i. Unit {0}) (λ i. out_at s file (suc i)) a

  peak_more : (n : ℕ) → (standing (suc n)).peak ≡ max (standing n).peak (out_at s file (suc n))
  peak_more n = ap (max (standing n).peak) (out_kept (suc n))

  peak_kept : (n : ℕ) → OutMost n (standing n).peak
  peak_kept zero = none_yet (λ i. Unit {0}) (λ i. out_at s file (suc i))
  peak_kept (suc n) = rw (peak_more n) (one_counted (λ i. Unit {0}) (λ i. out_at s file (suc i)) tt (peak_kept n))

  -- setup writes no record, accepted or not, so nobody is out
  none_at_first : out_of s (setup s largest).memory.records ≡ 0
  none_at_first = rw (setup_clears s largest).writes_no_record
      (count_none (λ p. is_out (get_or (replicate 256 idle) p idle).state) s.n
      (λ p l. ap (λ (r : Record). is_out r.state) (one_value 256 p idle)))

  few_out : (n : ℕ) → out_at s file n ≤ s.k
  few_out n = rw (sym (tasks_out_lem s (memory_at s file n)))
      (run_keeps s (λ m. out_of s m.records ≤ s.k) (call_few s) (events_of file n) (setup s largest).memory
      (rw none_at_first zero-le))

  -- ---- MOST

  -- whoever is told that it holds does so, with the turns that it has used in its record
  completed_turns : (n : ℕ) → Completes s file n
      → turns_in (standing (suc n)).memory (task_at file n).0 ≡ turns_at s file n
  completed_turns n (name, e) =
      let p = (task_at file n).0 in
      let tests = passed s (event_at file n) (memory_at s file n) (told_accepted (answer_at s file n) _ e) in
      let holds : HoldsSome (memory_at s file (suc n)) p =
      rw (run_append s (events_of file n) (event_at file n ∷ []) (setup s largest).memory)
      (held_after s name (event_at file n) (memory_at s file n) e) in
      ap (λ (m : Memory). turns_in m p) (memory_kept (suc n))
      ∙ (each_turns_told s largest (events_of file (suc n)) (setup_takes s tests.limits) p tests.may.known
      ).counted (inr holds)
      ∙ used_counted s file (suc n) p

  abbrev TurnsMost : ℕ → ℕ → Type 0
  TurnsMost n a = Greatest n (Completes s file) (turns_at s file) a

  -- an answer other than "holds" completes nothing, and 0 is added to what MOST is the greatest of
  not_completed : (n a : ℕ) (told : Result Told Refusal) → told_in (answer_at s file n) ≡ told → completed told 1 ≡ 0
      → TurnsMost n a
      → TurnsMost (suc n) (max a 0)
  not_completed n a told e none g =
      rw (max-zero a) (one_skipped (Completes s file) (turns_at s file)
      (λ c. let one = ap (λ (other : Result Told Refusal). completed other 1) (sym e ∙ c.1) in omega arith) g)

  most_more : (n a : ℕ) (told : Result Told Refusal) → told_in (answer_at s file n) ≡ told → TurnsMost n a
      → TurnsMost (suc n) (max a (completed told (turns_in (standing (suc n)).memory (task_at file n).0)))
  most_more n a (Ok Told.Done) e g = not_completed n a (Ok Told.Done) e refl g
  most_more n a (Ok Told.Seeks) e g = not_completed n a (Ok Told.Seeks) e refl g
  most_more n a (Ok (Told.Holds name)) e g =
      rw (completed_turns n (name, e)) (one_counted (Completes s file) (turns_at s file) (name, e) g)
  most_more n a (Ok (Told.Freed name)) e g = not_completed n a (Ok (Told.Freed name)) e refl g
  most_more n a (Err why) e g = not_completed n a (Err why) e refl g

  most_kept : (n : ℕ) → TurnsMost n (standing n).most
  most_kept zero = none_yet (Completes s file) (turns_at s file)
  most_kept (suc n) = most_more n (standing n).most (told_in (answered n))
      (ap told_in (sym (answer_kept n))) (most_kept n)

-- ---- MOST within the bound

-- an acquisition that is completed took no more turns than demand 3 allows
completed_within : (s : Settings) (file : List ℕ) (i : ℕ) → Completes s file i → turns_at s file i ≤ bound s
completed_within s file i (name, e) =
    let p : ℕ = (task_at file i).0 in
    let tests = passed s (event_at file i) (memory_at s file i) (told_accepted (answer_at s file i) _ e) in
    let holds : HoldsSome (memory_at s file (suc i)) p =
    rw (run_append s (events_of file i) (event_at file i ∷ []) (setup s largest).memory)
    (held_after s name (event_at file i) (memory_at s file i) e) in
    rw (sym (used_counted s file (suc i) p))
    ((served_within s largest (events_of file (suc i)) (setup_takes s tests.limits) p
    tests.may.known).holding holds)

-- ---- the theorems

pub end_line_counted : EndLineCounted
end_line_counted file s n opened = record {
  holders = holders_at s file n;
  peak = (progress s file n).peak;
  most = (progress s file n).most;
  counts = record { at_the_end = refl; after_any = peak_kept s file n; of_completed = most_kept s file n };
  printed = ap (λ (o : Opening). listing_by o file) opened ∙ rw (lines_kept s file n, holders_kept s file n);
}

pub end_counts_one : EndCountsOne
end_counts_one s file n holders peak most holders' peak' most' c d = (
  c.at_the_end ∙ sym d.at_the_end,
  greatest_one (λ i. Unit {0}) (λ i. out_at s file (suc i)) c.after_any d.after_any,
  greatest_one (Completes s file) (turns_at s file) c.of_completed d.of_completed,
)

pub most_within_bound : MostWithinBound
most_within_bound s file n holders peak most counts = go counts.of_completed.reached
  where
    go : Attained n (Completes s file) (turns_at s file) most ⊎ (NoneCounts n (Completes s file) × (most ≡ 0))
        → most ≤ bound s
    go (inl (i, l, c, e)) = rw (sym e) (completed_within s file i c)
    go (inr (none, e)) = omega arith

pub peak_within : PeakWithin
peak_within s file n holders peak most counts = go counts.after_any.reached
  where
    go : Attained n (λ i. Unit {0}) (λ i. out_at s file (suc i)) peak ⊎ (NoneCounts n (λ i. Unit {0}) × (peak ≡ 0))
        → peak ≤ s.k
    go (inl (i, l, c, e)) = rw (sym e) (few_out s file (suc i))
    go (inr (none, e)) = omega arith
