-- What a call that is accepted tells: the tests that it passed, and that its outcome is that of the rules.
use mathlib.Core.{Path.{◌≡◌, refl}, Logic.{inl, inr}, Bool.{Bool, true, false, not}}
use Prim.Native.Nat.{ℕ, ◌<◌}
use Rattle.std.specs.Prelude.{Err, Ok}
use native.Mathlib.Omega.{arith}
use lib.{Dec.T, ListN.length}
use Rattle.machine.specs.{Places.blocks, Records.{state_in_range, turns_in_range}}
use Rattle.demands.specs.{Memory.{Memory, marks_needed, state_of, turns_in}, Answers.is_accepted}
use Rattle.demands.specs.Calls.{Outcome, refuse_or, verdict_of, call}
use Rattle.machine.specs.declared.{Settings.Settings, Event.Event, Row.{Row, TheVariants.{Records, Xs, Marks}}}
use Rattle.machine.specs.promises.Ranges.{WithinLimits}
use Rattle.demands.specs.promises.{Rows.SomeOutOfRange, Refusing.{NoneHolds, SomeRowShort, call_lines}}
use Rattle.demands.specs.promises.OneAccess.{AcceptedIn}
use Rattle.demands.specs.Refusals.{Verdict}
use Rattle.demands.proofs.refusals.Lines.{needed_of, in_range_at, needs_line, bad_line, release_line, right_moment}
use Rattle.demands.proofs.refusals.{Lines.out_line, Refusing.{accepted_zero, ruled, within, call_refused}}
use Rattle.demands.proofs.refusals.Passed.{Fit, Passed}
use Rattle.counting.proofs.{Bools.{and_l, and_r}, Tested.misses}

not_not : (b : Bool) → (T (not b) → ⊥) → T b
not_not true no_fail = tt
not_not false no_fail = no_fail tt

-- no row is short, and no needed value out of range
pub fits : (s : Settings) → WithinLimits s → (m : Memory) → (SomeRowShort s m → ⊥)
    → ((row : Row) → SomeOutOfRange s m row → ⊥) → Fit s m
fits s l m long none =
    let records : length m.records < s.n → ⊥ = λ h. long (inl h) in
    let xs : length m.xs < blocks s → ⊥ = λ h. long (inr (inl ((needs_line s l Xs _).0 h))) in
    let marks : length m.marks < marks_needed s → ⊥ = λ h. long (inr (inr ((needs_line s l Marks _).0 h))) in
    record {
      long = record { records = omega arith; xs = omega arith; marks = omega arith };
      in_range = record {
        records = λ p low. and_l (state_in_range s (state_of m p)) (turns_in_range s (state_of m p) (turns_in m p))
            (in_range_at_lem Records p low);
        turns = λ p low. and_r (state_in_range s (state_of m p)) (turns_in_range s (state_of m p) (turns_in m p))
            (in_range_at_lem Records p low);
        xs = in_range_at_lem Xs;
        marks = in_range_at_lem Marks;
      };
    }
  where
    in_range_at_lem : (row : Row) (index : ℕ) → index < needed_of s row → T (in_range_at s l m row index)
    in_range_at_lem row index low =
        not_not (in_range_at s l m row index)
        (λ t. none row (index, ((needs_line s l row index).0 low, (bad_line s l m row index).says t)))

-- an accepted call meets no line of the table
pub meets_none : (s : Settings) (event : Event) (m : Memory) → AcceptedIn s event m → NoneHolds (call_lines s event m)
meets_none s event m t = (call_refused s event m).exactly.accepted.0 ((accepted_zero (call s event m).answer).0 t)

pub passed : (s : Settings) (event : Event) (m : Memory) → AcceptedIn s event m → Passed s event m
passed s event m t =
    let (fair, (long, (records, (xs, (marks, (known, (lived, (idle, (seeking, (holding, (room, last))))))))))) =
    meets_none s event m t in
    let l = within s fair in
    record {
      limits = l;
      fit = fits s l m long (elim [ Records ↦ records | Xs ↦ xs | Marks ↦ marks ]);
      may = record {
        known = omega arith;
        lived = misses (release_line s event.kind) lived;
        moment = right_moment event.kind (state_of m event.task.0) idle seeking holding;
        room = misses (out_line s event.kind m) room;
      };
    }

-- an accepted call does what the rules say
pub by_the_rules : (s : Settings) (event : Event) (m : Memory) → AcceptedIn s event m → call s event m ≡ ruled s event m
by_the_rules s event m = go (verdict_of s event m) (ruled s event m)
  where
    go : (verdict : Verdict) (outcome : Outcome) → T (is_accepted (refuse_or verdict m outcome).answer)
        → refuse_or verdict m outcome ≡ outcome
    go (Ok accepted) outcome t = refl
    go (Err why) outcome t = absurd t
