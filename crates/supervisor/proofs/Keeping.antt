-- Setup, a further setup and a call keep what the supervisor keeps, by what the library promises its callers: the
-- memory stays reached (`Reached`) and the notes agree (`Notes`). So no two channels have one row.
use mathlib.Core.{Path.{◌≡◌, refl, sym, ap, ◌∙◌}, Logic.{inl, inr, ∥∥₁_elim, ∥∥₁_map}, List.{List, map}}
use Prim.Native.Nat.{ℕ, ◌<◌}
use native.Mathlib.Omega.{arith}
use lib.{Dec.lit≤, ListN.{get_or, set, length-set, length-map, get_or-map, replicate}, Seq.get_or-set_other}
use Rattle.std.specs.Prelude.{Option, None, Some, ◌+◌}
use Rattle.std.proofs.{lemmas.List.{map-set}, Props.{props}}
use Rattle.machine.specs.{Records.idle, promises.Ranges.WithinLimits}
use Rattle.demands.specs.{Memory.Memory, Answers.{Reply, told_in}, Calls.{Outcome, event_of, call, setup}}
use Rattle.demands.specs.Lent.{lent, leaves}
use Rattle.demands.specs.promises.{Refusing.SomeRowShort, Demands.SetUp, Notes.{noted, notes_after}}
use Rattle.machine.specs.declared.{Kind.Kind, Name.Name}
use Rattle.demands.proofs.histories.{Reached.reached_promises, Notes.notes_kept}
use Rattle.counting.proofs.Lists.{one_value}
use Rattle.supervisor.specs.Kept.{board, note_of, Kept}
use Rattle.supervisor.specs.Desk.{memory_of, HasRow, KeptApart, EachApart, OthersKeep}
use Rattle.supervisor.specs.declared.Desk.{Desk}

-- a row that a channel has is noted
has_noted : (desk : Desk) (p n : ℕ) → HasRow desk p n → get_or (map note_of desk.rows) p 0 ≡ n + 1
has_noted desk p n has = get_or-map note_of desk.rows p None ∙ ap note_of has

pub kept_apart : KeptApart
kept_apart desk kept = record {
  apart = λ p q n known other has too. (notes_kept board).apart (memory_of desk) (map note_of desk.rows) kept.reached
      kept.agree p q n known other (has_noted desk p n has) (has_noted desk q n too);
  below = λ p n known has. rw kept.table ((notes_kept board).below (memory_of desk) (map note_of desk.rows) kept.reached
      kept.agree p n known (has_noted desk p n has));
}

pub desk_apart : EachApart
desk_apart desk = record {
  apart = λ p q n known other has too.
      ∥∥₁_elim desk.kept (Prim.hlevel props) (λ kept. (kept_apart desk kept).apart p q n known other has too);
  below = λ p n known has. ∥∥₁_elim desk.kept (Prim.hlevel props) (λ kept. (kept_apart desk kept).below p n known has);
}

-- ---- setup

within : WithinLimits board
within = record {
  modes = inr refl;
  n_least = lit≤ tt;
  n_most = lit≤ tt;
  k_least = lit≤ tt;
  k_most = lit≤ tt;
  k_within = lit≤ tt;
  versions = inr refl;
}

-- what a new supervisor lends
abbrev pub new_memory : Memory
new_memory = lent (replicate 256 idle) (replicate 1 0) (replicate 4 0)

-- the memory of an outcome
memory_left : {answer : Reply} {after : Memory} {outcome : Outcome} → leaves answer after ≡ outcome
    → after ≡ outcome.memory
memory_left is = ap (λ (left : Outcome). left.memory) is

takes_new : SetUp board new_memory
takes_new = reached_promises.takes board new_memory within short (λ p l. one_value 256 p idle)
  where
    short : SomeRowShort board new_memory → ⊥
    short (inl records) = omega arith
    short (inr (inl xs)) = omega arith
    short (inr (inr (inl once))) = omega arith
    short (inr (inr (inr long))) = omega arith

pub begun : (after : Memory) (answer : Reply) → leaves answer after ≡ setup board new_memory
    → Kept after (replicate 4 None) (replicate 3 0)
begun after answer is = rw (memory_left is) (record {
  long = refl;
  table = refl;
  reached = reached_promises.begins board new_memory takes_new;
  agree = (notes_kept board).empty new_memory (replicate 4 0) takes_new (λ p. one_value 4 p 0);
})

module _ {m : Memory} {rows : List (Option Name)} {totals : List ℕ} (truly : ∥ Kept m rows totals ∥₁) where
  pub set_up_again : (after : Memory) (answer : Reply) → leaves answer after ≡ setup board m
      → ∥ Kept after rows totals ∥₁
  set_up_again after answer is = rw (memory_left is) (∥∥₁_map truly (λ kept. record {
    long = kept.long;
    table = kept.table;
    reached = reached_promises.again board m kept.reached;
    agree = (notes_kept board).over_setup m (map note_of rows) kept.agree;
  }))

  -- ---- a call

  module _ (kind : Kind) (p : ℕ) (known : p < 4) (after : Memory) (answer : Reply) (row : Option Name)
      (is : leaves answer after ≡ call board (event_of kind p) m)
      (follows : note_of row ≡ noted (told_in answer) (note_of (get_or rows p None))) where
    -- the notes of the rows follow the call
    after_noted : map note_of (set rows p row) ≡ notes_after board (event_of kind p) m (map note_of rows)
    after_noted =
        map-set note_of rows p row ∙ ap (set (map note_of rows) p) (follows
        ∙ ap (noted (told_in answer)) (sym (get_or-map note_of rows p None))
        ∙ ap (λ (outcome : Outcome). noted (told_in outcome.answer) (get_or (map note_of rows) p 0)) is)

    pub served : ∥ Kept after (set rows p row) totals ∥₁
    served = rw (memory_left is) (∥∥₁_map truly (λ kept. record {
      long = length-set rows p row ∙ kept.long;
      table = kept.table;
      reached = reached_promises.kept board (event_of kind p) m kept.reached;
      agree = rw after_noted
          ((notes_kept board).kept (event_of kind p) m (map note_of rows) (rw (length-map, kept.long) known)
          kept.agree);
    }))

-- ---- the table

-- the row that a channel has is in the table
pub in_table : (desk : Desk) (p : ℕ) (name : Name) → p < 4 → get_or desk.rows p None ≡ Some name → name.0 < 3
in_table desk p name known has = ∥∥₁_elim desk.kept (Prim.hlevel props)
    (λ kept. rw (← kept.table) ((kept_apart desk kept).below p name.0 known has))

-- the table is no part of what is kept but for its length
pub changed : {m : Memory} {rows : List (Option Name)} {totals : List ℕ} (n total : ℕ) → ∥ Kept m rows totals ∥₁
    → ∥ Kept m rows (set totals n total) ∥₁
changed {totals = totals} n total truly = ∥∥₁_map truly (λ kept. record {
  long = kept.long;
  table = length-set totals n total ∙ kept.table;
  reached = kept.reached;
  agree = kept.agree;
})

-- and no other channel has that row
pub others_changed : (before after : Desk) (p : ℕ) (name : Name) (total : ℕ) → p < 4
    → get_or before.rows p None ≡ Some name → after.rows ≡ before.rows → after.totals ≡ set before.totals name.0 total
    → OthersKeep p before after
others_changed before after p name total known has rows totals = record {
  rows = λ q other. ap (λ (list : List (Option Name)). get_or list q None) rows;
  totals = λ q n low other there. ap (λ (list : List ℕ). get_or list n 0) totals
      ∙ get_or-set_other before.totals name.0 n total 0
      (λ is. other ((desk_apart before).apart q p name.0 low known
      (ap (λ (list : List (Option Name)). get_or list q None) (sym rows) ∙ there
      ∙ ap (λ (k : ℕ). Some (record { 0 = k })) is)
      has));
}
