-- What the supervisor promises: no two channels have one row of the table, every row that a channel has is in the
-- table, and an interrupt of one channel changes no other's row. Theorems: `kept_apart`, `desk_apart`.
use Rattle.std.specs.Prelude.{◌≡◌, ℕ, ◌<◌, None, Some, length, get_or}
use Rattle.demands.specs.{Memory.Memory, Answers.Reply, Calls.{event_of, call}, Lent.lent}
use Rattle.machine.specs.declared.Kind.{Kind}
use Rattle.supervisor.specs.Kept.{board, Kept}
use Rattle.supervisor.specs.declared.Desk.{Desk}

-- the memory that is lent to the calls
abbrev pub memory_of : Desk → Memory
memory_of desk = lent desk.records desk.xs desk.marks

-- the promise, in the supervisor's own terms: channel p has row n where its entry is the name n
abbrev pub HasRow : Desk → ℕ → ℕ → Type 0
HasRow desk p n = get_or desk.rows p None ≡ Some (record { 0 = n })

pub record RowsApart (desk : Desk) : Type 0 where
  pub apart : (p q n : ℕ) → p < 4 → q < 4 → HasRow desk p n → HasRow desk q n → p ≡ q
  pub below : (p n : ℕ) → p < 4 → HasRow desk p n → n < length desk.totals

abbrev pub KeptApart : Type 0
KeptApart = (desk : Desk) → Kept (memory_of desk) desk.rows desk.totals → RowsApart desk

-- and every desk is kept
abbrev pub EachApart : Type 0
EachApart = (desk : Desk) → RowsApart desk

-- what an interrupt of channel p leaves alone: the rows that the others have, and what stands in them
pub record OthersKeep (p : ℕ) (before after : Desk) : Type 0 where
  pub rows : (q : ℕ) → (q ≡ p → ⊥) → get_or after.rows q None ≡ get_or before.rows q None
  pub totals : (q n : ℕ) → q < 4 → (q ≡ p → ⊥) → HasRow after q n → get_or after.totals n 0 ≡ get_or before.totals n 0

-- a call of channel p: the memory and the answer are the call's, and the table stays
pub record Served (kind : Kind) (p : ℕ) (before after : Desk) (answer : Reply) : Type 0 where
  pub memory : memory_of after ≡ (call board (event_of kind p) (memory_of before)).memory
  pub answered : answer ≡ (call board (event_of kind p) (memory_of before)).answer
  pub table : after.totals ≡ before.totals
