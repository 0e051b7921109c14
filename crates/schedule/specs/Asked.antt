-- 01, "Schedule file": a reader, and what asking it for its next event does.
use mathlib.Core.{Path.◌≡◌, List.List}
use Rattle.std.specs.Prelude.{ℕ}
use Rattle.std.specs.Borrow.{Bor}
use Rattle.file.specs.File.{Reading, reading}
use Rattle.schedule.specs.declared.Reader.{Reader}

-- a reader of a lent file, at a position
abbrev pub reader_at : Bor (List ℕ) → ℕ → Reader
reader_at file at = record { file = file; at = at }

-- asked, a reader answers what stands at its position, keeps its file, and moves as that answer says
pub record Asked (before : Reader) (answer : Reading) (after : Reader) : Type 0 where
  pub answered : answer ≡ (reading before.file.now before.at).answer
  pub same_file : after.file ≡ before.file
  pub moved : after.at ≡ (reading before.file.now before.at).at
