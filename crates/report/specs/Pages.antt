-- The contract of what writes on a page.
use mathlib.Core.Path.{◌≡◌}
use Rattle.std.specs.Prelude.{List, ℕ, ◌+◌, ◌≤◌, length}
use Rattle.report.specs.Writes.{Writes}
use Rattle.report.specs.declared.Page.{Page}

-- a page has room for so many bytes more
abbrev pub Fits : ℕ → Page → Type 0
Fits more page = page.at + more ≤ length page.room.now

-- the same lent room, as long as it was, where the text stands behind what was written
pub record Adds (most : ℕ) (old : Page) (text : List ℕ) (new : Page) : Type 0 where
  pub same : new.room.ghost_name ≡ old.room.ghost_name
  pub long : length new.room.now ≡ length old.room.now
  pub line : Writes most old.room.now old.at text new.at new.room.now
