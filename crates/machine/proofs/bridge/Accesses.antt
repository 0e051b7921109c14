-- What a turn touches, what an operation sees and leaves, and what is shown of it, as laws of `point_access`,
-- `seen`, `left` and `shown_by`.
use mathlib.Core.{Path.{◌≡◌, refl, sym, ap}, Bool.not}
use Rattle.std.specs.Prelude.{Option, ℕ, ◌+◌}
use Rattle.machine.specs.{Settings.own, Places.{block_number, block}, Grid.{touch, point_access}}
use Rattle.machine.specs.Turn.{access, op_reads, op_writes, seen, left, show, shown_by}
use Rattle.machine.specs.declared.{Settings.Settings, Direction.Direction, Kind.TheVariants.Turn}
use Rattle.machine.specs.declared.State.TheVariants.{Seeking}
use Rattle.machine.specs.declared.Point.{Point, TheVariants.{WriteX, Scan, WriteMark, ReadX, Clear}}
use Rattle.machine.specs.declared.{Register.{Register, TheVariants.{X, Mark}}, Op.{Op, TheVariants.{Read, Write}}}
use Rattle.machine.specs.declared.{Access.Access, Letter.TheVariants.{R, W}}
use Rattle.machine.proofs.bridge.AsRules.{own_one_time, own_long_lived}

module _ (s : Settings) (p r c : ℕ) where
  -- what each other point touches
  pub writes_x : touch (X (block_number s r c)) (Write (p + 1)) ≡ point_access s p r c WriteX
  writes_x = refl

  pub scans : (h : ℕ) → touch (Mark (block_number s r c) h) Read ≡ point_access s p r c (Scan h)
  scans h = refl

  pub reads_x : touch (X (block_number s r c)) Read ≡ point_access s p r c ReadX
  reads_x = refl

  pub clears_own : (d : Direction)
      → touch (Mark (block_number s r c) (own s p)) (Write 0) ≡ point_access s p r c (Clear d)
  clears_own d = refl

  -- and a seeker's turn touches what its point does
  pub turn_touches : (point : Point) → point_access s p r c point ≡ access s Turn p (Seeking (block r c point))
  turn_touches point = refl

  abbrev marks : ℕ → Option Access
  marks place = touch (Mark (block_number s r c) place) (Write 1)

  -- the write of a mark of the block: one-time of the one mark, whichever task it is
  pub marks_the_one : s.mode ≡ 0 → marks 0 ≡ point_access s p r c WriteMark
  marks_the_one once = ap marks (sym (own_one_time s p once))

  -- long-lived of the task's own
  pub marks_its_own : s.mode ≡ 1 → marks p ≡ point_access s p r c WriteMark
  marks_its_own long = ap marks (sym (own_long_lived s p long))

-- an operation reads or writes, and not both
pub reads_or_writes : (op : Op) → op_reads op ≡ not (op_writes op)
reads_or_writes Read = refl
reads_or_writes (Write v) = refl

-- a read sees what the register has, and leaves it there
pub read_sees : (old : ℕ) → old ≡ seen Read old
read_sees old = refl

pub read_leaves : (old : ℕ) → old ≡ left Read old
read_leaves old = refl

-- a write sees nothing of it, and leaves its own value
pub write_sees_nothing : (v old : ℕ) → 0 ≡ seen (Write v) old
write_sees_nothing v old = refl

pub write_leaves : (v old : ℕ) → v ≡ left (Write v) old
write_leaves v old = refl

-- a read is shown with the value read, a write with the value written
pub read_shown : (register : Register) (v : ℕ) → show R register v ≡ shown_by (touch register Read) v
read_shown register v = refl

pub write_shown : (register : Register) (w v : ℕ) → show W register w ≡ shown_by (touch register (Write w)) v
write_shown register w v = refl
