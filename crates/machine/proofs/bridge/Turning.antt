-- What a turn does at each point that has two ways to go on, as laws of `point_turned`.
use mathlib.Core.Path.{◌≡◌}
use Prim.Native.Nat.{ℕ, ◌+◌}
use borrow.Author.Tests.{eq-eqb, ne_eqb}
use Rattle.machine.specs.{Settings.width, Grid.{leave, point_turned}}
use Rattle.machine.specs.declared.{Settings.Settings, Direction.TheVariants.{Right, Down}}
use Rattle.machine.specs.declared.Point.TheVariants.{Scan, WriteMark, ReadX}
use Rattle.machine.specs.Places.{block, cell}
use Rattle.machine.specs.declared.State.TheVariants.{Seeking, Holding}

module _ (s : Settings) (p r c : ℕ) where
  -- a scan that finds a mark leaves to the right
  pub scan_marked : (h v : ℕ) → v ≡ 1 → leave s r c Right ≡ point_turned s p r c (Scan h) v
  scan_marked h v e = rw (eq-eqb v 1 e)

  -- a scan that finds none at the last mark goes on to write its own
  pub scan_done : (h v : ℕ) → (v ≡ 1 → ⊥) → h + 1 ≡ width s
      → Seeking (block r c WriteMark) ≡ point_turned s p r c (Scan h) v
  scan_done h v d e = rw (ne_eqb v 1 d, eq-eqb (h + 1) (width s) e)

  -- and before the last mark goes on to the next
  pub scan_on : (h v : ℕ) → (v ≡ 1 → ⊥) → (h + 1 ≡ width s → ⊥)
      → Seeking (block r c (Scan (h + 1))) ≡ point_turned s p r c (Scan h) v
  scan_on h v d e = rw (ne_eqb v 1 d, ne_eqb (h + 1) (width s) e)

  -- who reads its own number in X holds the block
  pub reads_own : (v : ℕ) → v ≡ p + 1 → Holding (cell r c) ≡ point_turned s p r c ReadX v
  reads_own v e = rw (eq-eqb v (p + 1) e)

  -- who reads another leaves downwards
  pub reads_other : (v : ℕ) → (v ≡ p + 1 → ⊥) → leave s r c Down ≡ point_turned s p r c ReadX v
  reads_other v d = rw (ne_eqb v (p + 1) d)
