-- Where a task comes to, how it leaves a block and what its release writes, as laws of `arrive`, `leave` and
-- `release_access`.
use mathlib.Core.Path.{◌≡◌}
use Rattle.std.specs.Prelude.{None, ℕ, ◌+◌, ◌≤◌, ◌<◌}
use borrow.Author.Tests.{eq-eqb, ne_eqb, le-leb, lt-leb}
use Rattle.machine.specs.{Settings.own, Places.block_number, Grid.{touch, arrive, move, leave}, Turn.release_access}
use Rattle.machine.specs.declared.{Settings.Settings, Direction.Direction, Point.TheVariants.{WriteX, Clear}}
use Rattle.machine.specs.Places.{block, cell}
use Rattle.machine.specs.declared.State.TheVariants.{Seeking, Holding}
use Rattle.machine.specs.declared.{Register.TheVariants.Mark, Op.TheVariants.Write}

module _ (s : Settings) (r c : ℕ) where
  -- the edge is held at once
  pub arrive_edge : r + c + 1 ≡ s.k → Holding (cell r c) ≡ arrive s r c
  arrive_edge e = rw (eq-eqb (r + c + 1) s.k e)

  -- on a block X is to be written
  pub arrive_block : (r + c + 1 ≡ s.k → ⊥) → Seeking (block r c WriteX) ≡ arrive s r c
  arrive_block d = rw (ne_eqb (r + c + 1) s.k d)

  -- one-time a task goes at once
  pub leave_at_once : (d : Direction) → s.mode ≡ 0 → move s r c d ≡ leave s r c d
  leave_at_once d e = rw (eq-eqb s.mode 0 e)

  -- long-lived it clears first
  pub leave_clearing : (d : Direction) → (s.mode ≡ 0 → ⊥) → Seeking (block r c (Clear d)) ≡ leave s r c d
  leave_clearing d n = rw (ne_eqb s.mode 0 n)

  -- a release clears the own mark of a block
  pub release_clears : (p : ℕ) → r + c + 2 ≤ s.k
      → touch (Mark (block_number s r c) (own s p)) (Write 0) ≡ release_access s p (Holding (cell r c))
  release_clears p b = rw (le-leb (r + c + 2) s.k b)

  -- and touches nothing on the edge
  pub release_nothing : (p : ℕ) → s.k < r + c + 2 → None ≡ release_access s p (Holding (cell r c))
  release_nothing p b = rw (lt-leb (r + c + 2) s.k b)
