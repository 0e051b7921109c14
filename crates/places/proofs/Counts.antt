-- How large the counts of the grid are, that the product of two of them fits, and that a mark stands among the marks
-- that are needed.
use native.Mathlib.{Nat.mul-le-mul, Omega.arith}
use Prim.Native.Nat.{ℕ, ◌*◌, ◌≤◌, ◌<◌}
use lib.Dec.{T}
use mir.{Syntax.w64, Val.Fits}
use Rattle.machine.specs.{Settings.{permitted, width}, Places.blocks, declared.Settings.Settings}
use Rattle.demands.specs.Memory.{marks_needed, mark_index}
use Rattle.demands.proofs.calls.Cells.{earlier_block}
use Rattle.machine.proofs.refusals.Limits.{limits, width_most}
use Rattle.grid.proofs.Triangle.{half_most}

module _ (s : Settings) (within : T (permitted s)) where
  pub blocks_most : blocks s ≤ 120
  blocks_most = half_most s.k (limits s within).k_most

  pub block_most : width s ≤ 256
  block_most = width_most s (limits s within)

pub product_fits : (a b : ℕ) → a ≤ 256 → b ≤ 256 → Fits w64 (a * b)
product_fits a b small_a small_b = omega (arith, mul-le-mul {n₁ = a} {m₁ = b} {n₂ = 256} {m₂ = 256} small_a small_b)

pub mark_index_below : (s : Settings) (block place : ℕ) → block < blocks s → place < width s
    → mark_index s block place < marks_needed s
mark_index_below s block place b p = earlier_block (width s) block place (blocks s) b p

pub ruleset counts = (blocks_most, block_most, product_fits)
