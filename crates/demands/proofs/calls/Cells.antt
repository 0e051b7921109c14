-- Marks stand block after block: the order of their indices, and which indices are needed.
use mathlib.Core.{Path.{◌≡◌, ap}, Logic.{◌⊎◌, inl, inr}}
use Prim.Native.Nat.{ℕ, suc, ◌+◌, ◌*◌, ◌≤◌, ◌<◌}
use native.Mathlib.{Nat.{suc-mul, mul-le-mul_right}, Decide.{dec_le, ℕ_discrete}, Omega.arith}
use Rattle.machine.specs.Settings.{width}
use Rattle.demands.specs.promises.Refusing.{BlockByBlock}

-- a place of an earlier block stands before a later block
pub earlier_block : (w b i later : ℕ) → b < later → i < w → b * w + i < later * w
earlier_block w b i later l h =
    let step = mul-le-mul_right {m = suc b} {n = later} w l in
    omega (arith, suc-mul b w)

pub block_by_block : BlockByBlock
block_by_block s b i b' i' h h' = (there, back)
  where
    there : b * width s + i < b' * width s + i' → (b < b') ⊎ ((b ≡ b') × (i < i'))
    there l = go (dec_le (suc b) b') (ℕ_discrete b b')
      where
        go : Dec (suc b ≤ b') → Dec (b ≡ b') → (b < b') ⊎ ((b ≡ b') × (i < i'))
        go (yes low) same = inl low
        go (no high) (yes same) = inr (same, let e = ap (λ (n : ℕ). n * width s) same in omega arith)
        go (no high) (no other) = let z = earlier_block (width s) b' i' b (omega arith) h' in absurd (omega arith)

    back : (b < b') ⊎ ((b ≡ b') × (i < i')) → b * width s + i < b' * width s + i'
    back (inl low) = let z = earlier_block (width s) b i b' low h in omega arith
    back (inr (same, low)) = let e = ap (λ (n : ℕ). n * width s) same in omega arith
