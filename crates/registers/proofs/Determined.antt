-- The contract of `touch` determines the value read and the registers afterwards, row by row: two outcomes that it
-- admits are equal.
use mathlib.Core.Path.{◌≡◌, sym, ap, ◌∙◌}
use Prim.Native.Nat.{ℕ}
use Rattle.std.specs.Prelude.{Option}
use Rattle.demands.specs.Memory.{Memory}
use Rattle.machine.specs.declared.{Settings.Settings, Access.Access}
use Rattle.registers.specs.Touching.{Accessed, touched, touching}

pub touched_determined : (s : Settings) (access : Option Access) (before : Memory) (v v' : ℕ) (m m' : Memory)
    → touched v m ≡ touching s access before → touched v' m' ≡ touching s access before
    → (v ≡ v') × (m ≡ m') × (m.xs ≡ m'.xs) × (m.marks ≡ m'.marks)
touched_determined s access before v v' m m' p q =
    let e : touched v m ≡ touched v' m' = p ∙ sym q in
    let left : m ≡ m' = ap (λ (all : Accessed). all.memory) e in (
      ap (λ (all : Accessed). all.value) e,
      left,
      ap (λ (l : Memory). l.xs) left,
      ap (λ (l : Memory). l.marks) left,
    )
