-- One access on the rows of registers, which stand as a memory without records: an access touches no record.
use mathlib.Core.{Path.◌≡◌, List.{List, []}}
use Rattle.std.specs.Prelude.{Option, ℕ, ◌<◌}
use Rattle.demands.specs.{Memory.Memory, Touching.{value, store}}
use Rattle.machine.specs.Turn.{seen, left}
use Rattle.machine.specs.declared.{Settings.Settings, Op.{Op, TheVariants.{Read, Write}}, Access.Access}

-- the rows of X numbers and marks as a memory
abbrev pub rows : List ℕ → List ℕ → Memory
rows xs marks = record { records = []; xs = xs; marks = marks }

-- an operation on one register: what it sees, and what it leaves
pub record OnRegister (op : Op) (before v after : ℕ) : Type 0 where
  pub sees : v ≡ seen op before
  pub leaves : after ≡ left op before

-- what is written, if anything, is below a limit
abbrev pub Below : ℕ → Op → Type 0
Below limit Read = Unit {0}
Below limit (Write v) = v < limit

-- the value read, and the registers afterwards
pub record Accessed : Type 0 where
  pub value : ℕ
  pub memory : Memory

abbrev pub touching : Settings → Option Access → Memory → Accessed
touching s access m = record { value = value s access m; memory = store s access m }

abbrev pub touched : ℕ → Memory → Accessed
touched value m = record { value = value; memory = m }
