-- 01, "Memory that is lent", with 02: how much of each lent row is needed, and which values are in range, in plain
-- terms of numbers. None of the tests of the definitions is cited here; `refusal_exact` proves that they say the same.
use mathlib.Core.{Path.◌≡◌, Logic.◌⊎◌}
use Rattle.std.specs.Prelude.{ℕ, ◌-◌, ◌*◌, ◌/◌, ◌<◌, get_or}
use Rattle.demands.specs.Memory.{Memory, state_of, turns_in}
use Rattle.machine.specs.promises.Ranges.{StateWithin, TurnsWithin}
use Rattle.machine.specs.declared.{Settings.Settings, Row.{Row, TheVariants.{Records, Xs, Marks}}}

-- more than so many values of a row are needed: "at least N records"; "X numbers: one for each block, B = k(k-1)/2
-- blocks"; marks: "B in mode 0, B times N in mode 1"
abbrev pub NeedsMore : Settings → Row → ℕ → Type 0
NeedsMore s Records n = n < s.n
NeedsMore s Xs n = n < s.k * (s.k - 1) / 2
NeedsMore s Marks n = ((s.mode ≡ 0) × (n < s.k * (s.k - 1) / 2))
    ⊎ ((s.mode ≡ 1) × (n < s.k * (s.k - 1) / 2 * s.n))

-- "Any other value is out of range, as is an X above N or a mark above 1"
abbrev pub BadAt : Settings → Memory → Row → ℕ → Type 0
BadAt s m Records p = StateWithin s (state_of m p) × TurnsWithin s (state_of m p) (turns_in m p) → ⊥
BadAt s m Xs block = s.n < get_or m.xs block 0
BadAt s m Marks index = 1 < get_or m.marks index 0

-- the value at an index of a row is needed and out of range; some value of the row is
abbrev pub OutOfRangeAt : Settings → Memory → Row → ℕ → Type 0
OutOfRangeAt s m row index = NeedsMore s row index × BadAt s m row index

abbrev pub SomeOutOfRange : Settings → Memory → Row → Type 0
SomeOutOfRange s m row = (index : ℕ) × OutOfRangeAt s m row index
