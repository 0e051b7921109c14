-- 01, "What the supervisor holds" and "Memory that is lent", with 02: the limits of the settings, and which records are
-- in range, in plain terms of numbers. None of the tests of the definitions is cited here; `limits_tested`,
-- `state_line` and `turns_line` prove that they say the same.
use mathlib.Core.{Path.◌≡◌, Logic.◌⊎◌, Bool.{Bool, true, false}}
use Rattle.std.specs.Prelude.{ℕ, ◌+◌, ◌≤◌, ◌<◌}
use Rattle.machine.specs.Settings.{bound}
use Rattle.machine.specs.declared.Settings.{Settings}
use Rattle.machine.specs.declared.Point.{Point, TheVariants.{WriteX, Scan, WriteMark, ReadX, Clear}}
use Rattle.machine.specs.declared.{Stand.Stand, Place.Place, State.{State, TheVariants.{Idle, Seeking, Holding}}}

-- "mode 0 (one-time) or 1 (long-lived); N from 1 to 256; k from 1 to 16 and at most N"; 02, P3: "The settings carry the
-- version, 1 or 2"
pub record WithinLimits (s : Settings) : Type 0 where
  pub modes : (s.mode ≡ 0) ⊎ (s.mode ≡ 1)
  pub n_least : 1 ≤ s.n
  pub n_most : s.n ≤ 256
  pub k_least : 1 ≤ s.k
  pub k_most : s.k ≤ 16
  pub k_within : s.k ≤ s.n
  pub versions : (s.version ≡ 1) ⊎ (s.version ≡ 2)

-- "write X; scan at h (0 ≤ h < N, only h = 0 in mode 0); write mark; read X; clear, going right or down (mode 1 only)"
abbrev pub PointWithin : Settings → Point → Type 0
PointWithin s WriteX = Unit {0}
PointWithin s (Scan h) = (h < s.n) × (s.mode ≡ 0 → h ≡ 0)
PointWithin s WriteMark = Unit {0}
PointWithin s ReadX = Unit {0}
PointWithin s (Clear direction) = s.mode ≡ 1

-- "idle, or seeking with r, c (r+c ≤ k-2) and a point, or holding with r, c (r+c ≤ k-1)"
abbrev pub StandWithin : Settings → Stand → Type 0
StandWithin s stand = (stand.r + stand.c + 2 ≤ s.k) × PointWithin s stand.point

abbrev pub PlaceWithin : Settings → Place → Type 0
PlaceWithin s place = place.r + place.c + 1 ≤ s.k

abbrev pub StateWithin : Settings → State → Type 0
StateWithin s Idle = Unit {0}
StateWithin s (Seeking stand) = StandWithin s stand
StateWithin s (Holding place) = PlaceWithin s place

-- 02, P7: "A seeking or holding record carries the accepted turns since its ask"; "In a seeking record a figure at or
-- above demand 3's bound is out of range, in a holding one a figure above it". An idle record has none
abbrev pub TurnsWithin : Settings → State → ℕ → Type 0
TurnsWithin s Idle turns = turns ≡ 0
TurnsWithin s (Seeking stand) turns = turns < bound s
TurnsWithin s (Holding place) turns = turns ≤ bound s

-- "A task is out while it seeks or holds."
abbrev pub seeks_or_holds : State → Bool
seeks_or_holds Idle = false
seeks_or_holds (Seeking stand) = true
seeks_or_holds (Holding place) = true
