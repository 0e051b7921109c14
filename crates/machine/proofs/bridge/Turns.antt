-- How many turns a record has after a call, as laws of `turns_after`.
use mathlib.Core.Path.{◌≡◌, refl}
use Prim.Native.Nat.{ℕ, ◌+◌}
use lib.Dec.{T}
use Rattle.machine.specs.{Records.is_seeking, Turn.turns_after}
use Rattle.machine.specs.declared.State.{State, TheVariants.{Idle, Seeking, Holding}}
use Rattle.machine.specs.declared.Kind.TheVariants.{Ask, Turn, Release}

-- an ask begins to count
pub ask_counts_anew : (state : State) (t : ℕ) → 0 ≡ turns_after Ask state t
ask_counts_anew state t = refl

-- a turn counts where the task seeks
pub turn_counts : (state : State) (t : ℕ) → T (is_seeking state) → t + 1 ≡ turns_after Turn state t
turn_counts Idle t seeks = absurd seeks
turn_counts (Seeking stand) t seeks = refl
turn_counts (Holding place) t seeks = absurd seeks

-- a release leaves none
pub release_leaves_none : (state : State) (t : ℕ) → 0 ≡ turns_after Release state t
release_leaves_none state t = refl
