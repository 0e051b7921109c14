-- Demand 3, "Tasks holding names hold different ones, all below k(k+1)/2": no two tasks hold one place, and different
-- places have different names.
use mathlib.Core.{Path.{◌≡◌, refl}, List.List}
use Prim.Native.Nat.{ℕ, ◌<◌}
use lib.Dec.{T}
use Rattle.machine.specs.Records.{state_in_range}
use Rattle.demands.specs.Memory.{Memory, state_of}
use Rattle.demands.specs.promises.Demands.{SetUp, memory_after}
use Rattle.machine.specs.promises.Ranges.{WithinLimits, PlaceWithin}
use Rattle.machine.specs.declared.{Settings.Settings, Place.Place, State.TheVariants.Holding, Event.Event}
use Rattle.machine.proofs.refusals.RecordLines.{place_line}
use Rattle.demands.proofs.{calls.Fresh.setup_within, bridge.AsGrid.grid_of}
use Rattle.demands.proofs.bridge.Histories.{rules, all_in_place, InOrder, always_in_order}
use Rattle.grid.proofs.Invariant.{AllInPlace, one_holder}

module _ (s : Settings) (lent : Memory) (events : List Event) (ok : SetUp s lent) where
  abbrev fair : WithinLimits s
  fair = setup_within s lent ok

  fine : InOrder s fair (memory_after s lent events)
  fine = always_in_order s lent ok events

  placed : AllInPlace (rules s fair) (grid_of s (memory_after s lent events))
  placed = all_in_place s fair (memory_after s lent events) fine.invariants.fit

  pub held_place : (p : ℕ) (place : Place) → p < s.n → state_of (memory_after s lent events) p ≡ Holding place
      → PlaceWithin s place
  held_place p place l e =
      let there : T (state_in_range s (state_of (memory_after s lent events) p)) =
      fine.invariants.fit.in_range.records p l in
      (place_line s fair place).says (rw e at there)

  pub one_place : (p q : ℕ) (place : Place) → p < s.n → q < s.n
      → state_of (memory_after s lent events) p ≡ Holding place
      → state_of (memory_after s lent events) q ≡ Holding place
      → (q ≡ p → ⊥) → ⊥
  one_place p q place lp lq hp hq =
      one_holder (rules s fair) (grid_of s (memory_after s lent events)) placed
      fine.invariants.invariant p q place.r place.c lp lq
      (rw hp (refl, refl)) (rw hq (refl, refl))
