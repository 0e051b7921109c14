-- 01, "Memory that is lent", "Rules of the grid" and "Numbers of refusal", and 02, P1, P3 and P4: how many blocks and
-- names there are, the number of each, what the tests of a state say, and the number of each refusal.
-- Theorems: `places_numbered`, `built_at`, `state_told`, `refusals_numbered`.
use mathlib.Core.{Path.◌≡◌, Logic.◌↔◌, List.{[], ◌∷◌}}
use Rattle.std.specs.Prelude.{ℕ, ◌+◌, ◌-◌, ◌*◌, ◌/◌, ◌≤◌, T}
use Rattle.grid.specs.Triangle.{Numbering}
use Rattle.machine.specs.Places.{blocks, block_number, names, block, cell, place_name}
use Rattle.machine.specs.{Records.{is_idle, is_seeking, is_holding}, RefusalNumbers.{refusal_said, number_of}}
use Rattle.machine.specs.declared.{Settings.Settings, Point.Point, Stand.Stand, Place.Place}
use Rattle.machine.specs.declared.State.{State, TheVariants.{Idle, Seeking, Holding}}
use Rattle.machine.specs.declared.Row.{Row, TheVariants.{Records, Xs, Marks}}
use Rattle.machine.specs.declared.Refusal.{Refusal, TheVariants.{Limits, ShortRow, BusyRow, OutOfRange}}
use Rattle.machine.specs.declared.Refusal.TheVariants.{NoSuchTask, OneTime, TaskIdle, TaskSeeks, TaskHolds}
use Rattle.machine.specs.declared.Refusal.TheVariants.{TooManyOut, FileLength, Letters, Version, TooManyEvents}
use Rattle.machine.specs.declared.Refusal.TheVariants.{EventCode, NoEvent, ShortRoom}

pub record PlacesNumbered (s : Settings) : Type 0 where
  -- "B = k(k-1)/2 blocks"
  pub block_count : blocks s ≡ s.k * (s.k - 1) / 2
  -- "The block at row r, column c exists where r+c ≤ k-2, and its number is r(k-1) - r(r-1)/2 + c."
  pub block_at : (r c : ℕ) → r + c + 2 ≤ s.k → block_number s r c ≡ r * (s.k - 1) - r * (r - 1) / 2 + c
  -- names lie "below k(k+1)/2"
  pub name_count : names s ≡ s.k * (s.k + 1) / 2
  -- "The name at (r, c) is rk - r(r-1)/2 + c", and "version 1 keeps the row rule"
  pub name_by_row : s.version ≡ 1 → (place : Place) → place.r + place.c + 1 ≤ s.k
      → place_name s place ≡ place.r * s.k - place.r * (place.r - 1) / 2 + place.c
  -- "In files of version 2 the name at (r, c) of modes 0 and 1 is d(d+1)/2 + r with d = r+c"
  pub name_by_diagonal : s.version ≡ 2 → (place : Place) → place.r + place.c + 1 ≤ s.k
      → place_name s place ≡ (place.r + place.c) * (place.r + place.c + 1) / 2 + place.r
  -- "Both rules number the places of the triangle 0 to k(k+1)/2-1, each exactly once"
  pub each_name_once : Numbering s.k (λ r c. place_name s (cell r c)) (s.k * (s.k + 1) / 2)

abbrev pub EachNumbered : Type 0
EachNumbered = (s : Settings) → PlacesNumbered s

-- a stand and a cell have the row and the column by which they are built: the lines of the rules speak of them so
pub record BuiltAt (r c : ℕ) (point : Point) : Type 0 where
  pub stand_row : (block r c point).r ≡ r
  pub stand_column : (block r c point).c ≡ c
  pub stand_point : (block r c point).point ≡ point
  pub cell_row : (cell r c).r ≡ r
  pub cell_column : (cell r c).c ≡ c

abbrev pub EachBuiltAt : Type 0
EachBuiltAt = (r c : ℕ) (point : Point) → BuiltAt r c point

-- "A record is idle, or seeking", or holding: the three tests say which
pub record StateTold (state : State) : Type 0 where
  pub idle : T (is_idle state) ↔ (state ≡ Idle)
  pub seeking : T (is_seeking state) ↔ ((stand : Stand) × (state ≡ Seeking stand))
  pub holding : T (is_holding state) ↔ ((place : Place) × (state ≡ Holding place))

abbrev pub EachStateTold : Type 0
EachStateTold = (state : State) → StateTold state

-- the number of each refusal, in the order of the tests
pub record RefusalsNumbered : Type 0 where
  pub limits : number_of Limits ≡ 1
  pub short_row : number_of ShortRow ≡ 2
  pub busy_row : number_of BusyRow ≡ 18
  pub out_of_range : (row : Row) (index : ℕ) → number_of (OutOfRange row index) ≡ 3
  pub no_such_task : number_of NoSuchTask ≡ 4
  pub one_time : number_of OneTime ≡ 5
  pub task_idle : number_of TaskIdle ≡ 15
  pub task_seeks : number_of TaskSeeks ≡ 16
  pub task_holds : number_of TaskHolds ≡ 17
  pub too_many_out : number_of TooManyOut ≡ 7
  pub file_length : number_of FileLength ≡ 8
  pub letters : number_of Letters ≡ 9
  pub version : number_of Version ≡ 10
  pub too_many_events : number_of TooManyEvents ≡ 11
  pub event_code : number_of EventCode ≡ 12
  pub no_event : number_of NoEvent ≡ 13
  pub short_room : number_of ShortRoom ≡ 14
  -- a refusal "answers its number and nothing more, except that 3 adds which row and the index of the first bad value":
  -- the rows are told as 0, 1 and 2
  pub nothing_more : (why : Refusal) → (number_of why ≡ 3 → ⊥) → (refusal_said why).values ≡ []
  pub in_records : (index : ℕ) → (refusal_said (OutOfRange Records index)).values ≡ 0 ∷ index ∷ []
  pub in_xs : (index : ℕ) → (refusal_said (OutOfRange Xs index)).values ≡ 1 ∷ index ∷ []
  pub in_marks : (index : ℕ) → (refusal_said (OutOfRange Marks index)).values ≡ 2 ∷ index ∷ []
