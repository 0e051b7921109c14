-- 02, P8, "What light load costs": "If never more than m tasks have been out at once since setup, 1 ≤ m < k, then each
-- acquisition ends within (N+4)(m-1) + N+3 own turns if long-lived, 4m if one-time, and at a place with r+c ≤ m-1.
-- Under version 2 the names held are therefore below m(m+1)/2." The histories are those of demand 3, refused calls
-- included. What is said of every history holds for any m; that the bound is reached is said of 1 ≤ m < k.
-- Theorems: `light_served_within`, `light_stands_near`, `light_names_below`, `light_bound_exact`.
use mathlib.Core.{Path.◌≡◌, Bool.cond, List.{List, [], ◌∷◌, ◌++◌}}
use Rattle.std.specs.Prelude.{ℕ, ◌+◌, ◌-◌, ◌*◌, ◌/◌, ◌≤◌, ◌<◌, T, eqb}
use Rattle.demands.specs.{Memory.{Memory, state_of}, Calls.turn, History.turns}
use Rattle.machine.specs.promises.Ranges.{WithinLimits}
use Rattle.demands.specs.promises.Refusing.{tasks_out}
use Rattle.demands.specs.promises.Demands.{SetUp, memory_after, history_of, used, HoldsName, Seeks, HoldsSome}
use Rattle.demands.specs.promises.Demands.{all_accepted}
use Rattle.machine.specs.declared.{Settings.Settings, State.{State, TheVariants.{Idle, Seeking, Holding}}, Event.Event}

-- ---- what the statements speak of

-- "never more than m tasks have been out at once since setup": after setup and after every event, not at the end only
abbrev pub NeverMoreOut : Settings → Memory → List Event → ℕ → Type 0
NeverMoreOut s lent events m =
    (before after : List Event) → events ≡ before ++ after → tasks_out s (memory_after s lent before) ≤ m

-- "(N+4)(m-1) + N+3 own turns if long-lived, 4m if one-time"
abbrev pub light_bound : Settings → ℕ → ℕ
light_bound s m = cond (eqb s.mode 0) (4 * m) ((s.n + 4) * (m - 1) + s.n + 3)

-- "a place with r+c ≤ m-1"
abbrev pub Near : ℕ → ℕ → ℕ → Type 0
Near m r c = r + c ≤ m - 1

-- where a task stands that seeks or holds
abbrev pub StandsNear : ℕ → State → Type 0
StandsNear m Idle = Unit {0}
StandsNear m (Seeking stand) = Near m stand.r stand.c
StandsNear m (Holding place) = Near m place.r place.c

-- ---- the statements

-- "each acquisition ends within .. own turns", as in demand 3: a task has used fewer while it seeks, at most so many
-- when it holds, and from any point on its own turns alone bring it to hold within them, and near enough too
pub record LightlyServed (s : Settings) (lent : Memory) (events : List Event) (m p : ℕ) : Type 0 where
  pub seeking : Seeks (memory_after s lent events) p → used s lent events p < light_bound s m
  pub holding : HoldsSome (memory_after s lent events) p → used s lent events p ≤ light_bound s m
  pub alone : Seeks (memory_after s lent events) p
      → (more : ℕ) × (used s lent events p + more ≤ light_bound s m)
      × HoldsSome (memory_after s lent (events ++ turns more p)) p
      × StandsNear m (state_of (memory_after s lent (events ++ turns more p)) p)

abbrev pub LightServedWithin : Type 0
LightServedWithin =
    (s : Settings) (lent : Memory) (events : List Event) (m : ℕ) → SetUp s lent → NeverMoreOut s lent events m
    → (p : ℕ) → p < s.n → LightlyServed s lent events m p

-- "and at a place with r+c ≤ m-1"; no task comes further on its way either
abbrev pub LightStandsNear : Type 0
LightStandsNear =
    (s : Settings) (lent : Memory) (events : List Event) (m : ℕ) → SetUp s lent → NeverMoreOut s lent events m
    → (p : ℕ) → p < s.n → StandsNear m (state_of (memory_after s lent events) p)

-- "Under version 2 the names held are therefore below m(m+1)/2"
abbrev pub LightNamesBelow : Type 0
LightNamesBelow =
    (s : Settings) (lent : Memory) (events : List Event) (m : ℕ) → SetUp s lent → NeverMoreOut s lent events m
    → s.version ≡ 2 → (p n : ℕ) → p < s.n
    → HoldsName s (memory_after s lent events) p n → n < m * (m + 1) / 2

-- task 0 needs the bound: after the calls `before` it still seeks, its next turn lets it hold, it has then used exactly
-- the bound, and no call is refused. Never more than m are out, and after the calls `early` there are m.
pub record NeedsLightBound (s : Settings) (lent : Memory) (m : ℕ) (events : List Event) : Type 0 where
  pub accepted : T (all_accepted (history_of s lent events))
  pub never_more : NeverMoreOut s lent events m
  pub early : List Event
  pub later : List Event
  pub parts : events ≡ early ++ later
  pub all_out : tasks_out s (memory_after s lent early) ≡ m
  pub before : List Event
  pub split : events ≡ before ++ (turn 0 ∷ [])
  pub late : Seeks (memory_after s lent before) 0
  pub holds : HoldsSome (memory_after s lent events) 0
  pub exactly : used s lent events 0 ≡ light_bound s m

-- so for every permitted settings and every m below k no smaller bound holds
abbrev pub LightBoundExact : Type 0
LightBoundExact =
    (s : Settings) → WithinLimits s → (m : ℕ) → 1 ≤ m → m < s.k
    → (events : List Event) × ((lent : Memory) → SetUp s lent → NeedsLightBound s lent m events)
