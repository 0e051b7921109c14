-- 02, P8: what light load costs, but for the schedule that reaches the bound (`LightExact`). J2 holds for any m, so
-- with at most m out at once nobody comes further than m - 1 blocks from the corner (`covered_near`), and the turns
-- that a task has used are tied to its place (`Within`).
use mathlib.Core.{Path.{◌≡◌, refl, ap, ◌∙◌}, Logic.{◌⊎◌, inl, inr}, List.{List, [], ◌∷◌, ◌++◌}}
use Prim.Native.Nat.{ℕ, ◌+◌, ◌-◌, ◌*◌, ◌≤◌, ◌<◌, zero-le}
use native.Mathlib.{Nat.le_trans, Omega.arith}
use lib.Dec.{T}
use borrow.Author.Tests.{eq-eqb, ne_eqb}
use Rattle.machine.specs.{Settings.width, Records.{is_seeking, is_holding, is_out}}
use Rattle.demands.specs.{Memory.{Memory, state_of, out_of}, Calls.{call, setup, turn}, History.{run, turns}}
use Rattle.machine.specs.promises.Ranges.{WithinLimits}
use Rattle.demands.specs.promises.{Refusing.tasks_out, Demands.{SetUp, memory_after, used, Seeks, HoldsSome}}
use Rattle.demands.specs.promises.Light.{NeverMoreOut, light_bound, Near, StandsNear, LightServedWithin}
use Rattle.demands.specs.promises.Light.{LightStandsNear, LightNamesBelow}
use Rattle.machine.specs.declared.{Settings.Settings, State.{State, TheVariants.{Idle, Seeking, Holding}}}
use Rattle.machine.specs.declared.{Point.{Point, TheVariants.{WriteX, Scan, WriteMark, ReadX, Clear}}, Event.Event}
use Rattle.machine.specs.declared.Direction.TheVariants.{Right, Down}
use Rattle.demands.proofs.{calls.Fresh.{setup_within, fresh_none_out}, refusals.Lines.tasks_out_lem}
use Rattle.demands.proofs.bridge.AsGrid.{stage_of, stand_of, x_at, grid_of}
use Rattle.demands.proofs.bridge.Histories.{rules, all_in_place, Invariants, invariants_kept, call_out}
use Rattle.demands.proofs.bridge.{Histories.fresh_invariants, Spending.seeks_at}
use Rattle.demands.proofs.histories.Served.{always_spent, served_alone}
use Rattle.machine.proofs.bridge.{AsRules.rules_of, Numbering.{triangle_half, by_diagonals}}
use Rattle.counting.proofs.Counting.{count_one}
use Rattle.grid.proofs.Stands.{at, unless_least, own_x, row_reach, column_reach}
use Rattle.grid.proofs.{Covered.covered_near, Triangle.diagonals}
use Rattle.grid.specs.Triangle.{diagonal_number}
use Rattle.grid.proofs.Spent.{cost, Within, seeking_near, holding_near}

-- ---- every memory of a history under light load

module _ (s : Settings) (fair : WithinLimits s) (m : ℕ) where
  -- J0 to J3 with this m, and at most m out
  record Light (memory : Memory) : Type 0 where
    invariants : Invariants s fair m memory
    few : out_of s memory.records ≤ m

  -- after every list of calls that never has more out
  light_run : (events : List Event) (memory : Memory) → Light memory
      → ((before after : List Event) → events ≡ before ++ after → tasks_out s (run s before memory) ≤ m)
      → Light (run s events memory)
  light_run [] memory h never = h
  light_run (event ∷ events) memory h never =
      let now = (call s event memory).memory in
      let few : out_of s now.records ≤ m = rw (tasks_out_lem s now) (never (event ∷ []) events refl) in
      light_run events now
      (record { invariants = invariants_kept s fair m event memory h.invariants few; few = few })
      (λ before after e. never (event ∷ before) after (ap (λ (rest : List Event). event ∷ rest) e))

  -- a turn brings nobody out
  light_turn : (p : ℕ) (memory : Memory) → Light memory → Light (call s (turn p) memory).memory
  light_turn p memory h =
      let none = call_out s fair (turn p) memory h.invariants.fit in
      let few : out_of s (call s (turn p) memory).memory.records ≤ m = omega (arith, h.few) in
      record { invariants = invariants_kept s fair m (turn p) memory h.invariants few; few = few }

  -- whoever is out is one of the m
  some_out : (memory : Memory) → Light memory → (p : ℕ) → p < s.n → T (is_out (state_of memory p)) → 1 ≤ m
  some_out memory h p l out = le_trans (count_one (λ q. is_out (state_of memory q)) s.n p l out) h.few

  -- the place that a task is sure to come to
  reaches_near : (memory : Memory) → Light memory → (p : ℕ) → p < s.n
      → row_reach (x_at s memory.xs) p (stand_of (width s) (state_of memory p)) + column_reach
      (stand_of (width s) (state_of memory p)) ≤ m + 1
  reaches_near memory h p l = covered_near (rules s fair) m (grid_of s memory) h.invariants.invariant.covered p l

  -- and so the place where it stands
  stands_near : (x : ℕ → ℕ → ℕ) (p : ℕ) (state : State)
      → row_reach x p (stand_of (width s) state) + column_reach (stand_of (width s) state) ≤ m + 1 → StandsNear m state
  stands_near x p Idle near = tt
  stands_near x p (Seeking stand) near = by_point stand.r stand.c stand.point near
    where
      by_point : (r c : ℕ) (point : Point)
          → row_reach x p (at r c (stage_of (width s) point)) + column_reach (at r c (stage_of (width s) point)) ≤ m + 1
          → Near m r c
      by_point r c WriteX near = omega arith
      by_point r c (Scan h) near = let z = unless_least (own_x x p r c) r in omega arith
      by_point r c WriteMark near = let z = unless_least (own_x x p r c) r in omega arith
      by_point r c ReadX near = let z = unless_least (own_x x p r c) r in omega arith
      by_point r c (Clear Right) near = omega arith
      by_point r c (Clear Down) near = omega arith
  stands_near x p (Holding place) near = omega arith

  light_near : (memory : Memory) → Light memory → (p : ℕ) → p < s.n → StandsNear m (state_of memory p)
  light_near memory h p l = stands_near (x_at s memory.xs) p (state_of memory p) (reaches_near memory h p l)

-- ---- the bound

seeker_out : (state : State) → T (is_seeking state) → T (is_out state)
seeker_out Idle t = absurd t
seeker_out (Seeking stand) t = tt
seeker_out (Holding place) t = tt

-- m - 1 blocks left, and one that is held
pub light_enough : (s : Settings) (fair : WithinLimits s) (m : ℕ) → 1 ≤ m
    → cost (rules_of s fair) * (m - 1) + (width s + 3) ≤ light_bound s m
light_enough s fair m some = go fair.modes
  where
    go : (s.mode ≡ 0) ⊎ (s.mode ≡ 1) → cost (rules_of s fair) * (m - 1) + (width s + 3) ≤ light_bound s m
    go (inl e) = rw (eq-eqb s.mode 0 e, e) (omega arith)
    go (inr e) = rw (ne_eqb s.mode 0 (λ z. omega arith), e) (omega arith)

module _ (s : Settings) (lent : Memory) (m : ℕ) (ok : SetUp s lent) where
  abbrev fair : WithinLimits s
  fair = setup_within s lent ok

  always_light : (events : List Event) → NeverMoreOut s lent events m → Light s fair m (memory_after s lent events)
  always_light events never =
      light_run s fair m events (setup s lent).memory
      (record { invariants = fresh_invariants s lent ok m; few = rw (fresh_none_out s lent ok) zero-le }) never

  module _ (p : ℕ) (l : p < s.n) where
    light_seeking_used : (events : List Event) → Light s fair m (memory_after s lent events)
        → Seeks (memory_after s lent events) p
        → used s lent events p < light_bound s m
    light_seeking_used events light seeks =
        let memory = memory_after s lent events in
        let some = some_out s fair m memory light p l (seeker_out (state_of memory p) seeks) in
        le_trans
        (seeking_near (rules s fair) (m - 1) (x_at s memory.xs) p (stand_of (width s) (state_of memory p))
        (used s lent events p)
        (seeks_at (width s) (state_of memory p) seeks)
        (all_in_place s fair memory light.invariants.fit p l)
        (le_trans (reaches_near s fair m memory light p l) (omega arith)) (always_spent s lent ok p l events))
        (light_enough s fair m some)

    light_holding_used : (events : List Event) → Light s fair m (memory_after s lent events)
        → HoldsSome (memory_after s lent events) p
        → used s lent events p ≤ light_bound s m
    light_holding_used events light holds =
        let memory = memory_after s lent events in
        go (state_of memory p) holds (light_near s fair m memory light p l) (some_out s fair m memory light p l)
        (always_spent s lent ok p l events)
      where
        go : (state : State) → T (is_holding state) → StandsNear m state → (T (is_out state) → 1 ≤ m)
            → Within (rules s fair) (stand_of (width s) state) (used s lent events p)
            → used s lent events p ≤ light_bound s m
        go Idle t near some h = absurd t
        go (Seeking stand) t near some h = absurd t
        go (Holding place) t near some h =
            le_trans (holding_near (rules s fair) (m - 1) place.r place.c (used s lent events p) near h)
            (light_enough s fair m (some tt))

pub light_served_within : LightServedWithin
light_served_within s lent events m ok never p l =
    let fair = setup_within s lent ok in
    let light = always_light s lent m ok events never in
    record {
      seeking = light_seeking_used s lent m ok p l events light;
      holding = light_holding_used s lent m ok p l events light;
      alone = λ seeks.
          let (more, within, holds, kept) = served_alone s lent ok p l (light_bound s m) (Light s fair m)
          (light_seeking_used s lent m ok p l) (light_turn s fair m p) events light seeks in
          (more, within, holds, light_near s fair m (memory_after s lent (events ++ turns more p)) kept p l);
    }

pub light_stands_near : LightStandsNear
light_stands_near s lent events m ok never p l =
    light_near s (setup_within s lent ok) m (memory_after s lent events) (always_light s lent m ok events never) p l

pub light_names_below : LightNamesBelow
light_names_below s lent events m ok never two p n l h =
    let stands = light_stands_near s lent events m ok never p l in
    let near : StandsNear m (Holding h.place) = rw h.holds at stands in
    let light = always_light s lent m ok events never in
    let some = some_out s (setup_within s lent ok) m (memory_after s lent events) light
    p l (rw h.holds tt) in
    let named : n ≡ diagonal_number h.place.r h.place.c =
    h.named ∙ ap (λ (number : ℕ → ℕ → ℕ). number h.place.r h.place.c) (by_diagonals s (λ one. omega arith)) in
    let below = (diagonals m).below h.place.r h.place.c (omega arith) in
    let places = triangle_half m in
    rw named (omega arith)
