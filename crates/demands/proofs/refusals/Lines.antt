-- Each line of the table of numbers against the test that the definitions make for it.
use mathlib.Core.{Path.{◌≡◌, refl}, Logic.{◌⊎◌, inl, inr, ⊎_elim, ◌↔◌}, Bool.{Bool, false, not, ◌&&◌}, List.{List, ◌∷◌}}
use Prim.Native.Nat.{ℕ, ◌≤◌, ◌<◌}
use native.Mathlib.Omega.{arith}
use lib.{Dec.{leb, ltb}, ListN.{length, get_or}}
use Rattle.machine.specs.{Places.blocks, Records.{idle, is_idle, is_seeking, is_holding, is_out, record_in_range}}
use Rattle.demands.specs.Memory.{Memory, marks_needed, record_of, state_of, turns_in, x_in_range, mark_in_range, out_of}
use Rattle.demands.specs.Refusals.{Case, when, first, row_short, one_time_release, wrong_moment, moment, too_many_out}
use Rattle.machine.specs.promises.Ranges.{WithinLimits, seeks_or_holds}
use Rattle.demands.specs.promises.Rows.{NeedsMore, BadAt}
use Rattle.demands.specs.promises.Refusing.{SomeRowShort, OfIdle, OfSeeking, OfHolding, tasks_out}
use Rattle.machine.specs.declared.{Settings.Settings, Stand.Stand, Place.Place}
use Rattle.machine.specs.declared.State.{State, TheVariants.{Idle, Seeking, Holding}}
use Rattle.machine.specs.declared.Kind.{Kind, TheVariants.{Ask, Turn, Release}}
use Rattle.machine.specs.declared.Row.{Row, TheVariants.{Records, Xs, Marks}}
use Rattle.machine.specs.declared.Refusal.TheVariants.{TaskIdle, TaskSeeks, TaskHolds}
use Rattle.grid.specs.Triangle.{half}
use Rattle.machine.proofs.refusals.RecordLines.{state_line, turns_line, idle_tested, out_same}
use Rattle.counting.proofs.Tested.{Tested, below, most, same, both, either, fails, meaning, always, never, misses}
use Rattle.counting.proofs.{Searching.count_same, Some.some_counted}

-- ---- 2: a lent row is shorter than needed

-- how many values of a row are needed, in the definitions
abbrev pub needed_of : Settings → Row → ℕ
needed_of s Records = s.n
needed_of s Xs = blocks s
needed_of s Marks = marks_needed s

module _ (s : Settings) (l : WithinLimits s) where
  marks_line : (n : ℕ) → (n < marks_needed s) ↔ NeedsMore s Marks n
  unfolding half
  marks_line n = go l.modes
    where
      go : (s.mode ≡ 0) ⊎ (s.mode ≡ 1) → (n < marks_needed s) ↔ NeedsMore s Marks n
      go (inl once) = rw once (
        λ h. inl (refl, omega arith),
        ⊎_elim (λ h. let z = h.1 in omega arith) (λ h. let e = h.0 in absurd (omega arith)),
      )
      go (inr long) = rw long (λ h. inr (refl, h), ⊎_elim (λ h. let e = h.0 in absurd (omega arith)) (λ h. h.1))

  pub needs_line : (row : Row) (n : ℕ) → (n < needed_of s row) ↔ NeedsMore s row n
  unfolding half
  needs_line Records n = (λ h. h, λ h. h)
  needs_line Xs n = (λ h. h, λ h. h)
  needs_line Marks n = marks_line n

  short : (row : Row) (n : ℕ) → Tested (ltb n (needed_of s row)) (NeedsMore s row n)
  short row n = meaning (below n (needed_of s row)) (needs_line row n)

  pub short_line : (m : Memory) → Tested (row_short s (length m.records) m) (SomeRowShort s m)
  short_line m = either (short Records (length m.records))
      (either (short Xs (length m.xs)) (short Marks (length m.marks)))

  -- ---- 3: a needed value is out of range

  -- whether the value at an index is in range, in the definitions
  abbrev pub in_range_at : Memory → Row → ℕ → Bool
  in_range_at m Records p = record_in_range s (record_of m p)
  in_range_at m Xs block = x_in_range s (get_or m.xs block 0)
  in_range_at m Marks index = mark_in_range (get_or m.marks index 0)

  above : (a b : ℕ) → Tested (not (leb a b)) (b < a)
  above a b = meaning (fails (most a b)) (λ none. omega arith, λ high low. omega arith)

  pub bad_line : (m : Memory) (row : Row) (index : ℕ) → Tested (not (in_range_at m row index)) (BadAt s m row index)
  bad_line m Records p = fails (both (state_line s l (state_of m p)) (turns_line s l (state_of m p) (turns_in m p)))
  bad_line m Xs block = above (get_or m.xs block 0) s.n
  bad_line m Marks index = above (get_or m.marks index 0) 1

-- ---- 4, 5, 15 to 17, 7: the task

-- two kinds that differ
other_kind : {A : Type 0} (kind kind' : Kind) → (kind ≡ kind' → ⊥) → Tested false ((kind ≡ kind') × A)
other_kind kind kind' other = never (λ h. other h.0)

-- 5
pub release_line : (s : Settings) (kind : Kind) → Tested (one_time_release s kind) ((kind ≡ Release) × (s.mode ≡ 0))
release_line s Ask = other_kind Ask Release (λ e. let z : ◌≡◌ {A = ℕ} 0 1 = cc in omega arith)
release_line s Turn = other_kind Turn Release (λ e. let z : ◌≡◌ {A = ℕ} 0 1 = cc in omega arith)
release_line s Release = meaning (same s.mode 0) (λ e. (refl, e), λ h. h.1)

-- 15 to 17: each state with the two calls that it is no moment for
not_ask : (kind : Kind) → Tested (wrong_moment kind Idle) ((kind ≡ Turn) ⊎ (kind ≡ Release))
not_ask Ask = never (⊎_elim (λ e. let z : ◌≡◌ {A = ℕ} 0 1 = cc in omega arith)
    (λ e. let z : ◌≡◌ {A = ℕ} 0 1 = cc in omega arith))
not_ask Turn = always (inl refl)
not_ask Release = always (inr refl)

not_turn : (kind : Kind) (stand : Stand) → Tested (wrong_moment kind (Seeking stand)) ((kind ≡ Ask) ⊎ (kind ≡ Release))
not_turn Ask stand = always (inl refl)
not_turn Turn stand = never (⊎_elim (λ e. let z : ◌≡◌ {A = ℕ} 0 1 = cc in omega arith)
    (λ e. let z : ◌≡◌ {A = ℕ} 0 1 = cc in omega arith))
not_turn Release stand = always (inr refl)

not_release : (kind : Kind) (place : Place) → Tested (wrong_moment kind (Holding place)) ((kind ≡ Ask) ⊎ (kind ≡ Turn))
not_release Ask place = always (inl refl)
not_release Turn place = always (inr refl)
not_release Release place = never (⊎_elim (λ e. let z : ◌≡◌ {A = ℕ} 0 1 = cc in omega arith)
    (λ e. let z : ◌≡◌ {A = ℕ} 0 1 = cc in omega arith))

pub idle_line : (kind : Kind) (state : State) → Tested (is_idle state && wrong_moment kind state) (OfIdle kind state)
idle_line kind Idle = meaning (not_ask kind) (λ calls. (calls, refl), λ h. h.0)
idle_line kind (Seeking stand) = never (λ (calls, e). let z : ◌≡◌ {A = ℕ} 0 1 = cc in omega arith)
idle_line kind (Holding place) = never (λ (calls, e). let z : ◌≡◌ {A = ℕ} 0 1 = cc in omega arith)

pub seeking_line : (kind : Kind) (state : State)
    → Tested (is_seeking state && wrong_moment kind state) (OfSeeking kind state)
seeking_line kind Idle = never (λ (calls, (stand, e)). let z : ◌≡◌ {A = ℕ} 0 1 = cc in omega arith)
seeking_line kind (Seeking stand) =
    meaning (not_turn kind stand) (λ calls. (calls, (stand, refl)), λ h. h.0)
seeking_line kind (Holding place) = never (λ (calls, (stand, e)). let z : ◌≡◌ {A = ℕ} 0 1 = cc in omega arith)

pub holding_line : (kind : Kind) (state : State)
    → Tested (is_holding state && wrong_moment kind state) (OfHolding kind state)
holding_line kind Idle = never (λ (calls, (place, e)). let z : ◌≡◌ {A = ℕ} 0 1 = cc in omega arith)
holding_line kind (Seeking stand) = never (λ (calls, (place, e)). let z : ◌≡◌ {A = ℕ} 0 1 = cc in omega arith)
holding_line kind (Holding place) = meaning (not_release kind place) (λ calls. (calls, (place, refl)), λ h. h.0)

-- where none of the three holds the moment is right
pub right_moment : (kind : Kind) (state : State) → (OfIdle kind state → ⊥) → (OfSeeking kind state → ⊥)
    → (OfHolding kind state → ⊥) → wrong_moment kind state ≡ false
right_moment kind Idle idle seeking holding = misses (not_ask kind) (λ calls. idle (calls, refl))
right_moment kind (Seeking stand) idle seeking holding =
    misses (not_turn kind stand) (λ calls. seeking (calls, (stand, refl)))
right_moment kind (Holding place) idle seeking holding =
    misses (not_release kind place) (λ calls. holding (calls, (place, refl)))

-- the one case of the definitions, as three
abbrev pub moment_cases : Kind → State → List Case → List Case
moment_cases kind state rest =
    when (is_idle state && wrong_moment kind state) TaskIdle
    ∷ when (is_seeking state && wrong_moment kind state) TaskSeeks
    ∷ when (is_holding state && wrong_moment kind state) TaskHolds
    ∷ rest

pub moment_as_three : (kind : Kind) (state : State) (rest : List Case)
    → first (when (wrong_moment kind state) (moment state) ∷ rest) ≡ first (moment_cases kind state rest)
moment_as_three kind Idle rest = refl
moment_as_three kind (Seeking stand) rest = refl
moment_as_three kind (Holding place) rest = refl

-- 18: a record of the N is other than idle
pub out_tested : (s : Settings) (m : Memory)
    → Tested (ltb 0 (out_of s m.records)) ((p : ℕ) × (p < s.n) × (state_of m p ≡ Idle → ⊥))
out_tested s m = some_counted (λ p. is_out (state_of m p)) (λ p. fails (idle_tested (state_of m p))) s.n

-- 7
pub tasks_out_lem : (s : Settings) (m : Memory) → out_of s m.records ≡ tasks_out s m
tasks_out_lem s m = count_same (λ p. is_out (state_of m p)) (λ p. seeks_or_holds (state_of m p)) s.n
    (λ p l. out_same (state_of m p))

pub out_line : (s : Settings) (kind : Kind) (m : Memory)
    → Tested (too_many_out s kind (out_of s m.records)) ((kind ≡ Ask) × (s.k ≤ tasks_out s m))
out_line s Ask m = rw (tasks_out_lem s m) (meaning (most s.k (tasks_out s m)) (λ many. (refl, many), λ h. h.1))
out_line s Turn m = other_kind Turn Ask (λ e. let z : ◌≡◌ {A = ℕ} 0 1 = cc in omega arith)
out_line s Release m = other_kind Release Ask (λ e. let z : ◌≡◌ {A = ℕ} 0 1 = cc in omega arith)
