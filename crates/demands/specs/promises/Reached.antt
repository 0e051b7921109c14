-- For whoever calls: a memory is reached where an accepted setup, and then some calls with the same settings, left it.
-- Setup reaches, and every call and every further setup keeps that, so that it can stand in the invariant of a
-- supervisor's loop. Of any reached memory is said what demand 3 says of names, of a seeker's turn and of the turns
-- used; with any permitted settings there is one (`SetupTakes`). Beside it, of any memory: what one call does to names,
-- told by its answer. Theorem: `reached_promises`.
use mathlib.Core.{Path.◌≡◌, Logic.◌↔◌, List.List}
use Rattle.std.specs.Prelude.{Ok, ℕ, ◌+◌, ◌*◌, ◌/◌, ◌≤◌, ◌<◌, T}
use Rattle.machine.specs.{Settings.bound, Records.idle, promises.Ranges.WithinLimits}
use Rattle.demands.specs.{Memory.{Memory, record_of, turns_in}, Answers.{told_in, is_accepted}}
use Rattle.demands.specs.Calls.{call, setup, turn}
use Rattle.demands.specs.promises.{Demands.{SetUp, memory_after, HoldsName, Seeks}, OneAccess.AcceptedIn}
use Rattle.demands.specs.promises.Refusing.{SomeRowShort, call_says}
use Rattle.machine.specs.declared.{Settings.Settings, Kind.TheVariants.Release, Event.Event, Told.Told}

pub record Reached (s : Settings) (m : Memory) : Type 0 where
  pub lent : Memory
  pub events : List Event
  pub set_up : SetUp s lent
  pub left : m ≡ memory_after s lent events

-- what a caller may rely on in a reached memory
pub record Relied (s : Settings) (m : Memory) : Type 0 where
  -- held names differ and lie below the count
  pub names_differ : (p q n : ℕ) → p < s.n → q < s.n → HoldsName s m p n → HoldsName s m q n → p ≡ q
  pub names_below : (p n : ℕ) → p < s.n → HoldsName s m p n → n < s.k * (s.k + 1) / 2
  -- no turn of a seeker is refused, and its turns are fewer than the bound
  pub seeker_accepted : (p : ℕ) → p < s.n → Seeks m p → T (is_accepted (call s (turn p) m).answer)
  pub seeker_below : (p : ℕ) → p < s.n → Seeks m p → turns_in m p < bound s
  -- tests 1 to 3 pass: a refusal has to do with the task
  pub tests_pass : (event : Event) → 1 ≤ (call_says s event m).number → 4 ≤ (call_says s event m).number

-- what a call does to names, on any memory
pub record NamesFollow (s : Settings) (event : Event) (m : Memory) : Type 0 where
  -- the others keep their records, and so their names
  pub others_keep : (q : ℕ) → (q ≡ event.task.0 → ⊥) → record_of (call s event m).memory q ≡ record_of m q
  -- after an accepted call its task holds a name exactly if the answer is "holds" with that name
  pub holds_told : (n : ℕ) → AcceptedIn s event m
      → HoldsName s (call s event m).memory event.task.0 n
      ↔ (told_in (call s event m).answer ≡ Ok (Told.Holds (record { 0 = n })))
  -- before it the task held a name exactly if the answer is "freed" with that name
  pub frees_told : (n : ℕ) → AcceptedIn s event m
      → HoldsName s m event.task.0 n ↔ (told_in (call s event m).answer ≡ Ok (Told.Freed (record { 0 = n })))
  -- no ask and no turn answers "freed"
  pub freed_by_release : (n : ℕ) → told_in (call s event m).answer ≡ Ok (Told.Freed (record { 0 = n }))
      → event.kind ≡ Release

pub record ReachedPromises : Type 0 where
  -- setup is accepted with permitted settings, rows long enough and idle records
  pub takes : (s : Settings) (lent : Memory) → WithinLimits s → (SomeRowShort s lent → ⊥)
      → ((p : ℕ) → p < s.n → record_of lent p ≡ idle) → SetUp s lent
  pub begins : (s : Settings) (lent : Memory) → SetUp s lent → Reached s (setup s lent).memory
  pub kept : (s : Settings) (event : Event) (m : Memory) → Reached s m → Reached s (call s event m).memory
  -- a further setup, accepted or declined, keeps it too
  pub again : (s : Settings) (m : Memory) → Reached s m → Reached s (setup s m).memory
  pub relied : (s : Settings) (m : Memory) → Reached s m → Relied s m
  pub names_follow : (s : Settings) (event : Event) (m : Memory) → NamesFollow s event m
