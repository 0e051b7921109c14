-- 02, P4: "A technician started setup twice, and two held rows of the band table were given out again." Setups among
-- the calls of a history: while a task is out setup declines, and a history with refused setups in it is the history
-- without them, so that demand 3 goes on over it. Theorem: `setups_among_calls`.
use mathlib.Core.{Path.◌≡◌, List.{List, [], ◌∷◌}}
use Rattle.std.specs.Prelude.{ℕ, ◌≤◌, ◌<◌}
use Rattle.machine.specs.Records.{idle}
use Rattle.demands.specs.{Memory.{Memory, record_of, state_of}, Calls.{call, setup}}
use Rattle.demands.specs.History.{Answered, history, run}
use Rattle.demands.specs.promises.{Refusing.setup_says, Demands.{SetUp, memory_after}}
use Rattle.machine.specs.declared.{Settings.Settings, State.TheVariants.Idle, Event.Event}

-- what a supervisor does: a call, or a setup, with whatever settings
pub data Act : Type 0 where
  calls : Event → Act
  sets_up : Settings → Act

-- the calls alone
abbrev pub calls_in : List Act → List Event
calls_in [] = []
calls_in (calls event ∷ acts) = event ∷ calls_in acts
calls_in (sets_up t ∷ acts) = calls_in acts

-- the memory that a list of acts leaves, and the calls in it with their answers
abbrev pub memory_of : Settings → List Act → Memory → Memory
memory_of s [] m = m
memory_of s (calls event ∷ acts) m = memory_of s acts (call s event m).memory
memory_of s (sets_up t ∷ acts) m = memory_of s acts (setup t m).memory

abbrev pub answers_of : Settings → List Act → Memory → List Answered
answers_of s [] m = []
answers_of s (calls event ∷ acts) m =
    record { event = event; answer = (call s event m).answer } ∷ answers_of s acts (call s event m).memory
answers_of s (sets_up t ∷ acts) m = answers_of s acts (setup t m).memory

-- each setup in it is refused
abbrev pub SetupsRefused : Settings → List Act → Memory → Type 0
SetupsRefused s [] m = Unit {0}
SetupsRefused s (calls event ∷ acts) m = SetupsRefused s acts (call s event m).memory
SetupsRefused s (sets_up t ∷ acts) m = (1 ≤ (setup_says t m).number) × SetupsRefused s acts (setup t m).memory

pub record SetupsAmongCalls : Type 0 where
  -- after any history, while some task of the N seeks or holds: 18, and nothing changes
  pub declines : (s : Settings) (lent : Memory) (events : List Event) → SetUp s lent → (p : ℕ) → p < s.n
      → (state_of (memory_after s lent events) p ≡ Idle → ⊥)
      → ((setup_says s (memory_after s lent events)).number ≡ 18)
      × ((setup s (memory_after s lent events)).memory ≡ memory_after s lent events)
  -- and whatever the memory and the settings: no setup is accepted over a record of theirs that is not idle
  pub never_over_busy : (t : Settings) (m : Memory) (p : ℕ) → p < t.n → (record_of m p ≡ idle → ⊥)
      → (1 ≤ (setup_says t m).number) × ((setup t m).memory ≡ m)
  -- with refused setups dropped, every call has the same answer and the memory is the same
  pub dropped : (s : Settings) (acts : List Act) (m : Memory) → SetupsRefused s acts m
      → (memory_of s acts m ≡ run s (calls_in acts) m) × (answers_of s acts m ≡ history s (calls_in acts) m)
