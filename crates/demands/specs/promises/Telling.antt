-- 01, "Rules of the grid": "Ask answers "seeks" or "holds" with the name; turn likewise; release answers the freed
-- name; setup answers that it is done." Each answer, the access that it shows apart (`OneAccess`), with the number and
-- the values that `said` states for it, for every accepted call on any memory. Theorem: `each_answer_tells`.
use mathlib.Core.{Path.◌≡◌, List.{[], ◌∷◌}}
use Rattle.std.specs.Prelude.{Ok, ℕ}
use Rattle.demands.specs.{Memory.Memory, Calls.{event_of, call, setup, release}, Answers.{told_in, said, Tells}}
use Rattle.demands.specs.promises.{Demands.{SetUp, HoldsName, Seeks}, OneAccess.AcceptedIn}
use Rattle.machine.specs.declared.{Settings.Settings, Kind.Kind, Told.Told}

pub record AnswerTells (s : Settings) (p : ℕ) (m : Memory) : Type 0 where
  -- a call after which the task seeks answers that, and nothing beside it
  pub seeks : (kind : Kind) → AcceptedIn s (event_of kind p) m → Seeks (call s (event_of kind p) m).memory p
      → (told_in (call s (event_of kind p) m).answer ≡ Ok Told.Seeks)
      × Tells (said (call s (event_of kind p) m).answer) []
  -- one after which it holds answers the name that it then holds
  pub holds : (kind : Kind) (n : ℕ) → AcceptedIn s (event_of kind p) m
      → HoldsName s (call s (event_of kind p) m).memory p n
      → (told_in (call s (event_of kind p) m).answer ≡ Ok (Told.Holds (record { 0 = n })))
      × Tells (said (call s (event_of kind p) m).answer) (n ∷ [])
  -- a release answers the name that the task held
  pub frees : (n : ℕ) → AcceptedIn s (release p) m → HoldsName s m p n
      → (told_in (call s (release p) m).answer ≡ Ok (Told.Freed (record { 0 = n })))
      × Tells (said (call s (release p) m).answer) (n ∷ [])
  pub done : SetUp s m → Tells (said (setup s m).answer) []

abbrev pub EachAnswerTells : Type 0
EachAnswerTells = (s : Settings) (p : ℕ) (m : Memory) → AnswerTells s p m
