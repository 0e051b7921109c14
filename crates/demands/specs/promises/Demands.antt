-- 00, demand 3: "Take an accepted setup, then any calls but setup, all with its settings and on its memory, which
-- nothing else touches." The calls are any list of asks, turns and releases, of any task numbers, the refused ones
-- included.
use mathlib.Core.{Path.◌≡◌, Logic.◌⊎◌, Bool.{Bool, true, cond, ◌&&◌}, List.{List, [], ◌∷◌, ◌++◌}}
use Rattle.std.specs.Prelude.{Result, Ok, Err, ℕ, ◌+◌, ◌*◌, ◌/◌, ◌≤◌, ◌<◌, T, eqb}
use Rattle.machine.specs.{Settings.bound, Places.place_name, Records.{is_seeking, is_holding}}
use Rattle.demands.specs.Memory.{Memory, state_of, turns_in, largest}
use Rattle.demands.specs.Answers.{Reply, told_in, said, Tells, is_accepted, plain}
use Rattle.demands.specs.Calls.{name_at, call, setup, turn, release}
use Rattle.demands.specs.History.{run, Answered, history, turns_of, turns}
use Rattle.machine.specs.promises.Ranges.{WithinLimits, TurnsWithin}
use Rattle.machine.specs.declared.{Settings.Settings, Place.Place, State.{State, TheVariants.{Idle, Seeking, Holding}}}
use Rattle.machine.specs.declared.{Refusal.Refusal, Event.Event, Told.Told}

-- ---- what the statements speak of

-- setup of the lent memory is accepted
abbrev pub SetUp : Settings → Memory → Type 0
SetUp s lent = (setup s lent).answer ≡ plain Told.Done

-- the memory that setup and then the calls leave, and the calls with their answers
abbrev pub memory_after : Settings → Memory → List Event → Memory
memory_after s lent events = run s events (setup s lent).memory

abbrev pub history_of : Settings → Memory → List Event → List Answered
history_of s lent events = history s events (setup s lent).memory

-- the accepted turns of task p since its last accepted ask
abbrev pub used : Settings → Memory → List Event → ℕ → ℕ
used s lent events p = turns_of p (history_of s lent events) 0

-- task p holds the name n
pub record HoldsName (s : Settings) (m : Memory) (p n : ℕ) : Type 0 where
  pub place : Place
  pub holds : state_of m p ≡ Holding place
  pub named : n ≡ place_name s place

abbrev pub Seeks : Memory → ℕ → Type 0
Seeks m p = T (is_seeking (state_of m p))

abbrev pub HoldsSome : Memory → ℕ → Type 0
HoldsSome m p = T (is_holding (state_of m p))

-- what the last accepted call of task p answered; `before` where there was none
abbrev pub last_answer : ℕ → List Answered → Reply → Reply
last_answer p [] before = before
last_answer p (done ∷ rest) before =
    last_answer p rest (cond (is_accepted done.answer && eqb done.event.task.0 p) done.answer before)

-- what a task was last answered is true of its record: after "seeks" it seeks, after "holds" with a name it holds that
-- name, and before its first ask and after "freed" it is idle
abbrev pub TrueOf : Settings → State → Result Told Refusal → Type 0
TrueOf s Idle (Ok Told.Done) = Unit {0}
TrueOf s Idle (Ok Told.Seeks) = ⊥
TrueOf s Idle (Ok (Told.Holds name)) = ⊥
TrueOf s Idle (Ok (Told.Freed name)) = Unit {0}
TrueOf s Idle (Err why) = ⊥
TrueOf s (Seeking stand) told = told ≡ Ok Told.Seeks
TrueOf s (Holding place) told = told ≡ Ok (Told.Holds (name_at s place))

-- ---- the statements

-- "Tasks holding names hold different ones"
abbrev pub HeldNamesDiffer : Type 0
HeldNamesDiffer =
    (s : Settings) (lent : Memory) (events : List Event) → SetUp s lent → (p q n : ℕ) → p < s.n → q < s.n
    → HoldsName s (memory_after s lent events) p n → HoldsName s (memory_after s lent events) q n → p ≡ q

-- "all below k(k+1)/2"
abbrev pub HeldNamesBelow : Type 0
HeldNamesBelow =
    (s : Settings) (lent : Memory) (events : List Event) → SetUp s lent → (p n : ℕ) → p < s.n
    → HoldsName s (memory_after s lent events) p n → n < s.k * (s.k + 1) / 2

-- a task is where its last accepted answer says, from its accepted ask to its accepted release
abbrev pub LastAnswerTrue : Type 0
LastAnswerTrue =
    (s : Settings) (lent : Memory) (events : List Event) → SetUp s lent → (p : ℕ) → p < s.n
    → TrueOf s (state_of (memory_after s lent events) p)
    (told_in (last_answer p (history_of s lent events) (plain Told.Done)))

-- the name that a task holds is the one that it was last answered, and the one that its release answers; both answers
-- are acceptances whose one value is the name
pub record NameTold (s : Settings) (lent : Memory) (events : List Event) (p n : ℕ) : Type 0 where
  pub answered : told_in (last_answer p (history_of s lent events) (plain Told.Done))
      ≡ Ok (Told.Holds (record { 0 = n }))
  pub answer_tells : Tells (said (last_answer p (history_of s lent events) (plain Told.Done))) (n ∷ [])
  pub freed : s.mode ≡ 1
      → told_in (call s (release p) (memory_after s lent events)).answer ≡ Ok (Told.Freed (record { 0 = n }))
  pub freed_tells : s.mode ≡ 1 → Tells (said (call s (release p) (memory_after s lent events)).answer) (n ∷ [])

abbrev pub HeldNameAnswered : Type 0
HeldNameAnswered =
    (s : Settings) (lent : Memory) (events : List Event) → SetUp s lent → (p n : ℕ) → p < s.n
    → HoldsName s (memory_after s lent events) p n → NameTold s lent events p n

-- "No turn of a seeking task is refused"
abbrev pub SeekerNeverRefused : Type 0
SeekerNeverRefused =
    (s : Settings) (lent : Memory) (events : List Event) → SetUp s lent → (p : ℕ) → p < s.n
    → Seeks (memory_after s lent events) p
    → T (is_accepted (call s (turn p) (memory_after s lent events)).answer)

-- "From an accepted ask, a task holds a name within .. of its own accepted turns": it has used fewer than the bound
-- while it seeks, at most the bound when it holds, and from any point on its own turns alone, "though every other task
-- stops for good", bring it to hold within the bound
pub record Served (s : Settings) (lent : Memory) (events : List Event) (p : ℕ) : Type 0 where
  pub seeking : Seeks (memory_after s lent events) p → used s lent events p < bound s
  pub holding : HoldsSome (memory_after s lent events) p → used s lent events p ≤ bound s
  pub alone : Seeks (memory_after s lent events) p
      → (more : ℕ)
      × (used s lent events p + more ≤ bound s)
      × HoldsSome (memory_after s lent (events ++ turns more p)) p

abbrev pub ServedWithin : Type 0
ServedWithin =
    (s : Settings) (lent : Memory) (events : List Event) → SetUp s lent → (p : ℕ) → p < s.n → Served s lent events p

-- 02, P7: "The figure equals the turns counted in the history since that ask": in the record of every task that is out
-- stand the turns that it has used, and the figure of no record leaves its range
pub record TurnsTold (s : Settings) (lent : Memory) (events : List Event) (p : ℕ) : Type 0 where
  pub counted : Seeks (memory_after s lent events) p ⊎ HoldsSome (memory_after s lent events) p
      → turns_in (memory_after s lent events) p ≡ used s lent events p
  pub in_range : TurnsWithin s (state_of (memory_after s lent events) p) (turns_in (memory_after s lent events) p)

abbrev pub EachTurnsTold : Type 0
EachTurnsTold =
    (s : Settings) (lent : Memory) (events : List Event) → SetUp s lent → (p : ℕ) → p < s.n
    → TurnsTold s lent events p

-- no call of a history is refused
abbrev pub all_accepted : List Answered → Bool
all_accepted [] = true
all_accepted (done ∷ rest) = is_accepted done.answer && all_accepted rest

-- "For each permitted mode, N and k some sequence makes one task need exactly that many": after the calls `before` task
-- 0 still seeks (with k = 1 it has not asked), its next call lets it hold, it has then used exactly the bound, and no
-- call is refused
pub record NeedsBound (s : Settings) (lent : Memory) (events : List Event) : Type 0 where
  pub accepted : T (all_accepted (history_of s lent events))
  pub before : List Event
  pub last : Event
  pub split : events ≡ before ++ (last ∷ [])
  pub its : last.task.0 ≡ 0
  pub late : 1 < s.k → Seeks (memory_after s lent before) 0
  pub holds : HoldsSome (memory_after s lent events) 0
  pub exactly : used s lent events 0 ≡ bound s

abbrev pub BoundExact : Type 0
BoundExact =
    (s : Settings) → WithinLimits s
    → (events : List Event) × ((lent : Memory) → SetUp s lent → NeedsBound s lent events)

-- setup of a memory with rows long enough is accepted, so none of the above is empty
abbrev pub SetupTakes : Type 0
SetupTakes = (s : Settings) → WithinLimits s → SetUp s largest
