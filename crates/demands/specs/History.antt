-- 00, demand 3: a list of calls on one memory, the answers that it gets, and the turns counted in those answers.
use mathlib.Core.{Bool.{cond, ◌&&◌}, List.{List, [], ◌∷◌}}
use Rattle.std.specs.Prelude.{ℕ, zero, suc, ◌+◌, eqb}
use Rattle.demands.specs.{Memory.Memory, Answers.{Reply, is_accepted}, Calls.{call, turn}}
use Rattle.machine.specs.declared.{Settings.Settings, Kind.{Kind, TheVariants.{Ask, Turn, Release}}, Event.Event}

-- so many turns of task p
abbrev pub turns : ℕ → ℕ → List Event
turns zero p = []
turns (suc count) p = turn p ∷ turns count p

-- the memory after a list of calls, the refused ones among them
abbrev pub run : Settings → List Event → Memory → Memory
run s [] m = m
run s (event ∷ events) m = run s events (call s event m).memory

-- a call with its answer
pub record Answered : Type 0 where
  pub event : Event
  pub answer : Reply

-- the calls of a list, each with the answer that it gets
abbrev pub history : Settings → List Event → Memory → List Answered
history s [] m = []
history s (event ∷ events) m =
    record { event = event; answer = (call s event m).answer } ∷ history s events (call s event m).memory

-- a count of turns after one more accepted call of the task: an ask begins anew, a turn adds one
abbrev pub counted : Kind → ℕ → ℕ
counted Ask turns = 0
counted Turn turns = turns + 1
counted Release turns = turns

-- the accepted turns of task p since its last accepted ask, where `turns` were counted before
abbrev pub turns_of : ℕ → List Answered → ℕ → ℕ
turns_of p [] turns = turns
turns_of p (done ∷ rest) turns =
    turns_of p rest
    (cond (is_accepted done.answer && eqb done.event.task.0 p) (counted done.event.kind turns) turns)
