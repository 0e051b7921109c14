-- What the steps of a run leave: its beginning, and one event more.
use mathlib.Core.{Path.{◌≡◌}, List.{List}}
use Rattle.std.specs.Prelude.{ℕ, max}
use Rattle.printed.specs.Listing.{Progress, completed}
use Rattle.machine.specs.declared.{Settings.Settings, Event.Event}
use Rattle.demands.specs.{Memory.{Memory, turns_in, out_of, largest}, Answers.{Reply, told_in}, Calls.{setup, call}}
use Rattle.demands.specs.Lent.{lent, leaves}
use Rattle.listing.specs.declared.Run.{Run}

-- the memory that a run is on
abbrev pub memory_of : Run → Memory
memory_of run = lent run.records run.xs run.marks

-- where a run stands, with these lines printed, as the progress of the definition
abbrev pub progress_of : Run → List ℕ → Progress
progress_of run lines = record { memory = memory_of run; peak = run.peak; most = run.most; lines = lines }

-- the largest memory before its setup, and nothing counted yet
pub record Fresh (s : Settings) (run : Run) : Type 0 where
  pub settings : run.settings ≡ s
  pub memory : memory_of run ≡ largest
  pub peak : run.peak ≡ 0
  pub most : run.most ≡ 0

-- setup on the largest memory, and nothing counted yet
pub record Begun (s : Settings) (run : Run) : Type 0 where
  pub settings : run.settings ≡ s
  pub memory : memory_of run ≡ (setup s largest).memory
  pub peak : run.peak ≡ 0
  pub most : run.most ≡ 0

-- the call, PEAK from who is out after it, and MOST from the record of a task that took its name
pub record Advanced (event : Event) (old : Run) (answer : Reply) (new : Run) : Type 0 where
  pub settings : new.settings ≡ old.settings
  pub called : leaves answer (memory_of new) ≡ call old.settings event (memory_of old)
  pub peak : new.peak ≡ max old.peak (out_of old.settings new.records)
  pub most : new.most ≡ max old.most (completed (told_in answer) (turns_in (memory_of new) event.task.0))
