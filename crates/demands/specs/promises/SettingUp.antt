-- 01, "Rules of the grid": "Setup makes the N records idle, all X 0 and all marks 0." It "answers that it is done". 02,
-- P4: "Setup must decline when any of the first N records is other than idle", so it writes no record.
-- Theorem: `setup_clears`.
use mathlib.Core.{Path.◌≡◌, Logic.◌↔◌}
use Rattle.std.specs.Prelude.{replicate}
use Rattle.machine.specs.{Places.blocks, Records.idle}
use Rattle.demands.specs.{Memory.{Memory, marks_needed}, Answers.plain, Calls.setup}
use Rattle.machine.specs.declared.{Settings.Settings, Told.Told}
use Rattle.demands.specs.promises.{Refusing.{NoneHolds, setup_lines}, Surplus.needed}

-- N records idle, all X 0 and all marks 0
abbrev pub clear : Settings → Memory
clear s = record { records = replicate s.n idle; xs = replicate (blocks s) 0; marks = replicate (marks_needed s) 0 }

pub record SetupClears (s : Settings) (m : Memory) : Type 0 where
  pub done : ((setup s m).answer ≡ plain Told.Done) ↔ NoneHolds (setup_lines s m)
  pub clears : NoneHolds (setup_lines s m) → needed s (setup s m).memory ≡ clear s
  pub writes_no_record : (setup s m).memory.records ≡ m.records

abbrev pub EachSetupClears : Type 0
EachSetupClears = (s : Settings) (m : Memory) → SetupClears s m
