-- 01, "Rules of the grid", and 02, P4, P6 and P7: setup, ask, turn and release, from the memory before to the answer
-- and the memory after.
use Rattle.std.specs.Prelude.{Option, Ok, Err, ℕ}
use Rattle.machine.specs.{Places.{blocks, place_name}, Turn.{access, shown_by, next, turns_after}}
use Rattle.demands.specs.Memory.{Memory, marks_needed, state_of, turns_in, view_of, with_record, fill}
use Rattle.demands.specs.{Touching.{value, store}, Refusals.{Verdict, setup_verdict, verdict}, Answers.{Reply, plain}}
use Rattle.machine.specs.declared.{Settings.Settings, Name.Name, Record.Record, Place.Place}
use Rattle.machine.specs.declared.State.{State, TheVariants.{Idle, Seeking, Holding}}
use Rattle.machine.specs.declared.{Kind.{Kind, TheVariants.{Ask, Turn, Release}}, Event.Event}
use Rattle.machine.specs.declared.{Shown.Shown, Told.Told}

pub record Outcome : Type 0 where
  pub answer : Reply
  pub memory : Memory

-- ask, turn or release of task p
abbrev pub event_of : Kind → ℕ → Event
event_of kind p = record { kind = kind; task = record { 0 = p } }

abbrev pub ask : ℕ → Event
ask p = event_of Ask p

abbrev pub turn : ℕ → Event
turn p = event_of Turn p

abbrev pub release : ℕ → Event
release p = event_of Release p

-- the name of a place
abbrev pub name_at : Settings → Place → Name
name_at s place = record { 0 = place_name s place }

-- "seeks", or "holds" with the name
abbrev pub standing : Settings → State → Told
standing s Idle = Told.Seeks
standing s (Seeking stand) = Told.Seeks
standing s (Holding place) = Told.Holds (name_at s place)

-- the freed name
abbrev pub freed : Settings → State → Told
freed s Idle = Told.Seeks
freed s (Seeking stand) = Told.Seeks
freed s (Holding place) = Told.Freed (name_at s place)

-- what an accepted call tells, from the record before and the record after
abbrev pub told_of : Settings → Kind → State → State → Told
told_of s Ask before after = standing s after
told_of s Turn before after = standing s after
told_of s Release before after = freed s before

-- the next record of a task whose record says `state`, from the value that its access reads
abbrev pub next_state : Settings → Kind → ℕ → State → Memory → State
next_state s kind p state m = next s kind p state (value s (access s kind p state) m)

-- and the record that it leaves
abbrev pub record_after : Settings → Kind → ℕ → State → Memory → Record
record_after s kind p state m = record {
  state = next_state s kind p state m;
  turns = turns_after kind state (turns_in m p);
}

-- what the call's access shows: the access itself, with the value that it reads
abbrev pub shown_of : Settings → Kind → ℕ → State → Memory → Option Shown
shown_of s kind p state m = shown_by (access s kind p state) (value s (access s kind p state) m)

-- an accepted call: the register is read or written, and the next record put in place
abbrev pub accept : Settings → Kind → ℕ → State → Memory → Outcome
accept s kind p state m = record {
  answer = Ok (record { told = told_of s kind state (next_state s kind p state m); shown = shown_of s kind p state m });
  memory = with_record p (record_after s kind p state m) (store s (access s kind p state) m);
}

-- a refused call answers why, and changes nothing
abbrev pub refuse_or : Verdict → Memory → Outcome → Outcome
refuse_or (Ok accepted) m outcome = outcome
refuse_or (Err why) m outcome = record { answer = Err why; memory = m }

-- what the tests of a call say of a memory
abbrev pub verdict_of : Settings → Event → Memory → Verdict
verdict_of s event m = verdict s event.kind event.task.0 (view_of s m.records event.task.0) m

-- ask, turn or release of one task
abbrev pub call : Settings → Event → Memory → Outcome
call s event m =
    refuse_or (verdict_of s event m) m (accept s event.kind event.task.0 (state_of m event.task.0) m)

-- setup makes all X 0 and all marks 0; the N records, all idle where it is accepted, stay as they are
abbrev pub cleared : Settings → Memory → Memory
cleared s m = record {
  records = m.records;
  xs = fill (blocks s) 0 m.xs;
  marks = fill (marks_needed s) 0 m.marks;
}

abbrev pub setup : Settings → Memory → Outcome
setup s m =
    refuse_or (setup_verdict s (view_of s m.records 0) m) m
    (record { answer = plain Told.Done; memory = cleared s m })
