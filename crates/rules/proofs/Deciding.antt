-- The definition's decision: a refused call leaves all as it was; an accepted one is put together from its one access,
-- its record and its answer.
use mathlib.Core.Path.{◌≡◌, ap}
use Rattle.std.specs.Prelude.{Option, Ok, Err, ℕ}
use Rattle.demands.specs.{Memory.Memory, Calls.told_of, Refusals.verdict}
use Rattle.machine.specs.Turn.{access, shown_by, next_record}
use Rattle.machine.specs.declared.{Settings.Settings, Record.Record, View.View, Kind.Kind, Access.Access}
use Rattle.machine.specs.declared.{Refusal.Refusal, Shown.Shown, Told.Told}
use Rattle.registers.specs.Touching.{Accessed, touched, touching}
use Rattle.rules.specs.Decision.{decided, decision}

module _ (s : Settings) (kind : Kind) (p : ℕ) (seen : View) (m : Memory) where
  pub refused_decided : (why : Refusal) → verdict s kind p seen m ≡ Err why
      → decided (Err why) m ≡ decision s kind p seen m
  refused_decided why refused = rw refused

  pub accepted_decided : (touch : Option Access) (left : Memory) (v : ℕ) (own : Record) (told : Told)
      (shown : Option Shown)
      → verdict s kind p seen m ≡ Ok tt
      → touch ≡ access s kind p seen.own.state
      → touched v left ≡ touching s touch m
      → own ≡ next_record s kind p seen.own v
      → told ≡ told_of s kind seen.own.state own.state
      → shown ≡ shown_by touch v
      → decided (Ok (record { answer = record { told = told; shown = shown }; own = own })) left
      ≡ decision s kind p seen m
  accepted_decided touch left v own told shown accepted is touched next tells shows =
      let read = ap (λ (t : Accessed). t.value) touched in
      let stored = ap (λ (t : Accessed). t.memory) touched in
      rw (accepted, tells, shows, next, read, stored, is)
