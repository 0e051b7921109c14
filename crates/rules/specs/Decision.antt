-- What a call decides from what it sees of the records and from the rows of registers: the definitions of the machine,
-- without the row of records. An outcome holds one memory, in which the rows of registers are put together (`rows`).
use mathlib.Core.{Path.◌≡◌, Bool.false}
use Rattle.std.specs.Prelude.{Result, Ok, Err, ℕ, ◌<◌, T, ltb}
use Rattle.machine.specs.{Records.record_in_range, Turn.{access, turns_after}}
use Rattle.demands.specs.{Memory.Memory, Touching.store, Refusals.{Verdict, setup_verdict, verdict}}
use Rattle.demands.specs.{Calls.{Outcome, refuse_or, next_state, shown_of, told_of, cleared}, Answers.plain}
use Rattle.machine.specs.declared.{Settings.Settings, View.View, Kind.Kind}
use Rattle.machine.specs.declared.{Refusal.Refusal, Told.Told}
use Rattle.rules.specs.declared.Decided.{Decided}

-- what a view of a row of records says of its task's own: in range where nothing is bad
abbrev pub Sees : Settings → ℕ → View → Type 0
Sees s p seen = ltb seen.bad s.n ≡ false → p < s.n → T (record_in_range s seen.own)

-- ---- ask, turn and release

-- the answer with the task's record to put back, or the refusal; and the registers afterwards
pub record Decision : Type 0 where
  pub result : Result Decided Refusal
  pub memory : Memory

abbrev pub decision_by : Verdict → Settings → Kind → ℕ → View → Memory → Decision
decision_by (Ok accepted) s kind p seen m = record {
  result = Ok (record {
    answer = record {
      told = told_of s kind seen.own.state (next_state s kind p seen.own.state m);
      shown = shown_of s kind p seen.own.state m;
    };
    own = record {
      state = next_state s kind p seen.own.state m;
      turns = turns_after kind seen.own.state seen.own.turns;
    };
  });
  memory = store s (access s kind p seen.own.state) m;
}
decision_by (Err why) s kind p seen m = record { result = Err why; memory = m }

abbrev pub decision : Settings → Kind → ℕ → View → Memory → Decision
decision s kind p seen m = decision_by (verdict s kind p seen m) s kind p seen m

-- what the code returns and leaves, as a decision
abbrev pub decided : Result Decided Refusal → Memory → Decision
decided result m = record { result = result; memory = m }

-- ---- setup

-- setup without the row of records, of which the view tells enough: it writes none
abbrev pub preparation : Settings → View → Memory → Outcome
preparation s seen m = refuse_or (setup_verdict s seen m) m (record { answer = plain Told.Done; memory = cleared s m })
