-- A call on lent rows is said in one equation: its answer and the memory that it leaves, every element of every row,
-- surplus and refusals included, are an outcome of the definitions.
use Rattle.std.specs.Prelude.{List, ℕ}
use Rattle.demands.specs.{Memory.Memory, Answers.Reply, Calls.Outcome}
use Rattle.machine.specs.declared.Record.{Record}

-- the lent rows as a memory
abbrev pub lent : List Record → List ℕ → List ℕ → Memory
lent records xs marks = record { records = records; xs = xs; marks = marks }

-- an answer and the memory that is left
abbrev pub leaves : Reply → Memory → Outcome
leaves answer memory = record { answer = answer; memory = memory }
