-- 01, "Numbers of refusal", and 02: this paper's number and values for each refusal.
use Rattle.std.specs.Prelude.{List, [], ◌∷◌, ℕ}
use Rattle.machine.specs.declared.Row.{Row, TheVariants.{Records, Xs, Marks}}
use Rattle.machine.specs.declared.Refusal.{Refusal, TheVariants.{Limits, ShortRow, BusyRow, OutOfRange}}
use Rattle.machine.specs.declared.Refusal.TheVariants.{NoSuchTask, OneTime, TaskIdle, TaskSeeks, TaskHolds}
use Rattle.machine.specs.declared.Refusal.TheVariants.{TooManyOut, FileLength, Letters, Version, TooManyEvents}
use Rattle.machine.specs.declared.Refusal.TheVariants.{EventCode, NoEvent, ShortRoom}

-- which row a value out of range stands in: 0 records, 1 X, 2 marks
abbrev pub row_number : Row → ℕ
row_number Records = 0
row_number Xs = 1
row_number Marks = 2

-- what the paper says of an answer: a number, 0 where the call is accepted and else that of the refusal, and the values
-- beside it
pub record Said : Type 0 where
  pub number : ℕ
  pub values : List ℕ

-- a refusal answers its number and nothing more, except that 3 adds which row and the index of the first bad value
abbrev pub refusal_said : Refusal → Said
refusal_said Limits = record { number = 1; values = [] }
refusal_said ShortRow = record { number = 2; values = [] }
refusal_said BusyRow = record { number = 18; values = [] }
refusal_said (OutOfRange row index) = record { number = 3; values = row_number row ∷ index ∷ [] }
refusal_said NoSuchTask = record { number = 4; values = [] }
refusal_said OneTime = record { number = 5; values = [] }
refusal_said TaskIdle = record { number = 15; values = [] }
refusal_said TaskSeeks = record { number = 16; values = [] }
refusal_said TaskHolds = record { number = 17; values = [] }
refusal_said TooManyOut = record { number = 7; values = [] }
refusal_said FileLength = record { number = 8; values = [] }
refusal_said Letters = record { number = 9; values = [] }
refusal_said Version = record { number = 10; values = [] }
refusal_said TooManyEvents = record { number = 11; values = [] }
refusal_said EventCode = record { number = 12; values = [] }
refusal_said NoEvent = record { number = 13; values = [] }
refusal_said ShortRoom = record { number = 14; values = [] }

-- the number of a refusal
abbrev pub number_of : Refusal → ℕ
number_of why = (refusal_said why).number
