-- A reader's answer with its position afterwards, as the code returns it.
use Rattle.file.specs.File.{Read}
use Rattle.schedule.specs.declared.Next.{Next}

-- the definition's answer and position
abbrev pub next_of : Read → Next
next_of read = record { answer = read.answer; at = read.at }
