-- The events before i are behind the header.
use Rattle.std.proofs.Common.{◌≡◌, take}
use Rattle.file.specs.File.{events_bytes}
use Rattle.text.specs.Put.{put}
use Rattle.writer.proofs.put_events.Given as goal

abbrev pub invariant-loop-i : goal.invariant-loop-i
invariant-loop-i l = l.room ≡ put l.initial.room 11 (events_bytes (take l.i l.events))
