-- Every test is passed, and the header and then the events are put.
use Rattle.std.proofs.Common.{Ok, ◌≡◌, ◌∙◌, ◌+◌, ◌*◌, length, sym, ap, false, not}
use borrow.Author.Tests.{le-ltb}
use Rattle.demands.specs.Refusals.{outside_limits}
use Rattle.file.specs.File.{written_of, writing}
use Rattle.writer.proofs.Bytes.{put_file}
use Rattle.schedule.proofs.write.Goals as goal

pub returns : goal.returns
returns c =
    let within : outside_limits c.args.s ≡ false = ap not (sym c.permitted.ensures ∙ c.if-not-permitted.false) in
    let put : written_of (Ok (11 + 3 * length c.args.events.now)) c.put_events.new.room
    ≡ writing c.args.s c.args.events.now c.args.room.now
    =
    rw (
      within,
      le-ltb _ _ c.if-count-gt-MOST_EVENTS.false,
      sym c.bad_number.ensures ∙ c.if-bad_number.false,
      le-ltb _ _ c.if-room-length.false,
    )
    (ap (written_of _)
    (put_file c.args.s c.args.events.now c.args.room.now _ _ c.if-room-length.false c.put_header.ensures
    c.put_events.ensures)) in
    put
