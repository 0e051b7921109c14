-- Before the first event nothing is put; event i has a code of 0 to 2, and is put behind those before it.
use Rattle.std.proofs.Common.{◌∙◌, sym, arith}
use Rattle.text.proofs.Putting.{put_nothing}
use Rattle.writer.proofs.Bytes.{put_more}
use Rattle.writer.proofs.Codes.{code_known}
use Rattle.writer.proofs.put_events.Goals as goal

pub loop-i-init : goal.loop-i-init
loop-i-init c = sym (put_nothing _ 11)

pub put_event-requires : goal.put_event-requires
put_event-requires c =
    (omega arith, code_known c.args.events.now _ _ c.requires.events_value c.loop-i-test.true)

pub loop-i-preserved : goal.loop-i-preserved
loop-i-preserved c =
    c.put_event.ensures
    ∙ put_more _ _ c.args.events.now _ c.loop-i-test.true c.requires.events_in_bounds c.loop-i.invariant
