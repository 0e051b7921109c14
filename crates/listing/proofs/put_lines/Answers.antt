-- Setup and the first line are where the progress begins, an event is one step of it, and the last line ends it.
use Rattle.std.proofs.Common.{◌≡◌, ◌∙◌, refl, sym, arith, rules}
use Rattle.listing.proofs.Opened.{reads, given_is}
use Rattle.listing.proofs.Running.{advances, ends}
use Rattle.listing.proofs.put_lines.Goals as goal

pub unwrap-event-requires : goal.unwrap-event-requires
unwrap-event-requires c =
    let here = c.loop-position.invariant in
    let opened = c.args.opened in
    let read = reads c.args.file.now opened.settings opened.count c.requires.0 _ _ _ c.loop-position.position
    c.loop-position-test.true here.of_file here.at c.next.ensures in
    rw read.0 refl

pub loop-position-preserved : goal.loop-position-preserved
loop-position-preserved c =
    let here = c.loop-position.invariant in
    let opened = c.args.opened in
    let read = reads c.args.file.now opened.settings opened.count c.requires.0 _ _ _ c.loop-position.position
    c.loop-position-test.true here.of_file here.at c.next.ensures in
    let event = given_is _ _ (sym c.unwrap-event.ensures ∙ read.0) in
    record {
      stands = advances opened.settings c.args.file.now c.args.page.now c.loop-position.position _ _ here.stands _ _ _
          (omega (arith, c.requires.1, c.loop-position-test.true)) (rw event at c.advance-answer.ensures)
          (rw event at c.put_event.ensures);
      of_file = read.1;
      at = read.2;
    }

pub returns : goal.returns
returns c =
    let all : c.loop-position.position ≡ c.args.opened.count =
    omega (arith, c.loop-position-test.false, c.loop-position.auto.position-end) in
    rw all at
    (ends c.args.opened.settings c.args.file.now c.args.page.now c.loop-position.position _ _
    c.loop-position.invariant.stands _ _ (omega (arith, c.requires.1)) (search rules) c.put_end.ensures)
