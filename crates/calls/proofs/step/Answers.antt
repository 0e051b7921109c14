-- What is put back and left is the decision on what was looked at, and a call is what its decision says.
use Rattle.std.proofs.Common.{rules}
use Rattle.registers.specs.Touching.{rows}
use Rattle.calls.proofs.ByDecision.{view_sees, stepped}
use Rattle.calls.proofs.step.Goals as goal

pub decide-requires : goal.decide-requires
decide-requires c = rw c.look-seen.ensures (view_sees c.args.s c.args.records.now c.args.event.task.0)

pub returns-in_err-answer : goal.returns-in_err-answer
returns-in_err-answer c =
    let left = rows c.decide.new.xs c.decide.new.marks in
    let before = rows c.args.xs.now c.args.marks.now in
    let done = stepped c.args.s c.args.event c.args.records.now before left c.look-seen.result c.decide.result
    c.look-seen.ensures c.decide.ensures in
    let refused = rw c.in_err-answer.was at done in search (rules, refused)

pub returns : goal.returns
returns c =
    let left = rows c.decide.new.xs c.decide.new.marks in
    let before = rows c.args.xs.now c.args.marks.now in
    let done = stepped c.args.s c.args.event c.args.records.now before left c.look-seen.result c.decide.result
    c.look-seen.ensures c.decide.ensures in
    rw (c.put.ensures, c.from.ensures) (rw c.in_ok-answer.was at done)
