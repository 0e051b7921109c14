-- The room holds the lines of the file, or the one line of a file that does not open.
use Rattle.std.proofs.Common.{rules}
use Rattle.listing.proofs.Contract.{text_listed}
use Rattle.listing.proofs.list.Goals as goal

pub returns : goal.returns
returns c =
    let p = c.put_listing.ensures in
    let text = p.line.puts in
    let same = p.same in
    text_listed c.args.file.now c.args.room.now c.open-opened.result c.open-opened.ensures _ _ (search rules)
    (search (rules, text, same))
