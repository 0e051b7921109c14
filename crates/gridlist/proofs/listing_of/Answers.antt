-- No file is refused for want of room; and where the buffer holds as much of an input as it can, what is listed is that
-- input, since the buffer is longer than any file.
use Rattle.std.proofs.Common.{ℕ, ◌∙◌, ap, take}
use Rattle.std.proofs.lemmas.List.{take_min}
use Rattle.printed.{specs.Listing.listing, proofs.Longer.part_listed}
use Rattle.gridlist.proofs.Whole.{text_whole}
use Rattle.gridlist.proofs.listing_of.Goals as goal

pub returns : goal.returns
returns c =
    let whole =
    ap (λ (count : ℕ). take count c.list.new.room) c.unwrap_or-length.ensures
    ∙ text_whole (take c.min.result c.args.input.now) c.args.room.now c.list.new.room c.requires.in_bounds c.list.result
    c.list.ensures
    ∙ ap (λ (count : ℕ). listing (take count c.args.input.now)) c.min.ensures
    ∙ ap listing (take_min c.args.n c.args.input.now) in
    record {
      text = whole;
      all = λ all read. whole ∙ ap listing read ∙ part_listed all _ c.requires.most_events_in_bounds;
    }
