-- Whether some number of the list has a code above 2 is whether one below its length has.
use Rattle.std.proofs.Common.{rules, ◌∙◌, ◌/◌, nat_lt}
use Rattle.std.proofs.lemmas.Iterator.{YieldsList-from_slice, Search.any_from_yields_List}
use Rattle.writer.proofs.Codes.{any_bad}
use Rattle.writer.proofs.bad_number.Goals as goal

pub returns : goal.returns
returns c =
    any_from_yields_List (λ number. nat_lt 2 (number / 65536)) _ _ _ c.any.ensures.ran
    (YieldsList-from_slice c.args.events.now (cc)) (λ x b q k. search rules)
    ∙ any_bad c.args.events.now
