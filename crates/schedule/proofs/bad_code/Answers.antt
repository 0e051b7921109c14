-- Whether some code is above 2, looked for from the first event on, is whether one below n is.
use Rattle.std.proofs.Common.{rules, arith, ◌∙◌}
use Rattle.std.proofs.lemmas.Iterator.{YieldsList-from_range, Search.any_from_yields_List}
use Rattle.counting.proofs.Some.{any_ranged}
use Rattle.file.specs.File.{code_bad}
use Rattle.schedule.proofs.bad_code.Goals as goal

pub returns : goal.returns
returns c =
    any_from_yields_List (code_bad c.args.file.now) _ _ _ c.any.ensures.ran
    (YieldsList-from_range 0 c.args.n c.args.n (search rules) (omega arith)) (λ i b q k. search rules)
    ∙ any_ranged (code_bad c.args.file.now) c.args.n
