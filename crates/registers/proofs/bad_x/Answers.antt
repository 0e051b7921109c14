-- What the search finds among the needed X numbers is the definition's first above N.
use Rattle.std.proofs.Common.{rules, ◌∙◌, ap, arith, nat_lt, take}
use Rattle.std.proofs.lemmas.Iterator.{YieldsList-from_slice, Search.position_from_yields_List}
use Rattle.registers.proofs.Finding.{first_above, first_above_position}
use Rattle.registers.proofs.bad_x.Goals as goal

pub returns : goal.returns
returns c =
    let s = c.args.s in
    let xs = c.args.xs.now in
    let b = c.blocks-blocks.result in
    let found = position_from_yields_List (λ x. nat_lt s.n x) _ _ c.position.result c.position.ensures.ran
    (YieldsList-from_slice (take b xs) (cc)) (λ x t q k. search rules) in
    let first = first_above_position xs s.n b (omega arith) in
    rw found at c.unwrap_or.ensures ∙ first ∙ ap (λ n. first_above xs s.n n) c.blocks-blocks.ensures
