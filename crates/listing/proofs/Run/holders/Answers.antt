-- Whoever of the N tasks holds is counted along their records.
use Rattle.std.proofs.Common.{rules, ◌≡◌, ◌∙◌, take}
use Rattle.std.specs.List.{count_by}
use Rattle.machine.specs.Records.{is_holding}
use Rattle.listing.proofs.Counting.{counted}
use Rattle.listing.proofs.Run.holders.Goals as goal

pub returns : goal.returns
returns c =
    let run = c.args.self.now in
    let tasks = take run.settings.n run.records in
    let along : c.count.result ≡ count_by (λ own. is_holding own.state) tasks = search rules in
    (along ∙ counted (λ own. is_holding own.state) run.records run.settings.n (search rules), search rules)
