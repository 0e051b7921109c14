-- At i, what is seen is what there is to see of the records before i.
use Rattle.std.proofs.Common.{◌≡◌, ◌≤◌}
use Rattle.rows.proofs.Passed.{bad_before, out_before}
use Rattle.rows.proofs.look.Given as goal

abbrev pub invariant-loop-i : goal.invariant-loop-i
invariant-loop-i l = record {
  bad : l.bad ≡ bad_before l.s l.row l.i;
  bad_within : l.bad ≤ l.i;
  out : l.out ≡ out_before l.s l.row l.i;
  out_within : l.out ≤ l.i;
}
