-- 01, "Schedule file": the kinds of calls by their codes.
use Rattle.std.specs.Prelude.{Result, Ok, Err, cond, ℕ, eqb}
use Rattle.machine.specs.declared.Kind.{Kind, TheVariants.{Ask, Turn, Release}}
use Rattle.machine.specs.declared.Refusal.{Refusal, TheVariants.EventCode}

-- 0 ask, 1 turn, 2 release; 12 above
abbrev pub kind_coded : ℕ → Result Kind Refusal
kind_coded code =
    cond (eqb code 0) (Ok Ask) (cond (eqb code 1) (Ok Turn) (cond (eqb code 2) (Ok Release) (Err EventCode)))
