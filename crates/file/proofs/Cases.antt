-- The first of two lists of cases, one after the other.
use mathlib.Core.{Path.{◌≡◌, refl, sym, ap, ◌∙◌}, Bool.{Bool, true, false, cond}, List.{List, [], ◌∷◌, ◌++◌}}
use Rattle.std.specs.Prelude.{Ok, Err}
use Rattle.demands.specs.Refusals.{Verdict, Case, first}
use Rattle.machine.specs.declared.{Refusal.Refusal}

-- the second list counts only where the first accepts
abbrev after : Verdict → Verdict → Verdict
after (Ok accepted) rest = rest
after (Err why) rest = Err why

after_cond : (b : Bool) (why : Refusal) (v both rest : Verdict) → both ≡ after v rest
    → cond b (Err why) both ≡ after (cond b (Err why) v) rest
after_cond true why v both rest e = refl
after_cond false why v both rest e = e

first_append : (cases rest : List Case) → first (cases ++ rest) ≡ after (first cases) (first rest)
first_append [] rest = refl
first_append (case ∷ cases) rest = after_cond case.holds case.refusal (first cases) (first (cases ++ rest))
    (first rest) (first_append cases rest)

pub first_then : (cases rest : List Case) → first cases ≡ Ok tt → first (cases ++ rest) ≡ first rest
first_then cases rest e = first_append cases rest ∙ ap (λ (v : Verdict). after v (first rest)) e

pub first_stays : (cases rest : List Case) (why : Refusal) → first cases ≡ Err why
    → first (cases ++ rest) ≡ Err why
first_stays cases rest why e = first_append cases rest ∙ ap (λ (v : Verdict). after v (first rest)) e

-- both lists accept where the two together do
both_accept : (v rest : Verdict) → after v rest ≡ Ok tt → (v ≡ Ok tt) × (rest ≡ Ok tt)
both_accept (Ok accepted) rest e = (refl, e)
both_accept (Err why) rest e = (cc, cc)

pub first_both : (cases rest : List Case) → first (cases ++ rest) ≡ Ok tt
    → (first cases ≡ Ok tt) × (first rest ≡ Ok tt)
first_both cases rest e = both_accept (first cases) (first rest) (sym (first_append cases rest) ∙ e)
