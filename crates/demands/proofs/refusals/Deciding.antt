-- Tests against the lines of a table: where each test says whether its line holds, the number that is answered is that
-- of the first line that holds.
use mathlib.Core.{Path.{◌≡◌, refl, sym, ap, ◌∙◌}, Logic.{inl, inr, ◌↔◌}, Bool.{Bool, true, false, not, ◌&&◌, cond}}
use mathlib.Core.List.{List, [], ◌∷◌, ◌++◌}
use Prim.Native.Nat.{ℕ, zero, suc, ◌≤◌}
use Rattle.std.specs.Prelude.{Ok, Err}
use native.Mathlib.Omega.{arith}
use lib.Dec.{T, eqb, T_not}
use Rattle.demands.specs.Refusals.{Verdict, Case, first}
use Rattle.machine.specs.RefusalNumbers.{Said, refusal_said, number_of}
use Rattle.demands.specs.promises.Refusing.{Line, NoneHolds, FirstHolds, RefusedExactly, Numbered, NoOtherNumber}
use Rattle.machine.specs.declared.{Refusal.Refusal}
use Rattle.machine.proofs.refusals.Numbered.{refusal_says}
use Rattle.counting.proofs.{Bools.{and_l, and_r}, Tested.{Tested, same}}

-- ---- tests and lines

-- a case is its line of the table: the number is the line's, and the test says whether the line holds
pub record Is (case : Case) (line : Line) : Type 0 where
  pub numbered : number_of case.refusal ≡ line.number
  pub tested : Tested case.holds line.holds

-- the cases are the lines, one by one; each where no line before it holds
abbrev pub Are : List Case → List Line → Type 0
Are [] [] = Unit {0}
Are [] (line ∷ lines) = ⊥
Are (case ∷ cases) [] = ⊥
Are (case ∷ cases) (line ∷ lines) = Is case line × ((line.holds → ⊥) → Are cases lines)

-- an answer that is made of a verdict: it has no number where the verdict accepts, and what the refusal says where it
-- refuses
module _ (answer : Verdict → Said) (none : (answer (Ok tt)).number ≡ 0)
    (says : (why : Refusal) → answer (Err why) ≡ refusal_said why) where
  says_number : (why : Refusal) → (answer (Err why)).number ≡ number_of why
  says_number why = ap (λ (said : Said). said.number) (says why)

  given : (cases : List Case) (lines : List Line) → Are cases lines → (n : ℕ) → 1 ≤ n
      → ((answer (first cases)).number ≡ n) ↔ FirstHolds lines n
  given [] [] are n low = (λ e. omega (arith, none), λ h. absurd h)
  given [] (line ∷ lines) are n low = absurd are
  given (case ∷ cases) [] are n low = absurd are
  given (case ∷ cases) (line ∷ lines) are n low =
      go case.holds are.0.tested (λ passed. given cases lines (are.1 passed) n low)
    where
      number : (answer (Err case.refusal)).number ≡ line.number
      number = says_number case.refusal ∙ are.0.numbered

      go : (b : Bool) → Tested b line.holds
          → ((line.holds → ⊥) → ((answer (first cases)).number ≡ n) ↔ FirstHolds lines n)
          → ((answer (cond b (Err case.refusal) (first cases))).number ≡ n) ↔ FirstHolds (line ∷ lines) n
      go true test later = (λ e. inl (test.says tt, sym number ∙ e), back)
        where
          back : FirstHolds (line ∷ lines) n → (answer (Err case.refusal)).number ≡ n
          back (inl here) = number ∙ here.1
          back (inr there) = absurd (there.0 (test.says tt))
      go false test later = (λ e. inr (test.shows, (later test.shows).0 e), back)
        where
          back : FirstHolds (line ∷ lines) n → (answer (first cases)).number ≡ n
          back (inl here) = absurd (test.shows here.0)
          back (inr there) = (later test.shows).1 there.1

  given_none : (cases : List Case) (lines : List Line) → Are cases lines
      → ((answer (first cases)).number ≡ 0) ↔ NoneHolds lines
  given_none [] [] are = (λ e. tt, λ h. none)
  given_none [] (line ∷ lines) are = absurd are
  given_none (case ∷ cases) [] are = absurd are
  given_none (case ∷ cases) (line ∷ lines) are =
      go case.holds are.0.tested (λ passed. given_none cases lines (are.1 passed))
    where
      go : (b : Bool) → Tested b line.holds
          → ((line.holds → ⊥) → ((answer (first cases)).number ≡ 0) ↔ NoneHolds lines)
          → ((answer (cond b (Err case.refusal) (first cases))).number ≡ 0) ↔ NoneHolds (line ∷ lines)
      go true test later = (
        λ e. let low = (refusal_says case.refusal).0 in absurd (omega (arith, says_number case.refusal)),
        λ h. absurd (h.0 (test.says tt)),
      )
      go false test later = (λ e. (test.shows, (later test.shows).0 e), λ h. (later test.shows).1 h.1)

  nothing_more : (v : Verdict) → 1 ≤ (answer v).number → ((answer v).number ≡ 3 → ⊥) → (answer v).values ≡ []
  nothing_more (Ok accepted) low other = absurd (omega (arith, none))
  nothing_more (Err why) low other =
      ap (λ (said : Said). said.values) (says why) ∙ (refusal_says why).1 (λ three. other (says_number why ∙ three))

  pub refused_exactly : (cases : List Case) (lines : List Line) → Are cases lines
      → RefusedExactly (answer (first cases)) lines
  refused_exactly cases lines are = record {
    refused = given cases lines are;
    accepted = given_none cases lines are;
    nothing_more = nothing_more (first cases);
  }

  -- an answer without a number is an acceptance
  pub accepted_verdict : (v : Verdict) → (answer v).number ≡ 0 → v ≡ Ok tt
  accepted_verdict (Ok accepted) e = refl
  accepted_verdict (Err why) e = let low = (refusal_says why).0 in absurd (omega (arith, says_number why))

  -- what a refusal leaves as it was
  pub refusal_keeps : {A : Type 0} (after : Verdict → A) (before : A) → ((why : Refusal) → after (Err why) ≡ before)
      → (v : Verdict) → 1 ≤ (answer v).number → after v ≡ before
  refusal_keeps after before keeps (Ok accepted) low = absurd (omega (arith, none))
  refusal_keeps after before keeps (Err why) low = keeps why

-- ---- cases in place of others

-- where the cases that come last decide alike, so does the whole
pub decide_alike : (earlier cases cases' : List Case) → first cases ≡ first cases'
    → first (earlier ++ cases) ≡ first (earlier ++ cases')
decide_alike [] cases cases' same = same
decide_alike (case ∷ earlier) cases cases' same =
    ap (cond case.holds (Err case.refusal)) (decide_alike earlier cases cases' same)

-- ---- no case holds

abbrev pub NoCase : List Case → Type 0
NoCase [] = Unit {0}
NoCase (case ∷ cases) = (case.holds ≡ false) × NoCase cases

pub no_case : (cases : List Case) → first cases ≡ Ok tt → NoCase cases
no_case [] e = tt
no_case (case ∷ cases) e = go case.holds e (no_case cases)
  where
    go : (b : Bool) → cond b (Err case.refusal) (first cases) ≡ Ok tt
        → (first cases ≡ Ok tt → NoCase cases) → (b ≡ false) × NoCase cases
    go true e later = let z : ◌≡◌ {A = ℕ} 0 1 = cc in absurd (omega arith)
    go false e later = (refl, later e)

-- ---- no other number

-- no line has this number
abbrev not_among : ℕ → List Line → Bool
not_among n [] = true
not_among n (line ∷ lines) = not (eqb line.number n) && not_among n lines

-- a line that is the first to hold has its number among them
pub not_first : (n : ℕ) (lines : List Line) → T (not_among n lines) → FirstHolds lines n → ⊥
not_first n [] none h = h
not_first n (line ∷ lines) none (inl (holds, e)) =
    T_not (eqb line.number n) (and_l (not (eqb line.number n)) (not_among n lines) none)
    ((same line.number n).shows e)
not_first n (line ∷ lines) none (inr (fails, later)) =
    not_first n lines (and_r (not (eqb line.number n)) (not_among n lines) none) later

first_numbered : (lines : List Line) (n : ℕ) → FirstHolds lines n → Numbered lines n
first_numbered [] n h = absurd h
first_numbered (line ∷ lines) n (inl here) = inl (sym here.1)
first_numbered (line ∷ lines) n (inr there) = inr (first_numbered lines n there.1)

zero_numbered : (lines : List Line) → Numbered lines 0
zero_numbered [] = refl
zero_numbered (line ∷ lines) = inr (zero_numbered lines)

pub no_other_number : NoOtherNumber
no_other_number says lines exactly = go says.number refl
  where
    go : (n : ℕ) → says.number ≡ n → Numbered lines n
    go zero e = zero_numbered lines
    go (suc n) e = first_numbered lines (suc n) ((exactly.refused (suc n) (omega arith)).0 e)
