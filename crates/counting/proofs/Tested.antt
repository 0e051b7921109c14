-- A test of the definitions and the plain statement that it decides, and how such tests are put together.
use mathlib.Core.{Path.◌≡◌, Logic.{◌⊎◌, inl, inr, ⊎_elim, ◌↔◌}, Bool.{Bool, true, false, not, ◌&&◌, ◌||◌}}
use Prim.Native.Nat.{ℕ, ◌≤◌, ◌<◌}
use lib.Dec.{T, eqb, leb, ltb, T_not, not_T, leb→le, le→leb, ltb→lt, lt→ltb, eqb→eq}
use borrow.Author.Tests.{eq-eqb}
use Rattle.counting.proofs.Bools.{and_in, and_l, and_r, is_true, is_false}

pub record Tested (b : Bool) (A : Type 0) : Type 0 where
  pub says : T b → A
  pub shows : A → T b

-- ---- of two numbers

pub below : (a b : ℕ) → Tested (ltb a b) (a < b)
below a b = record { says = ltb→lt a b; shows = lt→ltb a b }

pub most : (a b : ℕ) → Tested (leb a b) (a ≤ b)
most a b = record { says = leb→le a b; shows = le→leb a b }

pub same : (a b : ℕ) → Tested (eqb a b) (a ≡ b)
same a b = record { says = eqb→eq a b; shows = λ e. rw (eq-eqb a b e) tt }

-- ---- put together

pub both : {a b : Bool} {A B : Type 0} → Tested a A → Tested b B → Tested (a && b) (A × B)
both {a = a} {b = b} f g = record {
  says = λ t. (f.says (and_l a b t), g.says (and_r a b t));
  shows = λ h. and_in a b (f.shows h.0) (g.shows h.1);
}

pub either : {a b : Bool} {A B : Type 0} → Tested a A → Tested b B → Tested (a || b) (A ⊎ B)
either {a = true} f g = record { says = λ t. inl (f.says tt); shows = λ h. tt }
either {a = false} f g = record { says = λ t. inr (g.says t); shows = ⊎_elim (λ x. absurd (f.shows x)) g.shows }

pub fails : {b : Bool} {A : Type 0} → Tested b A → Tested (not b) (A → ⊥)
fails {b = b} f = record { says = λ t a. T_not b t (f.shows a); shows = λ none. not_T b (λ t. none (f.says t)) }

-- the same said in other words
pub meaning : {b : Bool} {A B : Type 0} → Tested b A → A ↔ B → Tested b B
meaning f same = record { says = λ t. same.0 (f.says t); shows = λ h. f.shows (same.1 h) }

pub always : {A : Type 0} → A → Tested true A
always a = record { says = λ t. a; shows = λ h. tt }

pub never : {A : Type 0} → (A → ⊥) → Tested false A
never none = record { says = λ t. absurd t; shows = none }

-- ---- what follows

pub passes : {b : Bool} {A : Type 0} → Tested b A → A → b ≡ true
passes {b = b} f a = is_true b (f.shows a)

pub misses : {b : Bool} {A : Type 0} → Tested b A → (A → ⊥) → b ≡ false
misses {b = b} f none = is_false b (λ t. none (f.says t))

-- what is tested holds where it cannot fail
pub cannot_fail : {b : Bool} {A : Type 0} → Tested b A → ((A → ⊥) → ⊥) → A
cannot_fail {b = true} f no_fail = f.says tt
cannot_fail {b = false} f no_fail = absurd (no_fail (λ a. f.shows a))
