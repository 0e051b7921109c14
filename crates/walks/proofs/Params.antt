-- A function's parameters, each in one of three ways: a value of plain data (`value`), a `&[T]` (`shared`) or a
-- `&mut [T]` (`changed`). For each way this says what the function and its caller have of it: on entry, in the caller's
-- hands, and at the exit. `handed`, `kept` and `told` are of a list of parameters: what is handed over, what the caller
-- keeps, and what is said of the last values. Assumes nothing; the laws take `Logic`.
use mathlib.Core.{Path.{◌≡◌, refl, sym, subst}, List.{List, [], ◌∷◌, ◌++◌}}
use Prim.Native.Nat.{ℕ, zero, suc}
use lib.ListN.{length}
use seplogic.Ra.Ura.{Ura}
use mir.{Syntax.named, Val.Val}
use base.Logic.{SProp, ent, sep, emp, guard, id⊢, via, guard_i, emp∗, mono∗, mono_r}
use base.Fml.{Lft, Fml, ftrue, feq, fsep, flft, fbor}
use types.Logic.{Logic, sem}
use types.Kit.{Item, ‵, raw, ◌⊛◌, given, learn, join, ⋆, ++⊢, ⊢++, push, pop, ◌$◌, ◌∵◌, !, qed, by, move, use1}
use types.Kit.{split, fsplit, fjoin, feq_l, check, frame, done}
use contract.{Monad.top, Lifetimes.{Lfts, Shares, toks}}
use denote.{Exit.{Kept, yes, Exit, unchanged, Last, left}, RattleType.{RattleType, RowLaws, Denots, owns}}
use denote.{Laws.{Is, Tells, Tellss, Spells, Ises, Lawful, Lawfuls, valss}, Lend.Held, Ref.MutBor}
use denote.{Signature.{Slot, AllWithin, plain, shr_slice_of, mut_slice_of, types_at, meet_at}, Steps.{nothing, owned}}
use denote.Slice.{MutSlice, ShrSlice, shr_slice_vals, mut_slice_vals, finally, shr_slice_Tells, mut_slice_Tells}
use denote.Slice.{shr_slice_Lawful, mut_slice_Lawful, shr_slice_copy}
use denote.Triple.End.{Kepts, Fins, lasts_of}
use denote.Triple.Walked.{Stay, Stays, stay_dropped, gave_slice, Goes, AllGo, Goes-dropped, Goes-gave_slice, has_of}
use Rattle.walks.proofs.Data.{Data}

-- formulas as entries of a context
abbrev pub items : {M : Type 1} (𝓤 : Ura M) → List Fml → List (Item 𝓤)
items 𝓤 [] = []
items 𝓤 (P ∷ Ps) = ‵ P ∷ items 𝓤 Ps

pub record Param {n : ℕ} (s : Slot n) (k : Kept) : Type 2 where
  pub vals : (κs : Lfts n) → (s.row κs).Denot → List Val
  pub tells : (κs : Lfts n) → Tells (s.row κs) (Is (s.row κs)) (vals κs)
  pub stay : Stay s k
  -- what a caller shows of the argument, what it hands over beside, and what it keeps of that
  pub Fact : (κs : Lfts n) → (s.row κs).Denot → Type 0
  pub hands : (κs : Lfts n) → (s.row κs).Denot → List Fml
  pub keeps : (κs : Lfts n) → (s.row κs).Denot → List Fml
  -- what is said of the last value, as a fact and beside
  pub Knows : (κs : Lfts n) (x : (s.row κs).Denot) → Last ((s.row κs).exit k) x → Type 0
  pub tell : (κs : Lfts n) (x : (s.row κs).Denot) → Last ((s.row κs).exit k) x → List Fml
  pub lawful : {M : Type 1} {𝓤 : Ura M} (𝓛 : Logic 𝓤) → (κs : Lfts n)
      → Lawful 𝓛 (s.row κs)
  pub goes : {M : Type 1} {𝓤 : Ura M} (𝓛 : Logic 𝓤) → Goes 𝓛 n s k stay
  pub enters : {M : Type 1} {𝓤 : Ura M} (𝓛 : Logic 𝓤) →
      (κs : Lfts n) (x : (s.row κs).Denot)
      → ent 𝓤 (sem 𝓛 ((s.row κs).own_val x (vals κs x))) (⋆ 𝓛 (items 𝓤 (hands κs x)))
  pub passes : {M : Type 1} {𝓤 : Ura M} (𝓛 : Logic 𝓤) →
      (κs : Lfts n) (x : (s.row κs).Denot) → Fact κs x
      → ent 𝓤 (⋆ 𝓛 (items 𝓤 (hands κs x)))
      (sep 𝓤 (sem 𝓛 ((s.row κs).own_val x (vals κs x))) (⋆ 𝓛 (items 𝓤 (keeps κs x))))
  pub returns : {M : Type 1} {𝓤 : Ura M} (𝓛 : Logic 𝓤) →
      (κs : Lfts n) (x : (s.row κs).Denot) (w : Last ((s.row κs).exit k) x)
      → ent 𝓤 (sem 𝓛 (left ((s.row κs).exit k) x w)) (guard 𝓤 (Knows κs x w) (⋆ 𝓛 (items 𝓤 (tell κs x w))))
  pub leaves : {M : Type 1} {𝓤 : Ura M} (𝓛 : Logic 𝓤) →
      (κs : Lfts n) (x : (s.row κs).Denot) (w : Last ((s.row κs).exit k) x)
      → ent 𝓤 (⋆ 𝓛 (items 𝓤 (tell κs x w))) (sem 𝓛 (stay.has κs x w (vals κs x)))

-- nothing is said of a value that is seen as it was passed
abbrev silent : {X : Type 0} (e : Exit X) → e ≡ unchanged → (x : X) (w : Last e x) → left e x w ≡ ftrue
silent {X} e p = subst (λ (e' : Exit X). (x : X) (w : Last e' x) → left e' x w ≡ ftrue) (sym p) (λ x w. refl)

abbrev pub value : {n : ℕ} {R : RattleType} → Data R → (k : Kept) → Param {n = n} (plain (λ _. R)) k
value {n} {R} D k = record {
  vals = λ κs x. D.val x ∷ [];
  tells = λ κs. D.tells;
  stay = stay_dropped (plain (λ _. R)) k;
  Fact = λ κs x. Is R x (D.val x ∷ []);
  hands = λ κs x. [];
  keeps = λ κs x. [];
  Knows = λ κs x w. Unit {0};
  tell = λ κs x w. [];
  lawful = λ 𝓛 κs. D.lawful 𝓛;
  goes = λ 𝓛. Goes-dropped 𝓛 n (plain (λ _. R)) k (λ κs x w. silent (R.exit k) (D.still k) x w);
  enters = λ {𝓤 = 𝓤} 𝓛 κs x. top 𝓤 _;
  passes = λ 𝓛 κs x is. qed 𝓛 [] ∵ owned ! R (Is R) (D.makes 𝓛) x (D.val x ∷ []) is $ nothing ! $ move !
      (1 ∷ 0 ∷ []) $ done !;
  returns = λ {𝓤 = 𝓤} 𝓛 κs x w. via 𝓤 (emp 𝓤) (top 𝓤 _) (guard_i 𝓤 (Unit {0}) (emp 𝓤) tt);
  leaves = λ {𝓤 = 𝓤} 𝓛 κs x w. id⊢ 𝓤 (emp 𝓤);
}

abbrev pub shared : {n : ℕ} (R : RattleType) → RowLaws R → (j : ℕ) (ok : AllWithin n (j ∷ [])) (k : Kept)
    → Param {n = n} (shr_slice_of (j ∷ []) ok (plain (λ _. R))) k
shared {n} R L j ok k = record {
  vals = λ κs. shr_slice_vals;
  tells = λ κs. shr_slice_Tells (named j) (meet_at n (j ∷ []) ok κs) R;
  stay = stay_dropped (shr_slice_of (j ∷ []) ok (plain (λ _. R))) k;
  Fact = λ κs x. Unit {0};
  hands = λ κs x. (ShrSlice (named j) (meet_at n (j ∷ []) ok κs) R).own_val x (shr_slice_vals x) ∷ [];
  keeps = λ κs x. (ShrSlice (named j) (meet_at n (j ∷ []) ok κs) R).own_val x (shr_slice_vals x) ∷ [];
  Knows = λ κs x w. Unit {0};
  tell = λ κs x w. [];
  lawful = λ 𝓛 κs. shr_slice_Lawful 𝓛 (named j) (meet_at n (j ∷ []) ok κs) R;
  goes = λ 𝓛. Goes-dropped 𝓛 n (shr_slice_of (j ∷ []) ok (plain (λ _. R))) k (λ κs x w. refl);
  enters = λ {𝓤 = 𝓤} 𝓛 κs x. id⊢ 𝓤 _;
  passes = λ 𝓛 κs x _. (shr_slice_copy 𝓛 (named j) (meet_at n (j ∷ []) ok κs) R L).twice x (shr_slice_vals x);
  returns = λ {𝓤 = 𝓤} 𝓛 κs x w. guard_i 𝓤 (Unit {0}) (emp 𝓤) tt;
  leaves = λ {𝓤 = 𝓤} 𝓛 κs x w. id⊢ 𝓤 (emp 𝓤);
}

-- what is left of a `&mut [T]` that is let go: its last list, and the borrow, closed
abbrev pub last_list : (R : RattleType) → Lft → MutBor (List R.Denot) → List R.Denot → Fml
last_list R κ x w = fsep (finally R x.ghost_name w)
    (fbor κ (Held R (length x.now) x.ref_ptr.0 x.ref_ptr.1 x.ghost_name))

abbrev pub changed : {n : ℕ} (R : RattleType) (j : ℕ) (ok : AllWithin n (j ∷ []))
    → Param {n = n} (mut_slice_of (j ∷ []) ok (plain (λ _. R))) yes
changed {n} R j ok = record {
  vals = λ κs. mut_slice_vals;
  tells = λ κs. mut_slice_Tells (named j) (meet_at n (j ∷ []) ok κs) R;
  stay = gave_slice (j ∷ []) ok (plain (λ _. R));
  Fact = λ κs x. Unit {0};
  hands = λ κs x. (MutSlice (named j) (meet_at n (j ∷ []) ok κs) R).own_val x (mut_slice_vals x) ∷ [];
  keeps = λ κs x. [];
  Knows = λ κs x w. length w ≡ length x.now;
  tell = λ κs x w. last_list R (meet_at n (j ∷ []) ok κs) x w ∷ [];
  lawful = λ 𝓛 κs. mut_slice_Lawful 𝓛 (named j) (meet_at n (j ∷ []) ok κs) R;
  goes = λ 𝓛. Goes-gave_slice 𝓛 n j ok (plain (λ _. R));
  enters = λ {𝓤 = 𝓤} 𝓛 κs x. id⊢ 𝓤 _;
  passes = λ 𝓛 κs x _. qed 𝓛 (‵ ((MutSlice (named j) (meet_at n (j ∷ []) ok κs) R).own_val x (mut_slice_vals x)) ∷ []) ∵
      nothing ! $ move ! (1 ∷ 0 ∷ []) $ done !;
  returns = λ 𝓛 κs x w. qed 𝓛 (‵ (fsep (fsep (finally R x.ghost_name w) (feq ℕ (length w) (length x.now)))
      (fbor (meet_at n (j ∷ []) ok κs) (Held R (length x.now) x.ref_ptr.0 x.ref_ptr.1 x.ghost_name))) ∷ []) ∵
      fsplit ! $ fsplit ! $ move ! (1 ∷ []) $ feq_l ! (λ e. check ! e $ fjoin ! $ done !);
  leaves = λ {𝓤 = 𝓤} 𝓛 κs x w. id⊢ 𝓤 _;
}

-- ---- a list of parameters
module _ {n : ℕ} where
  abbrev pub Params : (ss : List (Slot n)) → Kepts ss → Type 2
  Params [] ks = Unit {2}
  Params (s ∷ ss) ks = Param s ks.0 × Params ss ks.1

  abbrev pub stays : (ss : List (Slot n)) (ks : Kepts ss) → Params ss ks → Stays ss ks
  stays [] ks ps = tt
  stays (s ∷ ss) ks ps = (ps.0.stay, stays ss ks.1 ps.1)

  module _ (κs : Lfts n) where
    abbrev pub spells : (ss : List (Slot n)) (ks : Kepts ss) → Params ss ks → Spells (types_at ss κs)
    spells [] ks ps = tt
    spells (s ∷ ss) ks ps = (ps.0.vals κs, spells ss ks.1 ps.1)

    abbrev pub all_tell : (ss : List (Slot n)) (ks : Kepts ss) (ps : Params ss ks)
        → Tellss (types_at ss κs) (Ises (types_at ss κs)) (spells ss ks ps)
    all_tell [] ks ps = tt
    all_tell (s ∷ ss) ks ps = (ps.0.tells κs, all_tell ss ks.1 ps.1)

    -- what a caller shows of the arguments
    abbrev pub Facts : (ss : List (Slot n)) (ks : Kepts ss) → Params ss ks → Denots (types_at ss κs) → Type 0
    Facts [] ks ps a = Unit {0}
    Facts (s ∷ ss) ks ps a = ps.0.Fact κs a.0 × Facts ss ks.1 ps.1 a.1

    -- what is known of the last values
    abbrev pub Known : (ss : List (Slot n)) (ks : Kepts ss) → Params ss ks → (a : Denots (types_at ss κs))
        → Fins κs ss ks a → Type 0
    Known [] ks ps a ws = Unit {0}
    Known (s ∷ ss) ks ps a ws = ps.0.Knows κs a.0 ws.0 × Known ss ks.1 ps.1 a.1 ws.1

    module _ {M : Type 1} (𝓤 : Ura M) where
      -- what is handed over, what the caller keeps, and what is said of the last values
      abbrev pub handed : (ss : List (Slot n)) (ks : Kepts ss) → Params ss ks → Denots (types_at ss κs) → List (Item 𝓤)
      handed [] ks ps a = []
      handed (s ∷ ss) ks ps a = items 𝓤 (ps.0.hands κs a.0) ++ handed ss ks.1 ps.1 a.1

      abbrev pub kept : (ss : List (Slot n)) (ks : Kepts ss) → Params ss ks → Denots (types_at ss κs) → List (Item 𝓤)
      kept [] ks ps a = []
      kept (s ∷ ss) ks ps a = items 𝓤 (ps.0.keeps κs a.0) ++ kept ss ks.1 ps.1 a.1

      abbrev pub told : (ss : List (Slot n)) (ks : Kepts ss) → Params ss ks → (a : Denots (types_at ss κs))
          → Fins κs ss ks a → List (Item 𝓤)
      told [] ks ps a ws = []
      told (s ∷ ss) ks ps a ws = items 𝓤 (ps.0.tell κs a.0 ws.0) ++ told ss ks.1 ps.1 a.1 ws.1

module _ {M : Type 1} {𝓤 : Ura M} (𝓛 : Logic 𝓤) where
  -- two parts that are each passed, or return, do so together
  both_pass : (Δ Δ' Θ Θ' : List (Item 𝓤)) (P Q : SProp 𝓤) → ent 𝓤 (⋆ 𝓛 Δ) (sep 𝓤 P (⋆ 𝓛 Θ))
      → ent 𝓤 (⋆ 𝓛 Δ') (sep 𝓤 Q (⋆ 𝓛 Θ')) → ent 𝓤 (⋆ 𝓛 (Δ ++ Δ')) (sep 𝓤 (sep 𝓤 P Q) (⋆ 𝓛 (Θ ++ Θ')))
  both_pass Δ Δ' Θ Θ' P Q h g = via 𝓤 (sep 𝓤 (⋆ 𝓛 Δ) (⋆ 𝓛 Δ')) (⊢++ 𝓛 Δ Δ')
      (qed 𝓛 (raw (⋆ 𝓛 Δ) ∷ raw (⋆ 𝓛 Δ') ∷ []) ∵
      use1 𝓛 (raw P ⊛ raw (⋆ 𝓛 Θ)) h $ split ! $ move ! (2 ∷ []) $ use1 𝓛
      (raw Q ⊛ raw (⋆ 𝓛 Θ')) g $ split ! $ move ! (2 ∷ 0 ∷ []) $ join ! $ frame ! $ move ! (1 ∷ 0 ∷ []) $ by !
      (++⊢ 𝓛 Θ Θ'))

  both_return : (φ ψ : Type 0) (P Q : SProp 𝓤) (Δ Δ' : List (Item 𝓤)) → ent 𝓤 P (guard 𝓤 φ (⋆ 𝓛 Δ))
      → ent 𝓤 Q (guard 𝓤 ψ (⋆ 𝓛 Δ')) → ent 𝓤 (sep 𝓤 P Q) (guard 𝓤 (φ × ψ) (⋆ 𝓛 (Δ ++ Δ')))
  both_return φ ψ P Q Δ Δ' h g = qed 𝓛 (raw P ∷ raw Q ∷ []) ∵ use1 𝓛 (given φ (raw (⋆ 𝓛 Δ))) h $ learn !
      (λ x. move ! (1 ∷ []) $ use1 𝓛 (given ψ (raw (⋆ 𝓛 Δ'))) g $ learn ! (λ y.
      check ! (x, y) $ move ! (1 ∷ 0 ∷ []) $ by ! (++⊢ 𝓛 Δ Δ')))

module _ {M : Type 1} {𝓤 : Ura M} (𝓛 : Logic 𝓤) {n : ℕ} where
  abbrev pub all_lawful : (κs : Lfts n) (ss : List (Slot n)) (ks : Kepts ss) → Params ss ks
      → Lawfuls 𝓛 (types_at ss κs)
  all_lawful κs [] ks ps = tt
  all_lawful κs (s ∷ ss) ks ps = (ps.0.lawful 𝓛 κs, all_lawful κs ss ks.1 ps.1)

  abbrev pub all_go : (ss : List (Slot n)) (ks : Kepts ss) (ps : Params ss ks) → AllGo 𝓛 n ss ks (stays ss ks ps)
  all_go [] ks ps = tt
  all_go (s ∷ ss) ks ps = (ps.0.goes 𝓛, all_go ss ks.1 ps.1)

  module _ (κs : Lfts n) where
    pub all_enter : (ss : List (Slot n)) (ks : Kepts ss) (ps : Params ss ks) (a : Denots (types_at ss κs))
        → ent 𝓤 (sem 𝓛 (owns (types_at ss κs) a (valss (types_at ss κs) (spells κs ss ks ps) a)))
        (⋆ 𝓛 (handed κs 𝓤 ss ks ps a))
    all_enter [] ks ps a = id⊢ 𝓤 (emp 𝓤)
    all_enter (s ∷ ss) ks ps a = via 𝓤 (sep 𝓤 (⋆ 𝓛 (items 𝓤 (ps.0.hands κs a.0)))
        (⋆ 𝓛 (handed κs 𝓤 ss ks.1 ps.1 a.1)))
        (mono∗ 𝓤 (ps.0.enters 𝓛 κs a.0) (all_enter ss ks.1 ps.1 a.1))
        (++⊢ 𝓛 (items 𝓤 (ps.0.hands κs a.0)) (handed κs 𝓤 ss ks.1 ps.1 a.1))

    pub all_pass : (ss : List (Slot n)) (ks : Kepts ss) (ps : Params ss ks) (a : Denots (types_at ss κs))
        → Facts κs ss ks ps a
        → ent 𝓤 (⋆ 𝓛 (handed κs 𝓤 ss ks ps a))
        (sep 𝓤 (sem 𝓛 (owns (types_at ss κs) a (valss (types_at ss κs) (spells κs ss ks ps) a)))
        (⋆ 𝓛 (kept κs 𝓤 ss ks ps a)))
    all_pass [] ks ps a fs = emp∗ 𝓤 (emp 𝓤)
    all_pass (s ∷ ss) ks ps a fs = both_pass 𝓛 (items 𝓤 (ps.0.hands κs a.0))
        (handed κs 𝓤 ss ks.1 ps.1 a.1) (items 𝓤 (ps.0.keeps κs a.0)) (kept κs 𝓤 ss ks.1 ps.1 a.1)
        (sem 𝓛 ((s.row κs).own_val a.0 (ps.0.vals κs a.0)))
        (sem 𝓛 (owns (types_at ss κs) a.1 (valss (types_at ss κs) (spells κs ss ks.1 ps.1) a.1)))
        (ps.0.passes 𝓛 κs a.0 fs.0) (all_pass ss ks.1 ps.1 a.1 fs.1)

    pub all_return : (ss : List (Slot n)) (ks : Kepts ss) (ps : Params ss ks) (a : Denots (types_at ss κs))
        (ws : Fins κs ss ks a)
        → ent 𝓤 (sem 𝓛 (lasts_of κs ss ks a ws))
        (guard 𝓤 (Known κs ss ks ps a ws) (⋆ 𝓛 (told κs 𝓤 ss ks ps a ws)))
    all_return [] ks ps a ws = guard_i 𝓤 (Unit {0}) (emp 𝓤) tt
    all_return (s ∷ ss) ks ps a ws = both_return 𝓛 _ _ _ _ (items 𝓤 (ps.0.tell κs a.0 ws.0))
        (told κs 𝓤 ss ks.1 ps.1 a.1 ws.1)
        (ps.0.returns 𝓛 κs a.0 ws.0) (all_return ss ks.1 ps.1 a.1 ws.1)

    pub all_leave : (ss : List (Slot n)) (ks : Kepts ss) (ps : Params ss ks) (a : Denots (types_at ss κs))
        (ws : Fins κs ss ks a)
        → ent 𝓤 (⋆ 𝓛 (told κs 𝓤 ss ks ps a ws))
        (sem 𝓛 (has_of κs ss ks (stays ss ks ps) a ws (valss (types_at ss κs) (spells κs ss ks ps) a)))
    all_leave [] ks ps a ws = id⊢ 𝓤 (emp 𝓤)
    all_leave (s ∷ ss) ks ps a ws = via 𝓤 (sep 𝓤 (⋆ 𝓛 (items 𝓤 (ps.0.tell κs a.0 ws.0)))
        (⋆ 𝓛 (told κs 𝓤 ss ks.1 ps.1 a.1 ws.1)))
        (⊢++ 𝓛 (items 𝓤 (ps.0.tell κs a.0 ws.0)) (told κs 𝓤 ss ks.1 ps.1 a.1 ws.1))
        (mono∗ 𝓤 (ps.0.leaves 𝓛 κs a.0 ws.0) (all_leave ss ks.1 ps.1 a.1 ws.1))

-- ---- the tokens of a signature's lifetimes
abbrev pub tokens : {M : Type 1} (𝓤 : Ura M) (n : ℕ) → Lfts n → Shares n → List (Item 𝓤)
tokens 𝓤 zero κs qs = []
tokens 𝓤 (suc n) κs qs = ‵ (flft κs.0 qs.0) ∷ tokens 𝓤 n κs.1 qs.1

module _ {M : Type 1} {𝓤 : Ura M} (𝓛 : Logic 𝓤) where
  open 𝓛 use {A}

  pub tokens_out : (n : ℕ) (κs : Lfts n) (qs : Shares n) → ent 𝓤 (toks 𝓛 n κs qs) (⋆ 𝓛 (tokens 𝓤 n κs qs))
  tokens_out zero κs qs = id⊢ 𝓤 (emp 𝓤)
  tokens_out (suc n) κs qs = via 𝓤 (sep 𝓤 (A.lft κs.0 qs.0) (⋆ 𝓛 (tokens 𝓤 n κs.1 qs.1)))
      (mono_r 𝓤 (A.lft κs.0 qs.0) (tokens_out n κs.1 qs.1))
      (push 𝓛 (‵ (flft κs.0 qs.0)) (tokens 𝓤 n κs.1 qs.1))

  pub tokens_in : (n : ℕ) (κs : Lfts n) (qs : Shares n) → ent 𝓤 (⋆ 𝓛 (tokens 𝓤 n κs qs)) (toks 𝓛 n κs qs)
  tokens_in zero κs qs = id⊢ 𝓤 (emp 𝓤)
  tokens_in (suc n) κs qs = via 𝓤 (sep 𝓤 (A.lft κs.0 qs.0) (⋆ 𝓛 (tokens 𝓤 n κs.1 qs.1)))
      (pop 𝓛 (‵ (flft κs.0 qs.0)) (tokens 𝓤 n κs.1 qs.1))
      (mono_r 𝓤 (A.lft κs.0 qs.0) (tokens_in n κs.1 qs.1))
