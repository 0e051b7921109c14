-- One element of a lent slice of plain data: read through a `&[T]`, written through a `&mut [T]`.
-- The token of the slice's lifetime stands first in the context, and the slice second.
--     place_fits       where element i lies does not wrap
--     reads_element    `_j = *_k`, where _k points at element i
--     writes_element   `*_k = _j`: the slice is then at the list with that element set
--     settled          a `&mut [T]` that is let go says its last list, and hands its borrow back
-- Assumes `Logic`.
use denote.Ref.{Bor, MutBor}
use mathlib.Core.{Path.{◌≡◌, refl, sym, ap, subst, ◌∙◌}, List.{List, [], ◌∷◌}}
use Prim.Native.Nat.{ℕ, zero, suc, ◌+◌, ◌*◌, ◌<◌, ◌^◌}
use native.Mathlib.Nat.{le_of_lt, lt_of_le_of_lt, mul-le-mul_right}
use lib.{Dec.{T, lit<}, ListN.{length, get_or, set, length-set}}
use seplogic.Ra.Ura.{Ura}
use base.Fraction.{full_share}
use mir.{Syntax.{Lifetime, Ty, deref, place, copy, rv_opd, Body, seq, assign}, Val.{WT, has_ty, vptr}}
use base.{Logic.ent, Fml.{Lft, Share, flft, fbor, fres}}
use prog.Wp.{Calls, Loops, Env}
use types.Logic.{Logic, sem}
use types.Kit.{Item, ‵, ◌⊛◌, Post, runs, Seq, Step, step, ◌$◌, ◌∵◌, !, qed, move, keep, drop, use1, split}
use types.Kit.{rewrite, fsplit, fjoin, done}
use types.Run.{look, look_raw, store_raw, init, stop, hop, from, load, of_opd, assigns}
use denote.Index.{place_is, elem_out, elem_back, elem_put, looks_slice, shuts_slice, opens_slice, closes_slice}
use denote.{Laws.{Typed, Is, shows}, Lend.Held, Memory.{mem, cell_at}, RattleType.RattleType, Ref.at_last}
use denote.Shadow.{pure_i}
use denote.Slice.{MutSlice, ShrSlice, Room, mut_slice_at, heres, coded_holeys, shr_slice_vals, mut_slice_vals, finally}
use denote.Slice.{res-finally, shr_slice_copy}
use denote.Steps.{owned}
use Rattle.walks.proofs.{Data.{Data, Real, typed}, Params.last_list}
use Rattle.walks.proofs.Statements.{at, entry, cell, vacant, with, type_of}
use denote.Index as Index

pub place_fits : (R : RattleType) (i n : ℕ) → Room R n → i < n → i * (mem R).size < 2 ^ 64
place_fits R i n room l = lt_of_le_of_lt (mul-le-mul_right (mem R).size (le_of_lt l))
    (lt_of_le_of_lt (le_of_lt room.1) (lit< tt))

-- a position, with m more entries in front
abbrev past : ℕ → ℕ → ℕ
past zero n = n
past (suc m) n = suc (past m n)

module _ {M : Type 1} {𝓤 : Ura M} {𝓛 : Logic 𝓤} {K : Type 0} {C : Calls 𝓤 𝓛.H}
    {Λ : Loops 𝓤 𝓛.H} {E : Env 𝓤 𝓛.H} {Γ : List (Item 𝓤)} {rest : Body} {goal : Post 𝓤 𝓛.H} where
  module _ {R : RattleType} (D : Data R) {σ : Ty} (one : R.mir ≡ σ ∷ []) (ℓ : Lifetime) {κ : Lft} {q : Share}
      (x : Bor (List R.Denot)) (i : ℕ) (d : R.Denot) (l : i < length x.now) where
    pub reads_element : K → {j k : ℕ} → entry 𝓛 Γ E k ≡ cell 𝓛 Γ E k
        (vptr x.ref_ptr.0 (i * (mem R).size + x.ref_ptr.1)) → entry 𝓛 Γ E j ≡ vacant 𝓛 Γ E j
        → type_of 𝓛 Γ E j ≡ σ
        → (Real D (get_or x.now i d) → Seq K 𝓛
        (‵ (flft κ q) ∷ ‵ ((ShrSlice ℓ κ R).own_val x (shr_slice_vals x)) ∷ with 𝓛 Γ E j (D.val (get_or x.now i d)))
        (runs C Λ E rest goal))
        → Seq K 𝓛 (‵ (flft κ q) ∷ ‵ ((ShrSlice ℓ κ R).own_val x (shr_slice_vals x)) ∷ Γ)
        (runs C Λ E (seq (assign (place j []) (rv_opd (copy (place k (deref σ ∷ []))))) rest) goal)
    reads_element t {j} {k} points room is s =
        move t (1 ∷ []) $
        use1 𝓛 (‵ ((ShrSlice ℓ κ R).own_val x (shr_slice_vals x)) ⊛ ‵ ((ShrSlice ℓ κ R).own_val x (shr_slice_vals x)))
        ((shr_slice_copy 𝓛 ℓ κ R D.rows).twice x (shr_slice_vals x)) $ split t $ fsplit t $ drop t $
        move t (0 ∷ 2 ∷ []) $
        looks_slice t tt R (D.copied 𝓛) x.now x.ref_ptr.0 x.ref_ptr.1 (λ q'.
        elem_out t R (Is R) (shows 𝓛 R) (λ y. D.val y ∷ []) D.tells q'
        x.now i d x.ref_ptr.0 x.ref_ptr.1 l (λ g.
        -- [the element; what it owns; the others; the token's way back; what the slice holds; the slice; …]
        rewrite t 0 (λ (τs : List Ty). ‵ (cell_at q' τs (D.val (get_or x.now i d) ∷ []) x.ref_ptr.0
        (Index.place (mem R).size x.ref_ptr.1 i))) one refl $
        assigns t (of_opd t (load t (from t
        (hop t (look t (past 6 (at 𝓛 Γ E k))
        (points ∙ ap (λ (p : ℕ). cell 𝓛 Γ E k (vptr x.ref_ptr.0 p))
        (sym (place_is (mem R).size x.ref_ptr.1 i)))) (stop t))) (look_raw t 0 refl)))
        (from t (stop t)) (init t (past 6 (at 𝓛 Γ E j)) room
        (subst (λ (τ : Ty). T (has_ty τ (D.val (get_or x.now i d))) × WT (D.val (get_or x.now i d))) (sym is)
        (subst (λ (τs : List Ty). Typed τs (D.val (get_or x.now i d) ∷ [])) one
        (typed D 𝓛 (get_or x.now i d) g)).0)) $
        rewrite t 0 (λ (τs : List Ty). ‵ (cell_at q' τs (D.val (get_or x.now i d) ∷ []) x.ref_ptr.0
        (Index.place (mem R).size x.ref_ptr.1 i))) (sym one) refl $
        elem_back t R q' x.now i d (D.val (get_or x.now i d) ∷ []) x.ref_ptr.0
        x.ref_ptr.1 l $ shuts_slice t tt R q' x.now x.ref_ptr.0 x.ref_ptr.1 $ move t (1 ∷ []) $ drop t $ s g))

  module _ {R : RattleType} (D : Data R) {σ : Ty} (one : R.mir ≡ σ ∷ []) (ℓ : Lifetime) {κ : Lft} {q : Share}
      (x : MutBor (List R.Denot)) (room : Room R (length x.now)) (i : ℕ) (r : R.Denot) (is : Real D r)
      (l : i < length x.now) where
    pub writes_element : K → {j k : ℕ} → entry 𝓛 Γ E k ≡ cell 𝓛 Γ E k
        (vptr x.ref_ptr.0 (i * (mem R).size + x.ref_ptr.1)) → entry 𝓛 Γ E j ≡ cell 𝓛 Γ E j (D.val r)
        → type_of 𝓛 Γ E j ≡ σ
        → Step K 𝓛 (‵ (flft κ q) ∷ ‵ ((MutSlice ℓ κ R).own_val (at_last x (set x.now i r))
        (mut_slice_vals (at_last x (set x.now i r)))) ∷ Γ) (runs C Λ E rest goal)
        (‵ (flft κ q) ∷ ‵ ((MutSlice ℓ κ R).own_val x (mut_slice_vals x)) ∷ Γ)
        (runs C Λ E (seq (assign (place k (deref σ ∷ [])) (rv_opd (copy (place j [])))) rest) goal)
    writes_element t {j} {k} points holds of = step (λ s.
        move t (1 ∷ []) $ fsplit t $ drop t $ fsplit t $ opens_slice t tt R x.now x.ref_ptr.0 x.ref_ptr.1 $
        elem_out t R (Is R) (shows 𝓛 R) (λ y. D.val y ∷ []) D.tells full_share x.now i r x.ref_ptr.0
        x.ref_ptr.1 l (λ _.
        -- [the element; what it owns; the others; the open borrow; both halves of the name; …]
        rewrite t 0 (λ (τs : List Ty). ‵ (cell_at full_share τs (D.val (get_or x.now i r) ∷ []) x.ref_ptr.0
        (Index.place (mem R).size x.ref_ptr.1 i))) one refl $
        assigns t (of_opd t (load t (from t (stop t)) (look t (past 6 (at 𝓛 Γ E j)) holds)))
        (from t (hop t (look t (past 6 (at 𝓛 Γ E k))
        (points ∙ ap (λ (p : ℕ). cell 𝓛 Γ E k (vptr x.ref_ptr.0 p))
        (sym (place_is (mem R).size x.ref_ptr.1 i)))) (stop t)))
        (store_raw t 0 refl (subst (λ (τs : List Ty). Typed τs (D.val r ∷ [])) one (typed D 𝓛 r is)).0) $
        rewrite t 0 (λ (τs : List Ty). ‵ (cell_at full_share τs (D.val r ∷ []) x.ref_ptr.0
        (Index.place (mem R).size x.ref_ptr.1 i))) (sym one) refl $
        move t (1 ∷ []) $ drop t $ owned t R (Is R) (D.makes 𝓛) r (D.val r ∷ []) is $ move t
        (1 ∷ 0 ∷ []) $ elem_put t R full_share x.now i r (D.val r ∷ []) x.ref_ptr.0 x.ref_ptr.1 l $
        closes_slice t tt R x.now (set x.now i r) (length-set x.now i r) x.ref_ptr.0 x.ref_ptr.1 $ fjoin t $
        pure_i t (mut_slice_at R (at_last x (set x.now i r)) (mut_slice_vals (at_last x (set x.now i r))))
        (tt, (tt, tt)) (refl, subst (Room R) (sym (length-set x.now i r)) room) $ fjoin t $ move t (1 ∷ 0 ∷ []) $ s))

-- a `&mut [T]` that is let go says its last list, and hands its borrow back
pub settled : {M : Type 1} {𝓤 : Ura M} (𝓛 : Logic 𝓤) (R : RattleType) (ℓ : Lifetime)
    (κ : Lft) (x : MutBor (List R.Denot)) (zs : List R.Denot) → length zs ≡ length x.now
    → ent 𝓤 (sem 𝓛 ((MutSlice ℓ κ R).own_val (at_last x zs) (mut_slice_vals (at_last x zs))))
    (sem 𝓛 (last_list R κ x zs))
settled 𝓛 R ℓ κ x zs e = qed 𝓛 (‵ ((MutSlice ℓ κ R).own_val (at_last x zs) (mut_slice_vals (at_last x zs))) ∷ []) ∵
    fsplit ! $ move ! (1 ∷ []) $ fsplit ! $
    use1 𝓛 (‵ (fres x.ghost_name ((coded_holeys R).code (heres R zs))))
    (𝓛.names.obs-res x.ghost_name ((coded_holeys R).code (heres R zs))) $
    use1 𝓛 (‵ (finally R x.ghost_name zs)) (res-finally 𝓛 ℓ κ R x.ghost_name zs) $
    rewrite ! 1 (λ (m : ℕ). ‵ (fbor κ (Held R m x.ref_ptr.0 x.ref_ptr.1 x.ghost_name))) e refl $
    keep ! (0 ∷ 1 ∷ []) $ fjoin ! $ done !
