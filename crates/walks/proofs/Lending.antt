-- A `&mut [T]` that is lent on and used again, for a call that changes it or calls that only look. The token of its
-- lifetime stands first in the context and the slice second; while it is lent they are the token of the loan and the
-- slice lent, with what the lender holds behind them. `lends_again` and `comes_back` lend it as a `&mut [T]`,
-- `lends_shared` and `shared_back` as a `&[T]`. Assumes `Logic`.
use denote.Ref.{MutBor}
use mathlib.Core.{Path.{◌≡◌, refl, sym, subst}, List.{List, [], ◌∷◌}}
use Prim.Native.Nat.{ℕ}
use lib.ListN.{length}
use seplogic.Ra.Ura.{Ura}
use base.Fraction.{full_share}
use mir.Syntax.{Lifetime}
use contract.BorrowLft.{⊑_static}
use base.Fml.{Lft, GName, Share, Fml, Incl-refl, fsep, flft, fobs, fauth, flent, fobor}
use types.Logic.{Logic}
use types.Kit.{Item, Goal, Soaks, ‵, ◌⊛◌, some, later, Seq, Step, step, ◌$◌, move, drop, use1, use2, use3, split, pick}
use types.Kit.{fsplit, fjoin, feq_i, await}
use types.{SemTy.{cells, Arr}, Share.arr_parts, Tokens.{lft_new, lft_end, lent_back}}
use denote.Index.{row, whole_in, whole_out, opens_slice, closes_slice}
use denote.{Lend.{Held, lends_slice, slice_back, lends_shr_slice}, Memory.{mem, shares}, RattleType.RattleType}
use denote.Shares.{Shares}
use denote.{Ref.{at_last, as_bor}, Shadow.{pure_l, pure_i}}
use denote.Slice.{MutSlice, ShrSlice, Room, mut_slice_at, heres, coded_holeys, shr_slice_vals, mut_slice_vals, finally}

-- the same slice under another name
abbrev pub under : {X : Type 0} → MutBor X → GName → MutBor X
under x δ = record { ref_ptr = x.ref_ptr; ghost_name = δ; now = x.now }

module _ (R : RattleType) (κ : Lft) (q : Share) (x : MutBor (List R.Denot)) where
  -- the lender's own borrow, open, with both halves of its name
  abbrev Open : Fml
  Open = fsep (fobor κ q (Held R (length x.now) x.ref_ptr.0 x.ref_ptr.1 x.ghost_name))
      (fsep (fobs x.ghost_name ((coded_holeys R).code (heres R x.now)))
      (fauth x.ghost_name ((coded_holeys R).code (heres R x.now))))

  -- what the lender holds while the slice is lent for ν, under δ or shared
  abbrev pub Lent : ℕ → GName → Fml
  Lent ν δ = fsep (flent (ν ∷ []) (Held R (length x.now) x.ref_ptr.0 x.ref_ptr.1 δ)) Open

  abbrev pub Shared : ℕ → Fml
  Shared ν = fsep (flent (ν ∷ []) ((arr_parts (shares R) (length x.now)).part full_share x.now x.ref_ptr.0
      x.ref_ptr.1)) Open

module _ {M : Type 1} {𝓤 : Ura M} {𝓛 : Logic 𝓤} {K : Type 0} {Γ : List (Item 𝓤)}
    {G : Goal 𝓤 𝓛.H} (R : RattleType) (ℓ ℓ' : Lifetime) {κ : Lft} {q : Share} (x : MutBor (List R.Denot)) where
  -- the slice is opened: its elements, and the open borrow
  opened : K → Soaks G → (Room R (length x.now)
      → Seq K 𝓛 (‵ (row R full_share x.now x.ref_ptr.0 x.ref_ptr.1) ∷ ‵ (Open R κ q x) ∷ Γ) G)
      → Seq K 𝓛 (‵ (flft κ q) ∷ ‵ ((MutSlice ℓ κ R).own_val x (mut_slice_vals x)) ∷ Γ) G
  opened t z k = move t (1 ∷ []) $ fsplit t $ pure_l t (mut_slice_at R x (mut_slice_vals x))
      (λ p. fsplit t $ opens_slice t z R x.now x.ref_ptr.0 x.ref_ptr.1 $ move t (2 ∷ 3 ∷ []) $ fjoin t $ move t
      (2 ∷ 0 ∷ []) $ fjoin t $ move t (1 ∷ 0 ∷ []) $ k p.1)

  -- and closed again, at a list as long
  closed : K → Soaks G → (zs : List R.Denot) → Room R (length x.now) → length zs ≡ length x.now
      → Step K 𝓛 (‵ (flft κ q) ∷ ‵ ((MutSlice ℓ κ R).own_val (at_last x zs) (mut_slice_vals (at_last x zs))) ∷ Γ) G
      (‵ (row R full_share zs x.ref_ptr.0 x.ref_ptr.1) ∷ ‵ (Open R κ q x) ∷ Γ) G
  closed t z zs room e = step (λ s. move t (1 ∷ []) $ fsplit t $ move t (1 ∷ []) $ fsplit t $ move t
      (3 ∷ 2 ∷ 0 ∷ 1 ∷ []) $ closes_slice t z R x.now zs e x.ref_ptr.0 x.ref_ptr.1 $
      fjoin t $ pure_i t (mut_slice_at R (at_last x zs) (mut_slice_vals (at_last x zs))) (tt, (tt, tt))
      (refl, subst (Room R) (sym e) room) $ fjoin t $ move t (1 ∷ 0 ∷ []) $ s)

  -- for a call that changes it, under a name of its own
  pub lends_again : K → Soaks G → ((ν : ℕ) (δ : GName)
      → Seq K 𝓛 (‵ (flft (ν ∷ []) full_share) ∷ ‵
      ((MutSlice ℓ' (ν ∷ []) R).own_val (under x δ) (mut_slice_vals (under x δ))) ∷ ‵ (Lent R κ q x ν δ) ∷ Γ) G)
      → Seq K 𝓛 (‵ (flft κ q) ∷ ‵ ((MutSlice ℓ κ R).own_val x (mut_slice_vals x)) ∷ Γ) G
  lends_again t z k = opened t z (λ room. use1 𝓛 (‵ (cells (mem R) x.now x.ref_ptr.0 x.ref_ptr.1))
      (whole_in 𝓛 R x.now x.ref_ptr.0 x.ref_ptr.1) $ lft_new t z (λ ν. move t (1 ∷ []) $
      use1 𝓛 (later (some (λ (δ : GName). ‵
      ((MutSlice ℓ' (ν ∷ []) R).own_val (under x δ) (mut_slice_vals (under x δ))) ⊛ ‵
      (flent (ν ∷ []) (Held R (length x.now) x.ref_ptr.0 x.ref_ptr.1 δ)))))
      (lends_slice 𝓛 R ℓ' (ν ∷ []) x.now x.ref_ptr.0 x.ref_ptr.1 room) $
      await t z $ pick t (λ δ. split t $ move t (1 ∷ 3 ∷ []) $ fjoin t $ move t (2 ∷ 1 ∷ 0 ∷ []) $ k ν δ)))

  -- back at its last list, beside what else the callee left of it
  pub comes_back : K → Soaks G → {ν : ℕ} {B : Fml} (δ : GName) (zs : List R.Denot) → Room R (length x.now)
      → length zs ≡ length x.now
      → Step K 𝓛 (‵ (flft κ q) ∷ ‵ ((MutSlice ℓ κ R).own_val (at_last x zs) (mut_slice_vals (at_last x zs))) ∷ Γ) G
      (‵ (flft (ν ∷ []) full_share) ∷ ‵ (fsep (finally R δ zs) B) ∷ ‵ (Lent R κ q x ν δ) ∷ Γ) G
  comes_back t z {ν} δ zs room e = step (λ s. lft_end t z $ move t (1 ∷ []) $ fsplit t $ move t (1 ∷ []) $ drop t $
      move t (2 ∷ []) $ fsplit t $ move t (3 ∷ 0 ∷ 2 ∷ []) $
      use3 𝓛 (later (‵ ((Arr (mem R) (length x.now)).own_at zs x.ref_ptr.0 x.ref_ptr.1)))
      (slice_back 𝓛 R (ν ∷ []) δ zs (length x.now) x.ref_ptr.0 x.ref_ptr.1) $ await t z $
      fsplit t $ drop t $ use1 𝓛 (‵ (row R full_share zs x.ref_ptr.0 x.ref_ptr.1))
      (whole_out 𝓛 R zs x.ref_ptr.0 x.ref_ptr.1) $ closed t z zs room e $ s)

  -- for calls that only look, where the elements hold no `&mut`
  pub lends_shared : K → Soaks G → Shares 𝓛 R [] → ((ν : ℕ)
      → Seq K 𝓛 (‵ (flft (ν ∷ []) full_share) ∷ ‵
      ((ShrSlice ℓ' (ν ∷ []) R).own_val (as_bor x) (shr_slice_vals (as_bor x))) ∷ ‵ (Shared R κ q x ν) ∷ Γ) G)
      → Seq K 𝓛 (‵ (flft κ q) ∷ ‵ ((MutSlice ℓ κ R).own_val x (mut_slice_vals x)) ∷ Γ) G
  lends_shared t z law k = opened t z (λ room. feq_i t ℕ (length x.now) (length x.now) refl $ fjoin t $ lft_new t z
      (λ ν. move t (1 ∷ 0 ∷ []) $
      use2 𝓛 (later ((‵ ((ShrSlice ℓ' (ν ∷ []) R).own_val (as_bor x) (shr_slice_vals (as_bor x))) ⊛ ‵
      (flent (ν ∷ []) ((arr_parts (shares R) (length x.now)).part full_share x.now x.ref_ptr.0 x.ref_ptr.1)))
      ⊛ ‵ (flft (ν ∷ []) full_share)))
      (lends_shr_slice 𝓛 R ℓ' (ν ∷ []) full_share x.now x.ref_ptr.0 x.ref_ptr.1 room [] law
      ((ν ∷ [], full_share) ∷ []) (⊑_static (ν ∷ [])) (Incl-refl (ν ∷ []))) $ await t z $ split t $ split t $
      move t (1 ∷ 3 ∷ []) $ fjoin t $ move t (2 ∷ 1 ∷ 0 ∷ []) $ k ν))

  -- back as it was
  pub shared_back : K → Soaks G → {ν : ℕ} → Room R (length x.now)
      → Step K 𝓛 (‵ (flft κ q) ∷ ‵ ((MutSlice ℓ κ R).own_val x (mut_slice_vals x)) ∷ Γ) G
      (‵ (flft (ν ∷ []) full_share) ∷ ‵ ((ShrSlice ℓ' (ν ∷ []) R).own_val (as_bor x) (shr_slice_vals (as_bor x))) ∷ ‵
      (Shared R κ q x ν) ∷ Γ) G
  shared_back t z room = step (λ s. lft_end t z $ move t (1 ∷ []) $ drop t $ move t (1 ∷ []) $ fsplit t $ move t
      (2 ∷ 0 ∷ []) $ lent_back t z $ fsplit t $ drop t $ closed t z x.now room refl $ s)
