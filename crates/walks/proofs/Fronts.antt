-- The first elements of a local array that are lent as a `&mut [T]` for a call, and come back at the list that the
-- callee left. While they are lent the array's place among the locals is empty: what is lent, what the lender holds of
-- it, and the other elements stand in front. `lends_front` is the way out, `front_back` the way back. Assumes `Logic`.
use mathlib.Core.{Path.{◌≡◌, refl, sym, ap, ◌∙◌}, List.{List, [], ◌∷◌, ◌++◌}}
use Prim.Native.Nat.{ℕ, ◌+◌}
use lib.ListN.{length}
use seplogic.Ra.Ura.{Ura}
use base.Fraction.{full_share}
use mir.{Syntax.{Lifetime, Place, Body, ty_array}, Val.Val}
use base.Fml.{Fml, GName, ftrue, fsep, fat, flft, flent}
use prog.Wp.{Calls, Loops, Env, spot_of}
use types.Logic.{Logic}
use types.Kit.{Item, ‵, ◌⊛◌, some, given, later, put, Post, runs, lands, Seq, ◌$◌, move, drop, use1, use2, use3, split}
use types.Kit.{pick, learn, await, rewrite, fsplit, fjoin, feq_l, feq_i}
use types.{SemTy.{Arr, cells}, Tokens.{lft_new, lft_end}}
use denote.{ArrayMemory.Single, Lend.{Held, lends_slice, slice_back}, Memory.{lone, mem}, RattleType.RattleType}
use denote.Slice.{MutSlice, Room, mut_slice_vals, finally}
use borrow.Table.Elements.{length_app, cut_app, join_app}
use Rattle.walks.proofs.{Data.{Data, Real, array}, Statements.{at, entry}}
use Rattle.walks.proofs.Arrays.{lifts, lowers, apart, whole, slice_at}
use borrow.Table.Elements as elements

-- the elements of a block that stay with the lender, where the first l are lent
abbrev staying : {M : Type 1} (𝓤 : Ura M) (R : RattleType) → List R.Denot → ℕ → ℕ → Item 𝓤
staying 𝓤 R rest block l = ‵ (cells (mem R) rest block (elements.at 0 (mem R).size l))

module _ {M : Type 1} {𝓤 : Ura M} {𝓛 : Logic 𝓤} {K : Type 0} {Γ : List (Item 𝓤)}
    {E : Env 𝓤 𝓛.H} {C : Calls 𝓤 𝓛.H} {Λ : Loops 𝓤 𝓛.H} {b : Body} {q : Post 𝓤 𝓛.H} {R : RattleType} (D : Data R)
    (one : Single R.mir) (n : ℕ) (k : ℕ) (ys rest : List R.Denot) where
  open 𝓛 use {H}

  pub lends_front : K → (ℓ : Lifetime) → Real (array D n) (ys ++ rest) → Room R (length ys)
      → entry 𝓛 Γ E k ≡ ‵ (fat full_share (ty_array (lone R.mir) n) (spot_of 𝓤 H E k).1 0
      ((array D n).val (ys ++ rest)))
      → ((ν : ℕ) (δ : GName) → Seq K 𝓛 (‵ (flft (ν ∷ []) full_share) ∷ ‵
      ((MutSlice ℓ (ν ∷ []) R).own_val (slice_at (spot_of 𝓤 H E k).1 δ ys)
      (mut_slice_vals (slice_at (spot_of 𝓤 H E k).1 δ ys))) ∷ ‵
      (flent (ν ∷ []) (Held R (length ys) (spot_of 𝓤 H E k).1 0 δ)) ∷ staying 𝓤 R rest (spot_of 𝓤 H E k).1
      (length ys) ∷ put 𝓛 (at 𝓛 Γ E k) (‵ ftrue) Γ) (runs C Λ E b q))
      → Seq K 𝓛 Γ (runs C Λ E b q)
  lends_front t ℓ is room e s =
      lifts t (at 𝓛 Γ E k) $ rewrite t 0 (λ (i : Item 𝓤). i) e refl $ use1 𝓛
      (‵ (cells (mem R) (ys ++ rest) (spot_of 𝓤 H E k).1 0))
      (apart 𝓛 D one n (spot_of 𝓤 H E k).1 (ys ++ rest) is) $
      use1 𝓛 (‵ (cells (mem R) ys (spot_of 𝓤 H E k).1 0) ⊛ staying 𝓤 R rest (spot_of 𝓤 H E k).1 (length ys))
      (cut_app 𝓛 (mem R) ys rest (spot_of 𝓤 H E k).1 0) $ split t $ lft_new t tt (λ ν. move t (1 ∷ []) $
      use1 𝓛 (later (some (λ (δ : GName). ‵
      ((MutSlice ℓ (ν ∷ []) R).own_val (slice_at (spot_of 𝓤 H E k).1 δ ys)
      (mut_slice_vals (slice_at (spot_of 𝓤 H E k).1 δ ys))) ⊛ ‵
      (flent (ν ∷ []) (Held R (length ys) (spot_of 𝓤 H E k).1 0 δ)))))
      (lends_slice 𝓛 R ℓ (ν ∷ []) ys (spot_of 𝓤 H E k).1 0 room) $ await t tt $ pick t
      (λ δ. split t $ move t (2 ∷ 0 ∷ 1 ∷ []) $ s ν δ))

  -- after the call, before its result is stored: the last list, beside what else the callee left of the slice
  pub front_back : K → {ν : ℕ} {B : Fml} (δ : GName) (zs : List R.Denot) → length (ys ++ rest) ≡ n
      → {d : Place} {v : Val}
      → (Real (array D n) (zs ++ rest) → Seq K 𝓛
      (put 𝓛 (at 𝓛 Γ E k) (‵ (fat full_share (ty_array (lone R.mir) n) (spot_of 𝓤 H E k).1 0
      ((array D n).val (zs ++ rest)))) Γ) (lands C Λ E d v b q))
      → Seq K 𝓛 (‵ (flft (ν ∷ []) full_share) ∷ ‵ (fsep (finally R δ zs) B) ∷ ‵
      (flent (ν ∷ []) (Held R (length ys) (spot_of 𝓤 H E k).1 0 δ)) ∷ staying 𝓤 R rest (spot_of 𝓤 H E k).1
      (length ys) ∷ Γ) (lands C Λ E d v b q)
  front_back t {ν} δ zs long s =
      lft_end t tt $ move t (1 ∷ []) $ fsplit t $ move t (1 ∷ []) $ drop t $ move t (1 ∷ 2 ∷ 0 ∷ []) $ use3 𝓛
      (later (‵ ((Arr (mem R) (length ys)).own_at zs (spot_of 𝓤 H E k).1 0)))
      (slice_back 𝓛 R (ν ∷ []) δ zs (length ys) (spot_of 𝓤 H E k).1 0) $ await t tt $
      fsplit t $ feq_l t (λ as_long. rewrite t 1 (staying 𝓤 R rest (spot_of 𝓤 H E k).1) (sym as_long) refl $
      use2 𝓛 (‵ (cells (mem R) (zs ++ rest) (spot_of 𝓤 H E k).1 0))
      (join_app 𝓛 (mem R) zs rest (spot_of 𝓤 H E k).1 0) $
      feq_i t ℕ (length (zs ++ rest)) n (length_app zs rest ∙ ap (λ (l : ℕ). l + length rest) as_long
      ∙ sym (length_app ys rest) ∙ long) $ fjoin t $
      use1 𝓛 (given (Real (array D n) (zs ++ rest))
      (‵ (fat full_share (ty_array (lone R.mir) n) (spot_of 𝓤 H E k).1 0 ((array D n).val (zs ++ rest)))))
      (whole 𝓛 D one n (spot_of 𝓤 H E k).1 (zs ++ rest)) $ learn t (λ is. lowers t (at 𝓛 Γ E k) $ s is))
