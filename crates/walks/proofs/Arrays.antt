-- A local array that is lent as a `&mut [T]` for a call, and comes back at the list that the callee left. While it is
-- lent its place among the locals is empty: what is lent, and what the lender holds, stand in front. `lends_array` is
-- the way out and `array_back` the way back; `as_field` is for an array of structs as a field of another struct.
-- Assumes `Logic`.
use denote.Slice.{mut_slice_vals}
use denote.Ref.{MutBor}
use mathlib.Core.{Path.{◌≡◌, refl, sym, ap, ◌∙◌, subst}, List.{List, [], ◌∷◌, map}}
use Prim.Native.Nat.{ℕ}
use lib.ListN.{length, length-map}
use seplogic.Ra.Ura.{Ura}
use base.Fraction.{full_share}
use mir.{Syntax.{Lifetime, Place, Body, ty_array}, Val.Val}
use base.{Logic.{ent, sep, emp, guard, via, mono_r, emp∗, snd∗}, Fml.{Fml, GName, ftrue, fsep, fat, flft, flent}}
use prog.Wp.{Calls, Loops, Env, spot_of}
use types.Logic.{Logic, sem}
use types.Kit.{Item, ‵, ◌⊛◌, some, given, later, ⋆, nth, del, put, pull, fill, push, pop, mean, Post, Goal, runs}
use types.Kit.{lands, Seq, Step, step, ◌$◌, ◌∵◌, !, qed, by, move, drop, use1, use3, split, pick, learn, await, rewrite}
use types.Kit.{check, fsplit, fjoin, fpick, fpack}
use types.{SemTy.{Arr, cells}, Share.arr_parts, Tokens.{lft_new, lft_end}}
use denote.{Array.{Array, each, array_val}, ArrayMemory.{Single, Array-apart, Array-whole}}
use denote.{Index.{row, whole_in, whole_out}, Laws.{Is, shows}, Lend.{Held, lends_slice, slice_back}}
use denote.{Memory.{cell_at, lone, part_at, part_of, mem, shares}, RattleType.RattleType, Shadow.shadow}
use denote.Struct.{Declared.Declared, Laws.{Laws, tuple_val}, Steps.spelt}
use denote.{Slice.{MutSlice, Room, finally}, Steps.{owned, peeks}}
use Rattle.walks.proofs.{Data.{Data, Real, array}, Statements.{at, entry}}
use denote.Struct.Declared as Struct
use denote.Struct.Laws as StructLaws

module _ {M : Type 1} {𝓤 : Ura M} {𝓛 : Logic 𝓤} {K : Type 0} {Γ : List (Item 𝓤)}
    {G : Goal 𝓤 𝓛.H} where
  -- an entry goes to the front, and leaves its place empty; and goes back there
  pub lifts : K → (n : ℕ) → Step K 𝓛 (nth 𝓛 n Γ ∷ put 𝓛 n (‵ ftrue) Γ) G Γ G
  lifts t n = step (λ s. record {
    prf = via 𝓤 (sep 𝓤 (mean 𝓛 (nth 𝓛 n Γ)) (⋆ 𝓛 (del 𝓛 n Γ))) (pull 𝓛 n Γ)
        (via 𝓤 (sep 𝓤 (mean 𝓛 (nth 𝓛 n Γ)) (⋆ 𝓛 (put 𝓛 n (‵ ftrue) Γ)))
        (mono_r 𝓤 (mean 𝓛 (nth 𝓛 n Γ))
        (via 𝓤 (sep 𝓤 (emp 𝓤) (⋆ 𝓛 (del 𝓛 n Γ))) (emp∗ 𝓤 (⋆ 𝓛 (del 𝓛 n Γ)))
        (fill 𝓛 n (‵ ftrue) Γ)))
        (via 𝓤 (⋆ 𝓛 (nth 𝓛 n Γ ∷ put 𝓛 n (‵ ftrue) Γ))
        (push 𝓛 (nth 𝓛 n Γ) (put 𝓛 n (‵ ftrue) Γ)) s.prf));
  })

  pub lowers : K → (n : ℕ) {i : Item 𝓤} → Step K 𝓛 (put 𝓛 n i Γ) G (i ∷ Γ) G
  lowers t n {i} = step (λ s. record {
    prf = via 𝓤 (sep 𝓤 (mean 𝓛 i) (⋆ 𝓛 Γ)) (pop 𝓛 i Γ)
        (via 𝓤 (sep 𝓤 (mean 𝓛 i) (⋆ 𝓛 (del 𝓛 n Γ)))
        (mono_r 𝓤 (mean 𝓛 i) (via 𝓤 (sep 𝓤 (mean 𝓛 (nth 𝓛 n Γ)) (⋆ 𝓛 (del 𝓛 n Γ))) (pull 𝓛 n Γ)
        (snd∗ 𝓤 (mean 𝓛 (nth 𝓛 n Γ)) (⋆ 𝓛 (del 𝓛 n Γ)))))
        (via 𝓤 (⋆ 𝓛 (put 𝓛 n i Γ)) (fill 𝓛 n i Γ) s.prf));
  })

module _ {M : Type 1} {𝓤 : Ura M} (𝓛 : Logic 𝓤) {R : RattleType} (D : Data R)
    (one : Single R.mir) (n b : ℕ) where
  -- the cell of an array is its elements' cells, and these are a cell again
  open 𝓛 use {H}

  pub apart : (ys : List R.Denot) → Real (array D n) ys
      → ent 𝓤 (H.at full_share (ty_array (lone R.mir) n) b 0 ((array D n).val ys)) (sem 𝓛 (cells (mem R) ys b 0))
  unfolding part_of
  apart ys is =
      qed 𝓛 (‵ (fat full_share (ty_array (lone R.mir) n) b 0 ((array D n).val ys)) ∷ []) ∵ use1 𝓛
      (‵ (cell_at full_share (Array R n).mir ((array D n).val ys ∷ []) b 0))
      (𝓛.laws.at_raw full_share (ty_array (lone R.mir) n) b 0 ((array D n).val ys)) $
      owned ! (Array R n) (Is (Array R n)) ((array D n).makes 𝓛) ys _ is $ move ! (1 ∷ 0 ∷ []) $ fjoin ! $
      fpack ! (List Val) (λ us. fsep (cell_at full_share (Array R n).mir us b 0) ((Array R n).own_val ys us))
      ((array D n).val ys ∷ []) $
      use1 𝓛 (‵ ((arr_parts (shares R) n).part full_share ys b 0))
      (Array-apart 𝓛 R full_share one n ys b 0) $ fsplit ! $ drop ! $ by ! (whole_in 𝓛 R ys b 0)

  pub whole : (ys : List R.Denot) → ent 𝓤 (sem 𝓛 ((Arr (mem R) n).own_at ys b 0))
      (guard 𝓤 (Real (array D n) ys) (H.at full_share (ty_array (lone R.mir) n) b 0 ((array D n).val ys)))
  unfolding part_of
  whole ys =
      qed 𝓛 (‵ ((Arr (mem R) n).own_at ys b 0) ∷ []) ∵ fsplit ! $ move ! (1 ∷ []) $ use1 𝓛 (‵ (row R full_share ys b 0))
      (whole_out 𝓛 R ys b 0) $ move ! (1 ∷ 0 ∷ []) $ fjoin ! $
      use1 𝓛 (‵ (part_at (Array R n) full_share ys b 0)) (Array-whole 𝓛 R full_share n ys b 0) $ fpick !
      (λ vs. fsplit ! $
      spelt ! (Array R n) (Is (Array R n)) (shows 𝓛 (Array R n)) (λ zs. (array D n).val zs ∷ [])
      (array D n).tells full_share ys vs b 0 $ move ! (1 ∷ []) $
      peeks ! (Array R n) (Is (Array R n)) (shows 𝓛 (Array R n)) ys ((array D n).val ys ∷ [])
      (λ is. check ! is $ drop ! $ by !
      (𝓛.laws.raw_at full_share (ty_array (lone R.mir) n) b 0 ((array D n).val ys))))

-- the array in local k, as a slice under the name δ
abbrev pub slice_at : {X : Type 0} → ℕ → GName → List X → MutBor (List X)
slice_at b δ ys = record { ref_ptr = (b, 0); ghost_name = δ; now = ys }

module _ {M : Type 1} {𝓤 : Ura M} {𝓛 : Logic 𝓤} {K : Type 0} {Γ : List (Item 𝓤)}
    {E : Env 𝓤 𝓛.H} {C : Calls 𝓤 𝓛.H} {Λ : Loops 𝓤 𝓛.H} {b : Body} {q : Post 𝓤 𝓛.H} {R : RattleType} (D : Data R)
    (one : Single R.mir) (n : ℕ) (k : ℕ) where
  open 𝓛 use {H}

  pub lends_array : K → (ℓ : Lifetime) (ys : List R.Denot) → Real (array D n) ys → Room R (length ys)
      → entry 𝓛 Γ E k ≡ ‵ (fat full_share (ty_array (lone R.mir) n) (spot_of 𝓤 H E k).1 0 ((array D n).val ys))
      → ((ν : ℕ) (δ : GName) → Seq K 𝓛 (‵ (flft (ν ∷ []) full_share) ∷ ‵
      ((MutSlice ℓ (ν ∷ []) R).own_val (slice_at (spot_of 𝓤 H E k).1 δ ys)
      (mut_slice_vals (slice_at (spot_of 𝓤 H E k).1 δ ys))) ∷ ‵
      (flent (ν ∷ []) (Held R (length ys) (spot_of 𝓤 H E k).1 0 δ)) ∷ put 𝓛 (at 𝓛 Γ E k) (‵ ftrue) Γ)
      (runs C Λ E b q))
      → Seq K 𝓛 Γ (runs C Λ E b q)
  lends_array t ℓ ys is room e s =
      lifts t (at 𝓛 Γ E k) $ rewrite t 0 (λ (i : Item 𝓤). i) e refl $ use1 𝓛
      (‵ (cells (mem R) ys (spot_of 𝓤 H E k).1 0))
      (apart 𝓛 D one n (spot_of 𝓤 H E k).1 ys is) $ lft_new t tt (λ ν. move t (1 ∷ []) $
      use1 𝓛 (later (some (λ (δ : GName). ‵
      ((MutSlice ℓ (ν ∷ []) R).own_val (slice_at (spot_of 𝓤 H E k).1 δ ys)
      (mut_slice_vals (slice_at (spot_of 𝓤 H E k).1 δ ys))) ⊛ ‵
      (flent (ν ∷ []) (Held R (length ys) (spot_of 𝓤 H E k).1 0 δ)))))
      (lends_slice 𝓛 R ℓ (ν ∷ []) ys (spot_of 𝓤 H E k).1 0 room) $ await t tt $ pick t
      (λ δ. split t $ move t (2 ∷ 0 ∷ 1 ∷ []) $ s ν δ))

  -- after the call, before its result is stored: the last list, beside what else the callee left of the slice
  pub array_back : K → {ν m : ℕ} {B : Fml} (δ : GName) (zs : List R.Denot) → m ≡ n → {d : Place} {v : Val}
      → (Real (array D n) zs → Seq K 𝓛 (put 𝓛 (at 𝓛 Γ E k)
      (‵ (fat full_share (ty_array (lone R.mir) n) (spot_of 𝓤 H E k).1 0 ((array D n).val zs))) Γ)
      (lands C Λ E d v b q))
      → Seq K 𝓛 (‵ (flft (ν ∷ []) full_share) ∷ ‵ (fsep (finally R δ zs) B) ∷ ‵
      (flent (ν ∷ []) (Held R m (spot_of 𝓤 H E k).1 0 δ)) ∷ Γ) (lands C Λ E d v b q)
  array_back t {ν} {m} δ zs long s =
      lft_end t tt $ move t (1 ∷ []) $ fsplit t $ move t (1 ∷ []) $ drop t $ move t (1 ∷ 2 ∷ 0 ∷ []) $
      use3 𝓛 (later (‵ ((Arr (mem R) m).own_at zs (spot_of 𝓤 H E k).1 0)))
      (slice_back 𝓛 R (ν ∷ []) δ zs m (spot_of 𝓤 H E k).1 0) $ await t tt $
      rewrite t 0 (λ (l : ℕ). ‵ ((Arr (mem R) l).own_at zs (spot_of 𝓤 H E k).1 0)) long refl $
      use1 𝓛 (given (Real (array D n) zs) (‵
      (fat full_share (ty_array (lone R.mir) n) (spot_of 𝓤 H E k).1 0 ((array D n).val zs))))
      (whole 𝓛 D one n (spot_of 𝓤 H E k).1 zs) $ learn t (λ is. lowers t (at 𝓛 Γ E k) $ s is)

-- an array of structs as the field of another struct: there each element is the tuple of its fields
module _ (T : Declared) (L : Laws T) (n : ℕ) where
  pub field_val : (ys : List T.D) → array_val (map (tuple_val T L) (map T.to ys)) ≡ array_val
      (map (StructLaws.val T L) ys)
  field_val ys = ap array_val (each_val ys)
    where
      each_val : (zs : List T.D) → map (tuple_val T L) (map T.to zs) ≡ map (StructLaws.val T L) zs
      each_val [] = refl
      each_val (z ∷ zs) = ap (λ (us : List Val). StructLaws.val T L z ∷ us) (each_val zs)

  each_field : (ys : List T.D) (us : List Val) → shadow (each T.D (Struct.row T).own_val ys us)
      → shadow (each (Struct.field T).row.Denot (Struct.field T).row.own_val (map T.to ys) us)
  each_field [] [] s = s
  each_field [] (u ∷ us) s = absurd s
  each_field (y ∷ ys) [] s = absurd s
  each_field (y ∷ ys) (u ∷ us) s = (s.0, each_field ys us s.1)

  pub as_field : (ys : List T.D) → Is (Array (Struct.row T) n) ys (array_val (map (StructLaws.val T L) ys) ∷ [])
      → Is (Array (Struct.field T).row n) (map T.to ys) (array_val (map (tuple_val T L) (map T.to ys)) ∷ [])
  as_field ys is = subst (λ (v : Val). Is (Array (Struct.field T).row n) (map T.to ys) (v ∷ []))
      (sym (field_val ys)) (
        is.0,
        (
          (is.1.0.0, length-map ys T.to ∙ is.1.0.1),
          each_field ys is.0
              is.1.1,
        ),
      )
