-- The locals of a walked function, kept in the context in their own order: room for the result, the parameters' cells,
-- room for the rest, and behind them the leave to free them all. So local k stands k places behind what the walk has in
-- front. Assumes `Logic`.
use mathlib.Core.{Path.{◌≡◌, refl, sym, subst}, List.{List, [], ◌∷◌, ◌++◌}, Option.{Option, none, some}}
use Prim.Native.Nat.{ℕ, suc, ◌-◌}
use seplogic.Ra.Ura.{Ura}
use base.Fraction.{full_share}
use lib.{Dec.T, ListN.{length, take, drop as dropped}}
use mir.{Syntax.{Ty, Local, local, Fn}, Val.{Val, WT, has_ty}}
use base.Logic.{SProp, sep, via, mono_r}
use base.Fml.{Fml, ftrue, ffalse, feq, flt, fsep, fand, for, fwand, fex, fall, fupd, fhide, fat, froom, fleft, fdies}
use base.Fml.{flft, fdead, fobs, fauth, fres, fown, fbor, fobor, flent, fshr_bor, finv, fnamed, ftok, fkid, fme, fsent}
use prog.Wp.{Calls, Loops, Env, WpFn}
use types.Logic.{Logic}
use types.Kit.{Item, ‵, raw, ◌⊛◌, some as some', given, later, ⋆, ++⊢, ⊢++, pop, push, Goal, prop, runs, at_ret}
use types.Kit.{allocs, params', passes, frees, Seq, Step, step, ◌$◌, ◌∵◌, !, qed, by, mean, frame, use1, use2, move}
use types.Kit.{split, drop, fsplit, fjoin}
use types.Run.{enter, alloc1, alloc0, params1, pass1, pass0, init, forget, free1, free0}
use denote.Steps.{nothing}

-- the leave to free each local
abbrev pub dying : List (Ty × ℕ) → Fml
dying [] = ftrue
dying (e ∷ E) = fsep (fdies e.0 e.1) (dying E)

module _ {M : Type 1} (𝓤 : Ura M) where
  -- room for each local
  abbrev pub rooms : List (Ty × ℕ) → List (Item 𝓤)
  rooms [] = []
  rooms (e ∷ E) = ‵ (froom e.0 e.1 0) ∷ rooms E

  -- the first locals hold the values
  abbrev pub holding : List (Ty × ℕ) → List Val → List (Item 𝓤)
  holding E [] = rooms E
  holding [] (v ∷ vs) = []
  holding (e ∷ E) (v ∷ vs) = ‵ (fat full_share e.0 e.1 0 v) ∷ holding E vs

  -- as a function begins: room for the result, then the parameters
  abbrev pub begun : List (Ty × ℕ) → List Val → List (Item 𝓤)
  begun [] vs = []
  begun (e ∷ E) vs = ‵ (froom e.0 e.1 0) ∷ holding E vs

  -- as it ends: each local holds something, or is room
  abbrev pub ended : List (Ty × ℕ) → List (Option Val) → List (Item 𝓤)
  ended [] us = []
  ended (e ∷ E) [] = ‵ (froom e.0 e.1 0) ∷ ended E []
  ended (e ∷ E) (none ∷ us) = ‵ (froom e.0 e.1 0) ∷ ended E us
  ended (e ∷ E) (some v ∷ us) = ‵ (fat full_share e.0 e.1 0 v) ∷ ended E us

  -- what a cell holds
  abbrev held : Fml → Option Val
  held ftrue = none
  held ffalse = none
  held (feq X x y) = none
  held (flt m n) = none
  held (fsep P Q) = none
  held (fand P Q) = none
  held (for P Q) = none
  held (fwand P Q) = none
  held (fex X F) = none
  held (fall X F) = none
  held (fupd P) = none
  held (fhide P) = none
  held (fat q τ b o v) = some v
  held (froom τ b o) = none
  held (fleft q τ τs b o) = none
  held (fdies τ b) = none
  held (flft κ q) = none
  held (fdead κ) = none
  held (fobs γ u) = none
  held (fauth γ u) = none
  held (fres γ u) = none
  held (fown R γ x) = none
  held (fbor κ P) = none
  held (fobor κ q P) = none
  held (flent κ P) = none
  held (fshr_bor κ F) = none
  held (finv P) = none
  held (fnamed n P) = none
  held (ftok k) = none
  held (fkid h a) = none
  held (fme h) = none
  held (fsent h) = none

  abbrev holds : Item 𝓤 → Option Val
  holds (‵ P) = held P
  holds (raw P) = none
  holds (i ⊛ j) = none
  holds (some' F) = none
  holds (given φ i) = none
  holds (later i) = none

  abbrev pub contents : List (Item 𝓤) → List (Option Val)
  contents [] = []
  contents (i ∷ Γ) = holds i ∷ contents Γ

  -- a context: what stands in front, the locals as they are, and the leave to free them
  abbrev pub standing : List (Item 𝓤) → List (Ty × ℕ) → List (Option Val) → List (Item 𝓤)
  standing Δ E us = Δ ++ (ended E us ++ (‵ (dying E) ∷ []))

  -- how many entries stand in front of the locals
  abbrev pub front : List (Item 𝓤) → List (Ty × ℕ) → ℕ
  front Γ E = length Γ - suc (length E)

-- the locals, each at its block
abbrev pub placed : List Local → List ℕ → List (Ty × ℕ)
placed [] bs = []
placed (l ∷ ls) [] = []
placed (local τ h ∷ ls) (b ∷ bs) = (τ, b) ∷ placed ls bs

-- at each choice of a block for each local
abbrev pub EachBlock : List Local → (List (Ty × ℕ) → Type 1) → Type 1
EachBlock [] P = P []
EachBlock (local τ h ∷ ls) P = (b : ℕ) → EachBlock ls (λ E. P ((τ, b) ∷ E))

-- the values are of the types of the first locals
abbrev pub Fits : List Local → List Val → Type 0
Fits ls [] = Unit {0}
Fits [] (v ∷ vs) = ⊥
Fits (local τ h ∷ ls) (v ∷ vs) = (T (has_ty τ v) × WT v) × Fits ls vs

-- of a function: its first local is the result
abbrev pub Takes : List Local → List Val → Type 0
Takes [] vs = ⊥
Takes (l ∷ ls) vs = Fits ls vs

-- the blocks are of the locals' types
abbrev Blocks : List Local → List (Ty × ℕ) → Type 0
Blocks [] [] = Unit {0}
Blocks [] (e ∷ E) = ⊥
Blocks (l ∷ ls) [] = ⊥
Blocks (local τ h ∷ ls) (e ∷ E) = (τ ≡ e.0) × Blocks ls E

map_blocks : (ls : List Local) (P Q : List (Ty × ℕ) → Type 1) → ((E : List (Ty × ℕ)) → Blocks ls E → P E → Q E)
    → EachBlock ls P → EachBlock ls Q
map_blocks [] P Q f h = f [] tt h
map_blocks (local τ k ∷ ls) P Q f h = λ b. map_blocks ls (λ E. P ((τ, b) ∷ E)) (λ E. Q ((τ, b) ∷ E))
    (λ E of. f ((τ, b) ∷ E) (refl, of)) (h b)

module _ {M : Type 1} {𝓤 : Ura M} {𝓛 : Logic 𝓤} {K : Type 0} where
  -- a list of entries as one, and apart again
  open 𝓛 use {H}

  pub gathers : K → (Δ : List (Item 𝓤)) {Γ : List (Item 𝓤)} {G : Goal 𝓤 H} → Step K 𝓛 (raw (⋆ 𝓛 Δ) ∷ Γ) G (Δ ++ Γ) G
  gathers t Δ {Γ} {G} = step (λ s. record {
    prf =
        via 𝓤 (sep 𝓤 (⋆ 𝓛 Δ) (⋆ 𝓛 Γ)) (⊢++ 𝓛 Δ Γ)
        (via 𝓤 (⋆ 𝓛 (raw (⋆ 𝓛 Δ) ∷ Γ)) (push 𝓛 (raw (⋆ 𝓛 Δ)) Γ) s.prf);
  })

  pub scatters : K → (Δ : List (Item 𝓤)) {Γ : List (Item 𝓤)} {G : Goal 𝓤 H}
      → Step K 𝓛 (Δ ++ Γ) G (raw (⋆ 𝓛 Δ) ∷ Γ) G
  scatters t Δ {Γ} {G} = step (λ s. record {
    prf =
        via 𝓤 (sep 𝓤 (⋆ 𝓛 Δ) (⋆ 𝓛 Γ)) (pop 𝓛 (raw (⋆ 𝓛 Δ)) Γ)
        (via 𝓤 (⋆ 𝓛 (Δ ++ Γ)) (++⊢ 𝓛 Δ Γ) s.prf);
  })

  -- an entry goes behind a list of entries, and in front of it
  behind : K → (Δ Γ : List (Item 𝓤)) {i : Item 𝓤} {G : Goal 𝓤 H} → Step K 𝓛 (Δ ++ (i ∷ Γ)) G (i ∷ (Δ ++ Γ)) G
  behind t Δ Γ {i} = step (λ s. gathers t (i ∷ Δ) {Γ = Γ} $ use1 𝓛 (i ⊛ raw (⋆ 𝓛 Δ))
      (pop 𝓛 i Δ) $ split t $ move t (1 ∷ 0 ∷ []) $ scatters t Δ {Γ = i ∷ Γ} $ s)

  before : K → (Δ Γ : List (Item 𝓤)) {i : Item 𝓤} {G : Goal 𝓤 H} → Step K 𝓛 (i ∷ (Δ ++ Γ)) G (Δ ++ (i ∷ Γ)) G
  before t Δ Γ {i} = step (λ s. gathers t Δ {Γ = i ∷ Γ} $ move t (1 ∷ 0 ∷ []) $ use2 𝓛 (raw (⋆ 𝓛 (i ∷ Δ)))
      (push 𝓛 i Δ) $ scatters t (i ∷ Δ) {Γ = Γ} $ s)

  -- ---- the way in: the locals are allocated, and the parameters stored
  allocated : K → (ls : List Local) (Kt : Env 𝓤 H → Goal 𝓤 H) (Γ : List (Item 𝓤))
      → EachBlock ls (λ E. Seq K 𝓛 (rooms 𝓤 E ++ (‵ (dying E) ∷ Γ)) (Kt E)) → Seq K 𝓛 Γ (allocs ls Kt)
  allocated t [] Kt Γ h = alloc0 t $ nothing t $ h
  allocated t (local τ k ∷ ls) Kt Γ h = alloc1 t
      (λ b. allocated t ls (λ E. Kt ((τ, b) ∷ E)) (‵ (froom τ b 0) ∷ ‵ (fdies τ b) ∷ Γ) (map_blocks ls
      (λ E. Seq K 𝓛 (rooms 𝓤 ((τ, b) ∷ E) ++ (‵ (dying ((τ, b) ∷ E)) ∷ Γ)) (Kt ((τ, b) ∷ E)))
      (λ E. Seq K 𝓛 (rooms 𝓤 E ++ (‵ (dying E) ∷ ‵ (froom τ b 0) ∷ ‵ (fdies τ b) ∷ Γ)) (Kt ((τ, b) ∷ E)))
      (λ E of s. gathers t (rooms 𝓤 E) {Γ = ‵ (dying E) ∷ ‵ (froom τ b 0) ∷ ‵ (fdies τ b) ∷ Γ} $ move t
      (3 ∷ 1 ∷ 2 ∷ 0 ∷ []) $ fjoin t $ move t (2 ∷ 1 ∷ 0 ∷ []) $ scatters t
      (rooms 𝓤 E) {Γ = ‵ (froom τ b 0) ∷ ‵ (dying ((τ, b) ∷ E)) ∷ Γ} $ before t (rooms 𝓤 E)
      (‵ (dying ((τ, b) ∷ E)) ∷ Γ) $ s) (h b)))

  stored : K → (ls : List Local) (E : Env 𝓤 H) → Blocks ls E → (vs : List Val) → Fits ls vs
      → (Γ : List (Item 𝓤)) (g : Goal 𝓤 H) → Seq K 𝓛 (holding 𝓤 E vs ++ Γ) g → Seq K 𝓛 (rooms 𝓤 E ++ Γ) (passes E vs g)
  stored t ls E of [] fits Γ g s = pass0 t $ s
  stored t [] E of (v ∷ vs) fits Γ g s = absurd fits
  stored t (l ∷ ls) [] of (v ∷ vs) fits Γ g s = absurd of
  stored t (local τ h ∷ ls) (e ∷ E) of (v ∷ vs) fits Γ g s =
      pass1 t (init t 0 refl (subst (λ (τ' : Ty). T (has_ty τ' v) × WT v) of.0 fits.0)) $ behind t (rooms 𝓤 E) Γ $
      stored t ls E of.1 vs fits.1 (‵ (fat full_share e.0 e.1 0 v) ∷ Γ) g (before t (holding 𝓤 E vs) Γ $ s)

  began : K → (ls : List Local) (E : Env 𝓤 H) → Blocks ls E → (vs : List Val) → Takes ls vs
      → (Γ : List (Item 𝓤)) (g : Goal 𝓤 H) → Seq K 𝓛 (begun 𝓤 E vs ++ Γ) g → Seq K 𝓛 (rooms 𝓤 E ++ Γ) (params' E vs g)
  began t [] E of vs fits Γ g s = absurd fits
  began t (l ∷ ls) [] of vs fits Γ g s = absurd of
  began t (local τ h ∷ ls) (e ∷ E) of vs fits Γ g s =
      params1 t $ behind t (rooms 𝓤 E) Γ $ stored t ls E of.1 vs fits (‵ (froom e.0 e.1 0) ∷ Γ) g
      (before t (holding 𝓤 E vs) Γ $ s)

  -- what was had before stands in front again
  fronted : K → (B Δ : List (Item 𝓤)) (i : Item 𝓤) {G : Goal 𝓤 H} → Step K 𝓛 (Δ ++ (B ++ (i ∷ []))) G (B ++ (i ∷ Δ)) G
  fronted t B Δ i = step (λ s. gathers t B {Γ = i ∷ Δ} $ record {
    prf = via 𝓤 (sep 𝓤 (⋆ 𝓛 Δ) (⋆ 𝓛 (B ++ (i ∷ []))))
        (via 𝓤 (sep 𝓤 (⋆ 𝓛 B) (sep 𝓤 (mean 𝓛 i) (⋆ 𝓛 Δ))) (mono_r 𝓤 (⋆ 𝓛 B) (pop 𝓛 i Δ))
        (qed 𝓛 (raw (⋆ 𝓛 B) ∷ i ∷ raw (⋆ 𝓛 Δ) ∷ []) ∵ move ! (2 ∷ []) $ frame ! $ by !
        (++⊢ 𝓛 B (i ∷ []))))
        (via 𝓤 (⋆ 𝓛 (Δ ++ (B ++ (i ∷ [])))) (++⊢ 𝓛 Δ (B ++ (i ∷ []))) s.prf);
  })

  -- and goes behind the locals
  backed : K → (B Δ : List (Item 𝓤)) (i : Item 𝓤) {G : Goal 𝓤 H} → Step K 𝓛 (B ++ (i ∷ Δ)) G (Δ ++ (B ++ (i ∷ []))) G
  backed t B Δ i = step (λ s. record {
    prf = via 𝓤 (sep 𝓤 (⋆ 𝓛 Δ) (⋆ 𝓛 (B ++ (i ∷ [])))) (⊢++ 𝓛 Δ (B ++ (i ∷ [])))
        (via 𝓤 (sep 𝓤 (⋆ 𝓛 B) (⋆ 𝓛 (i ∷ Δ)))
        (via 𝓤 (sep 𝓤 (⋆ 𝓛 Δ) (sep 𝓤 (⋆ 𝓛 B) (mean 𝓛 i))) (mono_r 𝓤 (⋆ 𝓛 Δ) (⊢++ 𝓛 B (i ∷ [])))
        (qed 𝓛 (raw (⋆ 𝓛 Δ) ∷ raw (⋆ 𝓛 B) ∷ i ∷ []) ∵ move ! (1 ∷ 2 ∷ []) $ frame ! $ by !
        (push 𝓛 i Δ)))
        (via 𝓤 (⋆ 𝓛 (B ++ (i ∷ Δ))) (++⊢ 𝓛 B (i ∷ Δ)) s.prf));
  })

  pub enters : K → (C : Calls 𝓤 H) (Λ : Loops 𝓤 H) (f : Fn) (vs : List Val) → Takes f.locals vs
      → (Post : Val → SProp 𝓤) (Δ : List (Item 𝓤))
      → EachBlock f.locals (λ E. Seq K 𝓛 (Δ ++ (begun 𝓤 E vs ++ (‵ (dying E) ∷ [])))
      (runs C Λ E f.body (at_ret E Post))) → Seq K 𝓛 Δ (prop (WpFn 𝓤 H C Λ f vs Post))
  enters t C Λ f vs fits Post Δ h = enter t C Λ f vs Post $ allocated t f.locals
      (λ E. params' E vs (runs C Λ E f.body (at_ret E Post))) Δ (map_blocks f.locals
      (λ E. Seq K 𝓛 (Δ ++ (begun 𝓤 E vs ++ (‵ (dying E) ∷ []))) (runs C Λ E f.body (at_ret E Post)))
      (λ E. Seq K 𝓛 (rooms 𝓤 E ++ (‵ (dying E) ∷ Δ)) (params' E vs (runs C Λ E f.body (at_ret E Post))))
      (λ E of s. began t f.locals E of vs fits (‵ (dying E) ∷ Δ) (runs C Λ E f.body (at_ret E Post))
      (fronted t (begun 𝓤 E vs) Δ (‵ (dying E)) $ s)) h)

  -- ---- the way out: the locals are freed, whatever they hold
  one_freed : K → (e : Ty × ℕ) (E : Env 𝓤 H) (B Γ : List (Item 𝓤)) (g : Goal 𝓤 H)
      → Seq K 𝓛 (B ++ (‵ (dying E) ∷ Γ)) (frees E g)
      → Seq K 𝓛 (‵ (froom e.0 e.1 0) ∷ (B ++ (‵ (dying (e ∷ E)) ∷ Γ))) (frees (e ∷ E) g)
  one_freed t e E B Γ g s = behind t B (‵ (dying (e ∷ E)) ∷ Γ) $ gathers t B
      {Γ = ‵ (froom e.0 e.1 0) ∷ ‵ (dying (e ∷ E)) ∷ Γ} $ move t (2 ∷ []) $ fsplit t $ move t
      (3 ∷ 0 ∷ 2 ∷ 1 ∷ []) $ free1 t $ scatters t B {Γ = ‵ (dying E) ∷ Γ} $ s

  freed : K → (E : Env 𝓤 H) (us : List (Option Val)) (Γ : List (Item 𝓤)) (g : Goal 𝓤 H) → Seq K 𝓛 Γ g
      → Seq K 𝓛 (ended 𝓤 E us ++ (‵ (dying E) ∷ Γ)) (frees E g)
  freed t [] us Γ g s = drop t $ free0 t $ s
  freed t (e ∷ E) [] Γ g s = one_freed t e E (ended 𝓤 E []) Γ g (freed t E [] Γ g s)
  freed t (e ∷ E) (none ∷ us) Γ g s = one_freed t e E (ended 𝓤 E us) Γ g (freed t E us Γ g s)
  freed t (e ∷ E) (some v ∷ us) Γ g s = forget t 0 refl $ one_freed t e E (ended 𝓤 E us) Γ g (freed t E us Γ g s)

  -- what stands in front of the locals is left
  pub leaves : K → {E : Env 𝓤 H} {Γ : List (Item 𝓤)} {g : Goal 𝓤 H}
      → Γ ≡ take (front 𝓤 Γ E) Γ ++ (ended 𝓤 E (contents 𝓤 (dropped (front 𝓤 Γ E) Γ)) ++ (‵ (dying E) ∷ []))
      → Step K 𝓛 (take (front 𝓤 Γ E) Γ) g Γ (frees E g)
  leaves t {E} {Γ} {g} e = step (λ s. subst (λ (Γ' : List (Item 𝓤)). Seq K 𝓛 Γ' (frees E g)) (sym e)
      (backed t (ended 𝓤 E (contents 𝓤 (dropped (front 𝓤 Γ E) Γ))) (take (front 𝓤 Γ E) Γ) (‵ (dying E)) $ freed t E
      (contents 𝓤 (dropped (front 𝓤 Γ E) Γ)) (take (front 𝓤 Γ E) Γ) g s))
