-- Statements over whole locals, where the context is some entries, then the locals in their order, then the leave to
-- free them (`Locals`). A place of the code says which entry is meant, so that a walk writes no position: `refl` finds
-- it. Assumes `Logic`.
use mathlib.Core.{Path.{◌≡◌, sym, ap, subst}, List.{List, [], ◌∷◌}, Option.some, Bool.{Bool, true, false, not}}
use Prim.Native.Nat.{ℕ, zero, ◌+◌}
use seplogic.Ra.Ura.{Ura}
use base.Fraction.{full_share}
use lib.Dec.{T}
use mir.Syntax.{Callee, Sym, Ty, ty_struct, Tys, field, deref, Place, place, Opd as Operand, copy, int, int_neg}
use mir.Syntax.{int_big, float, opd_true, opd_false, opd_unit, ptr_const, size_of, align_of, num_of, fn_addr, vtable}
use mir.Syntax.{Rv as RValue, addr_of, aggregate, Body, skip, seq, assign, cond, exit, call, return}
use mir.{Val.{Val, Vals, vbool, vptr, vstruct, of_list, WT, has_ty}, Fields.get_v}
use base.{Logic.SProp, Fml.{ftrue, fat, froom}}
use prog.{Memory.{field_at, field_of}, Wp.{Calls, Loops, Env, spot_of, next, exits}}
use types.Logic.{Logic}
use types.Kit.{Item, ‵, nth, put, Post, post, at_ret, prop, runs, lands, frees, Seq, Step, step, ◌$◌}
use types.Part.{Part, whole, sub, look_in, agg}
use types.Run.{Reads, Opd, Opds, and_then, no_more, Rv, look, init, store, forget, stop, hop, fld, from, load, addr}
use types.Run.{assigns, assigns_last, land, returns, first, branches, skips, jumps}
use denote.{RattleType.mirs, Struct.{Struct.to_tys, Declared.{Declared, fields}}}
use Rattle.walks.proofs.Locals.{front}

module _ {M : Type 1} {𝓤 : Ura M} (𝓛 : Logic 𝓤) (Γ : List (Item 𝓤)) (E : Env 𝓤 𝓛.H) where
  -- where local k stands: behind the entries in front
  open 𝓛 use {H}

  abbrev pub at : ℕ → ℕ
  at k = front 𝓤 Γ E + k

  abbrev pub entry : ℕ → Item 𝓤
  entry k = nth 𝓛 (at k) Γ

  abbrev pub type_of : ℕ → Ty
  type_of k = (spot_of 𝓤 H E k).0

  -- the cell of local k, and the same as room
  abbrev pub cell : ℕ → Val → Item 𝓤
  cell k v = ‵ (fat full_share (spot_of 𝓤 H E k).0 (spot_of 𝓤 H E k).1 0 v)

  abbrev pub vacant : ℕ → Item 𝓤
  vacant k = ‵ (froom (spot_of 𝓤 H E k).0 (spot_of 𝓤 H E k).1 0)

  -- the context with v in local k
  abbrev pub with : ℕ → Val → List (Item 𝓤)
  with k v = put 𝓛 (at k) (cell k v) Γ

  -- local k holds a struct
  abbrev pub Struct : ℕ → Sym → Tys → Vals → Type 2
  Struct k ν τs vs = entry k ≡ ‵ (fat full_share (ty_struct ν τs) (spot_of 𝓤 H E k).1 0 (vstruct vs))

  -- the entries of some locals, and those entries where the locals hold the values
  abbrev pub entries : List ℕ → List (Item 𝓤)
  entries [] = []
  entries (k ∷ ks) = entry k ∷ entries ks

  abbrev pub cells : List ℕ → List Val → List (Item 𝓤)
  cells [] [] = []
  cells [] (v ∷ vs) = ‵ ftrue ∷ []
  cells (k ∷ ks) [] = []
  cells (k ∷ ks) (v ∷ vs) = cell k v ∷ cells ks vs

-- operands that are whole locals
abbrev pub wholes : List ℕ → List Operand
wholes [] = []
wholes (k ∷ ks) = copy (place k []) ∷ wholes ks

abbrev local_of : Place → ℕ
local_of (place k st) = k

abbrev index : Operand → ℕ
index (copy p) = local_of p
index (int w n) = 0
index (int_neg w n) = 0
index (int_big w n) = 0
index (float f n) = 0
index opd_true = 0
index opd_false = 0
index opd_unit = 0
index (ptr_const n) = 0
index (size_of τ) = 0
index (align_of τ) = 0
index (num_of w τ) = 0
index (fn_addr f τ) = 0
index (vtable f τs) = 0

abbrev pub indices : List Operand → List ℕ
indices [] = []
indices (x ∷ xs) = index x ∷ indices xs

-- equal lists have equal heads and equal tails
module _ {M : Type 1} {𝓤 : Ura M} where
  abbrev head : List (Item 𝓤) → Item 𝓤
  head [] = ‵ ftrue
  head (i ∷ is) = i

  abbrev tail : List (Item 𝓤) → List (Item 𝓤)
  tail [] = []
  tail (i ∷ is) = is

  abbrev some_entry : List (Item 𝓤) → Bool
  some_entry [] = false
  some_entry (i ∷ is) = true

module _ {M : Type 1} {𝓤 : Ura M} {𝓛 : Logic 𝓤} {K : Type 0} {Γ : List (Item 𝓤)} where
  open 𝓛 use {H}

  all_read : K → (E : Env 𝓤 H) (ks : List ℕ) (vs : List Val) → entries 𝓛 Γ E ks ≡ cells 𝓛 Γ E ks vs
      → Opds K 𝓛 Γ E (wholes ks) vs
  all_read t E [] [] e = no_more t
  all_read t E [] (v ∷ vs) e = absurd (subst (λ (l : List (Item 𝓤)). T (some_entry l)) (sym e) tt)
  all_read t E (k ∷ ks) [] e = absurd (subst (λ (l : List (Item 𝓤)). T (some_entry l)) e tt)
  all_read t E (k ∷ ks) (v ∷ vs) e = and_then t (load t (from t (stop t)) (look t (at 𝓛 Γ E k) (ap head e)))
      (all_read t E ks vs (ap tail e))

  reads_field : K → (E : Env 𝓤 H) (k f : ℕ) {ν : Sym} {τs : Tys} {vs : Vals} {τ : Ty} {d : ℕ}
      → Struct 𝓛 Γ E k ν τs vs → field_at zero τs f ≡ some (τ, d)
      → Reads K 𝓛 Γ τ (spot_of 𝓤 H E k).1 (0 + d) (get_v vs f)
  reads_field t E k f {ν} {τs} {vs} e within = look_in t (at 𝓛 Γ E k)
      (sub t f within (subst (λ (i : Item 𝓤). Part K 𝓛 i full_share (ty_struct ν τs) (spot_of 𝓤 H E k).1 0 (vstruct vs)
      (λ u. ‵ (fat full_share (ty_struct ν τs) (spot_of 𝓤 H E k).1 0 u))) (sym e) (whole t)))

module _ {M : Type 1} {𝓤 : Ura M} {𝓛 : Logic 𝓤} {K : Type 0} {Γ : List (Item 𝓤)}
    {E : Env 𝓤 𝓛.H} where
  -- ---- operands: a local, a field of one
  open 𝓛 use {H}

  pub copies : K → {k : ℕ} {v : Val} → entry 𝓛 Γ E k ≡ cell 𝓛 Γ E k v → Opd K 𝓛 Γ E (copy (place k [])) v
  copies t {k} e = load t (from t (stop t)) (look t (at 𝓛 Γ E k) e)

  -- whole locals, as the arguments of a call are
  pub copies_all : K → {xs : List Operand} {vs : List Val} → wholes (indices xs) ≡ xs
      → entries 𝓛 Γ E (indices xs) ≡ cells 𝓛 Γ E (indices xs) vs → Opds K 𝓛 Γ E xs vs
  copies_all t {xs} {vs} is e = subst (λ (ys : List Operand). Opds K 𝓛 Γ E ys vs) is (all_read t E (indices xs) vs e)

  pub copies_field : K → {k f : ℕ} {ν : Sym} {τs : Tys} {vs : Vals} {τ : Ty} {d : ℕ} → Struct 𝓛 Γ E k ν τs vs
      → field_at zero τs f ≡ some (τ, d) → field_of (type_of 𝓛 Γ E k) f ≡ some (τ, d)
      → Opd K 𝓛 Γ E (copy (place k (field f ∷ []))) (get_v vs f)
  copies_field t {k} {f} e within found = load t (from t (fld t found (stop t))) (reads_field t E k f e within)

  -- the same of a declared struct, whose types are those of its declaration: they are not worked out from the code's
  -- table of types, which is long
  pub copies_part : K → (S : Declared) {k f : ℕ} {vs : Vals} {τ : Ty} {d : ℕ}
      → Struct 𝓛 Γ E k S.name (to_tys (mirs (fields S))) vs
      → field_at zero (to_tys (mirs (fields S))) f ≡ some (τ, d)
      → field_of (type_of 𝓛 Γ E k) f ≡ some (τ, d) → Opd K 𝓛 Γ E (copy (place k (field f ∷ []))) (get_v vs f)
  copies_part t S = copies_field t

  -- where a pointer in a struct's field points
  pub points_to : K → {k f : ℕ} {ν : Sym} {τs : Tys} {vs : Vals} {τ σ : Ty} {d b o : ℕ} → Struct 𝓛 Γ E k ν τs vs
      → field_at zero τs f ≡ some (τ, d) → field_of (type_of 𝓛 Γ E k) f ≡ some (τ, d) → get_v vs f ≡ vptr b o
      → Rv K 𝓛 Γ E (addr_of (place k (field f ∷ deref σ ∷ []))) (vptr b o)
  points_to t {k} {f} {τ = τ} {d = d} e within found points =
      addr t (from t (fld t found (hop t (subst (λ (v : Val). Reads K 𝓛 Γ τ (spot_of 𝓤 H E k).1 (0 + d) v) points
      (reads_field t E k f e within)) (stop t))))

  -- a pointer and the count beside it, as a slice is lent on
  pub refers : K → {j k f : ℕ} {u : Val} {ν : Sym} {τs : Tys} {vs : Vals} {τ : Ty} {d : ℕ}
      → entry 𝓛 Γ E j ≡ cell 𝓛 Γ E j u → Struct 𝓛 Γ E k ν τs vs → field_at zero τs f ≡ some (τ, d)
      → field_of (type_of 𝓛 Γ E k) f ≡ some (τ, d)
      → Rv K 𝓛 Γ E (aggregate (copy (place j []) ∷ copy (place k (field f ∷ [])) ∷ []))
      (vstruct (of_list (u ∷ get_v vs f ∷ [])))
  refers t p e within found = agg t (and_then t (copies t p) (and_then t (copies_field t e within found) (no_more t)))

  -- two locals, put together as a struct
  pub joins : K → {j k : ℕ} {u v : Val} → entry 𝓛 Γ E j ≡ cell 𝓛 Γ E j u
      → entry 𝓛 Γ E k ≡ cell 𝓛 Γ E k v
      → Rv K 𝓛 Γ E (aggregate (copy (place j []) ∷ copy (place k []) ∷ [])) (vstruct (of_list (u ∷ v ∷ [])))
  joins t p q = agg t (and_then t (copies t p) (and_then t (copies t q) (no_more t)))

  -- the same value, written another way
  pub means : K → {rv : RValue} {u v : Val} → u ≡ v → Rv K 𝓛 Γ E rv u → Rv K 𝓛 Γ E rv v
  means t {rv} e r = subst (λ (w : Val). Rv K 𝓛 Γ E rv w) e r

  -- a local that is not needed any more is room
  pub vacates : K → (k : ℕ) {C : Calls 𝓤 H} {Λ : Loops 𝓤 H} {b : Body} {q : Post 𝓤 H} {v : Val}
      → entry 𝓛 Γ E k ≡ cell 𝓛 Γ E k v
      → Step K 𝓛 (put 𝓛 (at 𝓛 Γ E k) (vacant 𝓛 Γ E k) Γ) (runs C Λ E b q) Γ (runs C Λ E b q)
  vacates t k e = forget t (at 𝓛 Γ E k) e

  -- ---- statements: a local is set
  module _ {C : Calls 𝓤 H} {Λ : Loops 𝓤 H} {q : Post 𝓤 H} {k : ℕ} {v : Val} where
    pub sets : K → {rv : RValue} {rest : Body} → Rv K 𝓛 Γ E rv v → entry 𝓛 Γ E k ≡ vacant 𝓛 Γ E k
        → T (has_ty (type_of 𝓛 Γ E k) v) × WT v
        → Step K 𝓛 (with 𝓛 Γ E k v) (runs C Λ E rest q) Γ (runs C Λ E (seq (assign (place k []) rv) rest) q)
    sets t r e wt = assigns t r (from t (stop t)) (init t (at 𝓛 Γ E k) e wt)

    -- where it is the last statement of its part
    pub sets_last : K → {rv : RValue} → Rv K 𝓛 Γ E rv v → entry 𝓛 Γ E k ≡ vacant 𝓛 Γ E k
        → T (has_ty (type_of 𝓛 Γ E k) v) × WT v
        → Step K 𝓛 (with 𝓛 Γ E k v) (prop (post 𝓤 H q next)) Γ (runs C Λ E (assign (place k []) rv) q)
    sets_last t r e wt = assigns_last t r (from t (stop t)) (init t (at 𝓛 Γ E k) e wt)

    -- where it holds something, as at the end of a turn
    pub resets_last : K → {rv : RValue} {u : Val} → Rv K 𝓛 Γ E rv v → entry 𝓛 Γ E k ≡ cell 𝓛 Γ E k u
        → T (has_ty (type_of 𝓛 Γ E k) v) × WT v
        → Step K 𝓛 (with 𝓛 Γ E k v) (prop (post 𝓤 H q next)) Γ (runs C Λ E (assign (place k []) rv) q)
    resets_last t r e wt = assigns_last t r (from t (stop t)) (store t (at 𝓛 Γ E k) e wt)

    -- a call's result is stored
    pub lands_in : K → {rest : Body} → entry 𝓛 Γ E k ≡ vacant 𝓛 Γ E k
        → T (has_ty (type_of 𝓛 Γ E k) v) × WT v
        → Step K 𝓛 (with 𝓛 Γ E k v) (runs C Λ E rest q) Γ (lands C Λ E (place k []) v rest q)
    lands_in t e wt = land t (from t (stop t)) (init t (at 𝓛 Γ E k) e wt)

    pub lands_over : K → {rest : Body} {u : Val} → entry 𝓛 Γ E k ≡ cell 𝓛 Γ E k u
        → T (has_ty (type_of 𝓛 Γ E k) v) × WT v
        → Step K 𝓛 (with 𝓛 Γ E k v) (runs C Λ E rest q) Γ (lands C Λ E (place k []) v rest q)
    lands_over t e wt = land t (from t (stop t)) (store t (at 𝓛 Γ E k) e wt)

  -- the function returns what its first local holds
  pub gives : K → {C : Calls 𝓤 H} {Λ : Loops 𝓤 H} {Post : Val → SProp 𝓤} {v : Val}
      → entry 𝓛 Γ E 0 ≡ cell 𝓛 Γ E 0 v
      → Step K 𝓛 Γ (frees E (prop (Post v))) Γ (runs C Λ E return (at_ret E Post))
  gives t e = returns t (look t (at 𝓛 Γ E 0) e)

  -- ---- parts of a sequence
  module _ {C : Calls 𝓤 H} {Λ : Loops 𝓤 H} {q : Post 𝓤 H} {rest : Body} where
    -- a branch: each arm goes on with what follows the branch
    pub parts : K → {x : Operand} {a b : Body} {y : Bool} → Opd K 𝓛 Γ E x (vbool y)
        → (T y → Seq K 𝓛 Γ (runs C Λ E (seq a rest) q)) → (T (not y) → Seq K 𝓛 Γ (runs C Λ E (seq b rest) q))
        → Seq K 𝓛 Γ (runs C Λ E (seq (cond x a b) rest) q)
    parts t o held failed = first t $ branches t o (λ h. record { prf = (held h).prf })
        (λ h. record { prf = (failed h).prf })

    -- an arm's statements, one by one
    pub then_set : K → {p : Place} {rv : RValue} {b : Body}
        → Step K 𝓛 Γ (runs C Λ E (seq (assign p rv) (seq b rest)) q) Γ (runs C Λ E (seq (seq (assign p rv) b) rest) q)
    then_set t = step (λ s. record { prf = s.prf })

    pub then_call : K → {f : Callee} {xs : List Operand} {p : Place} {b : Body}
        → Step K 𝓛 Γ (runs C Λ E (seq (call f xs p) (seq b rest)) q) Γ (runs C Λ E (seq (seq (call f xs p) b) rest) q)
    then_call t = step (λ s. record { prf = s.prf })

    pub then_skip : K → Step K 𝓛 Γ (runs C Λ E rest q) Γ (runs C Λ E (seq skip rest) q)
    then_skip t = step (λ s. first t $ skips t $ record { prf = s.prf })

    -- a way out of the block
    pub then_exit : K → {n : ℕ} → Step K 𝓛 Γ (prop (post 𝓤 H q (exits n))) Γ (runs C Λ E (seq (exit n) rest) q)
    then_exit t = step (λ s. first t $ jumps t $ record { prf = s.prf })
