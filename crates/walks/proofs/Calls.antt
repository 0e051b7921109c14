-- A call inside a walk, of a function whose contract fixes its result and its last values. What the callee is handed
-- stands first in the context, in its order: the tokens, then the slices. Once it has returned, the tokens are there,
-- what is said of each `&mut`'s last list, and each `&` again; and the result's machine value is known. Assumes
-- `Logic`, as every model has it.
use mathlib.Core.{Path.{◌≡◌, refl, sym, subst}, List.{List, [], ◌∷◌, ◌++◌}}
use lib.ListN.{length, drop as dropped}
use seplogic.Ra.Ura.{Ura}
use mir.{Syntax.{Callee, Place, Opd as Operand, Body, seq, call}, Val.Val}
use base.Logic.{ent, sep, emp, guard, via, id⊢}
use prog.{Model.Model, Routine.{Routine, Env}, Wp.{Env as Blocks, Calls, Loops, eval_opds}}
use types.Logic.{Logic}
use sound.WpLaws.{FmC, fm_of}
use contract.{Lifetimes.{Lfts, Shares, AllOutlive}, Monad.{fact, fact_i, fact_use}}
use contract.Running.{Running, tables, tables_of}
use types.Kit.{Item, ‵, raw, given, some, later, ◌⊛◌, ⋆, ++⊢, ⊢++, aim, Post, runs, lands, Seq, ◌$◌, ◌∵◌, !, qed}
use types.Kit.{by, move, use0, use1, use2, split, join, pick, learn, await, updating, now as at_once, check, rewrite}
use types.Kit.{done}
use types.Run.{Opds}
use denote.{Signature.{type_at, types_at}, Laws.{Is, shows}, RattleType.owns, Steps.{facts, heard}}
use denote.Triple.{Clauses.{Ended, Clauses, Lasts, at_exit, lasts, closing}, Entry.{Args, Res, alive}}
use denote.Triple.{Spec.{Meets, triple_of}, Statement.Contract, Table.cited}
use Rattle.walks.proofs.Data.{Real, reads_as}
use Rattle.walks.proofs.Params.{Facts, Known, handed, kept, told, tokens, tokens_in, tokens_out, all_pass}
use Rattle.walks.proofs.Params.{all_return}
use Rattle.walks.proofs.Walk.{Function, clauses_in, valuess, values, brought, left}

-- what a clause says, in other words
pub hears : {M : Type 1} (𝓤 : Ura M) {φ ψ : Type 0} → (φ → ψ) → ent 𝓤 (fact 𝓤 φ) (fact 𝓤 ψ)
hears 𝓤 {φ} {ψ} f = fact_use 𝓤 φ (id⊢ 𝓤 (fact 𝓤 φ)) (λ x. fact_i 𝓤 ψ (fact 𝓤 φ) (f x))

-- the table of calls is monotone under a frame
framed : {M : Type 1} {𝓤 : Ura M} (𝓛 : Logic 𝓤) (𝓜 : Model 𝓤 𝓛.H) (𝓡 : Running 𝓤 𝓛.H 𝓜) (env : Env)
    → FmC 𝓤 𝓛.H 𝓛.laws (tables 𝓤 𝓛.H 𝓜 𝓡 env).C
unfolding tables_of
framed {𝓤 = 𝓤} 𝓛 𝓜 𝓡 env = fm_of 𝓤 𝓛.H 𝓛.laws (tables_of 𝓤 𝓛.H 𝓜 (tables 𝓤 𝓛.H 𝓜 𝓡 env))

module _ {T : Ended} (F : Function T) {M : Type 1} {𝓤 : Ura M} (𝓛 : Logic 𝓤) (𝓜 : Model 𝓤 𝓛.H)
    (𝓡 : Running 𝓤 𝓛.H 𝓜) (κs : Lfts T.signature.lifetimes) (qs : Shares T.signature.lifetimes)
    (bounds : AllOutlive T.signature.lifetimes T.signature.outlives κs) (a : Args T.signature κs)
    (g : (clauses_in F 𝓛 𝓜 𝓡 κs a).ghost) where
  open 𝓛 use {H}

  abbrev c : Clauses 𝓤 T
  c = clauses_in F 𝓛 𝓜 𝓡

  -- the contract as its callers have it, and what it is called with
  abbrev Promise : Contract 𝓤
  Promise = triple_of 𝓛 T.signature (closing 𝓛 T c)

  abbrev to : Promise.Ghost
  to = ((κs, qs, bounds, a, valuess F κs a), g)

  -- what the caller keeps of what it handed over
  abbrev pub keeps : List (Item 𝓤)
  keeps = kept κs 𝓤 T.signature.params T.kept F.params a

  asked : ent 𝓤 (emp 𝓤) ((c κs a).requires g) → Facts κs T.signature.params T.kept F.params a
      → ent 𝓤 (⋆ 𝓛 (brought F κs a 𝓤 qs)) (sep 𝓤 (Promise.pre to) (⋆ 𝓛 keeps))
  asked asks fs =
      via 𝓤 (sep 𝓤 (⋆ 𝓛 (tokens 𝓤 T.signature.lifetimes κs qs))
      (⋆ 𝓛 (handed κs 𝓤 T.signature.params T.kept F.params a)))
      (⊢++ 𝓛 (tokens 𝓤 T.signature.lifetimes κs qs)
      (handed κs 𝓤 T.signature.params T.kept F.params a))
      (qed 𝓛 (raw (⋆ 𝓛 (tokens 𝓤 T.signature.lifetimes κs qs)) ∷ raw
      (⋆ 𝓛 (handed κs 𝓤 T.signature.params T.kept F.params a)) ∷ []) ∵
      use1 𝓛 (raw (alive 𝓛 T.signature κs qs)) (tokens_in 𝓛 T.signature.lifetimes κs qs) $ move !
      (1 ∷ []) $
      use1 𝓛 (‵ (owns (types_at T.signature.params κs) a (valuess F κs a)) ⊛ raw (⋆ 𝓛 keeps))
      (all_pass 𝓛 κs T.signature.params T.kept F.params a fs) $ split ! $
      move ! (2 ∷ 0 ∷ []) $ join ! $ use0 𝓛 (raw ((c κs a).requires g)) asks $ move ! (1 ∷ 0 ∷ []) $ join ! $ done !)

  module _ (v : Res T.signature κs) (ws : Lasts T κs a)
      (says : (r : Res T.signature κs) (us : Lasts T κs a)
      → ent 𝓤 ((c κs a).ensures g r (at_exit T κs a us)) (fact 𝓤 ((r ≡ v) × (us ≡ ws)))) where
    -- what is known once it has returned u
    abbrev Learnt : Val → Type 0
    Learnt u = (u ≡ (F.result κs).val v) × Real (F.result κs) v × Known κs T.signature.params T.kept
        F.params a ws

    answered : (u : Val) → ent 𝓤 (Promise.post to u) (H.⇛ (guard 𝓤 (Learnt u) (⋆ 𝓛 (left F κs a 𝓤 qs ws))))
    answered u =
        qed 𝓛 (later (some (λ (r : Res T.signature κs).
        (raw (alive 𝓛 T.signature κs qs) ⊛ ‵ ((type_at T.signature.result κs).own_val r (u ∷ []))) ⊛ some
        (λ (us : Lasts T κs a). ‵ (lasts T κs a us) ⊛ raw ((c κs a).ensures g r (at_exit T κs a us))))) ∷ []) ∵
        updating ! $ await ! tt $ pick ! (λ r. split ! $ move ! (1 ∷ []) $ pick ! (λ us. split ! $ move ! (1 ∷ []) $
        use1 𝓛 (raw (fact 𝓤 ((r ≡ v) × (us ≡ ws)))) (says r us) $ heard ! ((r ≡ v) × (us ≡ ws)) (λ e.
        use1 𝓛 (given (Known κs T.signature.params T.kept F.params a us)
        (raw (⋆ 𝓛 (told κs 𝓤 T.signature.params T.kept F.params a us))))
        (all_return 𝓛 κs T.signature.params T.kept F.params a us) $ learn ! (λ known.
        move ! (1 ∷ []) $ split ! $ move ! (1 ∷ []) $ facts ! (type_at T.signature.result κs)
        (Is (type_at T.signature.result κs)) (shows 𝓛 (type_at T.signature.result κs)) r (u ∷ []) (λ is.
        let read : (u ≡ (F.result κs).val v) × Real (F.result κs) v = reads_as (F.result κs) v r u e.0 is in
        use1 𝓛 (raw (⋆ 𝓛 (tokens 𝓤 T.signature.lifetimes κs qs)))
        (tokens_out 𝓛 T.signature.lifetimes κs qs) $
        rewrite ! 1 (λ (us' : Lasts T κs a). raw
        (⋆ 𝓛 (told κs 𝓤 T.signature.params T.kept F.params a us'))) e.1 refl $ at_once ! $
        check ! (read.0, read.1, subst (Known κs T.signature.params T.kept F.params a) e.1 known) $
        by ! (++⊢ 𝓛 (tokens 𝓤 T.signature.lifetimes κs qs)
        (told κs 𝓤 T.signature.params T.kept F.params a ws)))))))

    -- what stands behind what is handed over
    abbrev pub others : List (Item 𝓤) → List (Item 𝓤)
    others Γ = dropped (length (brought F κs a 𝓤 qs)) Γ

    module _ (asks : ent 𝓤 (emp 𝓤) ((c κs a).requires g))
        (fs : Facts κs T.signature.params T.kept F.params a) {routine : Routine}
        (met : Meets 𝓛 T.signature (𝓡.run routine) (closing 𝓛 T c)) (env : Env) (key : Callee)
        (means : env key ≡ routine) where
      goes : (Γ : List (Item 𝓤)) → Γ ≡ brought F κs a 𝓤 qs ++ others Γ
          → ent 𝓤 (⋆ 𝓛 Γ) (sep 𝓤 ((tables 𝓤 H 𝓜 𝓡 env).C key (values F κs a) (Promise.post to))
          (sep 𝓤 (⋆ 𝓛 keeps) (⋆ 𝓛 (others Γ))))
      goes Γ e = subst (λ (Γ' : List (Item 𝓤)). ent 𝓤 (⋆ 𝓛 Γ')
          (sep 𝓤 ((tables 𝓤 H 𝓜 𝓡 env).C key (values F κs a) (Promise.post to))
          (sep 𝓤 (⋆ 𝓛 keeps) (⋆ 𝓛 (others Γ))))) (sym e)
          (via 𝓤 (sep 𝓤 (⋆ 𝓛 (brought F κs a 𝓤 qs)) (⋆ 𝓛 (others Γ)))
          (⊢++ 𝓛 (brought F κs a 𝓤 qs) (others Γ))
          (qed 𝓛 (raw (⋆ 𝓛 (brought F κs a 𝓤 qs)) ∷ raw (⋆ 𝓛 (others Γ)) ∷ []) ∵
          use1 𝓛 (raw (Promise.pre to) ⊛ raw (⋆ 𝓛 keeps)) (asked asks fs) $ split ! $ use1 𝓛
          (raw ((tables 𝓤 H 𝓜 𝓡 env).C key (values F κs a) (Promise.post to)))
          (cited 𝓤 H Promise 𝓜 𝓡 env key routine means met to) $ done !))

      pub calls : {K : Type 0} → K → {Λ : Loops 𝓤 H} {E : Blocks 𝓤 H} {q : Post 𝓤 H} {Γ : List (Item 𝓤)}
          {xs : List Operand} {d : Place} {rest : Body} → Γ ≡ brought F κs a 𝓤 qs ++ others Γ
          → Opds K 𝓛 Γ E xs (values F κs a)
          → (Real (F.result κs) v → Known κs T.signature.params T.kept F.params a ws
          → Seq K 𝓛 ((left F κs a 𝓤 qs ws ++ keeps) ++ others Γ)
          (lands (tables 𝓤 H 𝓜 𝓡 env).C Λ E d ((F.result κs).val v) rest q))
          → Seq K 𝓛 Γ (runs (tables 𝓤 H 𝓜 𝓡 env).C Λ E (seq (call key xs d) rest) q)
      calls {K} t {Λ} {E} {q} {Γ} {xs} {d} {rest} e os k = record {
        prf = via 𝓤 (eval_opds 𝓤 H E xs (λ us. C key us (λ u. aim 𝓤 H (lands C Λ E d u rest q))))
            (os.go (λ us. C key us (λ u. aim 𝓤 H (lands C Λ E d u rest q)))
            (via 𝓤 (sep 𝓤 (C key (values F κs a) (Promise.post to)) (sep 𝓤 (⋆ 𝓛 keeps) (⋆ 𝓛 (others Γ))))
            (goes Γ e)
            (framed 𝓛 𝓜 𝓡 env key (values F κs a) (Promise.post to) (λ u. aim 𝓤 H (lands C Λ E d u rest q))
            (sep 𝓤 (⋆ 𝓛 keeps) (⋆ 𝓛 (others Γ))) (λ u. (comes u).prf))))
            (𝓛.laws.⇛_intro _);
      }
        where
          C : Calls 𝓤 H
          C = (tables 𝓤 H 𝓜 𝓡 env).C

          comes : (u : Val) → Seq K 𝓛 (raw (Promise.post to u) ∷ raw (⋆ 𝓛 keeps) ∷ raw (⋆ 𝓛 (others Γ)) ∷ [])
              (lands C Λ E d u rest q)
          comes u = use1 𝓛 (later (given (Learnt u) (raw (⋆ 𝓛 (left F κs a 𝓤 qs ws)))))
              (answered u) $ await t tt $ learn t
              (λ l. subst (λ (w : Val). Seq K 𝓛
              (raw (⋆ 𝓛 (left F κs a 𝓤 qs ws)) ∷ raw (⋆ 𝓛 keeps) ∷ raw (⋆ 𝓛 (others Γ)) ∷ [])
              (lands C Λ E d w rest q)) (sym l.0)
              (use2 𝓛 (raw (⋆ 𝓛 (left F κs a 𝓤 qs ws ++ keeps))) (++⊢ 𝓛 (left F κs a 𝓤 qs ws) keeps) $ use2 𝓛
              (raw (⋆ 𝓛 ((left F κs a 𝓤 qs ws ++ keeps) ++ others Γ)))
              (++⊢ 𝓛 (left F κs a 𝓤 qs ws ++ keeps) (others Γ)) $ by t (k l.1 l.2).prf))
