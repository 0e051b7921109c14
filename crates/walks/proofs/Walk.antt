-- A walked function as a whole: its way in, its way out, and from the walk of its body to what is stated of it. A
-- `Function` says how each parameter is passed, the result's plain data and the contract. A `Body` is what is left to
-- walk, at each choice of arguments: `meets` takes it to the function's contract, and `exits` is how a walk ends, at a
-- result that the contract allows. Assumes `Logic`, as every model has it.
use mathlib.Core.List.{List, [], ◌∷◌, ◌++◌}
use seplogic.Ra.Ura.{Ura}
use mir.{Syntax.Fn, Val.Val}
use base.Logic.{SProp, ent, sep, emp, via, mono∗, fst∗}
use prog.{Memory.Memory, Model.Model, Routine.{Callee, Routine, Env}, Wp.{Closed, WpFn}}
use types.Logic.{Logic}
use sound.WpLaws.{WpFn-mono}
use contract.{Lifetimes.{Lfts, Shares, AllOutlive}, Monad.Fun, Running.{Running, tables, tables_of}}
use types.Kit.{Item, ‵, raw, ⋆, ++⊢, ⊢++, runs, at_ret, Sq, ◌$◌, ◌∵◌, !, qed, move, join, suffices, use0, use1}
use types.Kit.{done}
use denote.{RattleType.{mirs, flat}, Laws.{Typed, Ises, Are, valss, all_Typed}, Signature.{type_at, types_at}}
use denote.Triple.{Clauses.{Ended, Clauses, Lasts, at_exit, closing}, Entry.{Args, Res, Vals, alive, on_entry}}
use denote.Triple.{Spec.{Meets, triple_of}, Table.entered}
use denote.Triple.Walked.{Stays, walk_of, walked, walk_Meets, has_of, Fit, ends_at}
use Rattle.walks.proofs.{Data.{Data, Real}, Locals.{begun, dying, EachBlock, Takes, enters}}
use Rattle.walks.proofs.Params.{Params, stays, spells, all_tell, all_lawful, all_go, all_enter, all_leave}
use Rattle.walks.proofs.Params.{handed, told, tokens, tokens_out, tokens_in}

pub record Function (T : Ended) : Type 3 where
  pub params : Params T.signature.params T.kept
  pub result : (κs : Lfts T.signature.lifetimes) → Data (type_at T.signature.result κs)
  pub clauses : {M : Type 1} {𝓤 : Ura M} (𝓛 : Logic 𝓤) → (Memory → SProp 𝓤) → (Routine → Fun 𝓤) → Clauses 𝓤 T

module _ {T : Ended} (F : Function T) where
  abbrev pub staying : Stays T.signature.params T.kept
  staying = stays T.signature.params T.kept F.params

  -- the contract, in a model
  abbrev pub clauses_in : {M : Type 1} {𝓤 : Ura M} (𝓛 : Logic 𝓤) (𝓜 : Model 𝓤 𝓛.H) → Running 𝓤 𝓛.H 𝓜
      → Clauses 𝓤 T
  clauses_in 𝓛 𝓜 𝓡 = F.clauses 𝓛 𝓜.mem 𝓡.returns

  module _ (κs : Lfts T.signature.lifetimes) (a : Args T.signature κs) where
    -- the arguments' machine values, one list for each, and all in a row
    abbrev pub valuess : Vals T.signature κs
    valuess = valss (types_at T.signature.params κs) (spells κs T.signature.params T.kept F.params) a

    abbrev pub values : List Val
    values = flat (types_at T.signature.params κs) valuess

    -- each argument stands for some value
    abbrev pub AllReal : Type 0
    AllReal = Are (types_at T.signature.params κs) (Ises (types_at T.signature.params κs)) a valuess

    module _ {M : Type 1} (𝓤 : Ura M) (qs : Shares T.signature.lifetimes) where
      -- what a walk begins with, and what it ends with
      abbrev pub brought : List (Item 𝓤)
      brought = tokens 𝓤 T.signature.lifetimes κs qs ++ handed κs 𝓤 T.signature.params T.kept F.params a

      abbrev pub left : Lasts T κs a → List (Item 𝓤)
      left ws = tokens 𝓤 T.signature.lifetimes κs qs ++ told κs 𝓤 T.signature.params T.kept F.params a ws

module _ {T : Ended} (F : Function T) {M : Type 1} {𝓤 : Ura M} (𝓛 : Logic 𝓤) (𝓜 : Model 𝓤 𝓛.H)
    (𝓡 : Running 𝓤 𝓛.H 𝓜) where
  open 𝓛 use {H}

  module _ (κs : Lfts T.signature.lifetimes) (qs : Shares T.signature.lifetimes)
      (bounds : AllOutlive T.signature.lifetimes T.signature.outlives κs) (a : Args T.signature κs)
      (g : (clauses_in F 𝓛 𝓜 𝓡 κs a).ghost) where
    abbrev pub Post : Val → SProp 𝓤
    Post = (walk_of 𝓛 T (staying F) (clauses_in F 𝓛 𝓜 𝓡)).post ((κs, qs, bounds, a, valuess F κs a), g)

    abbrev pub Body : Env → Fn → Type 1
    Body env f = EachBlock f.locals (λ E. Sq 𝓛
        (brought F κs a 𝓤 qs ++ (begun 𝓤 E (values F κs a) ++ (‵ (dying E) ∷ [])))
        (runs (tables 𝓤 H 𝓜 𝓡 env).C (tables 𝓤 H 𝓜 𝓡 env).Λ E f.body (at_ret E Post)))

    begins : (env : Env) (f : Fn) → Takes f.locals (values F κs a) → Body env f
        → ent 𝓤 (sep 𝓤 (on_entry 𝓛 T.signature κs qs a (valuess F κs a))
        ((clauses_in F 𝓛 𝓜 𝓡 κs a).requires g))
        (WpFn 𝓤 H (tables 𝓤 H 𝓜 𝓡 env).C (tables 𝓤 H 𝓜 𝓡 env).Λ f (values F κs a) Post)
    begins env f fits body =
        via 𝓤 (⋆ 𝓛 (brought F κs a 𝓤 qs))
        (via 𝓤 (on_entry 𝓛 T.signature κs qs a (valuess F κs a))
        (fst∗ 𝓤 (on_entry 𝓛 T.signature κs qs a (valuess F κs a))
        ((clauses_in F 𝓛 𝓜 𝓡 κs a).requires g))
        (via 𝓤 (sep 𝓤 (⋆ 𝓛 (tokens 𝓤 T.signature.lifetimes κs qs))
        (⋆ 𝓛 (handed κs 𝓤 T.signature.params T.kept F.params a)))
        (mono∗ 𝓤 (tokens_out 𝓛 T.signature.lifetimes κs qs)
        (all_enter 𝓛 κs T.signature.params T.kept F.params a))
        (++⊢ 𝓛 (tokens 𝓤 T.signature.lifetimes κs qs)
        (handed κs 𝓤 T.signature.params T.kept F.params a))))
        (qed 𝓛 (brought F κs a 𝓤 qs) ∵ enters ! (tables 𝓤 H 𝓜 𝓡 env).C (tables 𝓤 H 𝓜 𝓡 env).Λ f
        (values F κs a) fits Post (brought F κs a 𝓤 qs) body)

    pub exits : (r : Res T.signature κs) (ws : Lasts T κs a) → Real (F.result κs) r → Fit T (staying F) κs a ws
        → ent 𝓤 (emp 𝓤) ((clauses_in F 𝓛 𝓜 𝓡 κs a).ensures g r (at_exit T κs a ws))
        → ent 𝓤 (⋆ 𝓛 (left F κs a 𝓤 qs ws)) (Post ((F.result κs).val r))
    exits r ws real fit said =
        via 𝓤 (sep 𝓤 (⋆ 𝓛 (tokens 𝓤 T.signature.lifetimes κs qs))
        (⋆ 𝓛 (told κs 𝓤 T.signature.params T.kept F.params a ws)))
        (⊢++ 𝓛 (tokens 𝓤 T.signature.lifetimes κs qs)
        (told κs 𝓤 T.signature.params T.kept F.params a ws))
        (qed 𝓛 (raw (⋆ 𝓛 (tokens 𝓤 T.signature.lifetimes κs qs)) ∷ raw
        (⋆ 𝓛 (told κs 𝓤 T.signature.params T.kept F.params a ws)) ∷ []) ∵
        suffices ! _ (ends_at 𝓛 T (staying F) (clauses_in F 𝓛 𝓜 𝓡) ((κs, qs, bounds, a, valuess F κs a), g)
        ((F.result κs).val r) r ws fit) $
        use1 𝓛 (raw (alive 𝓛 T.signature κs qs)) (tokens_in 𝓛 T.signature.lifetimes κs qs) $ move !
        (1 ∷ []) $
        use1 𝓛 (‵ (has_of κs T.signature.params T.kept (staying F) a ws (valuess F κs a)))
        (all_leave 𝓛 κs T.signature.params T.kept F.params a ws) $
        use0 𝓛 (‵ ((type_at T.signature.result κs).own_val r ((F.result κs).val r ∷ [])))
        ((F.result κs).makes 𝓛 r ((F.result κs).val r ∷ []) real) $ move ! (1 ∷ 0 ∷ []) $ join ! $ move !
        (1 ∷ 0 ∷ []) $ join ! $
        use0 𝓛 (raw ((clauses_in F 𝓛 𝓜 𝓡 κs a).ensures g r (at_exit T κs a ws))) said $ move ! (1 ∷ 0 ∷ []) $ done !)

  pub meets : (env : Env) (key : Callee) (f : Fn) → Closed 𝓤 H (tables 𝓤 H 𝓜 𝓡 env).C (tables 𝓤 H 𝓜 𝓡 env).Λ key f
      → ((κs : Lfts T.signature.lifetimes) (a : Args T.signature κs)
      → Typed (mirs (types_at T.signature.params κs)) (values F κs a) → Takes f.locals (values F κs a))
      → ((κs : Lfts T.signature.lifetimes) (qs : Shares T.signature.lifetimes)
      (bounds : AllOutlive T.signature.lifetimes T.signature.outlives κs) (a : Args T.signature κs)
      (g : (clauses_in F 𝓛 𝓜 𝓡 κs a).ghost) → AllReal F κs a → Body κs qs bounds a g env f)
      → Meets 𝓛 T.signature (𝓡.run (env key)) (closing 𝓛 T (clauses_in F 𝓛 𝓜 𝓡))
  unfolding tables_of
  meets env key f closed fits body =
      let c : Clauses 𝓤 T = clauses_in F 𝓛 𝓜 𝓡 in
      let run : Fun 𝓤 = WpFn 𝓤 H (tables 𝓤 H 𝓜 𝓡 env).C (tables 𝓤 H 𝓜 𝓡 env).Λ f in
      entered 𝓤 H (triple_of 𝓛 T.signature (closing 𝓛 T c)) (tables 𝓤 H 𝓜 𝓡 env).C
      (tables 𝓤 H 𝓜 𝓡 env).Λ key f closed
      (walk_Meets 𝓛 T (staying F) (all_go 𝓛 T.signature.params T.kept F.params) c run
      (WpFn-mono 𝓤 H 𝓛.laws (tables_of 𝓤 H 𝓜 (tables 𝓤 H 𝓜 𝓡 env)) f)
      (walked 𝓛 T (staying F) c run (λ κs. spells κs T.signature.params T.kept F.params)
      (λ κs. all_tell κs T.signature.params T.kept F.params)
      (λ κs qs bounds a g are. begins κs qs bounds a g env f
      (fits κs a (all_Typed 𝓛 (types_at T.signature.params κs)
      (all_lawful 𝓛 κs T.signature.params T.kept F.params) a (valuess F κs a) are))
      (body κs qs bounds a g are))))
