-- A loop that counts, `while i < n { …; i += 1; }`, and what follows it.
--     Loop         the bound, what is known and what is had at i, and the code that follows
--     goes_on      a turn ends one further;       stops    the loop is left, and the rest runs
--     counts       the loop runs, from 0
-- Assumes `Logic`, as every model has it.
use Prim.Native.Nat.{ℕ, suc, zero-le, ◌-◌, ◌≤◌, ◌<◌}
use native.Mathlib.Omega.{arith}
use mathlib.Core.WellFounded.InvImage
use mathlib.Core.{List.List, WellFounded.{WellFounded}}
use lib.WfN.{lt-wf_rel}
use seplogic.Ra.Ura.{Ura}
use mir.Syntax.{Body, seq, block, loop, exit}
use base.Logic.{SProp}
use prog.{Model.Model, Routine.Env}
use prog.Wp.{Heap, Env as Blocks, Calls, Loops, Out, next, Wp, after_turn, after_block, after_seq}
use types.Logic.{Logic}
use contract.Running.{Running, tables, tables_of}
use types.Kit.{Item, any_q, Post, post, prop, runs, Seq, Sq, Step, step, ◌$◌, ! }
use types.Run.{Below, again, loops, blocks, first}
use Rattle.walks.proofs.Statements.{then_exit}

pub record Loop {M : Type 1} (𝓤 : Ura M) (H : Heap 𝓤) : Type 3 where
  pub bound : ℕ
  pub Fact : ℕ → Type 0
  pub had : ℕ → List (Item 𝓤)
  pub C : Calls 𝓤 H
  pub Λ : Loops 𝓤 H
  pub E : Blocks 𝓤 H
  pub rest : Body
  pub goal : Post 𝓤 H

-- how far the loop is, with what is known there
pub record Upto {M : Type 1} {𝓤 : Ura M} {H : Heap 𝓤} (L : Loop 𝓤 H) : Type 0 where
  pub at : ℕ
  pub within : at ≤ L.bound
  pub known : L.Fact at

nearer : (n i : ℕ) → i < n → n - suc i < n - i
nearer n i less = omega (arith, less)

module _ {M : Type 1} {𝓤 : Ura M} (𝓛 : Logic 𝓤) (L : Loop 𝓤 𝓛.H) where
  open 𝓛 use {H}

  abbrev Nearer : Upto L → Upto L → Type 0
  Nearer j i = L.bound - j.at < L.bound - i.at

  nearer_wf : WellFounded Nearer
  nearer_wf = InvImage.wf (λ (i : Upto L). L.bound - i.at) lt-wf_rel.wf

  -- what a turn ends in
  abbrev pub Turned : Upto L → Out → SProp 𝓤
  Turned j = after_turn 𝓤 H (Below 𝓛 Nearer (λ i. L.had i.at) j)
      (after_block 𝓤 H (after_seq 𝓤 H (Wp 𝓤 H L.C L.Λ L.E L.rest (post 𝓤 H L.goal)) (post 𝓤 H L.goal)))

  -- a turn, from the head of the loop
  abbrev pub Turn : Body → Type 1
  Turn b = (j : Upto L) → Sq 𝓛 (L.had j.at) (runs L.C L.Λ L.E b (any_q (Turned j)))

module _ {M : Type 1} {𝓤 : Ura M} {𝓛 : Logic 𝓤} {K : Type 0} {L : Loop 𝓤 𝓛.H} where
  pub goes_on : K → (j : Upto L) → j.at < L.bound → L.Fact (suc j.at)
      → Seq K 𝓛 (L.had (suc j.at)) (prop (Turned 𝓛 L j next))
  unfolding after_turn
  goes_on t j less f = again t (Nearer 𝓛 L) (λ i. L.had i.at) j
      (record { at = suc j.at; within = less; known = f }) (nearer L.bound j.at less)

  pub stops : K → (j : Upto L) {Γ : List (Item 𝓤)} {b : Body}
      → Step K 𝓛 Γ (runs L.C L.Λ L.E L.rest L.goal) Γ
      (runs L.C L.Λ L.E (seq (exit 1) b) (any_q (Turned 𝓛 L j)))
  unfolding after_turn
  stops t j = step (λ s. then_exit t $ record { prf = s.prf })

module _ {M : Type 1} {𝓤 : Ura M} (𝓛 : Logic 𝓤) (𝓜 : Model 𝓤 𝓛.H) (𝓡 : Running 𝓤 𝓛.H 𝓜)
    (env : Env) where
  -- a loop in the code of that environment
  open 𝓛 use {H}

  abbrev pub in_code : ℕ → (ℕ → Type 0) → (ℕ → List (Item 𝓤)) → Blocks 𝓤 H → Body → Post 𝓤 H → Loop 𝓤 H
  in_code n Fact had E rest goal = record {
    bound = n;
    Fact = Fact;
    had = had;
    C = (tables 𝓤 H 𝓜 𝓡 env).C;
    Λ = (tables 𝓤 H 𝓜 𝓡 env).Λ;
    E = E;
    rest = rest;
    goal = goal;
  }

  pub counts : (n : ℕ) (Fact : ℕ → Type 0)
      (had : ℕ → List (Item 𝓤)) {E : Blocks 𝓤 H} {b rest : Body} {goal : Post 𝓤 H}
      → Turn 𝓛 (in_code n Fact had E rest goal) b → Fact 0
      → Sq 𝓛 (had 0) (runs (tables 𝓤 H 𝓜 𝓡 env).C (tables 𝓤 H 𝓜 𝓡 env).Λ E
      (seq (block (loop b)) rest) goal)
  unfolding tables_of
  counts n Fact had {E} {b} {rest} {goal} turn f =
      let L : Loop 𝓤 H = in_code n Fact had E rest goal in
      first ! $ blocks ! $ loops ! (tables_of 𝓤 H 𝓜 (tables 𝓤 H 𝓜 𝓡 env)) (Nearer 𝓛 L) (nearer_wf 𝓛 L)
      (λ i. had i.at) turn (record { at = 0; within = zero-le; known = f })
