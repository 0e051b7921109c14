-- Tasks that take their turns one task after the other, each call accepted: what each leaves, and what all together
-- leave.
use mathlib.Core.{Path.{◌≡◌, refl, ap, ◌∙◌}, Bool.not, List.{List, [], ◌∷◌, ◌++◌}}
use Prim.Native.Nat.{ℕ, zero, suc, ◌≤◌, ◌<◌}
use native.Mathlib.{Nat.{le_refl, not-suc-le-zero}, Decide.dec_lt, Omega.arith}
use lib.Dec.{T}
use borrow.Author.Tests.{lt-leb}
use Rattle.machine.specs.{Records.{is_idle, is_seeking}, Places.block}
use Rattle.demands.specs.{Memory.{Memory, state_of, out_of}, Answers.is_accepted}
use Rattle.demands.specs.Calls.{Outcome, next_state, accept, call, event_of}
use Rattle.machine.specs.declared.{Settings.Settings, Point.Point, State.{State, TheVariants.{Idle, Seeking}}}
use Rattle.machine.specs.declared.{Kind.{Kind, TheVariants.{Ask, Turn}}, Event.Event}
use Rattle.machine.specs.promises.Ranges.{WithinLimits}
use Rattle.demands.proofs.histories.{Worst.each, Leads.{Leads, leads_nowhere, leads_more, leads_append}}
use Rattle.demands.proofs.{calls.After.{caller_after, others_after}, bridge.Histories.{InOrder, in_order_kept}}
use Rattle.demands.proofs.{calls.Outcomes.may_accepted, refusals.Passed.May}

module _ (s : Settings) (fair : WithinLimits s) where
  -- an accepted call of task p, whose record says `state`
  pub record Took (kind : Kind) (p : ℕ) (state : State) (m : Memory) : Type 0 where
    pub does : call s (event_of kind p) m ≡ accept s kind p state m
    pub says : T (is_accepted (accept s kind p state m).answer)
    pub fine : InOrder s fair (accept s kind p state m).memory
    pub its : state_of (accept s kind p state m).memory p ≡ next_state s kind p state m
    pub others : (q : ℕ) → (q ≡ p → ⊥) → state_of (accept s kind p state m).memory q ≡ state_of m q

  -- the calls of task p leave it at `state`, the other tasks where they were, and a memory so that `Keeps`
  pub record Lap (Keeps : Memory → Type 0) (p : ℕ) (state : State) (events : List Event) (m : Memory) : Type 0 where
    pub last : Memory
    pub leads : Leads s events m last
    pub fine : InOrder s fair last
    pub keeps : Keeps last
    pub its : state_of last p ≡ state
    pub others : (q : ℕ) → (q ≡ p → ⊥) → state_of last q ≡ state_of m q

  -- the same of the tasks 0 .. n - 1
  pub record Laps (Keeps : Memory → Type 0) (n : ℕ) (state : State) (events : List Event) (m : Memory) : Type 0 where
    pub last : Memory
    pub leads : Leads s events m last
    pub fine : InOrder s fair last
    pub keeps : Keeps last
    pub theirs : (q : ℕ) → q < n → state_of last q ≡ state
    pub others : (q : ℕ) → n ≤ q → state_of last q ≡ state_of m q

module _ {s : Settings} {fair : WithinLimits s} where
  -- ---- one call

  took : (kind : Kind) (p : ℕ) (state : State) (m : Memory) → InOrder s fair m → state_of m p ≡ state
      → May s (event_of kind p) m
      → Took s fair kind p state m
  took kind p state m f e o =
      let does : call s (event_of kind p) m ≡ accept s kind p state m =
      may_accepted s fair (event_of kind p) m f.invariants.fit o ∙ ap (λ (z : State). accept s kind p z m) e in
      record {
        does = does;
        says = tt;
        fine = rw (ap (λ (o : Outcome). o.memory) does) at (in_order_kept s fair (event_of kind p) m f);
        its = caller_after s m f.invariants.fit p o.known kind state;
        others = others_after s m p kind state;
      }

  pub turn_took : (p r c : ℕ) (point : Point) (m : Memory) → InOrder s fair m → p < s.n
      → state_of m p ≡ Seeking (block r c point)
      → Took s fair Turn p (Seeking (block r c point)) m
  turn_took p r c point m f l e =
      took Turn p (Seeking (block r c point)) m f e
      (record { known = l; lived = refl; moment = ap (λ (z : State). not (is_seeking z)) e; room = refl })

  pub ask_took : (p : ℕ) (m : Memory) → InOrder s fair m → p < s.n → out_of s m.records < s.k → state_of m p ≡ Idle
      → Took s fair Ask p Idle m
  ask_took p m f l few e =
      took Ask p Idle m f e
      (record {
        known = l;
        lived = refl;
        moment = ap (λ (z : State). not (is_idle z)) e;
        room = lt-leb s.k (out_of s m.records) few;
      })

  -- ---- one task, and then the next

  pub lap_over : {Keeps : Memory → Type 0} {p : ℕ} {state : State} (m : Memory) → InOrder s fair m → Keeps m
      → state_of m p ≡ state
      → Lap s fair Keeps p state [] m
  lap_over m f k e = record { last = m; leads = leads_nowhere; fine = f; keeps = k; its = e; others = λ q d. refl }

  pub lap_more : {Keeps : Memory → Type 0} {kind : Kind} {p : ℕ} {state to : State} {events : List Event} {m : Memory}
      → Took s fair kind p state m
      → Lap s fair Keeps p to events (accept s kind p state m).memory
      → Lap s fair Keeps p to (event_of kind p ∷ events) m
  lap_more {kind = kind} {p = p} {state = state} {m = m} t lap = record {
    last = lap.last;
    leads = leads_more (accept s kind p state m) t.does t.says lap.leads;
    fine = lap.fine;
    keeps = lap.keeps;
    its = lap.its;
    others = λ q d. lap.others q d ∙ t.others q d;
  }

  pub lap_append : {Keeps Then : Memory → Type 0} {p : ℕ} {state to : State} {events more : List Event} {m : Memory}
      (lap : Lap s fair Keeps p state events m)
      → Lap s fair Then p to more lap.last
      → Lap s fair Then p to (events ++ more) m
  lap_append lap next = record {
    last = next.last;
    leads = leads_append lap.leads next.leads;
    fine = next.fine;
    keeps = next.keeps;
    its = next.its;
    others = λ q d. next.others q d ∙ lap.others q d;
  }

  -- what matters less is let go
  pub lap_keeps : {Keeps Less : Memory → Type 0} {p : ℕ} {state : State} {events : List Event} {m : Memory}
      → ((after : Memory) → Keeps after → Less after)
      → Lap s fair Keeps p state events m
      → Lap s fair Less p state events m
  lap_keeps less lap = record {
    last = lap.last;
    leads = lap.leads;
    fine = lap.fine;
    keeps = less lap.last lap.keeps;
    its = lap.its;
    others = lap.others;
  }

  -- each of the tasks n - 1 .. 0 in turn
  pub laps : (Keeps : ℕ → Memory → Type 0) (from to : State) (does : ℕ → List Event) (n : ℕ)
      → ((p : ℕ) (m : Memory) → p < n → InOrder s fair m → Keeps (suc p) m → state_of m p ≡ from
      → Lap s fair (Keeps p) p to (does p) m)
      → (m : Memory) → InOrder s fair m → Keeps n m → ((q : ℕ) → q < n → state_of m q ≡ from)
      → Laps s fair (Keeps 0) n to (each does n) m
  laps Keeps from to does zero lap m f k all =
      record {
        last = m;
        leads = leads_nowhere;
        fine = f;
        keeps = k;
        theirs = λ q l. absurd (not-suc-le-zero l);
        others = λ q l. refl;
      }
  laps Keeps from to does (suc n) lap m f k all =
      let one = lap n m (le_refl (suc n)) f k (all n (le_refl (suc n))) in
      let rest = laps Keeps from to does n (λ p m₁ l. lap p m₁ (omega arith)) one.last one.fine one.keeps
      (λ q l. one.others q (λ d. omega arith) ∙ all q (omega arith)) in
      record {
        last = rest.last;
        leads = leads_append one.leads rest.leads;
        fine = rest.fine;
        keeps = rest.keeps;
        theirs = λ q l. go rest.last q l (dec_lt q n) (rest.theirs q) (rest.others n (le_refl n) ∙ one.its);
        others = λ q l. rest.others q (omega arith) ∙ one.others q (λ d. omega arith);
      }
    where
      go : (m : Memory) (q : ℕ) → q < suc n → Dec (q < n) → (q < n → state_of m q ≡ to) → state_of m n ≡ to
          → state_of m q ≡ to
      go m q l (yes h) before last = before h
      go m q l (no h) before last = let e : q ≡ n = omega arith in rw e last
