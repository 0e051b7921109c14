-- 02, P8: the bound of light load is reached, for every permitted settings and every 1 ≤ m < k, by the worst schedule
-- with m tasks. No more tasks are out than have asked, and only m ask.
use mathlib.Core.{Path.{◌≡◌, refl, sym, ap, subst, ◌∙◌}, List.{List, [], ◌∷◌, ◌++◌, append_assoc}}
use Prim.Native.Nat.{ℕ, zero, suc, ◌+◌, ◌-◌, ◌*◌, ◌≤◌, ◌<◌}
use native.Mathlib.{Nat.le_antisymm, Omega.arith}
use lib.Dec.{T}
use Rattle.machine.specs.{Settings.width, Records.is_out}
use Rattle.demands.specs.{Memory.{Memory, state_of, out_of}, Calls.{call, setup, ask, turn}, History.{run, turns}}
use Rattle.machine.specs.promises.Ranges.{WithinLimits}
use Rattle.demands.specs.promises.{Refusing.tasks_out, Demands.{SetUp, memory_after, HoldsSome}}
use Rattle.demands.specs.promises.Light.{NeverMoreOut, LightBoundExact}
use Rattle.machine.specs.declared.{Settings.Settings, Event.Event}
use Rattle.demands.proofs.{calls.Fresh.{setup_within, fresh_none_out}, refusals.Lines.tasks_out_lem}
use Rattle.demands.proofs.bridge.Histories.{asked, call_out, InOrder, in_order_kept, fresh_in_order}
use Rattle.demands.proofs.histories.Worst.{each, worst_row, worst_rows, asks, descent, worst_light}
use Rattle.demands.proofs.histories.{Leads.used_written, WorstTurns.{worst_light_turns, worst_light_end}}
use Rattle.demands.proofs.histories.{WorstRun.{asks_run, worst_light_run}, Exact.seeks_before_last}
use Rattle.machine.proofs.bridge.Arriving.{arrive_block}
use Rattle.counting.proofs.Counting.{count_first}

-- ---- the asks written in a list of calls

abbrev asks_in : List Event → ℕ
asks_in [] = 0
asks_in (event ∷ events) = asked event.kind + asks_in events

asks_append : (events more : List Event) → asks_in (events ++ more) ≡ asks_in events + asks_in more
asks_append [] more = omega arith
asks_append (event ∷ events) more = let rest = asks_append events more in omega arith

turns_ask_none : (count p : ℕ) → asks_in (turns count p) ≡ 0
turns_ask_none zero p = refl
turns_ask_none (suc count) p = let rest = turns_ask_none count p in omega arith

asks_of_each : (does : ℕ → List Event) (many n : ℕ) → ((p : ℕ) → asks_in (does p) ≡ many)
    → asks_in (each does n) ≡ n * many
asks_of_each does many zero h = omega arith
asks_of_each does many (suc n) h =
    let rest = asks_of_each does many n h in
    asks_append (does n) (each does n) ∙ omega (arith, h n)

turns_of_each_ask_none : (count n : ℕ) → asks_in (each (turns count) n) ≡ 0
turns_of_each_ask_none count n = asks_of_each (turns count) 0 n (turns_ask_none count) ∙ omega arith

module _ (s : Settings) where
  row_asks_none : (n : ℕ) → asks_in (worst_row s n) ≡ 0
  row_asks_none n =
      let scans = turns_of_each_ask_none (suc (width s)) n in
      let reads = turns_of_each_ask_none (s.mode + 2) n in
      asks_append (each (turns (suc (width s))) n) (turn n ∷ each (turns (s.mode + 2)) n) ∙ omega arith

  rows_ask_none : (n : ℕ) → asks_in (worst_rows s n) ≡ 0
  rows_ask_none zero = refl
  rows_ask_none (suc n) =
      let row = row_asks_none (suc n) in
      let rest = rows_ask_none n in
      asks_append (worst_row s (suc n)) (worst_rows s n) ∙ omega arith

  worst_light_asks : (m : ℕ) → asks_in (worst_light s m) ≡ m
  worst_light_asks m =
      let first = turns (suc (width s)) 0 in
      let begins = asks_of_each (λ p. ask p ∷ []) 1 m (λ p. refl) in
      let rows = rows_ask_none (m - 1) in
      let scans = turns_ask_none (suc (width s)) 0 in
      let down = asks_append (asks m) (worst_rows s (m - 1)) in
      let alone = asks_append first (turns 2 0) in
      asks_append (descent s m) (first ++ turns 2 0) ∙ omega arith

-- ---- no more are out than have asked

out_asked : (s : Settings) (fair : WithinLimits s) (events : List Event) (memory : Memory) → InOrder s fair memory
    → out_of s (run s events memory).records ≤ out_of s memory.records + asks_in events
out_asked s fair [] memory f = omega arith
out_asked s fair (event ∷ events) memory f =
    let one = call_out s fair event memory f.invariants.fit in
    let rest = out_asked s fair events (call s event memory).memory (in_order_kept s fair event memory f) in
    omega arith

never_more_asked : (s : Settings) (lent : Memory) (events : List Event) → SetUp s lent
    → NeverMoreOut s lent events (asks_in events)
never_more_asked s lent events ok before after e =
    let out = out_asked s (setup_within s lent ok) before (setup s lent).memory (fresh_in_order s lent ok) in
    let none = fresh_none_out s lent ok in
    let whole : asks_in events ≡ asks_in before + asks_in after = ap asks_in e ∙ asks_append before after in
    rw (sym (tasks_out_lem s (memory_after s lent before))) (omega arith)

-- ---- the schedule

module _ (s : Settings) (lent : Memory) (ok : SetUp s lent) (m : ℕ) (some : 1 ≤ m) (light : m < s.k) where
  never_more : NeverMoreOut s lent (worst_light s m) m
  never_more = subst (NeverMoreOut s lent (worst_light s m)) (worst_light_asks s m)
      (never_more_asked s lent (worst_light s m) ok)

  after_asks : worst_light s m ≡ asks m ++ (worst_rows s (m - 1) ++ (turns (suc (width s)) 0 ++ turns 2 0))
  after_asks = append_assoc (asks m) (worst_rows s (m - 1)) (turns (suc (width s)) 0 ++ turns 2 0)

  -- with k of 2 or more, whoever has asked seeks at the corner
  asked_out : (q : ℕ) → q < m → T (is_out (state_of (memory_after s lent (asks m)) q))
  asked_out q l =
      let run = asks_run s lent ok m some (omega arith) in
      rw (run.leads.ends, run.theirs q l ∙ sym (arrive_block s 0 0 (λ e. omega arith))) tt

  all_out : tasks_out s (memory_after s lent (asks m)) ≡ m
  all_out =
      let memory = memory_after s lent (asks m) in
      let within = setup_within s lent ok in
      let least = count_first (λ q. is_out (state_of memory q)) m s.n (omega (arith, within.k_within)) asked_out in
      le_antisymm (never_more (asks m) (worst_rows s (m - 1) ++ (turns (suc (width s)) 0 ++ turns 2 0)) after_asks)
      (rw (sym (tasks_out_lem s memory)) least)

pub light_bound_exact : LightBoundExact
light_bound_exact s within m some light = (
  worst_light s m,
  λ lent ok.
      let held = worst_light_run s lent ok m some light in
      let end = worst_light_end s m in
      record {
        accepted = held.leads.accepted;
        never_more = never_more s lent ok m some light;
        early = asks m;
        later = worst_rows s (m - 1) ++ (turns (suc (width s)) 0 ++ turns 2 0);
        parts = after_asks s lent ok m some light;
        all_out = all_out s lent ok m some light;
        before = end.before;
        split = end.split;
        late = seeks_before_last s lent ok (worst_light s m) (turn 0) end held.leads.accepted refl;
        holds = subst (λ (memory : Memory). HoldsSome memory 0) (sym held.leads.ends) held.holds;
        exactly = used_written s 0 (worst_light s m) (setup s lent).memory 0 held.leads.accepted
            ∙ worst_light_turns s within m some;
      },
)
