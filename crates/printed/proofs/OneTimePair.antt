-- 01's edge "Mode 0, k = 2: first task name 0 in 4 turns, a later one name 1 in 2", followed call by call for every N
-- and every two tasks.
use mathlib.Core.{Path.{◌≡◌, refl, sym, ap, subst, ◌∙◌}, Bool.{Bool, true, false, cond}}
use mathlib.Core.List.{List, [], ◌∷◌, ◌++◌}
use Prim.Native.Nat.{ℕ, suc, ◌+◌, ◌≤◌, ◌<◌}
use Rattle.std.specs.Prelude.{Result}
use native.Mathlib.Omega.{arith}
use lib.{Dec.{T, eqb}, ListN.{get_or, set}}
use Rattle.machine.specs.{Settings.{width, own}, Places.{block_number, name_number}, Records.is_out}
use Rattle.demands.specs.Memory.{Memory, mark_index, state_of, out_of}
use Rattle.demands.specs.{Calls.{Outcome, event_of, told_of, next_state, accept, setup}, History.history}
use Rattle.demands.specs.promises.Demands.{SetUp}
use Rattle.demands.specs.Answers.{told_in}
use Rattle.machine.specs.promises.Ranges.{WithinLimits}
use Rattle.demands.proofs.calls.Fresh.{setup_within, fresh_idle, fresh_none_out}
use Rattle.demands.proofs.calls.Telling.{accepted}
use Rattle.demands.proofs.bridge.AsGrid.{x_on_block, mark_on_block, x_put, mark_put}
use Rattle.demands.proofs.bridge.Histories.{fresh_in_order, fresh_unmarked}
use Rattle.demands.proofs.histories.Laps.{Took, turn_took, ask_took}
use Rattle.machine.specs.declared.{Settings.Settings, Direction.TheVariants.Right}
use Rattle.machine.specs.declared.Point.TheVariants.{WriteX, Scan, WriteMark, ReadX}
use Rattle.machine.specs.Places.{block, cell}
use Rattle.machine.specs.declared.State.{State, TheVariants.{Idle, Seeking, Holding}}
use Rattle.machine.specs.declared.{Kind.{Kind, TheVariants.{Ask, Turn}}, Event.Event, Told.Told}
use Rattle.machine.specs.declared.Refusal.{Refusal}
use Rattle.machine.proofs.bridge.Turning.{scan_marked, scan_done, reads_own}
use Rattle.machine.proofs.bridge.Arriving.{arrive_edge, arrive_block, leave_at_once}
use Rattle.grid.specs.Triangle.{half, place_number, diagonal_number}
use Rattle.printed.specs.Edges.{told_each, acquires, served_at, OneTimePair}
use Rattle.counting.proofs.Counting.{count_but_one}

-- what the calls are told, from m on
record Heard (s : Settings) (events : List Event) (m : Memory) (told : List (Result Told Refusal)) : Type 0 where
  are : told_each (history s events m) ≡ told

heard_nothing : {s : Settings} {m : Memory} → Heard s [] m []
heard_nothing = record { are = refl }

-- an accepted call that leaves its task at `to`, and the calls after it
heard : {s : Settings} {fair : WithinLimits s} {kind : Kind} {p : ℕ} {state : State} {m : Memory}
    {events : List Event} {rest : List (Result Told Refusal)}
    (to : State) → Took s fair kind p state m → next_state s kind p state m ≡ to
    → Heard s events (accept s kind p state m).memory rest
    → Heard s (event_of kind p ∷ events) m (accepted (told_of s kind state to) ∷ rest)
heard {s = s} {kind = kind} {p = p} {state = state} {m = m} {events = events} {rest = rest} to took e more = record {
  are = ap (λ (o : Outcome). told_in o.answer ∷ told_each (history s events o.memory)) took.does
      ∙ ap (λ (l : List (Result Told Refusal)). told_in (accept s kind p state m).answer ∷ l) more.are
      ∙ ap (λ (z : State). accepted (told_of s kind state z) ∷ rest) e;
}

-- with k = 2 the names at (0, 0) and (0, 1) are 0 and 1
two_names : (s : Settings) → s.k ≡ 2 → (name_number s 0 0 ≡ 0) × (name_number s 0 1 ≡ 1)
unfolding half place_number diagonal_number
two_names s two = go (eqb s.version 1)
  where
    go : (one : Bool)
        → (cond one (place_number s.k 0 0) (diagonal_number 0 0) ≡ 0)
        × (cond one (place_number s.k 0 1) (diagonal_number 0 1) ≡ 1)
    go true = rw two (refl, refl)
    go false = (refl, refl)

module _ (s : Settings) (lent : Memory) (ok : SetUp s lent) (one_time : s.mode ≡ 0) (two : s.k ≡ 2) (p q : ℕ)
    (lp : p < s.n) (lq : q < s.n)
    (d : q ≡ p → ⊥) where
  abbrev fair : WithinLimits s
  fair = setup_within s lent ok

  abbrev start : State
  start = Seeking (block 0 0 WriteX)

  -- the memory after each call
  abbrev m₀ : Memory
  m₀ = (setup s lent).memory

  abbrev m₁ : Memory
  m₁ = (accept s Ask p Idle m₀).memory

  abbrev m₂ : Memory
  m₂ = (accept s Turn p start m₁).memory

  abbrev m₃ : Memory
  m₃ = (accept s Turn p (Seeking (block 0 0 (Scan 0))) m₂).memory

  abbrev m₄ : Memory
  m₄ = (accept s Turn p (Seeking (block 0 0 WriteMark)) m₃).memory

  abbrev m₅ : Memory
  m₅ = (accept s Turn p (Seeking (block 0 0 ReadX)) m₄).memory

  abbrev m₆ : Memory
  m₆ = (accept s Ask q Idle m₅).memory

  abbrev m₇ : Memory
  m₇ = (accept s Turn q start m₆).memory

  -- both asks come to the one block
  at_start : next_state s Ask p Idle m₀ ≡ start
  at_start = sym (arrive_block s 0 0 (λ z. omega arith))

  one_wide : width s ≡ 1
  one_wide = rw one_time

  own_first : own s p ≡ 0
  own_first = rw one_time

  asks : Took s fair Ask p Idle m₀
  asks = ask_took p m₀ (fresh_in_order s lent ok) lp (omega (arith, fresh_none_out s lent ok))
      (fresh_idle s lent ok p lp)

  writes : Took s fair Turn p start m₁
  writes = turn_took p 0 0 WriteX m₁ asks.fine lp (asks.its ∙ at_start)

  scans : Took s fair Turn p (Seeking (block 0 0 (Scan 0))) m₂
  scans = turn_took p 0 0 (Scan 0) m₂ writes.fine lp writes.its

  -- setup left the mark 0
  unmarked : next_state s Turn p (Seeking (block 0 0 (Scan 0))) m₂ ≡ Seeking (block 0 0 WriteMark)
  unmarked =
      let v = get_or m₂.marks (mark_index s (block_number s 0 0) 0) 0 in
      let e : v ≡ 0 = sym (mark_on_block s m₀.marks 0 0 0 (omega arith) (omega (arith, one_wide)))
      ∙ fresh_unmarked s lent ok 0 0 0 in
      sym (scan_done s p 0 0 0 v (λ z. omega arith) (omega (arith, one_wide)))

  marks : Took s fair Turn p (Seeking (block 0 0 WriteMark)) m₃
  marks = turn_took p 0 0 WriteMark m₃ scans.fine lp (scans.its ∙ unmarked)

  reads : Took s fair Turn p (Seeking (block 0 0 ReadX)) m₄
  reads = turn_took p 0 0 ReadX m₄ marks.fine lp marks.its

  -- X is still what the task wrote
  own_x : next_state s Turn p (Seeking (block 0 0 ReadX)) m₄ ≡ Holding (cell 0 0)
  own_x =
      let put = x_put s fair m₁ m₂ 0 0 (p + 1) (omega arith) asks.fine.invariants.fit.long.xs refl in
      sym (reads_own s p 0 0 (get_or m₄.xs (block_number s 0 0) 0)
      (sym (x_on_block s m₂.xs 0 0 (omega arith)) ∙ put.here))

  -- the calls of p moved p alone, so that one task at the most is out
  others : (r : ℕ) → (r ≡ p → ⊥) → state_of m₅ r ≡ state_of m₀ r
  others r n = reads.others r n ∙ marks.others r n ∙ scans.others r n ∙ writes.others r n ∙ asks.others r n

  one_out : out_of s m₅.records ≤ suc (out_of s m₀.records)
  one_out =
      count_but_one (λ r. is_out (state_of m₅ r)) (λ r. is_out (state_of m₀ r)) s.n p
      (λ r _ n t. subst (λ z. T (is_out z)) (others r n) t)

  asks_later : Took s fair Ask q Idle m₅
  asks_later =
      ask_took q m₅ reads.fine lq (omega (arith, one_out, fresh_none_out s lent ok))
      (others q d ∙ fresh_idle s lent ok q lq)

  writes_later : Took s fair Turn q start m₆
  writes_later = turn_took q 0 0 WriteX m₆ asks_later.fine lq (asks_later.its ∙ at_start)

  scans_later : Took s fair Turn q (Seeking (block 0 0 (Scan 0))) m₇
  scans_later = turn_took q 0 0 (Scan 0) m₇ writes_later.fine lq writes_later.its

  -- the mark is set: q goes right, to the edge
  marked : next_state s Turn q (Seeking (block 0 0 (Scan 0))) m₇ ≡ Holding (cell 0 1)
  marked =
      let put = mark_put s fair m₃ m₄ 0 0 0 1 (omega arith) (omega (arith, one_wide))
      scans.fine.invariants.fit.long.marks
      (ap (λ (place : ℕ). set m₃.marks (mark_index s (block_number s 0 0) place) 1) own_first) in
      let e = sym (mark_on_block s m₄.marks 0 0 0 (omega arith) (omega (arith, one_wide))) ∙ put.here in
      sym (arrive_edge s 0 1 (omega arith) ∙ leave_at_once s 0 0 Right one_time
      ∙ scan_marked s q 0 0 0 (get_or m₇.marks (mark_index s (block_number s 0 0) 0) 0) e)

  -- the eight calls
  all_heard :
      Heard s (acquires p 4 ++ acquires q 2) m₀ (served_at 4 (name_number s 0 0) ++ served_at 2 (name_number s 0 1))
  all_heard =
      heard start asks at_start
      (heard (Seeking (block 0 0 (Scan 0))) writes refl
      (heard (Seeking (block 0 0 WriteMark)) scans unmarked
      (heard (Seeking (block 0 0 ReadX)) marks refl
      (heard (Holding (cell 0 0)) reads own_x
      (heard start asks_later at_start
      (heard (Seeking (block 0 0 (Scan 0))) writes_later refl
      (heard (Holding (cell 0 1)) scans_later marked heard_nothing)))))))

pub one_time_pair : OneTimePair
one_time_pair s lent ok one_time two p q lp lq d =
    (all_heard s lent ok one_time two p q lp lq d).are ∙ rw ((two_names s two).0, (two_names s two).1)
