-- The worst schedules, followed from setup: no call of them is refused, and they leave task 0 holding the place that it
-- comes to in the first column.
use mathlib.Core.{Path.{◌≡◌, refl, sym, subst, ◌∙◌}, Logic.{◌⊎◌, inl, inr}, Bool.cond, List.{List, [], ◌∷◌, ◌++◌}}
use Prim.Native.Nat.{ℕ, zero, suc, ◌+◌, ◌-◌, ◌≤◌, ◌<◌}
use native.Mathlib.{Nat.le_refl, Omega.arith}
use lib.{Dec.{T, eqb}, ListN.{get_or, set}}
use borrow.Author.Tests.{eq-eqb, ne_eqb}
use Rattle.machine.specs.{Settings.{width, own}, Places.{block_number, block, cell}, Records.is_holding}
use Rattle.machine.specs.Grid.{arrive, leave}
use Rattle.demands.specs.{Memory.{Memory, mark_index, state_of, out_of}, Calls.{next_state, accept, setup, ask}}
use Rattle.demands.specs.History.{turns}
use Rattle.demands.specs.promises.Demands.{SetUp}
use Rattle.machine.specs.promises.Ranges.{WithinLimits}
use Rattle.machine.specs.declared.{Settings.Settings, Direction.TheVariants.Down}
use Rattle.machine.specs.declared.Point.{Point, TheVariants.{WriteX, Scan, WriteMark, ReadX, Clear}}
use Rattle.machine.specs.declared.{State.{State, TheVariants.{Idle, Seeking, Holding}}, Kind.TheVariants.{Ask, Turn}}
use Rattle.machine.specs.declared.Event.{Event}
use Rattle.demands.proofs.histories.Worst.{worst_row, worst_rows, asks, descent, worst, worst_light}
use Rattle.demands.proofs.histories.Leads.{Leads, leads_more, leads_append, leads_nowhere}
use Rattle.demands.proofs.histories.Laps.{Took, turn_took, ask_took, Lap, Laps, lap_over, lap_more, lap_append}
use Rattle.demands.proofs.histories.Laps.{lap_keeps, laps}
use Rattle.demands.proofs.calls.Fresh.{setup_within, fresh_idle, fresh_none_out}
use Rattle.demands.proofs.bridge.AsGrid.{grid_of, x_on_block, mark_on_block, x_put, mark_put}
use Rattle.demands.proofs.bridge.Histories.{InOrder, fresh_in_order, fresh_unmarked, one_more_out}
use Rattle.machine.proofs.{refusals.Limits.width_least, bridge.Turning.{reads_own, reads_other}}
use Rattle.machine.proofs.bridge.Arriving.{arrive_edge, arrive_block, leave_at_once, leave_clearing}
use Rattle.machine.proofs.bridge.AsRules.{own_below}

module _ (s : Settings) (fair : WithinLimits s) where
  -- ---- what a row needs of the memory

  -- the marks of the first column are 0 from row r on
  abbrev pub Unmarked : ℕ → Memory → Type 0
  Unmarked r m = (i place : ℕ) → r ≤ i → (grid_of s m).mark i 0 place ≡ 0

  -- the same, and X of the block at (r, 0) is task p's
  abbrev Scanning : ℕ → ℕ → Memory → Type 0
  Scanning r p m = Unmarked r m × ((grid_of s m).x r 0 ≡ p + 1)

  -- X of the block at (r, 0) is task n's, and no mark below is set
  abbrev Lost : ℕ → ℕ → Memory → Type 0
  Lost r n m = Unmarked (r + 1) m × ((grid_of s m).x r 0 ≡ n + 1)

  -- ---- a task's first turns in a row: it writes X and scans

  -- where it stands when it has scanned h marks
  abbrev scanned : ℕ → ℕ → State
  scanned r h = cond (eqb h (width s)) (Seeking (block r 0 WriteMark)) (Seeking (block r 0 (Scan h)))

  scan_lap : (r p : ℕ) → r + 2 ≤ s.k → p < s.n → (left h : ℕ) → h + left ≡ width s → (m : Memory) → InOrder s fair m
      → Scanning r p m
      → state_of m p ≡ scanned r h → Lap s fair (Scanning r p) p (Seeking (block r 0 WriteMark)) (turns left p) m
  scan_lap r p b l zero h e m f clean is = lap_over m f clean (is ∙ rw (eq-eqb h (width s) (omega arith)))
  scan_lap r p b l (suc left) h e m f clean is =
      let here = turn_took p r 0 (Scan h) m f l (is ∙ rw (ne_eqb h (width s) (λ z. omega arith))) in
      let unset : get_or m.marks (mark_index s (block_number s r 0) h) 0 ≡ 0 =
      sym (mark_on_block s m.marks r 0 h (omega arith) (omega arith)) ∙ clean.0 r h (le_refl r) in
      let next : next_state s Turn p (Seeking (block r 0 (Scan h))) m ≡ scanned r (h + 1) = rw unset in
      lap_more here
      (scan_lap r p b l left (h + 1) (omega arith) _ here.fine clean (here.its ∙ next))

  first_lap : (r p : ℕ) → r + 2 ≤ s.k → p < s.n → (m : Memory) → InOrder s fair m → Unmarked r m
      → state_of m p ≡ Seeking (block r 0 WriteX)
      → Lap s fair (Scanning r p) p (Seeking (block r 0 WriteMark)) (turns (suc (width s)) p) m
  first_lap r p b l m f clean is =
      let here = turn_took p r 0 WriteX m f l is in
      let m₁ : Memory = (accept s Turn p (Seeking (block r 0 WriteX)) m).memory in
      let some = width_least s fair in
      lap_more here
      (scan_lap r p b l (width s) 0 (omega arith) m₁ here.fine
      (clean, (x_put s fair m m₁ r 0 (p + 1) (omega arith) f.invariants.fit.long.xs refl).here)
      (here.its ∙ rw (ne_eqb 0 (width s) (λ z. omega arith))))

  -- who is alone in a block goes on to write its mark, reads its own number in X and holds
  lone_lap : (r p : ℕ) → r + 2 ≤ s.k → p < s.n → (m : Memory) → InOrder s fair m → Unmarked r m
      → state_of m p ≡ Seeking (block r 0 WriteX)
      → Lap s fair (λ _. Unit {0}) p (Holding (cell r 0)) (turns (suc (width s)) p ++ turns 2 p) m
  lone_lap r p b l m f clean is =
      let first = first_lap r p b l m f clean is in
      let m₁ : Memory = (accept s Turn p (Seeking (block r 0 WriteMark)) first.last).memory in
      let m₂ : Memory = (accept s Turn p (Seeking (block r 0 ReadX)) m₁).memory in
      let marks = turn_took p r 0 WriteMark first.last first.fine l first.its in
      let reads = turn_took p r 0 ReadX m₁ marks.fine l marks.its in
      let own : get_or m₁.xs (block_number s r 0) 0 ≡ p + 1 =
      sym (x_on_block s m₁.xs r 0 (omega arith)) ∙ first.keeps.1 in
      lap_append first (lap_more marks (lap_more reads
      (lap_over m₂ reads.fine tt (reads.its ∙ sym (reads_own s p r 0 (get_or m₁.xs (block_number s r 0) 0) own)))))

  -- ---- its other turns there: it writes its mark, reads another's X and, long-lived, clears

  -- a mark of row r is none of the rows below
  below_unmarked : (r p value : ℕ) (point : Point) (m : Memory) → InOrder s fair m → r + 2 ≤ s.k → p < s.n
      → (accept s Turn p (Seeking (block r 0 point)) m).memory.marks ≡ set m.marks
      (mark_index s (block_number s r 0) (own s p)) value
      → Unmarked (r + 1) m → Unmarked (r + 1) (accept s Turn p (Seeking (block r 0 point)) m).memory
  below_unmarked r p value point m f b l e clean i place h =
      (mark_put s fair m (accept s Turn p (Seeking (block r 0 point)) m).memory r 0 (own s p) value (omega arith)
      (own_below s fair p l)
      f.invariants.fit.long.marks e).there i 0 place (λ z _ _. omega arith) ∙ clean i place h

  second_lap : (r n p : ℕ) → r + 2 ≤ s.k → p < n → p < s.n → (m : Memory) → InOrder s fair m → Lost r n m
      → state_of m p ≡ Seeking (block r 0 WriteMark)
      → Lap s fair (Lost r n) p (arrive s (r + 1) 0) (turns (s.mode + 2) p) m
  second_lap r n p b h l m f lost is = go fair.modes
    where
      m₁ : Memory
      m₁ = (accept s Turn p (Seeking (block r 0 WriteMark)) m).memory

      m₂ : Memory
      m₂ = (accept s Turn p (Seeking (block r 0 ReadX)) m₁).memory

      m₃ : Memory
      m₃ = (accept s Turn p (Seeking (block r 0 (Clear Down))) m₂).memory

      marks : Took s fair Turn p (Seeking (block r 0 WriteMark)) m
      marks = turn_took p r 0 WriteMark m f l is

      reads : Took s fair Turn p (Seeking (block r 0 ReadX)) m₁
      reads = turn_took p r 0 ReadX m₁ marks.fine l marks.its

      lost₂ : Lost r n m₂
      lost₂ = (below_unmarked r p 1 WriteMark m f b l refl lost.0, lost.1)

      x_other : get_or m.xs (block_number s r 0) 0 ≡ p + 1 → ⊥
      x_other e = omega (arith, x_on_block s m.xs r 0 (omega arith), lost.1)

      left : state_of m₂ p ≡ leave s r 0 Down
      left = reads.its ∙ sym (reads_other s p r 0 (get_or m.xs (block_number s r 0) 0) x_other)

      Whole : ℕ → Type 0
      Whole mode = Lap s fair (Lost r n) p (arrive s (r + 1) 0) (turns (mode + 2) p) m

      go : (s.mode ≡ 0) ⊎ (s.mode ≡ 1) → Whole s.mode
      go (inl e) =
          subst Whole (sym e) (lap_more marks
          (lap_more reads (lap_over m₂ reads.fine lost₂ (left ∙ sym (leave_at_once s r 0 Down e)))))
      go (inr e) =
          let clears = turn_took p r 0 (Clear Down) m₂ reads.fine l
          (left ∙ sym (leave_clearing s r 0 Down (λ z. omega arith))) in
          let lost₃ : Lost r n m₃ = (
            below_unmarked r p 0 (Clear Down) m₂ reads.fine b l refl lost₂.0,
            lost₂.1,
          ) in
          subst Whole (sym e) (lap_more marks
          (lap_more reads (lap_more clears (lap_over m₃ clears.fine lost₃ clears.its))))

  -- ---- row after row

  -- the calls bring task 0 to row `foot` of the first column, and no mark of the column is set from there on
  pub record Foot (foot : ℕ) (events : List Event) (m : Memory) : Type 0 where
    pub last : Memory
    pub leads : Leads s events m last
    pub fine : InOrder s fair last
    pub clean : Unmarked foot last
    pub its : state_of last 0 ≡ arrive s foot 0

  -- of n + 1 tasks in row r one stays there, and n come to the next row
  record RowDone (n r : ℕ) (m : Memory) : Type 0 where
    last : Memory
    leads : Leads s (worst_row s n) m last
    fine : InOrder s fair last
    keeps : Unmarked (r + 1) last
    theirs : (q : ℕ) → q < n → state_of last q ≡ arrive s (r + 1) 0

  row_done : (n r : ℕ) → r + 2 ≤ s.k → suc n < s.n → (m : Memory) → InOrder s fair m → Unmarked r m
      → ((q : ℕ) → q < suc (suc n) → state_of m q ≡ Seeking (block r 0 WriteX)) → RowDone (suc n) r m
  row_done n r b l m f clean all =
      let first = laps (λ _. Unmarked r) (Seeking (block r 0 WriteX)) (Seeking (block r 0 WriteMark))
      (turns (suc (width s))) (suc n)
      (λ p m₁ h f₁ clean₁ is. lap_keeps (λ _ kept. kept.0) (first_lap r p b (omega arith) m₁ f₁ clean₁ is))
      m f clean (λ q h. all q (omega arith)) in
      let m₁ : Memory = (accept s Turn (suc n) (Seeking (block r 0 WriteX)) first.last).memory in
      let stays = turn_took (suc n) r 0 WriteX first.last first.fine l
      (first.others (suc n) (le_refl (suc n)) ∙ all (suc n) (le_refl (suc (suc n)))) in
      let lost : Lost r (suc n) m₁ = (
        λ i place h. first.keeps i place (omega arith),
        (x_put s fair first.last m₁ r 0 (suc n + 1) (omega arith) first.fine.invariants.fit.long.xs refl).here,
      ) in
      let second = laps (λ _. Lost r (suc n)) (Seeking (block r 0 WriteMark)) (arrive s (r + 1) 0)
      (turns (s.mode + 2)) (suc n)
      (λ p m₂ h. second_lap r (suc n) p b h (omega arith) m₂) m₁ stays.fine lost
      (λ q h. stays.others q (λ d. omega arith) ∙ first.theirs q h) in
      record {
        last = second.last;
        leads = leads_append {middle = first.last} {last = second.last} first.leads
            (leads_more {last = second.last} (accept s Turn (suc n) (Seeking (block r 0 WriteX)) first.last) stays.does
            stays.says second.leads);
        fine = second.fine;
        keeps = second.keeps.0;
        theirs = second.theirs;
      }

  go_down : (foot n r : ℕ) → r + n ≡ foot → foot < s.k → (m : Memory) → InOrder s fair m → Unmarked r m
      → ((q : ℕ) → q < suc n → state_of m q ≡ arrive s r 0)
      → Foot foot (worst_rows s n) m
  go_down foot zero r e b m f clean all =
      let here : r ≡ foot = omega arith in
      subst (λ (i : ℕ). Foot i [] m) here
      (record { last = m; leads = leads_nowhere; fine = f; clean = clean; its = all 0 (le_refl 1) })
  go_down foot (suc n) r e b m f clean all =
      let row = row_done n r (omega arith) (omega (arith, fair.k_within)) m f clean
      (λ q h. all q h ∙ sym (arrive_block s r 0 (λ z. omega arith))) in
      let rest = go_down foot n (r + 1) (omega arith) b row.last row.fine row.keeps row.theirs in
      record {
        last = rest.last;
        leads = leads_append {middle = row.last} {last = rest.last} row.leads rest.leads;
        fine = rest.fine;
        clean = rest.clean;
        its = rest.its;
      }

  -- ---- the asks before them

  -- n more may ask
  abbrev pub Room : ℕ → Memory → Type 0
  Room n m = (out_of s m.records + n ≤ s.k) × Unmarked 0 m

  ask_lap : (p : ℕ) (m : Memory) → p < s.n → InOrder s fair m → Room (suc p) m → state_of m p ≡ Idle
      → Lap s fair (Room p) p (arrive s 0 0) (ask p ∷ []) m
  ask_lap p m l f room is =
      let here = ask_took p m f l (omega arith) is in
      let more = one_more_out s fair Ask p m f.invariants.fit l in
      lap_more here (lap_over _ here.fine (omega arith, room.1) here.its)

module _ (s : Settings) (lent : Memory) (ok : SetUp s lent) (m : ℕ) (some : 1 ≤ m) (most : m ≤ s.k) where
  abbrev fair : WithinLimits s
  fair = setup_within s lent ok

  pub asks_run : Laps s fair (Room s fair 0) m (arrive s 0 0) (asks m) (setup s lent).memory
  asks_run =
      laps (Room s fair) Idle (arrive s 0 0) (λ p. ask p ∷ []) m
      (λ p m₁ h. ask_lap s fair p m₁ (omega (arith, fair.k_within)))
      (setup s lent).memory (fresh_in_order s lent ok)
      (omega (arith, fresh_none_out s lent ok), λ i place _. fresh_unmarked s lent ok i 0 place)
      (λ q h. fresh_idle s lent ok q (omega (arith, fair.k_within)))

  pub descent_run : Foot s fair (m - 1) (descent s m) (setup s lent).memory
  descent_run =
      let down = go_down s fair (m - 1) (m - 1) 0 (omega arith) (omega arith) asks_run.last asks_run.fine
      asks_run.keeps.1
      (λ q h. asks_run.theirs q (omega arith)) in
      record {
        last = down.last;
        leads = leads_append {middle = asks_run.last} {last = down.last} asks_run.leads down.leads;
        fine = down.fine;
        clean = down.clean;
        its = down.its;
      }

-- task 0 holds in the end
pub record Held (s : Settings) (events : List Event) (m : Memory) : Type 0 where
  pub last : Memory
  pub leads : Leads s events m last
  pub holds : T (is_holding (state_of last 0))

pub worst_run : (s : Settings) (lent : Memory) → SetUp s lent → Held s (worst s) (setup s lent).memory
worst_run s lent ok =
    let bounds = setup_within s lent ok in
    let foot = descent_run s lent ok s.k bounds.k_least (le_refl s.k) in
    record {
      last = foot.last;
      leads = foot.leads;
      holds = rw (foot.its ∙ sym (arrive_edge s (s.k - 1) 0 (omega (arith, bounds.k_least)))) tt;
    }

-- its last block it has alone
pub worst_light_run : (s : Settings) (lent : Memory) → SetUp s lent → (m : ℕ) → 1 ≤ m → m < s.k
    → Held s (worst_light s m) (setup s lent).memory
worst_light_run s lent ok m some light =
    let bounds = setup_within s lent ok in
    let foot = descent_run s lent ok m some (omega arith) in
    let alone = lone_lap s bounds (m - 1) 0 (omega arith) bounds.n_least foot.last foot.fine foot.clean
    (foot.its ∙ sym (arrive_block s (m - 1) 0 (λ e. omega arith))) in
    record {
      last = alone.last;
      leads = leads_append {middle = foot.last} {last = alone.last} foot.leads alone.leads;
      holds = rw alone.its tt;
    }
