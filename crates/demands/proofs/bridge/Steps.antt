-- An accepted call of the machine is a step of its grid: the one place where the two are compared, point by point.
use mathlib.Core.{Path.{◌≡◌, refl, sym, ap, subst, ◌∙◌}, Logic.{◌⊎◌, inl, inr}, Bool.{true≢false, false}}
use Prim.Native.Nat.{ℕ, ◌+◌, ◌≤◌, ◌<◌}
use Rattle.std.specs.Prelude.{Option}
use native.Mathlib.{Decide.{dec_le, ℕ_discrete}, Omega.arith}
use lib.{Dec.{T, ltb→lt, eqb→eq}, ListN.get_or}
use borrow.Author.Tests.{eqb-false}
use Rattle.machine.specs.{Settings.{width, own}, Places.{block_number, block, cell}}
use Rattle.machine.specs.{Records.{point_in_range, state_in_range}, Grid.{arrive, move, leave, point_turned}}
use Rattle.demands.specs.{Memory.{Memory, mark_index, state_of}, Touching.store}
use Rattle.demands.specs.{Refusals.{one_time_release, wrong_moment}, Calls.{next_state, accept}}
use Rattle.machine.specs.declared.{Settings.Settings, Direction.{Direction, TheVariants.{Right, Down}}}
use Rattle.machine.specs.declared.Point.{Point, TheVariants.{WriteX, Scan, WriteMark, ReadX, Clear}}
use Rattle.machine.specs.declared.{State.{State, TheVariants.{Idle, Seeking, Holding}}, Access.Access}
use Rattle.machine.specs.declared.Kind.{Kind, TheVariants.{Ask, Turn, Release}}
use Rattle.machine.specs.promises.Ranges.{WithinLimits}
use Rattle.machine.proofs.refusals.{Limits.mode_most, Ranges.{on_block, at_point, on_cell}}
use Rattle.machine.proofs.bridge.Turning.{scan_marked, scan_done, scan_on, reads_own, reads_other}
use Rattle.machine.proofs.bridge.AsRules.{own_below, rules_of}
use Rattle.machine.proofs.bridge.Arriving.{arrive_edge, arrive_block, leave_at_once, leave_clearing, release_clears}
use Rattle.machine.proofs.bridge.Arriving.{release_nothing}
use Rattle.demands.proofs.{refusals.Passed.Fit, calls.After.{caller_after, others_after}}
use Rattle.demands.proofs.bridge.AsGrid.{way_of, stage_of, stand_of, x_at, mark_at, grid_of, x_on_block, mark_on_block}
use Rattle.demands.proofs.bridge.AsGrid.{x_put, mark_put}
use Rattle.grid.proofs.Stands.{Rules, mid, at, InPlace}
use Rattle.grid.proofs.Moves.{Arrives, block as to_block, edge, Goes, Leaves, at_once, clearing, Move, Step, Effect}
use Rattle.grid.proofs.Moves.{writes_x, writes_mark, XChange, MarkChange, asks, begins, passes, meets, marks, wins}
use Rattle.grid.proofs.Moves.{nothing, loses, clears, frees, departs}

-- ---- where a task comes to

module _ (s : Settings) (l : WithinLimits s) where
  pub arrives : (r c : ℕ) → r + c + 1 ≤ s.k → Arrives s.k r c (stand_of (width s) (arrive s r c))
  arrives r c b = go (ℕ_discrete (r + c + 1) s.k)
    where
      go : Dec (r + c + 1 ≡ s.k) → Arrives s.k r c (stand_of (width s) (arrive s r c))
      go (yes e) = subst (λ (to : State). Arrives s.k r c (stand_of (width s) to)) (arrive_edge s r c e) (edge e)
      go (no d) = subst (λ (to : State). Arrives s.k r c (stand_of (width s) to)) (arrive_block s r c d)
          (to_block {r = r} {c = c} (omega arith))

  goes : (r c : ℕ) (d : Direction) → r + c + 2 ≤ s.k → Goes s.k r c (way_of d) (stand_of (width s) (move s r c d))
  goes r c Right b = arrives r (c + 1) (omega arith)
  goes r c Down b = arrives (r + 1) c (omega arith)

  leaves : (r c : ℕ) (d : Direction) → r + c + 2 ≤ s.k
      → Leaves (rules_of s l) r c (way_of d) (stand_of (width s) (leave s r c d))
  leaves r c d b = go l.modes
    where
      go : (s.mode ≡ 0) ⊎ (s.mode ≡ 1) → Leaves (rules_of s l) r c (way_of d) (stand_of (width s) (leave s r c d))
      go (inl e) = subst (λ (to : State). Leaves (rules_of s l) r c (way_of d) (stand_of (width s) to))
          (leave_at_once s r c d e) (at_once e (goes r c d b))
      go (inr e) =
          subst (λ (to : State). Leaves (rules_of s l) r c (way_of d) (stand_of (width s) to))
          (leave_clearing s r c d (λ z. omega arith)) (clearing e)

  -- a record in range stands in its place
  pub in_place : (state : State) → T (state_in_range s state) → InPlace (rules_of s l) (stand_of (width s) state)
  in_place Idle t = tt
  in_place (Seeking stand) t =
      point_in_place stand.r stand.c stand.point (on_block s stand t) (at_point s stand t)
    where
      point_in_place : (r c : ℕ) (point : Point) → r + c + 2 ≤ s.k → T (point_in_range s point)
          → InPlace (rules_of s l) (at r c (stage_of (width s) point))
      point_in_place r c WriteX b t = (b, tt)
      point_in_place r c (Scan h) b t = let z = ltb→lt h (width s) t in omega arith
      point_in_place r c WriteMark b t = omega arith
      point_in_place r c ReadX b t = omega arith
      point_in_place r c (Clear d) b t = (b, eqb→eq s.mode 1 t)
  in_place (Holding place) t = (on_cell s place t, tt)

-- ---- what a call writes, and how its task moves

module _ (s : Settings) (l : WithinLimits s) (m : Memory) (h : Fit s m) (p : ℕ) (below : p < s.n) where
  abbrev rules : Rules
  rules = rules_of s l

  -- a call of task p, whose record says `state`
  record Moved (kind : Kind) (state : State) : Type 0 where
    effect : Effect
    x_change : XChange effect p (grid_of s m) (grid_of s (accept s kind p state m).memory)
    mark_change : MarkChange effect (own s p) (grid_of s m) (grid_of s (accept s kind p state m).memory)
    move :
        Move rules p (grid_of s m) (stand_of (width s) state) effect (stand_of (width s) (next_state s kind p state m))

  own_mark : own s p < width s
  own_mark = own_below s l p below

  scan_move : (r c i : ℕ) → r + c + 2 ≤ s.k → i < width s
      → Move rules p (grid_of s m) (at r c (mid i)) nothing
      (stand_of (width s) (next_state s Turn p (Seeking (block r c (Scan i))) m))
  scan_move r c i b w = go (ℕ_discrete seen 1) (ℕ_discrete (i + 1) (width s))
    where
      seen : ℕ
      seen = get_or m.marks (mark_index s (block_number s r c) i) 0

      To : State → Type 0
      To next = Move rules p (grid_of s m) (at r c (mid i)) nothing (stand_of (width s) next)

      go : Dec (seen ≡ 1) → Dec (i + 1 ≡ width s) → To (point_turned s p r c (Scan i) seen)
      go (yes met) last = subst To (scan_marked s p r c i seen met)
          (meets w (mark_on_block s m.marks r c i b w ∙ met) (leaves s l r c Right b))
      go (no free) (yes e) =
          subst To (scan_done s p r c i seen free e)
          (subst (λ (n : ℕ). Move rules p (grid_of s m) (at r c (mid i)) nothing (at r c (mid n))) e
          (passes w (λ t. free (sym (mark_on_block s m.marks r c i b w) ∙ t))))
      go (no free) (no d) = subst To (scan_on s p r c i seen free d)
          (passes w (λ t. free (sym (mark_on_block s m.marks r c i b w) ∙ t)))

  read_move : (r c : ℕ) → r + c + 2 ≤ s.k
      → Move rules p (grid_of s m) (at r c (mid (width s + 1))) nothing
      (stand_of (width s) (next_state s Turn p (Seeking (block r c ReadX)) m))
  read_move r c b = go (ℕ_discrete seen (p + 1))
    where
      seen : ℕ
      seen = get_or m.xs (block_number s r c) 0

      To : State → Type 0
      To next = Move rules p (grid_of s m) (at r c (mid (width s + 1))) nothing (stand_of (width s) next)

      go : Dec (seen ≡ p + 1) → To (point_turned s p r c ReadX seen)
      go (yes e) = subst To (reads_own s p r c seen e) (wins refl (x_on_block s m.xs r c b ∙ e))
      go (no d) = subst To (reads_other s p r c seen d)
          (loses refl (λ t. d (sym (x_on_block s m.xs r c b) ∙ t)) (leaves s l r c Down b))

  turn_moved : (r c : ℕ) (point : Point) → r + c + 2 ≤ s.k → T (point_in_range s point)
      → Moved Turn (Seeking (block r c point))
  turn_moved r c WriteX b t = record {
    effect = writes_x r c;
    x_change = x_put s l m (accept s Turn p (Seeking (block r c WriteX)) m).memory r c (p + 1) b h.long.xs refl;
    mark_change = λ i j place. refl;
    move = begins;
  }
  turn_moved r c (Scan i) b t = record {
    effect = nothing;
    x_change = λ i j. refl;
    mark_change = λ i j place. refl;
    move = scan_move r c i b (ltb→lt i (width s) t);
  }
  turn_moved r c WriteMark b t = record {
    effect = writes_mark r c 1;
    x_change = λ i j. refl;
    mark_change = mark_put s l m (accept s Turn p (Seeking (block r c WriteMark)) m).memory r c (own s p) 1 b own_mark
        h.long.marks refl;
    move = marks refl;
  }
  turn_moved r c ReadX b t = record {
    effect = nothing;
    x_change = λ i j. refl;
    mark_change = λ i j place. refl;
    move = read_move r c b;
  }
  turn_moved r c (Clear d) b t = record {
    effect = writes_mark r c 0;
    x_change = λ i j. refl;
    mark_change = mark_put s l m (accept s Turn p (Seeking (block r c (Clear d))) m).memory r c (own s p) 0 b own_mark
        h.long.marks refl;
    move = clears (eqb→eq s.mode 1 t) (goes s l r c d b);
  }

  release_moved : (r c : ℕ) → s.mode ≡ 1 → r + c + 1 ≤ s.k → Moved Release (Holding (cell r c))
  release_moved r c one b = go (dec_le (r + c + 2) s.k)
    where
      go : Dec (r + c + 2 ≤ s.k) → Moved Release (Holding (cell r c))
      go (yes on) =
          let clears = sym (release_clears s r c p on) in
          record {
            effect = writes_mark r c 0;
            x_change = λ i j. ap (λ (a : Option Access). x_at s (store s a m).xs i j) clears;
            mark_change = mark_put s l m (accept s Release p (Holding (cell r c)) m).memory r c (own s p) 0 on own_mark
                h.long.marks
                (ap (λ (a : Option Access). (store s a m).marks) clears);
            move = frees one on;
          }
      go (no off) =
          let none = sym (release_nothing s r c p (omega arith)) in
          record {
            effect = nothing;
            x_change = λ i j. ap (λ (a : Option Access). x_at s (store s a m).xs i j) none;
            mark_change = λ i j place. ap (λ (a : Option Access). mark_at s (store s a m).marks i j place) none;
            move = departs {i = r} {j = c} one (omega arith);
          }

  moved : (kind : Kind) (state : State) → one_time_release s kind ≡ false → wrong_moment kind state ≡ false
      → T (state_in_range s state) → Moved kind state
  moved Ask Idle once e t = record {
    effect = nothing;
    x_change = λ i j. refl;
    mark_change = λ i j place. refl;
    move = asks (arrives s l 0 0 l.k_least);
  }
  moved Ask (Seeking stand) once e t = absurd (true≢false e)
  moved Ask (Holding place) once e t = absurd (true≢false e)
  moved Turn Idle once e t = absurd (true≢false e)
  moved Turn (Seeking stand) once e t =
      turn_moved stand.r stand.c stand.point (on_block s stand t) (at_point s stand t)
  moved Turn (Holding place) once e t = absurd (true≢false e)
  moved Release Idle once e t = absurd (true≢false e)
  moved Release (Seeking stand) once e t = absurd (true≢false e)
  moved Release (Holding place) once e t =
      let z = eqb-false s.mode 0 once in
      release_moved place.r place.c (omega (arith, mode_most s l)) (on_cell s place t)

  -- ---- the step

  -- how its task moves
  pub caller_moves : (kind : Kind) → one_time_release s kind ≡ false → wrong_moment kind (state_of m p) ≡ false
      → (e : Effect) × Move rules p (grid_of s m) (stand_of (width s) (state_of m p)) e
      (stand_of (width s) (next_state s kind p (state_of m p) m))
  caller_moves kind once e = let it = moved kind (state_of m p) once e (h.in_range.records p below) in
      (it.effect, it.move)

  pub accepted_step : (kind : Kind) → one_time_release s kind ≡ false → wrong_moment kind (state_of m p) ≡ false
      → Step rules (grid_of s m) (grid_of s (accept s kind p (state_of m p) m).memory)
  accepted_step kind once e =
      let it = moved kind (state_of m p) once e (h.in_range.records p below) in
      record {
        p = p;
        below = below;
        from = stand_of (width s) (state_of m p);
        effect = it.effect;
        to = stand_of (width s) (next_state s kind p (state_of m p) m);
        stood = refl;
        stands = ap (stand_of (width s)) (caller_after s m h p below kind (state_of m p));
        others = λ q d. ap (stand_of (width s)) (others_after s m p kind (state_of m p) q d);
        x_change = it.x_change;
        mark_change = it.mark_change;
        move = it.move;
      }
