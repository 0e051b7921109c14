-- The definitions, which say both modes at once, follow 01's rules in each, and the lines of these rules leave no
-- accepted call out.
use mathlib.Core.{Path.{◌≡◌, refl, sym, ap, subst, ◌∙◌}, Bool.{false, true≢false}, Logic.{◌⊎◌, inl, inr}}
use Prim.Native.Nat.{ℕ, ◌+◌, ◌*◌, ◌≤◌, ◌<◌}
use Rattle.std.specs.Prelude.{Option, None}
use native.Mathlib.{Decide.ℕ_discrete, Omega.arith}
use lib.{Dec.{T, leb→le, ltb→lt, eqb→eq}, ListN.get_or}
use borrow.Author.Tests.{le-leb, lt-leb, eqb-false}
use Rattle.machine.specs.{Settings.{width, own}, Places.{block_number, block, cell}}
use Rattle.machine.specs.Records.{point_in_range, state_in_range}
use Rattle.machine.specs.Grid.{point_access, arrive, move, leave, point_turned}
use Rattle.machine.specs.Turn.{shown_by}
use Rattle.demands.specs.{Memory.{Memory, mark_index, state_of, with_mark}, Touching.{value, store}}
use Rattle.demands.specs.{Calls.{Outcome, accept, call, event_of, ask, turn, release}, Refusals.wrong_moment}
use Rattle.machine.specs.declared.{Settings.Settings, Direction.{Direction, TheVariants.{Right, Down}}}
use Rattle.machine.specs.declared.Point.{Point, TheVariants.{WriteX, Scan, WriteMark, ReadX, Clear}}
use Rattle.machine.specs.declared.State.{State, TheVariants.{Idle, Seeking, Holding}}
use Rattle.machine.specs.declared.{Kind.{Kind, TheVariants.{Ask, Turn, Release}}, Shown.Shown}
use Rattle.demands.specs.promises.OneAccess.{AcceptedIn}
use Rattle.demands.specs.promises.Rules.{stands_at, frees_at, SeeksAt, x_of, mark_of, long_mark, one_mark, read_x}
use Rattle.demands.specs.promises.Rules.{one_more, read_mark, wrote_mark, Arrives, at_edge, at_block, Moves, Says}
use Rattle.demands.specs.promises.Rules.{asks, write_x, long_scan_marked, long_scan_next, long_scan_last}
use Rattle.demands.specs.promises.Rules.{once_scan_marked, once_scan_clear, long_write_mark, once_write_mark}
use Rattle.demands.specs.promises.Rules.{read_x_own, long_read_x_other, once_read_x_other, clear, release_block}
use Rattle.demands.specs.promises.Rules.{release_edge, EachFollowsTheRules, EachSpokenOf}
use Rattle.machine.specs.promises.Ranges.{WithinLimits}
use Rattle.machine.proofs.refusals.{Limits.mode_most, Ranges.{on_block, at_point, on_cell}}
use Rattle.machine.proofs.bridge.Arriving.{arrive_edge, arrive_block, leave_at_once, leave_clearing}
use Rattle.machine.proofs.bridge.AsRules.{width_one_time, width_long_lived, own_one_time, own_long_lived}
use Rattle.demands.proofs.{refusals.{Passing.{passed, by_the_rules}, Passed.Passed}, bridge.AsGrid.mark_below}
use Rattle.machine.proofs.bridge.Turning as turning

-- ---- in either mode

module _ (s : Settings) (p : ℕ) where
  -- a line of an arrival says where the task comes to
  arrives_so : (r c turns : ℕ) (shown : Option Shown) (m : Memory) (to : Outcome) → Arrives s p r c turns shown m to
      → stands_at s p (arrive s r c) turns shown m ≡ to
  arrives_so r c turns shown m to (at_edge at) =
      ap (λ (state : State). stands_at s p state turns shown m) (sym (arrive_edge s r c at))
  arrives_so r c turns shown m to (at_block on) =
      ap (λ (state : State). stands_at s p state turns shown m) (sym (arrive_block s r c (λ at. omega arith)))

  moves_so : (r c : ℕ) (direction : Direction) (turns : ℕ) (shown : Option Shown) (m : Memory) (to : Outcome)
      → Moves s p r c direction turns shown m to → stands_at s p (move s r c direction) turns shown m ≡ to
  moves_so r c Right turns shown m to moves = arrives_so r (c + 1) turns shown m to moves
  moves_so r c Down turns shown m to moves = arrives_so (r + 1) c turns shown m to moves

  -- what the access at a point shows
  abbrev point_shown : ℕ → ℕ → Point → Memory → Option Shown
  point_shown r c point m = shown_by (point_access s p r c point) (value s (point_access s p r c point) m)

  -- a turn at a point: the register is written, and the value read makes the next state
  turned_at : (m : Memory) (r c : ℕ) (point : Point) → AcceptedIn s (turn p) m → SeeksAt s p m r c point
      → call s (turn p) m ≡ stands_at s p (point_turned s p r c point (value s (point_access s p r c point) m))
      (one_more m p) (point_shown r c point m) (store s (point_access s p r c point) m)
  turned_at m r c point t at = by_the_rules s (turn p) m t
      ∙ ap (λ (state : State). accept s Turn p state m) at.stands

  -- where the value read decides
  turned_to : (m : Memory) (r c : ℕ) (point : Point) (to : State) (shown : Option Shown) → AcceptedIn s (turn p) m
      → SeeksAt s p m r c point
      → to ≡ point_turned s p r c point (value s (point_access s p r c point) m)
      → point_shown r c point m ≡ shown
      → call s (turn p) m ≡ stands_at s p to (one_more m p) shown (store s (point_access s p r c point) m)
  turned_to m r c point to shown t at e shows =
      turned_at m r c point t at
      ∙ (λ i. stands_at s p (sym e i) (one_more m p) (shows i) (store s (point_access s p r c point) m))

-- ---- mode 1

module _ (s : Settings) (long : s.mode ≡ 1) (p : ℕ) (m : Memory) (r c : ℕ) where
  -- mark q of the block
  mark_long : (q : ℕ) → mark_index s (block_number s r c) q ≡ mark_of s r c q
  mark_long q = ap (λ (w : ℕ). block_number s r c * w + q) (width_long_lived s long)

  own_mark_long : mark_index s (block_number s r c) (own s p) ≡ mark_of s r c p
  own_mark_long = ap (λ (q : ℕ). mark_index s (block_number s r c) q) (own_long_lived s p long) ∙ mark_long p

  mark_read : (h v : ℕ) → long_mark s m r c h ≡ v → value s (point_access s p r c (Scan h)) m ≡ v
  mark_read h v e = ap (λ (i : ℕ). get_or m.marks i 0) (mark_long h) ∙ e

  mark_shown : (h v : ℕ) → long_mark s m r c h ≡ v → point_shown s p r c (Scan h) m ≡ read_mark s r c h v
  mark_shown h v e = ap (read_mark s r c h) (mark_read h v e)

  -- the own mark, written: what the line says is shown and left
  own_written_long : (v : ℕ) (to : State) (turns : ℕ)
      → stands_at s p to turns (wrote_mark s r c (own s p) v)
      (with_mark (mark_index s (block_number s r c) (own s p)) v m)
      ≡ stands_at s p to turns (wrote_mark s r c p v) (with_mark (mark_of s r c p) v m)
  own_written_long v to turns =
      λ i. stands_at s p to turns (wrote_mark s r c (own_long_lived s p long i) v) (with_mark (own_mark_long i) v m)

  leave_long : (direction : Direction) → Seeking (block r c (Clear direction)) ≡ leave s r c direction
  leave_long direction = leave_clearing s r c direction (λ e. omega arith)

  not_marked : (h : ℕ) → long_mark s m r c h ≡ 0 → value s (point_access s p r c (Scan h)) m ≡ 1 → ⊥
  not_marked h e f = let z = mark_read h 0 e in omega arith

  -- a release of a task that holds (r, c)
  released : AcceptedIn s (release p) m → state_of m p ≡ Holding (cell r c)
      → call s (release p) m ≡ accept s Release p (Holding (cell r c)) m
  released t held = by_the_rules s (release p) m t ∙ ap (λ (state : State). accept s Release p state m) held

-- ---- mode 0

module _ (s : Settings) (once : s.mode ≡ 0) (p : ℕ) (m : Memory) (r c : ℕ) where
  -- the block's one mark
  mark_once : mark_index s (block_number s r c) 0 ≡ block_number s r c
  mark_once = ap (λ (w : ℕ). block_number s r c * w + 0) (width_one_time s once) ∙ omega arith

  own_mark_once : mark_index s (block_number s r c) (own s p) ≡ block_number s r c
  own_mark_once = ap (λ (q : ℕ). mark_index s (block_number s r c) q) (own_one_time s p once) ∙ mark_once

  mark_read_once : (v : ℕ) → one_mark s m r c ≡ v → value s (point_access s p r c (Scan 0)) m ≡ v
  mark_read_once v e = ap (λ (i : ℕ). get_or m.marks i 0) mark_once ∙ e

  mark_shown_once : (v : ℕ) → one_mark s m r c ≡ v → point_shown s p r c (Scan 0) m ≡ read_mark s r c 0 v
  mark_shown_once v e = ap (read_mark s r c 0) (mark_read_once v e)

  own_written_once : (v : ℕ) (to : State) (turns : ℕ)
      → stands_at s p to turns (wrote_mark s r c (own s p) v)
      (with_mark (mark_index s (block_number s r c) (own s p)) v m)
      ≡ stands_at s p to turns (wrote_mark s r c 0 v) (with_mark (block_number s r c) v m)
  own_written_once v to turns =
      λ i. stands_at s p to turns (wrote_mark s r c (own_one_time s p once i) v) (with_mark (own_mark_once i) v m)

  not_marked_once : one_mark s m r c ≡ 0 → value s (point_access s p r c (Scan 0)) m ≡ 1 → ⊥
  not_marked_once e f = let z = mark_read_once 0 e in omega arith

-- ---- what a line says is the outcome

pub follows_the_rules : EachFollowsTheRules
follows_the_rules s p m Ask t to (asks idle arrives) =
    by_the_rules s (ask p) m t ∙ arrives_so s p 0 0 0 None m to arrives
follows_the_rules s p m Turn t to (write_x {r} {c} at) = turned_at s p m r c WriteX t at
follows_the_rules s p m Turn t to (long_scan_marked {r} {c} {h} long at low e) =
    turned_to s p m r c (Scan h) (Seeking (block r c (Clear Right))) _ t at
    (leave_long s long p m r c Right ∙ turning.scan_marked s p r c h _ (mark_read s long p m r c h 1 e))
    (mark_shown s long p m r c h 1 e)
follows_the_rules s p m Turn t to (long_scan_next {r} {c} {h} long at low e) =
    turned_to s p m r c (Scan h) (Seeking (block r c (Scan (h + 1)))) _ t at
    (turning.scan_on s p r c h _ (not_marked s long p m r c h e)
    (λ last. let w = width_long_lived s long in omega arith))
    (mark_shown s long p m r c h 0 e)
follows_the_rules s p m Turn t to (long_scan_last {r} {c} {h} long at last e) =
    turned_to s p m r c (Scan h) (Seeking (block r c WriteMark)) _ t at
    (turning.scan_done s p r c h _ (not_marked s long p m r c h e) (last ∙ sym (width_long_lived s long)))
    (mark_shown s long p m r c h 0 e)
follows_the_rules s p m Turn t to (once_scan_marked {r} {c} once at e moves) =
    turned_to s p m r c (Scan 0) (move s r c Right) _ t at
    (leave_at_once s r c Right once ∙ turning.scan_marked s p r c 0 _ (mark_read_once s once p m r c 1 e))
    (mark_shown_once s once p m r c 1 e)
    ∙ moves_so s p r c Right _ _ m to moves
follows_the_rules s p m Turn t to (once_scan_clear {r} {c} once at e) =
    turned_to s p m r c (Scan 0) (Seeking (block r c WriteMark)) _ t at
    (turning.scan_done s p r c 0 _ (not_marked_once s once p m r c e) (let w = width_one_time s once in omega arith))
    (mark_shown_once s once p m r c 0 e)
follows_the_rules s p m Turn t to (long_write_mark {r} {c} long at) =
    turned_at s p m r c WriteMark t at ∙ own_written_long s long p m r c 1 (Seeking (block r c ReadX)) _
follows_the_rules s p m Turn t to (once_write_mark {r} {c} once at) =
    turned_at s p m r c WriteMark t at ∙ own_written_once s once p m r c 1 (Seeking (block r c ReadX)) _
follows_the_rules s p m Turn t to (read_x_own {r} {c} at e) =
    turned_to s p m r c ReadX (Holding (cell r c)) _ t at (turning.reads_own s p r c (x_of s m r c) e)
    (ap (read_x s r c) e)
follows_the_rules s p m Turn t to (long_read_x_other {r} {c} long at other) =
    turned_to s p m r c ReadX (Seeking (block r c (Clear Down))) _ t at
    (leave_long s long p m r c Down ∙ turning.reads_other s p r c _ other) refl
follows_the_rules s p m Turn t to (once_read_x_other {r} {c} once at other moves) =
    turned_to s p m r c ReadX (move s r c Down) _ t at
    (leave_at_once s r c Down once ∙ turning.reads_other s p r c _ other) refl
    ∙ moves_so s p r c Down _ _ m to moves
follows_the_rules s p m Turn t to (clear {r} {c} {direction} long at moves) =
    turned_at s p m r c (Clear direction) t at
    ∙ own_written_long s long p m r c 0 (move s r c direction) _
    ∙ moves_so s p r c direction _ _ (with_mark (mark_of s r c p) 0 m) to moves
follows_the_rules s p m Release t to (release_block {r} {c} long held on) =
    released s long p m r c t held
    ∙ rw (le-leb (r + c + 2) s.k on) (λ i. frees_at s p r c (wrote_mark s r c (own_long_lived s p long i) 0)
    (with_mark (own_mark_long s long p m r c i) 0 m))
follows_the_rules s p m Release t to (release_edge {r} {c} long held at) =
    released s long p m r c t held ∙ rw (lt-leb (r + c + 2) s.k (let l : s.k < r + c + 2 = omega arith in l))

-- ---- of each accepted call a line speaks

zero_or_one : (v : ℕ) → v ≤ 1 → (v ≡ 0) ⊎ (v ≡ 1)
zero_or_one v l = go (ℕ_discrete v 0)
  where
    go : Dec (v ≡ 0) → (v ≡ 0) ⊎ (v ≡ 1)
    go (yes e) = inl e
    go (no d) = inr (omega arith)

module _ (s : Settings) (p : ℕ) (m : Memory) where
  -- a task comes to the edge or to a block
  arrival : (r c turns : ℕ) (shown : Option Shown) (left : Memory) → r + c + 1 ≤ s.k
      → Arrives s p r c turns shown left (stands_at s p (arrive s r c) turns shown left)
  arrival r c turns shown left within = go (ℕ_discrete (r + c + 1) s.k)
    where
      To : State → Type 0
      To state = Arrives s p r c turns shown left (stands_at s p state turns shown left)

      go : Dec (r + c + 1 ≡ s.k) → To (arrive s r c)
      go (yes e) = subst To (arrive_edge s r c e) (at_edge e)
      go (no d) = subst To (arrive_block s r c d) (at_block (omega arith))

  -- and so does one that moves out of a block
  going : (r c : ℕ) (direction : Direction) (turns : ℕ) (shown : Option Shown) (left : Memory) → r + c + 2 ≤ s.k
      → Moves s p r c direction turns shown left (stands_at s p (move s r c direction) turns shown left)
  going r c Right turns shown left on = arrival r (c + 1) turns shown left (omega arith)
  going r c Down turns shown left on = arrival (r + 1) c turns shown left (omega arith)

  -- a line that speaks of an accepted call says its outcome
  spoken : (kind : Kind) → AcceptedIn s (event_of kind p) m → (to : Outcome) → Says s p m kind to
      → Says s p m kind (call s (event_of kind p) m)
  spoken kind t to line = subst (Says s p m kind) (sym (follows_the_rules s p m kind t to line)) line

  -- ---- a turn

  module _ (t : AcceptedIn s (turn p) m) where
    abbrev tests : Passed s (turn p) m
    tests = passed s (turn p) m t

    abbrev fair : WithinLimits s
    fair = tests.limits

    abbrev Spoken : Type 0
    Spoken = Says s p m Turn (call s (turn p) m)

    module _ (r c : ℕ) where
      scan_spoken : (h : ℕ) → SeeksAt s p m r c (Scan h) → h < width s → (s.mode ≡ 0) ⊎ (s.mode ≡ 1) → Spoken
      scan_spoken h at low (inl once) = go (zero_or_one (one_mark s m r c) (rw (mark_once s once p m r c) at mark))
        where
          first : h ≡ 0
          first = let w = width_one_time s once in omega arith

          mark : get_or m.marks (mark_index s (block_number s r c) 0) 0 ≤ 1
          mark = leb→le _ 1 (tests.fit.in_range.marks _ (mark_below s fair r c 0 at.on_block (rw first at low)))

          at_first : SeeksAt s p m r c (Scan 0)
          at_first = subst (λ (q : ℕ). SeeksAt s p m r c (Scan q)) first at

          go : (one_mark s m r c ≡ 0) ⊎ (one_mark s m r c ≡ 1) → Spoken
          go (inl e) = spoken Turn t _ (once_scan_clear once at_first e)
          go (inr e) = spoken Turn t _ (once_scan_marked once at_first e (going r c Right _ _ m at.on_block))
      scan_spoken h at low (inr long) = go
          (zero_or_one (long_mark s m r c h) (rw (mark_long s long p m r c h) at mark)) (ℕ_discrete (h + 1) s.n)
        where
          below : h < s.n
          below = rw (width_long_lived s long) at low

          mark : get_or m.marks (mark_index s (block_number s r c) h) 0 ≤ 1
          mark = leb→le _ 1 (tests.fit.in_range.marks _ (mark_below s fair r c h at.on_block low))

          go : (long_mark s m r c h ≡ 0) ⊎ (long_mark s m r c h ≡ 1) → Dec (h + 1 ≡ s.n) → Spoken
          go (inl e) (yes last) = spoken Turn t _ (long_scan_last long at last e)
          go (inl e) (no d) = spoken Turn t _ (long_scan_next long at (omega (arith, below)) e)
          go (inr e) last = spoken Turn t _ (long_scan_marked long at below e)

      read_spoken : SeeksAt s p m r c ReadX → Dec (x_of s m r c ≡ p + 1) → (s.mode ≡ 0) ⊎ (s.mode ≡ 1) → Spoken
      read_spoken at (yes e) modes = spoken Turn t _ (read_x_own at e)
      read_spoken at (no other) (inl once) =
          spoken Turn t _ (once_read_x_other once at other (going r c Down _ _ m at.on_block))
      read_spoken at (no other) (inr long) = spoken Turn t _ (long_read_x_other long at other)

      write_mark_spoken : SeeksAt s p m r c WriteMark → (s.mode ≡ 0) ⊎ (s.mode ≡ 1) → Spoken
      write_mark_spoken at (inl once) = spoken Turn t _ (once_write_mark once at)
      write_mark_spoken at (inr long) = spoken Turn t _ (long_write_mark long at)

      turn_spoken : (point : Point) → SeeksAt s p m r c point → T (point_in_range s point) → Spoken
      turn_spoken WriteX at good = spoken Turn t _ (write_x at)
      turn_spoken (Scan h) at good = scan_spoken h at (ltb→lt h (width s) good) fair.modes
      turn_spoken WriteMark at good = write_mark_spoken at fair.modes
      turn_spoken ReadX at good = read_spoken at (ℕ_discrete (x_of s m r c) (p + 1)) fair.modes
      turn_spoken (Clear direction) at good =
          spoken Turn t _ (clear (eqb→eq s.mode 1 good) at
          (going r c direction _ _ (with_mark (mark_of s r c p) 0 m) at.on_block))

  -- ---- a release

  release_spoken : AcceptedIn s (release p) m → (r c : ℕ) → s.mode ≡ 1 → state_of m p ≡ Holding (cell r c)
      → r + c + 1 ≤ s.k
      → Says s p m Release (call s (release p) m)
  release_spoken t r c long held within = go (ℕ_discrete (r + c + 1) s.k)
    where
      go : Dec (r + c + 1 ≡ s.k) → Says s p m Release (call s (release p) m)
      go (yes e) = spoken Release t _ (release_edge long held e)
      go (no d) = spoken Release t _ (release_block long held (omega arith))

  -- ---- by the record of the task

  by_record : (kind : Kind) → AcceptedIn s (event_of kind p) m → Passed s (event_of kind p) m
      → (state : State) → state_of m p ≡ state → T (state_in_range s state) → wrong_moment kind state ≡ false
      → Says s p m kind (call s (event_of kind p) m)
  by_record Ask t ok Idle is good moment = spoken Ask t _ (asks is (arrival 0 0 0 None m ok.limits.k_least))
  by_record Ask t ok (Seeking stand) is good moment = absurd (true≢false moment)
  by_record Ask t ok (Holding place) is good moment = absurd (true≢false moment)
  by_record Turn t ok Idle is good moment = absurd (true≢false moment)
  by_record Turn t ok (Seeking stand) is good moment =
      turn_spoken t stand.r stand.c stand.point (record {
        stands = is;
        on_block = on_block s stand good;
      })
      (at_point s stand good)
  by_record Turn t ok (Holding place) is good moment = absurd (true≢false moment)
  by_record Release t ok Idle is good moment = absurd (true≢false moment)
  by_record Release t ok (Seeking stand) is good moment = absurd (true≢false moment)
  by_record Release t ok (Holding place) is good moment =
      release_spoken t place.r place.c (omega (arith, eqb-false s.mode 0 ok.may.lived, mode_most s ok.limits)) is
      (on_cell s place good)

pub each_spoken_of : EachSpokenOf
each_spoken_of s p m kind t =
    let ok = passed s (event_of kind p) m t in
    by_record s p m kind t ok (state_of m p) refl (ok.fit.in_range.records p ok.may.known) ok.may.moment
