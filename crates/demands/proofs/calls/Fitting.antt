-- J0: after every call of a history the rows are long enough and every needed value is in range, so tests 1 to 3 pass
-- for good. Every accepted call could break it, and none does: it writes one register and one record, each with a value
-- in range. Of the turns in that record a call by itself does not say so; a history does (`bridge/Spending`).
use mathlib.Core.{Path.{◌≡◌, subst}, Bool.{Bool, false}, List.{List, [], ◌∷◌}}
use Prim.Native.Nat.{ℕ, zero, suc, ◌+◌, ◌≤◌, ◌<◌}
use Rattle.std.specs.Prelude.{Option, None, Some}
use native.Mathlib.{Decide.{dec_le, ℕ_discrete}, Omega.arith}
use lib.{Dec.{T, leb, ltb→lt, le→leb, lt→ltb, lit≤}, ListN.{get_or, set, length-set}}
use borrow.Author.Tests.{eq-eqb}
use Rattle.machine.specs.{Settings.width, Records.{idle, point_in_range, state_in_range, turns_in_range}}
use Rattle.machine.specs.Grid.{touch, point_access, arrive, move, leave, point_turned}
use Rattle.machine.specs.Turn.{stand_access, access, turns_after}
use Rattle.machine.specs.Places.{block}
use Rattle.demands.specs.Memory.{Memory, mark_index, state_of, turns_in, with_record, with_x, with_mark, put}
use Rattle.demands.specs.Memory.{x_in_range}
use Rattle.demands.specs.{Memory.mark_in_range, Touching.{value, store}, Refusals.wrong_moment}
use Rattle.demands.specs.Calls.{next_state, record_after, accept}
use Rattle.machine.specs.declared.{Settings.Settings, Direction.{Direction, TheVariants.{Right, Down}}}
use Rattle.machine.specs.declared.Point.{Point, TheVariants.{WriteX, Scan, WriteMark, ReadX, Clear}}
use Rattle.machine.specs.declared.{State.{State, TheVariants.{Idle, Seeking, Holding}}, Record.Record}
use Rattle.machine.specs.declared.{Register.{Register, TheVariants.{X, Mark}}, Op.{Op, TheVariants.{Read, Write}}}
use Rattle.machine.specs.declared.Access.{Access}
use Rattle.machine.specs.declared.Kind.{Kind, TheVariants.{Ask, Turn, Release}}
use Rattle.machine.specs.promises.Ranges.{WithinLimits}
use Rattle.demands.specs.promises.OneAccess.{Takes, Writable}
use Rattle.demands.proofs.refusals.Passed.{Fit}
use Rattle.machine.proofs.refusals.Limits.{mode_most, width_least}
use Rattle.machine.proofs.bridge.Turning.{scan_marked, scan_done, scan_on, reads_own, reads_other}
use Rattle.machine.proofs.bridge.Arriving.{arrive_edge, arrive_block, leave_at_once, leave_clearing, release_clears}
use Rattle.machine.proofs.{bridge.Arriving.release_nothing, refusals.Ranges.{on_block, at_point}}
use Rattle.counting.proofs.Bools.{and_in}

-- ---- what a call writes is in range

module _ (s : Settings) (l : WithinLimits s) where
  block_in_range : (r c : ℕ) (point : Point) → r + c + 2 ≤ s.k → T (point_in_range s point)
      → T (state_in_range s (Seeking (block r c point)))
  block_in_range r c point b t = and_in (leb (r + c + 2) s.k) (point_in_range s point) (le→leb (r + c + 2) s.k b) t

  pub arrive_in_range : (r c : ℕ) → r + c + 1 ≤ s.k → T (state_in_range s (arrive s r c))
  arrive_in_range r c b = go (ℕ_discrete (r + c + 1) s.k)
    where
      go : Dec (r + c + 1 ≡ s.k) → T (state_in_range s (arrive s r c))
      go (yes e) = subst (λ (to : State). T (state_in_range s to)) (arrive_edge s r c e) (le→leb (r + c + 1) s.k b)
      go (no d) = subst (λ (to : State). T (state_in_range s to)) (arrive_block s r c d)
          (block_in_range r c WriteX (omega arith) tt)

  move_in_range : (r c : ℕ) (d : Direction) → r + c + 2 ≤ s.k → T (state_in_range s (move s r c d))
  move_in_range r c Right b = arrive_in_range r (c + 1) (omega arith)
  move_in_range r c Down b = arrive_in_range (r + 1) c (omega arith)

  leave_in_range : (r c : ℕ) (d : Direction) → r + c + 2 ≤ s.k → T (state_in_range s (leave s r c d))
  leave_in_range r c d b = go (ℕ_discrete s.mode 0)
    where
      go : Dec (s.mode ≡ 0) → T (state_in_range s (leave s r c d))
      go (yes e) = subst (λ (to : State). T (state_in_range s to)) (leave_at_once s r c d e) (move_in_range r c d b)
      go (no n) =
          subst (λ (to : State). T (state_in_range s to)) (leave_clearing s r c d n)
          (block_in_range r c (Clear d) b (rw (eq-eqb s.mode 1 (omega (arith, mode_most s l))) tt))

  turned_in_range : (p v r c : ℕ) (point : Point) → r + c + 2 ≤ s.k → T (point_in_range s point)
      → T (state_in_range s (point_turned s p r c point v))
  turned_in_range p v r c WriteX b t = block_in_range r c (Scan 0) b (lt→ltb 0 (width s) (width_least s l))
  turned_in_range p v r c (Scan h) b t = go (ℕ_discrete v 1) (ℕ_discrete (h + 1) (width s))
    where
      go : Dec (v ≡ 1) → Dec (h + 1 ≡ width s) → T (state_in_range s (point_turned s p r c (Scan h) v))
      go (yes met) last = subst (λ (to : State). T (state_in_range s to)) (scan_marked s p r c h v met)
          (leave_in_range r c Right b)
      go (no free) (yes e) = subst (λ (to : State). T (state_in_range s to)) (scan_done s p r c h v free e)
          (block_in_range r c WriteMark b tt)
      go (no free) (no d) =
          let low = ltb→lt h (width s) t in
          subst (λ (to : State). T (state_in_range s to)) (scan_on s p r c h v free d)
          (block_in_range r c (Scan (h + 1)) b (lt→ltb (h + 1) (width s) (omega arith)))
  turned_in_range p v r c WriteMark b t = block_in_range r c ReadX b tt
  turned_in_range p v r c ReadX b t = go (ℕ_discrete v (p + 1))
    where
      go : Dec (v ≡ p + 1) → T (state_in_range s (point_turned s p r c ReadX v))
      go (yes e) = subst (λ (to : State). T (state_in_range s to)) (reads_own s p r c v e)
          (le→leb (r + c + 1) s.k (omega arith))
      go (no d) = subst (λ (to : State). T (state_in_range s to)) (reads_other s p r c v d) (leave_in_range r c Down b)
  turned_in_range p v r c (Clear d) b t = move_in_range r c d b

  pub next_in_range : (kind : Kind) (p : ℕ) (state : State) (m : Memory) → wrong_moment kind state ≡ false
      → T (state_in_range s state)
      → T (state_in_range s (next_state s kind p state m))
  next_in_range Ask p state m e t = arrive_in_range 0 0 l.k_least
  next_in_range Turn p Idle m e t = t
  next_in_range Turn p (Seeking stand) m e t =
      turned_in_range p (value s (stand_access s p stand) m) stand.r stand.c stand.point (on_block s stand t)
      (at_point s stand t)
  next_in_range Turn p (Holding place) m e t = t
  next_in_range Release p state m e t = tt

  point_writes : (p r c : ℕ) (point : Point) → p < s.n → Writable s (point_access s p r c point)
  point_writes p r c WriteX h = let low : p + 1 ≤ s.n = omega arith in low
  point_writes p r c (Scan i) h = tt
  point_writes p r c WriteMark h = lit≤ tt
  point_writes p r c ReadX h = tt
  point_writes p r c (Clear d) h = lit≤ tt

  pub access_writes : (kind : Kind) (p : ℕ) (state : State) → p < s.n → Writable s (access s kind p state)
  access_writes Ask p state h = tt
  access_writes Turn p Idle h = tt
  access_writes Turn p (Seeking stand) h = point_writes p stand.r stand.c stand.point h
  access_writes Turn p (Holding place) h = tt
  access_writes Release p Idle h = tt
  access_writes Release p (Seeking stand) h = tt
  access_writes Release p (Holding place) h = go (dec_le (place.r + place.c + 2) s.k)
    where
      go : Dec (place.r + place.c + 2 ≤ s.k) → Writable s (access s Release p (Holding place))
      go (yes b) = subst (Writable s) (release_clears s place.r place.c p b) (lit≤ tt)
      go (no b) = subst (Writable s) (release_nothing s place.r place.c p (omega arith)) tt

-- ---- and so is the memory that it leaves

set_good : {A : Type 0} (good : A → Bool) (l : List A) (i j : ℕ) (v d : A) → T (good v) → T (good (get_or l j d))
    → T (good (get_or (set l i v) j d))
set_good good [] i j v d t h = h
set_good good (x ∷ l) zero zero v d t h = t
set_good good (x ∷ l) zero (suc j) v d t h = h
set_good good (x ∷ l) (suc i) zero v d t h = h
set_good good (x ∷ l) (suc i) (suc j) v d t h = set_good good l i j v d t h

module _ (s : Settings) (m : Memory) (h : Fit s m) where
  record_fits : (p : ℕ) (new : Record) → T (state_in_range s new.state) → T (turns_in_range s new.state new.turns)
      → Fit s (with_record p new m)
  record_fits p new t u = record {
    long = record {
      records = rw (length-set m.records p new) h.long.records;
      xs = h.long.xs;
      marks = h.long.marks;
    };
    in_range = record {
      records = λ q l. set_good (λ (r : Record). state_in_range s r.state) m.records p q new idle t
          (h.in_range.records q l);
      turns = λ q l. set_good (λ (r : Record). turns_in_range s r.state r.turns) m.records p q new idle u
          (h.in_range.turns q l);
      xs = h.in_range.xs;
      marks = h.in_range.marks;
    };
  }

  x_fits : (b v : ℕ) → T (x_in_range s v) → Fit s (with_x b v m)
  x_fits b v t = record {
    long = record {
      records = h.long.records;
      xs = rw (length-set m.xs b v) h.long.xs;
      marks = h.long.marks;
    };
    in_range = record {
      records = h.in_range.records;
      turns = h.in_range.turns;
      xs = λ i l. set_good (x_in_range s) m.xs b i v 0 t (h.in_range.xs i l);
      marks = h.in_range.marks;
    };
  }

  mark_fits : (index v : ℕ) → T (mark_in_range v) → Fit s (with_mark index v m)
  mark_fits index v t = record {
    long = record {
      records = h.long.records;
      xs = h.long.xs;
      marks = rw (length-set m.marks index v) h.long.marks;
    };
    in_range = record {
      records = h.in_range.records;
      turns = h.in_range.turns;
      xs = h.in_range.xs;
      marks = λ i l. set_good mark_in_range m.marks index i v 0 t (h.in_range.marks i l);
    };
  }

  put_fits : (register : Register) (v : ℕ) → Takes s register v → Fit s (put s register v m)
  put_fits (X block) v w = x_fits block v (le→leb v s.n w)
  put_fits (Mark block place) v w = mark_fits (mark_index s block place) v (le→leb v 1 w)

  touch_fits : (register : Register) (op : Op) → Writable s (touch register op) → Fit s (store s (touch register op) m)
  touch_fits register Read w = h
  touch_fits register (Write v) w = put_fits register v w

  store_fits : (access : Option Access) → Writable s access → Fit s (store s access m)
  store_fits None w = h
  store_fits (Some access) w = touch_fits access.register access.op w

pub accept_fits : (s : Settings) → WithinLimits s → (kind : Kind) (p : ℕ) (m : Memory) → Fit s m → p < s.n
    → wrong_moment kind (state_of m p) ≡ false
    → T (turns_in_range s (next_state s kind p (state_of m p) m) (turns_after kind (state_of m p) (turns_in m p)))
    → Fit s (accept s kind p (state_of m p) m).memory
accept_fits s fair kind p m h l e few =
    record_fits s (store s (access s kind p (state_of m p)) m)
    (store_fits s m h (access s kind p (state_of m p)) (access_writes s fair kind p (state_of m p) l))
    p (record_after s kind p (state_of m p) m)
    (next_in_range s fair kind p (state_of m p) m e (h.in_range.records p l)) few
