-- The worst schedules as lists: task 0's turns in them are as many as the bound, and the last call is task 0's.
use mathlib.Core.{Path.{◌≡◌, refl, ap, ◌∙◌}, Logic.{◌⊎◌, inl, inr}, Bool.cond, List.{List, [], ◌∷◌, ◌++◌}}
use Prim.Native.Nat.{ℕ, zero, suc, ◌+◌, ◌-◌, ◌*◌, ◌≤◌, ◌<◌}
use native.Mathlib.{Nat.{le_antisymm, not-suc-le-zero}, Decide.dec_lt, Omega.arith}
use lib.Dec.{eqb, eqb-suc-zero}
use borrow.Author.Tests.{eq-eqb, ne_eqb}
use Rattle.machine.specs.Settings.{width, bound}
use Rattle.demands.specs.{Calls.{ask, turn}, History.turns}
use Rattle.demands.specs.promises.Light.{light_bound}
use Rattle.machine.specs.promises.Ranges.{WithinLimits}
use Rattle.machine.specs.declared.{Settings.Settings, Event.Event}
use Rattle.demands.proofs.histories.Worst.{each, worst_row, worst_rows, asks, descent, worst, worst_light}
use Rattle.demands.proofs.histories.Light.{light_enough}
use Rattle.demands.proofs.histories.Leads.{EndsWith, ends_alone, ends_append, ends_nil, written_turns}
use Rattle.demands.proofs.histories.Leads.{written_append}
use Rattle.machine.proofs.bridge.AsRules.{rules_of, bound_enough, bound_needed}
use Rattle.grid.proofs.Spent.{cost}

-- ---- task 0's turns

-- a call of another task is none of task 0
not_zero : (p a b : ℕ) → cond (eqb (suc p) 0) a b ≡ b
not_zero p a b = rw (eqb-suc-zero p)

written_own : (count t : ℕ) → written_turns 0 (turns count 0) t ≡ t + count
written_own zero t = omega arith
written_own (suc count) t = written_own count (t + 1) ∙ omega arith

written_other : (count p t : ℕ) → written_turns 0 (turns count (suc p)) t ≡ t
written_other zero p t = refl
written_other (suc count) p t = ap (written_turns 0 (turns count (suc p))) (not_zero p (t + 1) t)
    ∙ written_other count p t

written_each : (count n t : ℕ) → written_turns 0 (each (turns count) (suc n)) t ≡ t + count
written_each count zero t = written_append 0 (turns count 0) [] t ∙ written_own count t
written_each count (suc n) t =
    written_append 0 (turns count (suc n)) (each (turns count) (suc n)) t
    ∙ written_each count n _
    ∙ ap (λ (x : ℕ). x + count) (written_other count n t)

written_asks : (n t : ℕ) → written_turns 0 (asks (suc n)) t ≡ 0
written_asks zero t = refl
written_asks (suc n) t = written_asks n _

module _ (s : Settings) where
  -- each row costs task 0 a block
  written_row : (n t : ℕ) → written_turns 0 (worst_row s (suc n)) t ≡ t + (width s + 3 + s.mode)
  written_row n t =
      let scans = each (turns (suc (width s))) (suc n) in
      let reads = each (turns (s.mode + 2)) (suc n) in
      written_append 0 scans (turn (suc n) ∷ reads) t
      ∙ ap (written_turns 0 reads) (not_zero n (written_turns 0 scans t + 1) (written_turns 0 scans t))
      ∙ written_each (s.mode + 2) n _
      ∙ ap (λ (x : ℕ). x + (s.mode + 2)) (written_each (suc (width s)) n t)
      ∙ omega arith

  written_rows : (n t : ℕ) → written_turns 0 (worst_rows s n) t ≡ t + n * (width s + 3 + s.mode)
  written_rows zero t = omega arith
  written_rows (suc n) t =
      written_append 0 (worst_row s (suc n)) (worst_rows s n) t
      ∙ written_rows n _
      ∙ ap (λ (x : ℕ). x + n * (width s + 3 + s.mode)) (written_row n t)
      ∙ sum t n (width s + 3 + s.mode)
    where
      sum : (t n each : ℕ) → t + each + n * each ≡ t + suc n * each
      sum t n each = omega arith

  -- m - 1 of them and the last block, which task 0 has alone, are worth the bound of m
  light_needed : (l : WithinLimits s) (m : ℕ) → 1 ≤ m → light_bound s m ≤ cost (rules_of s l) * (m - 1) + (width s + 3)
  light_needed l m some = go l.modes
    where
      go : (s.mode ≡ 0) ⊎ (s.mode ≡ 1) → light_bound s m ≤ cost (rules_of s l) * (m - 1) + (width s + 3)
      go (inl e) = rw (eq-eqb s.mode 0 e, e) (omega arith)
      go (inr e) = rw (ne_eqb s.mode 0 (λ z. omega arith), e) (omega arith)

  descent_turns : (l : WithinLimits s) (m : ℕ) → 1 ≤ m
      → written_turns 0 (descent s m) 0 ≡ cost (rules_of s l) * (m - 1)
  descent_turns l m some =
      written_append 0 (asks m) (worst_rows s (m - 1)) 0
      ∙ ap (written_turns 0 (worst_rows s (m - 1))) (all_asks m some)
      ∙ written_rows (m - 1) 0 ∙ times (m - 1) (cost (rules_of s l))
    where
      all_asks : (m : ℕ) → 1 ≤ m → written_turns 0 (asks m) 0 ≡ 0
      all_asks zero h = absurd (not-suc-le-zero h)
      all_asks (suc m) h = written_asks m 0

      times : (n each : ℕ) → 0 + n * each ≡ each * n
      times n each = omega arith

  pub worst_turns : (l : WithinLimits s) → written_turns 0 (worst s) 0 ≡ bound s
  worst_turns l = descent_turns l s.k l.k_least ∙ le_antisymm (bound_enough s l) (bound_needed s l)

  pub worst_light_turns : (l : WithinLimits s) (m : ℕ) → 1 ≤ m → written_turns 0 (worst_light s m) 0 ≡ light_bound s m
  worst_light_turns l m some =
      written_append 0 (descent s m) (turns (suc (width s)) 0 ++ turns 2 0) 0
      ∙ ap (written_turns 0 (turns (suc (width s)) 0 ++ turns 2 0)) (descent_turns l m some)
      ∙ written_append 0 (turns (suc (width s)) 0) (turns 2 0) _
      ∙ written_own 2 _
      ∙ ap (λ (x : ℕ). x + 2) (written_own (suc (width s)) _)
      ∙ last_block (cost (rules_of s l) * (m - 1)) (width s)
      ∙ le_antisymm (light_enough s l m some) (light_needed l m some)
    where
      last_block : (before width : ℕ) → before + suc width + 2 ≡ before + (width + 3)
      last_block before width = omega arith

-- ---- the last call

turns_end : (count p : ℕ) → EndsWith (turns (suc count) p) (turn p)
turns_end zero p = ends_alone
turns_end (suc count) p = ends_append (turn p ∷ []) (turns_end count p)

each_end : (does : ℕ → List Event) {last : Event} → EndsWith (does 0) last → (n : ℕ) → EndsWith (each does (suc n)) last
each_end does e zero = ends_nil e
each_end does e (suc n) = ends_append (does (suc n)) (each_end does e n)

module _ (s : Settings) where
  row_end : (n : ℕ) → EndsWith (worst_row s (suc n)) (turn 0)
  row_end n =
      let e : s.mode + 2 ≡ suc (s.mode + 1) = omega arith in
      ends_append (each (turns (suc (width s))) (suc n))
      (ends_append (turn (suc n) ∷ []) (each_end (turns (s.mode + 2)) (rw e (turns_end (s.mode + 1) 0)) n))

  rows_end : (n : ℕ) → EndsWith (worst_rows s (suc n)) (turn 0)
  rows_end zero = ends_nil (row_end 0)
  rows_end (suc n) = ends_append (worst_row s (suc (suc n))) (rows_end n)

  pub worst_light_end : (m : ℕ) → EndsWith (worst_light s m) (turn 0)
  worst_light_end m = ends_append (descent s m) (ends_append (turns (suc (width s)) 0) (turns_end 1 0))

  pub record LastOwn : Type 0 where
    pub last : Event
    pub ends : EndsWith (worst s) last
    pub its : last.task.0 ≡ 0
    pub late : 1 < s.k → last ≡ turn 0

  pub worst_last : WithinLimits s → LastOwn
  worst_last l = go (dec_lt 1 s.k)
    where
      go : Dec (1 < s.k) → LastOwn
      go (yes h) =
          let e : s.k - 1 ≡ suc (s.k - 2) = omega arith in
          let ends = ends_append (asks s.k) (rows_end (s.k - 2)) in
          record { last = turn 0; ends = rw e ends; its = refl; late = λ _. refl }
      go (no h) =
          let one : s.k ≡ 1 = omega (arith, l.k_least) in
          record { last = ask 0; ends = rw one ends_alone; its = refl; late = λ g. absurd (h g) }
