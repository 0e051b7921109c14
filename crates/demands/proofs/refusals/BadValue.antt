-- 3: the first index of a row whose value is out of range, against the lines of the table, and the first row that has
-- one.
use mathlib.Core.{Path.{◌≡◌, refl}, Bool.{Bool, true, false}}
use Prim.Native.Nat.{ℕ, ◌<◌}
use lib.Dec.{T, ltb, T_not, ltb→lt}
use Rattle.counting.{specs.Counting.first_bad, proofs.{Tested.Tested, Searching.{first_bad_first, none_bad_all}}}
use Rattle.demands.specs.Memory.{Memory}
use Rattle.machine.specs.promises.Ranges.{WithinLimits}
use Rattle.demands.specs.promises.{Rows.{OutOfRangeAt, SomeOutOfRange}, Refusing.FirstBad}
use Rattle.machine.specs.declared.{Settings.Settings, Row.Row}
use Rattle.demands.proofs.refusals.Lines.{needed_of, in_range_at, needs_line, bad_line}

module _ (s : Settings) (l : WithinLimits s) (m : Memory) where
  -- the first index of a row whose value is out of range, and whether there is one
  abbrev pub first_in : Row → ℕ
  first_in row = first_bad (in_range_at s l m row) (needed_of s row)

  abbrev pub found : Row → Bool
  found row = ltb (first_in row) (needed_of s row)

  found_is_bad : (row : Row) → T (found row) → OutOfRangeAt s m row (first_in row)
  found_is_bad row t =
      let low = ltb→lt (first_in row) (needed_of s row) t in (
        (needs_line s l row (first_in row)).0 low,
        (bad_line s l m row (first_in row)).says
            (rw ((first_bad_first (in_range_at s l m row) (needed_of s row)).fails low) tt),
      )

  good_before : (row : Row) (index : ℕ) → index < first_in row → OutOfRangeAt s m row index → ⊥
  good_before row index low bad =
      T_not (in_range_at s l m row index) ((bad_line s l m row index).shows bad.1)
      ((first_bad_first (in_range_at s l m row) (needed_of s row)).before index low)

  bad_is_found : (row : Row) → SomeOutOfRange s m row → T (found row)
  bad_is_found row (index, bad) = go (found row) refl
    where
      go : (b : Bool) → found row ≡ b → T b
      go true e = tt
      go false e =
          T_not (in_range_at s l m row index) ((bad_line s l m row index).shows bad.1)
          (none_bad_all (in_range_at s l m row) (needed_of s row) e index ((needs_line s l row index).1 bad.0))

  -- 3: a needed value of the row is out of range
  pub found_line : (row : Row) → Tested (found row) (SomeOutOfRange s m row)
  found_line row = record { says = λ t. (first_in row, found_is_bad row t); shows = bad_is_found row }

  pub first_found : (row : Row) → T (found row) → FirstBad s m row (first_in row)
  first_found row t = record { bad = found_is_bad row t; none_before = good_before row }
