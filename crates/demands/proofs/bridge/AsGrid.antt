-- The machine's memory as a grid, and what one register written changes there: the only file of the proof that knows
-- the numbers of the blocks. An X or a mark off the blocks counts as 0, so that 'nothing else changed' is said of every
-- row and column.
use mathlib.Core.{Path.{◌≡◌, refl, sym, ◌∙◌}, Bool.{true≢false, Bool, true, false, ◌&&◌, cond}, List.List}
use Prim.Native.Nat.{ℕ, ◌+◌, ◌*◌, ◌≤◌, ◌<◌}
use native.Mathlib.{Nat.{le_trans, mul-le-mul_right}, Decide.dec_lt, Omega.arith}
use lib.{Dec.{leb, ltb}, ListN.{length, get_or, set}, Seq.{get_or-set_same, get_or-set_other}}
use borrow.Author.Tests.{leb-true, ltb-true, le-leb, lt-ltb}
use Rattle.machine.specs.{Settings.width, Places.{blocks, block_number}}
use Rattle.demands.specs.Memory.{Memory, marks_needed, mark_index, state_of}
use Rattle.machine.specs.declared.{Settings.Settings, Direction.{Direction, TheVariants.{Right, Down}}}
use Rattle.machine.specs.declared.Point.{Point, TheVariants.{WriteX, Scan, WriteMark, ReadX, Clear}}
use Rattle.machine.specs.declared.State.{State, TheVariants.{Idle, Seeking, Holding}}
use Rattle.machine.specs.promises.Ranges.{WithinLimits}
use Rattle.demands.proofs.calls.Cells.{earlier_block}
use Rattle.machine.proofs.bridge.Numbering.{block_numbering}
use Rattle.grid.proofs.Stands.{Way, right, down, Stage, fresh, mid, going, holding, Stand, idle, at, Grid}
use Rattle.grid.proofs.Moves.{PutX, PutMark}

-- ---- the memory as a grid

abbrev pub way_of : Direction → Way
way_of Right = right
way_of Down = down

abbrev pub stage_of : ℕ → Point → Stage
stage_of W WriteX = fresh
stage_of W (Scan h) = mid h
stage_of W WriteMark = mid W
stage_of W ReadX = mid (W + 1)
stage_of W (Clear d) = going (way_of d)

abbrev pub stand_of : ℕ → State → Stand
stand_of W Idle = idle
stand_of W (Seeking stand) = at stand.r stand.c (stage_of W stand.point)
stand_of W (Holding place) = at place.r place.c holding

abbrev pub on_block : Settings → ℕ → ℕ → Bool
on_block s r c = leb (r + c + 2) s.k

abbrev pub x_at : Settings → List ℕ → ℕ → ℕ → ℕ
x_at s xs r c = cond (on_block s r c) (get_or xs (block_number s r c) 0) 0

abbrev pub mark_at : Settings → List ℕ → ℕ → ℕ → ℕ → ℕ
mark_at s marks r c place = cond (on_block s r c && ltb place (width s))
    (get_or marks (mark_index s (block_number s r c) place) 0) 0

abbrev pub grid_of : Settings → Memory → Grid
grid_of s m = record { stand = λ p. stand_of (width s) (state_of m p); x = x_at s m.xs; mark = mark_at s m.marks }

-- on a block these are the registers
pub x_on_block : (s : Settings) (xs : List ℕ) (r c : ℕ) → r + c + 2 ≤ s.k
    → x_at s xs r c ≡ get_or xs (block_number s r c) 0
x_on_block s xs r c b = rw (le-leb (r + c + 2) s.k b)

pub mark_on_block : (s : Settings) (marks : List ℕ) (r c place : ℕ) → r + c + 2 ≤ s.k → place < width s
    → mark_at s marks r c place ≡ get_or marks (mark_index s (block_number s r c) place) 0
mark_on_block s marks r c place b h = rw (le-leb (r + c + 2) s.k b, lt-ltb place (width s) h)

-- ---- block after block

index_apart : (W a i b j : ℕ) → i < W → j < W → a * W + i ≡ b * W + j → (a ≡ b) × (i ≡ j)
index_apart W a i b j h l e = go (dec_lt a b) (dec_lt b a)
  where
    go : Dec (a < b) → Dec (b < a) → (a ≡ b) × (i ≡ j)
    go (yes f) g = absurd (omega (arith, mul-le-mul_right W f))
    go (no f) (yes g) = absurd (omega (arith, mul-le-mul_right W g))
    go (no f) (no g) =
        let same : a ≡ b = omega arith in
        let z : b * W + i ≡ b * W + j = rw same at e in
        (same, omega arith)

-- ---- one register written

cond_same : {A : Type 0} (b : Bool) (x y d : A) → (b ≡ true → x ≡ y) → cond b x d ≡ cond b y d
cond_same true x y d h = h refl
cond_same false x y d h = refl

and_true : (a b : Bool) → a && b ≡ true → (a ≡ true) × (b ≡ true)
and_true true b e = (refl, e)
and_true false b e = absurd (true≢false (sym e))

module _ (s : Settings) (l : WithinLimits s) where
  pub block_below : (r c : ℕ) → r + c + 2 ≤ s.k → block_number s r c < blocks s
  block_below r c b = (block_numbering s l.k_least).below r c (omega arith)

  block_apart : (r c i j : ℕ) → r + c + 2 ≤ s.k → i + j + 2 ≤ s.k → block_number s r c ≡ block_number s i j
      → (r ≡ i) × (c ≡ j)
  block_apart r c i j b h = (block_numbering s l.k_least).apart r c i j (omega arith) (omega arith)

  pub mark_below : (r c place : ℕ) → r + c + 2 ≤ s.k → place < width s
      → mark_index s (block_number s r c) place < marks_needed s
  mark_below r c place b h = earlier_block (width s) (block_number s r c) place (blocks s) (block_below r c b) h

  pub x_put : (m new : Memory) (i j value : ℕ) → i + j + 2 ≤ s.k → blocks s ≤ length m.xs
      → new.xs ≡ set m.xs (block_number s i j) value
      → PutX (grid_of s m) (grid_of s new) i j value
  x_put m new i j value b long e = record {
    here = rw e (x_on_block s (set m.xs (block_number s i j) value) i j b
        ∙ get_or-set_same m.xs (block_number s i j) value 0 (le_trans (block_below i j b) long));
    there = λ r c d. rw e (cond_same (on_block s r c) _ _ 0 (λ on.
        get_or-set_other m.xs (block_number s i j) (block_number s r c) value 0 (λ f.
        let z = block_apart r c i j (leb-true (r + c + 2) s.k on) b f in
        d z.0 z.1)));
  }

  pub mark_put : (m new : Memory) (i j place value : ℕ) → i + j + 2 ≤ s.k → place < width s
      → marks_needed s ≤ length m.marks
      → new.marks ≡ set m.marks (mark_index s (block_number s i j) place) value
      → PutMark (grid_of s m) (grid_of s new) i j place value
  mark_put m new i j place value b h long e = record {
    here = rw e (mark_on_block s (set m.marks (mark_index s (block_number s i j) place) value) i j place b h
        ∙ get_or-set_same m.marks (mark_index s (block_number s i j) place) value 0
        (le_trans (mark_below i j place b h) long));
    there = λ r c o d. rw e (cond_same (on_block s r c && ltb o (width s)) _ _ 0 (λ on.
        let a = and_true (on_block s r c) (ltb o (width s)) on in
        get_or-set_other m.marks (mark_index s (block_number s i j) place) (mark_index s (block_number s r c) o) value 0
        (λ f.
        let y = index_apart (width s) (block_number s r c) o (block_number s i j) place
        (ltb-true o (width s) a.1) h f in
        let z = block_apart r c i j (leb-true (r + c + 2) s.k a.0) b y.0 in
        d z.0 z.1 y.1)));
  }

  -- a row of marks that are all 0
  pub all_unmarked : (marks : List ℕ) → ((i : ℕ) → i < marks_needed s → get_or marks i 0 ≡ 0) → (r c place : ℕ)
      → mark_at s marks r c place ≡ 0
  all_unmarked marks zeros r c place = go (on_block s r c && ltb place (width s)) refl
    where
      go : (on : Bool) → on_block s r c && ltb place (width s) ≡ on
          → cond on (get_or marks (mark_index s (block_number s r c) place) 0) 0 ≡ 0
      go true e =
          let a = and_true (on_block s r c) (ltb place (width s)) e in
          zeros (mark_index s (block_number s r c) place)
          (mark_below r c place (leb-true (r + c + 2) s.k a.0) (ltb-true place (width s) a.1))
      go false e = refl
