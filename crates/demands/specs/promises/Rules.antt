-- 01, "Rules of the grid", line by line and mode by mode, as what an accepted call answers and leaves; and with each
-- line the access that 02, P6 lets the answer show. The definitions say both modes at once. Theorems:
-- `follows_the_rules`, what a line says of an accepted call is its outcome; `each_spoken_of`, the lines leave no
-- accepted call out.
use Rattle.std.specs.Prelude.{◌≡◌, Option, None, Ok, ℕ, ◌+◌, ◌*◌, ◌≤◌, ◌<◌, get_or}
use Rattle.machine.specs.{Places.{block_number, block, cell}, Records.idle, Turn.show}
use Rattle.demands.specs.Memory.{Memory, state_of, turns_in, with_record, with_x, with_mark}
use Rattle.demands.specs.Calls.{Outcome, event_of, name_at, standing, call}
use Rattle.machine.specs.declared.{Settings.Settings, Direction.{Direction, TheVariants.{Right, Down}}}
use Rattle.machine.specs.declared.Point.{Point, TheVariants.{WriteX, Scan, WriteMark, ReadX, Clear}}
use Rattle.machine.specs.declared.State.{State, TheVariants.{Idle, Seeking, Holding}}
use Rattle.machine.specs.declared.{Kind.{Kind, TheVariants.{Ask, Turn, Release}}, Told.Told}
use Rattle.machine.specs.declared.{Register.TheVariants.{X, Mark}, Letter.TheVariants.{R, W}}
use Rattle.machine.specs.declared.Shown.{Shown}
use Rattle.demands.specs.promises.OneAccess.{AcceptedIn}

-- ---- what the lines speak of

-- task p stands so, has used so many turns, and is told so, "seeks" or "holds" with the name; this access is shown, and
-- the registers are those of m
abbrev pub stands_at : Settings → ℕ → State → ℕ → Option Shown → Memory → Outcome
stands_at s p state turns shown m = record {
  answer = Ok (record { told = standing s state; shown = shown });
  memory = with_record p (record { state = state; turns = turns }) m;
}

-- 02, P7: one turn more than task p has used
abbrev pub one_more : Memory → ℕ → ℕ
one_more m p = turns_in m p + 1

-- task p has freed the name at (r, c) and is idle; this access is shown, and the registers are those of m
abbrev pub frees_at : Settings → ℕ → ℕ → ℕ → Option Shown → Memory → Outcome
frees_at s p r c shown m = record {
  answer = Ok (record { told = Told.Freed (name_at s (cell r c)); shown = shown });
  memory = with_record p idle m;
}

-- task p seeks in the block at (r, c), at this point
pub record SeeksAt (s : Settings) (p : ℕ) (m : Memory) (r c : ℕ) (point : Point) : Type 0 where
  pub stands : state_of m p ≡ Seeking (block r c point)
  pub on_block : r + c + 2 ≤ s.k

-- the X number of the block at (r, c)
abbrev pub x_of : Settings → Memory → ℕ → ℕ → ℕ
x_of s m r c = get_or m.xs (block_number s r c) 0

-- mode 1: where mark q of the block at (r, c) stands, and what it is
abbrev pub mark_of : Settings → ℕ → ℕ → ℕ → ℕ
mark_of s r c q = block_number s r c * s.n + q

abbrev pub long_mark : Settings → Memory → ℕ → ℕ → ℕ → ℕ
long_mark s m r c q = get_or m.marks (mark_of s r c q) 0

-- mode 0: the block's one mark
abbrev pub one_mark : Settings → Memory → ℕ → ℕ → ℕ
one_mark s m r c = get_or m.marks (block_number s r c) 0

-- the X number of the block at (r, c), and the mark at a place among its marks, read or written
abbrev pub read_x : Settings → ℕ → ℕ → ℕ → Option Shown
read_x s r c v = show R (X (block_number s r c)) v

abbrev pub wrote_x : Settings → ℕ → ℕ → ℕ → Option Shown
wrote_x s r c v = show W (X (block_number s r c)) v

abbrev pub read_mark : Settings → ℕ → ℕ → ℕ → ℕ → Option Shown
read_mark s r c place v = show R (Mark (block_number s r c) place) v

abbrev pub wrote_mark : Settings → ℕ → ℕ → ℕ → ℕ → Option Shown
wrote_mark s r c place v = show W (Mark (block_number s r c) place) v

-- ---- the lines

-- "If then r+c = k-1 the task holds that place in the same turn; else it stands at write X."
pub data Arrives (s : Settings) (p r c turns : ℕ) (shown : Option Shown) (m : Memory) : Outcome → Type 0 where
  at_edge : r + c + 1 ≡ s.k → Arrives s p r c turns shown m (stands_at s p (Holding (cell r c)) turns shown m)
  at_block : r + c + 2 ≤ s.k → Arrives s p r c turns shown m (stands_at s p (Seeking (block r c WriteX)) turns shown m)

-- "A move adds 1 to c (right) or r (down)."
abbrev pub Moves : Settings → ℕ → ℕ → ℕ → Direction → ℕ → Option Shown → Memory → Outcome → Type 0
Moves s p r c Right turns shown m to = Arrives s p r (c + 1) turns shown m to
Moves s p r c Down turns shown m to = Arrives s p (r + 1) c turns shown m to

-- what a line, under its conditions, says that a call of task p answers and leaves
pub data Says (s : Settings) (p : ℕ) (m : Memory) : Kind → Outcome → Type 0 where
  -- "Ask, for an idle task: it seeks at (0, 0), point write X. With k = 1 it holds (0, 0), name 0, at once. No register
  -- is touched."
  asks : {to : Outcome} → state_of m p ≡ Idle → Arrives s p 0 0 0 None m to → Says s p m Ask to
  -- "write X: the block's X becomes p+1; scan at 0."
  write_x : {r c : ℕ} → SeeksAt s p m r c WriteX
      → Says s p m Turn
      (stands_at s p (Seeking (block r c (Scan 0))) (one_more m p) (wrote_x s r c (p + 1))
      (with_x (block_number s r c) (p + 1) m))
  -- "scan at h, mode 1: read mark h of the block. 1: clear, going right. 0: scan at h+1, or write mark if h+1 = N. The
  -- task's own mark is read too."
  long_scan_marked : {r c h : ℕ} → s.mode ≡ 1 → SeeksAt s p m r c (Scan h) → h < s.n → long_mark s m r c h ≡ 1
      → Says s p m Turn (stands_at s p (Seeking (block r c (Clear Right))) (one_more m p) (read_mark s r c h 1) m)
  long_scan_next : {r c h : ℕ} → s.mode ≡ 1 → SeeksAt s p m r c (Scan h) → h + 1 < s.n → long_mark s m r c h ≡ 0
      → Says s p m Turn (stands_at s p (Seeking (block r c (Scan (h + 1)))) (one_more m p) (read_mark s r c h 0) m)
  long_scan_last : {r c h : ℕ} → s.mode ≡ 1 → SeeksAt s p m r c (Scan h) → h + 1 ≡ s.n → long_mark s m r c h ≡ 0
      → Says s p m Turn (stands_at s p (Seeking (block r c WriteMark)) (one_more m p) (read_mark s r c h 0) m)
  -- "scan, mode 0: read the block's one mark. 1: move right. 0: write mark."
  once_scan_marked : {r c : ℕ} {to : Outcome} → s.mode ≡ 0 → SeeksAt s p m r c (Scan 0) → one_mark s m r c ≡ 1
      → Moves s p r c Right (one_more m p) (read_mark s r c 0 1) m to
      → Says s p m Turn to
  once_scan_clear : {r c : ℕ} → s.mode ≡ 0 → SeeksAt s p m r c (Scan 0) → one_mark s m r c ≡ 0
      → Says s p m Turn (stands_at s p (Seeking (block r c WriteMark)) (one_more m p) (read_mark s r c 0 0) m)
  -- "write mark: own mark (mode 1) or the one mark (mode 0) becomes 1; read X."
  long_write_mark : {r c : ℕ} → s.mode ≡ 1 → SeeksAt s p m r c WriteMark
      → Says s p m Turn
      (stands_at s p (Seeking (block r c ReadX)) (one_more m p) (wrote_mark s r c p 1)
      (with_mark (mark_of s r c p) 1 m))
  once_write_mark : {r c : ℕ} → s.mode ≡ 0 → SeeksAt s p m r c WriteMark
      → Says s p m Turn
      (stands_at s p (Seeking (block r c ReadX)) (one_more m p) (wrote_mark s r c 0 1)
      (with_mark (block_number s r c) 1 m))
  -- "read X: if it is p+1, hold (r, c). Else mode 1: clear, going down; mode 0: move down."
  read_x_own : {r c : ℕ} → SeeksAt s p m r c ReadX → x_of s m r c ≡ p + 1
      → Says s p m Turn (stands_at s p (Holding (cell r c)) (one_more m p) (read_x s r c (p + 1)) m)
  long_read_x_other : {r c : ℕ} → s.mode ≡ 1 → SeeksAt s p m r c ReadX → (x_of s m r c ≡ p + 1 → ⊥)
      → Says s p m Turn
      (stands_at s p (Seeking (block r c (Clear Down))) (one_more m p) (read_x s r c (x_of s m r c)) m)
  once_read_x_other : {r c : ℕ} {to : Outcome} → s.mode ≡ 0 → SeeksAt s p m r c ReadX → (x_of s m r c ≡ p + 1 → ⊥)
      → Moves s p r c Down (one_more m p) (read_x s r c (x_of s m r c)) m to
      → Says s p m Turn to
  -- "clear: own mark becomes 0, also when going right; then move."
  clear : {r c : ℕ} {direction : Direction} {to : Outcome} → s.mode ≡ 1 → SeeksAt s p m r c (Clear direction)
      → Moves s p r c direction (one_more m p) (wrote_mark s r c p 0) (with_mark (mark_of s r c p) 0 m) to
      → Says s p m Turn to
  -- "Release, mode 1, for a holding task: if r+c ≤ k-2 its own mark in that block becomes 0; otherwise no access. It is
  -- idle. X is never reset."
  release_block : {r c : ℕ} → s.mode ≡ 1 → state_of m p ≡ Holding (cell r c) → r + c + 2 ≤ s.k
      → Says s p m Release (frees_at s p r c (wrote_mark s r c p 0) (with_mark (mark_of s r c p) 0 m))
  release_edge : {r c : ℕ} → s.mode ≡ 1 → state_of m p ≡ Holding (cell r c) → r + c + 1 ≡ s.k
      → Says s p m Release (frees_at s p r c None m)

-- ---- the statements

-- where the call is accepted, what a line says is its outcome
abbrev pub EachFollowsTheRules : Type 0
EachFollowsTheRules =
    (s : Settings) (p : ℕ) (m : Memory) (kind : Kind) → AcceptedIn s (event_of kind p) m
    → (outcome : Outcome) → Says s p m kind outcome → call s (event_of kind p) m ≡ outcome

-- and the lines are all: of each accepted call some line speaks
abbrev pub EachSpokenOf : Type 0
EachSpokenOf =
    (s : Settings) (p : ℕ) (m : Memory) (kind : Kind) → AcceptedIn s (event_of kind p) m
    → Says s p m kind (call s (event_of kind p) m)
