-- 01, "Rules of the grid", over Figures 4 and 5 of source 001: which register a task touches where it stands, and where
-- it stands then. Statement numbers in brackets: [4.n] of Figure 4, mode 0; [5.n] of Figure 5, mode 1.
use Rattle.std.specs.Prelude.{Option, None, Some, cond, ℕ, ◌+◌, eqb, leb}
use Rattle.machine.specs.{Settings.{width, own}, Places.{block_number, block, cell}}
use Rattle.machine.specs.declared.{Settings.Settings, Direction.{Direction, TheVariants.{Right, Down}}}
use Rattle.machine.specs.declared.Point.{Point, TheVariants.{WriteX, Scan, WriteMark, ReadX, Clear}}
use Rattle.machine.specs.declared.State.{State, TheVariants.{Seeking, Holding}}
use Rattle.machine.specs.declared.{Register.{Register, TheVariants.{X, Mark}}, Op.{Op, TheVariants.{Read, Write}}}
use Rattle.machine.specs.declared.Access.{Access}

-- ---- which register a task touches

-- a register that is touched, and what is done with it
abbrev pub touch : Register → Op → Option Access
touch register op = Some (record { register = register; op = op })

-- the access at a point of the block at (r, c), by task p
abbrev pub point_access : Settings → ℕ → ℕ → ℕ → Point → Option Access
point_access s p r c WriteX = touch (X (block_number s r c)) (Write (p + 1))  -- [4.0] [5.2]
point_access s p r c (Scan h) = touch (Mark (block_number s r c) h) Read  -- [4.1] [5.3]
point_access s p r c WriteMark = touch (Mark (block_number s r c) (own s p)) (Write 1)  -- [4.2] [5.4]
point_access s p r c ReadX = touch (X (block_number s r c)) Read  -- [4.3] [5.5]
point_access s p r c (Clear direction) = touch (Mark (block_number s r c) (own s p)) (Write 0)  -- [5.6]

-- a task that gives up its place clears its own mark of a block, and touches nothing on the edge [5.8]
abbrev pub cell_access : Settings → ℕ → ℕ → ℕ → Option Access
cell_access s p r c =
    cond (leb (r + c + 2) s.k) (touch (Mark (block_number s r c) (own s p)) (Write 0)) None

-- ---- where it stands then

-- a task that comes to a place holds it on the edge, r+c = k-1, and stands at write X on a block
abbrev pub arrive : Settings → ℕ → ℕ → State
arrive s r c = cond (eqb (r + c + 1) s.k) (Holding (cell r c)) (Seeking (block r c WriteX))

-- right adds 1 to c, down to r
abbrev pub move : Settings → ℕ → ℕ → Direction → State
move s r c Right = arrive s r (c + 1)
move s r c Down = arrive s (r + 1) c

-- a task that must move does so at once one-time, and first clears its mark long-lived
abbrev pub leave : Settings → ℕ → ℕ → Direction → State
leave s r c direction = cond (eqb s.mode 0) (move s r c direction) (Seeking (block r c (Clear direction)))

-- the turn of task p at a point of the block at (r, c), where v is the value read
abbrev pub point_turned : Settings → ℕ → ℕ → ℕ → Point → ℕ → State
point_turned s p r c WriteX v = Seeking (block r c (Scan 0))
point_turned s p r c (Scan h) v =
    cond (eqb v 1) (leave s r c Right)
    (cond (eqb (h + 1) (width s)) (Seeking (block r c WriteMark)) (Seeking (block r c (Scan (h + 1)))))
point_turned s p r c WriteMark v = Seeking (block r c ReadX)
point_turned s p r c ReadX v = cond (eqb v (p + 1)) (Holding (cell r c)) (leave s r c Down)
point_turned s p r c (Clear direction) v = move s r c direction
