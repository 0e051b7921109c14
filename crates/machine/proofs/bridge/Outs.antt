-- Who asks or turns is out: a task that comes to a place, or that has had a turn, seeks or holds.
use mathlib.Core.{Path.{◌≡◌, refl}, Bool.{Bool, true, false, cond}}
use Prim.Native.Nat.{ℕ, ◌+◌}
use lib.Dec.{eqb}
use Rattle.machine.specs.{Settings.width, Places.{block, cell}, Records.is_out}
use Rattle.machine.specs.{Grid.{arrive, move, leave, point_turned}, Turn.{stand_turned, begin}}
use Rattle.machine.specs.declared.{Settings.Settings, Direction.{Direction, TheVariants.{Right, Down}}}
use Rattle.machine.specs.declared.Point.{Point, TheVariants.{WriteX, Scan, WriteMark, ReadX, Clear}}
use Rattle.machine.specs.declared.{Stand.Stand, State.TheVariants.{Seeking, Holding}}

arrive_out : (s : Settings) (r c : ℕ) → is_out (arrive s r c) ≡ true
arrive_out s r c = go (eqb (r + c + 1) s.k)
  where
    go : (edge : Bool) → is_out (cond edge (Holding (cell r c)) (Seeking (block r c WriteX))) ≡ true
    go true = refl
    go false = refl

leave_out : (s : Settings) (r c : ℕ) (direction : Direction) → is_out (leave s r c direction) ≡ true
leave_out s r c direction = go (eqb s.mode 0) direction
  where
    go : (once : Bool) (d : Direction) → is_out (cond once (move s r c d) (Seeking (block r c (Clear d)))) ≡ true
    go true Right = arrive_out s r (c + 1)
    go true Down = arrive_out s (r + 1) c
    go false d = refl

-- a seeking task is out after its turn
turned_out : (s : Settings) (p r c : ℕ) (point : Point) (v : ℕ) → is_out (point_turned s p r c point v) ≡ true
turned_out s p r c WriteX v = refl
turned_out s p r c (Scan h) v = go (eqb v 1) (eqb (h + 1) (width s))
  where
    go : (met last : Bool) → is_out (cond met (leave s r c Right)
        (cond last (Seeking (block r c WriteMark)) (Seeking (block r c (Scan (h + 1)))))) ≡ true
    go true last = leave_out s r c Right
    go false true = refl
    go false false = refl
turned_out s p r c WriteMark v = refl
turned_out s p r c ReadX v = go (eqb v (p + 1))
  where
    go : (its : Bool) → is_out (cond its (Holding (cell r c)) (leave s r c Down)) ≡ true
    go true = refl
    go false = leave_out s r c Down
turned_out s p r c (Clear Right) v = arrive_out s r (c + 1)
turned_out s p r c (Clear Down) v = arrive_out s (r + 1) c

-- ---- what all that is shared asks

pub begin_out : (s : Settings) → is_out (begin s) ≡ true
begin_out s = arrive_out s 0 0

pub stand_out : (s : Settings) (p : ℕ) (stand : Stand) (v : ℕ) → is_out (stand_turned s p stand v) ≡ true
stand_out s p stand v = turned_out s p stand.r stand.c stand.point v
