-- Which register a call touches: exactly one in a turn of a seeking task, none in an ask, at most its own mark in a
-- release; always a needed one.
use mathlib.Core.{Path.{◌≡◌, refl}, Bool.{Bool, true, false, cond}}
use Prim.Native.Nat.{ℕ, ◌+◌, ◌≤◌, ◌<◌}
use Rattle.std.specs.Prelude.{None}
use native.Mathlib.Omega.{arith}
use lib.Dec.{T, leb}
use borrow.Author.Tests.{le-leb, lt-leb, leb-true}
use Rattle.machine.specs.{Settings.{width, own}, Places.block_number, Records.{point_in_range, state_in_range}}
use Rattle.machine.specs.{Grid.{touch, point_access}, Turn.{stand_access, place_access, access}}
use Rattle.demands.specs.Memory.{Memory, state_of}
use Rattle.machine.specs.declared.Settings.{Settings}
use Rattle.machine.specs.declared.{Point.{Point, TheVariants.{WriteX, Scan, WriteMark, ReadX, Clear}}, Stand.Stand}
use Rattle.machine.specs.declared.{Place.Place, State.{State, TheVariants.{Idle, Seeking, Holding}}}
use Rattle.machine.specs.declared.{Register.TheVariants.Mark, Op.TheVariants.Write}
use Rattle.machine.specs.declared.{Kind.{Kind, TheVariants.{Ask, Turn, Release}}, Event.Event}
use Rattle.machine.specs.promises.Ranges.{WithinLimits, StandWithin}
use Rattle.demands.specs.promises.OneAccess.{Needed, touches, RegisterNeeded, EachOneAccess, access_of}
use Rattle.machine.proofs.refusals.{Ranges.scans_a_mark, RecordLines.{point_line, stand_line}}
use Rattle.machine.proofs.bridge.AsRules.{own_below}
use Rattle.demands.proofs.{refusals.Passed.Passed, calls.Fitting.access_writes}
use Rattle.demands.proofs.bridge.AsGrid.{block_below, mark_below}

-- ---- which register

module _ (s : Settings) (l : WithinLimits s) (p : ℕ) (low : p < s.n) where
  needed_mark : (r c place : ℕ) → r + c + 2 ≤ s.k → place < width s → Needed s (Mark (block_number s r c) place)
  needed_mark r c place b h = (block_below s l r c b, h, mark_below s l r c place b h)

  point_one : (r c : ℕ) (point : Point) → r + c + 2 ≤ s.k → T (point_in_range s point)
      → T (touches (point_access s p r c point)) × RegisterNeeded s (point_access s p r c point)
  point_one r c WriteX b t = (tt, block_below s l r c b)
  point_one r c (Scan h) b t = (tt, needed_mark r c h b (scans_a_mark s (Scan h) h t refl))
  point_one r c WriteMark b t = (tt, needed_mark r c (own s p) b (own_below s l p low))
  point_one r c ReadX b t = (tt, block_below s l r c b)
  point_one r c (Clear direction) b t = (tt, needed_mark r c (own s p) b (own_below s l p low))

  turn_one : (stand : Stand) → StandWithin s stand
      → T (touches (stand_access s p stand)) × RegisterNeeded s (stand_access s p stand)
  turn_one stand good = point_one stand.r stand.c stand.point good.0 ((point_line s l stand.point).shows good.1)

pub one_access : EachOneAccess
one_access s l p low = record {
  ask = λ state. refl;
  turn = turn_one s l p low;
  release_block = λ r c b. (
    rw (le-leb (r + c + 2) s.k b),
    needed_mark s l p low r c (own s p) b (own_below s l p low),
  );
  release_edge = λ r c e. rw (lt-leb (r + c + 2) s.k (let z : s.k < r + c + 2 = omega arith in z));
  writes = λ kind state. access_writes s l kind p state low;
}

-- ---- the register of an access, where there is one, is needed

module _ (s : Settings) (l : WithinLimits s) (p : ℕ) (low : p < s.n) where
  release_needed : (place : Place) → RegisterNeeded s (place_access s p place)
  release_needed place = go (leb (place.r + place.c + 2) s.k) refl
    where
      go : (b : Bool) → leb (place.r + place.c + 2) s.k ≡ b
          → RegisterNeeded s (cond b (touch (Mark (block_number s place.r place.c) (own s p)) (Write 0)) None)
      go true e = ((one_access s l p low).release_block place.r place.c (leb-true (place.r + place.c + 2) s.k e)).1
      go false e = tt

  -- of a record in range
  pub access_needed : (kind : Kind) (state : State) → T (state_in_range s state)
      → RegisterNeeded s (access s kind p state)
  access_needed Ask state good = tt
  access_needed Turn Idle good = tt
  access_needed Turn (Seeking stand) good = ((one_access s l p low).turn stand ((stand_line s l stand).says good)).1
  access_needed Turn (Holding place) good = tt
  access_needed Release Idle good = tt
  access_needed Release (Seeking stand) good = tt
  access_needed Release (Holding place) good = release_needed place

-- of a call that passed its tests
pub call_needed : (s : Settings) (event : Event) (m : Memory) → Passed s event m
    → RegisterNeeded s (access_of s event m)
call_needed s event m h = access_needed s h.limits event.task.0 h.may.known event.kind
    (state_of m event.task.0)
    (h.fit.in_range.records event.task.0 h.may.known)
