-- The schedules in which task 0 needs as many turns as any task ever can: for every permitted mode, N and k, and for
-- every m below k where never more than m are out. All k tasks ask, or m of them. In each row of column 0 the tasks
-- that are left write X and scan, the last of them only writes X and never moves again; the others then write their
-- marks, read another task's number in X, and go down. Task 0 is the one that comes to the bottom.
use mathlib.Core.List.{List, [], ◌∷◌, ◌++◌}
use Prim.Native.Nat.{ℕ, zero, suc, ◌+◌, ◌-◌}
use Rattle.machine.specs.Settings.{width}
use Rattle.demands.specs.{Calls.{ask, turn}, History.turns}
use Rattle.machine.specs.declared.{Settings.Settings, Event.Event}

-- what each task does, from task n - 1 down to task 0
abbrev pub each : (ℕ → List Event) → ℕ → List Event
each does zero = []
each does (suc n) = does n ++ each does n

-- n + 1 tasks in one block: 0 .. n - 1 write X and scan; n writes X and stays there; the others write their marks, read
-- X and, long-lived, clear
abbrev pub worst_row : Settings → ℕ → List Event
worst_row s n = each (turns (suc (width s))) n ++ (turn n ∷ each (turns (s.mode + 2)) n)

-- row by row, with one task fewer each time
abbrev pub worst_rows : Settings → ℕ → List Event
worst_rows s zero = []
worst_rows s (suc n) = worst_row s (suc n) ++ worst_rows s n

-- the tasks 0 .. n - 1 ask
abbrev pub asks : ℕ → List Event
asks n = each (λ p. ask p ∷ []) n

-- m tasks ask and go down the first column, and task 0 comes to row m - 1
abbrev pub descent : Settings → ℕ → List Event
descent s m = asks m ++ worst_rows s (m - 1)

-- with k of them that is the edge, which task 0 then holds
abbrev pub worst : Settings → List Event
worst s = descent s s.k

-- with fewer it is a block, where task 0 is alone: it writes X, scans, writes its mark and reads its own X
abbrev pub worst_light : Settings → ℕ → List Event
worst_light s m = descent s m ++ (turns (suc (width s)) 0 ++ turns 2 0)
