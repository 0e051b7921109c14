-- The one access of a call, on a memory: what it sees there, and what it leaves. `store` changes one element at the
-- most.
use Rattle.std.specs.Prelude.{Option, None, Some, cond, ℕ}
use Rattle.machine.specs.Turn.{op_writes, seen, left}
use Rattle.demands.specs.Memory.{Memory, content, put}
use Rattle.machine.specs.declared.{Settings.Settings, Access.Access}

-- what an access sees; 0 where nothing is read
abbrev pub value : Settings → Option Access → Memory → ℕ
value s None m = 0
value s (Some access) m = seen access.op (content s access.register m)

-- the one register written, or none
abbrev pub store : Settings → Option Access → Memory → Memory
store s None m = m
store s (Some access) m =
    cond (op_writes access.op) (put s access.register (left access.op (content s access.register m)) m) m
