-- 01, "What the supervisor holds", and 02, P3: the limits of the settings, and what the mode decides; and the bound of
-- demand 3.
use Rattle.std.specs.Prelude.{Bool, cond, ◌&&◌, ◌||◌, ℕ, ◌+◌, ◌-◌, ◌*◌, eqb, leb}
use Rattle.machine.specs.declared.Settings.{Settings}

-- version 1 or 2
abbrev pub known_version : ℕ → Bool
known_version version = eqb version 1 || eqb version 2

-- mode 0 or 1; N from 1 to 256; k from 1 to 16 and at most N; a known version
abbrev pub permitted : Settings → Bool
permitted s =
    leb s.mode 1
    && (leb 1 s.n
    && (leb s.n 256 && (leb 1 s.k && (leb s.k 16 && (leb s.k s.n && known_version s.version)))))

-- how many marks a block has: one one-time, one for each task long-lived
abbrev pub width : Settings → ℕ
width s = cond (eqb s.mode 0) 1 s.n

-- the most own turns that an acquisition takes: (N+4)(k-1) long-lived, 4(k-1) one-time
abbrev pub bound : Settings → ℕ
bound s = cond (eqb s.mode 0) 4 (s.n + 4) * (s.k - 1)

-- which of its block's marks is the task's own
abbrev pub own : Settings → ℕ → ℕ
own s p = cond (eqb s.mode 0) 0 p
