-- What permitted settings say, taken out of the one test and put back, and how many marks a block then has.
use mathlib.Core.{Path.{◌≡◌, refl}, Logic.{◌⊎◌, inl, inr, ⊎_elim, ◌↔◌}, Bool.{Bool, true, false, cond}}
use Prim.Native.Nat.{ℕ, zero, suc, ◌≤◌}
use native.Mathlib.Omega.{arith}
use lib.Dec.{T, eqb}
use Rattle.machine.specs.{Settings.{known_version, permitted, width}, promises.Ranges.WithinLimits}
use Rattle.machine.specs.declared.Settings.{Settings}
use Rattle.counting.proofs.Tested.{Tested, most, same, both, either, meaning}

pub zero_or_one : (mode : ℕ) → (mode ≤ 1) ↔ ((mode ≡ 0) ⊎ (mode ≡ 1))
zero_or_one mode = (there mode, ⊎_elim (λ e. omega arith) (λ e. omega arith))
  where
    there : (mode : ℕ) → mode ≤ 1 → (mode ≡ 0) ⊎ (mode ≡ 1)
    there zero l = inl refl
    there (suc mode) l = inr (omega arith)

pub version_tested : (version : ℕ) → Tested (known_version version) ((version ≡ 1) ⊎ (version ≡ 2))
version_tested version = either (same version 1) (same version 2)

-- the test, and the limits as 01 and 02 list them
pub limits_tested : (s : Settings) → Tested (permitted s) (WithinLimits s)
limits_tested s =
    meaning
    (both (meaning (most s.mode 1) (zero_or_one s.mode))
    (both (most 1 s.n) (both (most s.n 256)
    (both (most 1 s.k) (both (most s.k 16) (both (most s.k s.n)
    (version_tested s.version))))))) (
      λ (modes, (n_least, (n_most, (k_least, (k_most, (k_within, versions)))))). record {
        modes = modes;
        n_least = n_least;
        n_most = n_most;
        k_least = k_least;
        k_most = k_most;
        k_within = k_within;
        versions = versions;
      },
      λ l. (l.modes, (l.n_least, (l.n_most, (l.k_least, (l.k_most, (l.k_within, l.versions)))))),
    )

pub limits : (s : Settings) → T (permitted s) → WithinLimits s
limits s = (limits_tested s).says

pub permits : (s : Settings) → WithinLimits s → T (permitted s)
permits s = (limits_tested s).shows

pub mode_most : (s : Settings) → WithinLimits s → s.mode ≤ 1
mode_most s l = (zero_or_one s.mode).1 l.modes

-- a block has one mark at least, and 256 at most
pub width_least : (s : Settings) → WithinLimits s → 1 ≤ width s
width_least s l = go (eqb s.mode 0)
  where
    go : (b : Bool) → 1 ≤ cond b 1 s.n
    go true = omega arith
    go false = l.n_least

pub width_most : (s : Settings) → WithinLimits s → width s ≤ 256
width_most s l = go (eqb s.mode 0)
  where
    go : (b : Bool) → cond b 1 s.n ≤ 256
    go true = omega arith
    go false = l.n_most
