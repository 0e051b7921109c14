-- How many bytes a schedule has.
use mathlib.Core.{Path.{◌≡◌, refl}, List.{List, [], ◌∷◌}}
use Prim.Native.Nat.{ℕ, ◌*◌}
use native.Mathlib.Omega.{arith}
use lib.ListN.{length}
use Rattle.file.specs.File.{events_bytes, file_bytes, file_length}
use Rattle.machine.specs.declared.Settings.{Settings}

-- 3 bytes an event, and 11 before them
pub length_events : (numbers : List ℕ) → length (events_bytes numbers) ≡ 3 * length numbers
length_events [] = refl
length_events (number ∷ numbers) = omega (arith, length_events numbers)

pub length_file : (s : Settings) (numbers : List ℕ) → length (file_bytes s numbers) ≡ file_length (length numbers)
length_file s numbers = omega (arith, length_events numbers)
