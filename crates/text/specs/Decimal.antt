-- Text as bytes: a fixed text, and a number in decimal.
use mathlib.Core.{Bool.cond, List.{List, [], ◌∷◌, ◌++◌}}
use Prim.Native.{Nat.{ℕ, zero, suc, ◌+◌, ◌/◌, ◌%◌}, Char.code, String.String}
use Rattle.std.specs.Prelude.{ltb}
use Prim.Native.String as string

-- the bytes of a text
abbrev pub bytes_of : String → List ℕ
bytes_of string.[] = []
bytes_of (string.◌∷◌ character rest) = code character ∷ bytes_of rest

-- a number in decimal, without leading zeros; the first argument bounds the digits, and n + 1 is enough
abbrev pub digits : ℕ → ℕ → List ℕ
digits zero n = []
digits (suc fuel) n =
    let more : List ℕ = digits fuel (n / 10) ++ ((48 + n % 10) ∷ []) in
    cond (ltb n 10) ((48 + n) ∷ []) more

unfoldable pub decimal : ℕ → List ℕ
decimal n = digits (n + 1) n

abbrev pub space : List ℕ
space = bytes_of " "

abbrev pub line_feed : List ℕ
line_feed = 10 ∷ []
