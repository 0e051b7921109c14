-- 16 bits and event numbers, taken apart into bytes and put together again.
use mathlib.Core.{Path.{◌≡◌, refl, ap, ◌∙◌}, List.{List, [], ◌∷◌}}
use Prim.Native.Nat.{ℕ, zero, suc, ◌+◌, ◌*◌, ◌/◌, ◌%◌, ◌≤◌, ◌<◌}
use native.Mathlib.Omega.{arith}
use lib.ListN.{get_or}
use Rattle.file.specs.File.{byte_at, word_at, kind_of, word_bytes, code_in, event_bytes, code_of}

-- the low byte of a number, what stands above it, and the byte above it
low_byte : (low rest : ℕ) → low < 256 → (low + 256 * rest) % 256 ≡ low
low_byte low rest l = omega arith

above_byte : (low rest : ℕ) → low < 256 → (low + 256 * rest) / 256 ≡ rest
above_byte low rest l = omega arith

high_byte : (low high : ℕ) → low < 256 → high < 256 → (low + 256 * high) / 256 % 256 ≡ high
high_byte low high l h = ap (λ (n : ℕ). n % 256) (above_byte low high l) ∙ omega arith

-- the two bytes of 16 bits of a file are the file's
pub low_of_word : (file : List ℕ) (i : ℕ) → byte_at file i < 256 → word_at file i % 256 ≡ byte_at file i
low_of_word file i l = omega arith

pub high_of_word : (file : List ℕ) (i : ℕ) → byte_at file i < 256 → byte_at file (i + 1) < 256
    → word_at file i / 256 % 256 ≡ byte_at file (i + 1)
high_of_word file i l h = high_byte (byte_at file i) (byte_at file (i + 1)) l h

-- and 16 bits written in two bytes are those again
pub bytes_of_word : (n : ℕ) → n < 65536 → get_or (word_bytes n) 0 0 + 256 * get_or (word_bytes n) 1 0 ≡ n
bytes_of_word n l = omega arith

-- a code's kind has that code
pub kind_code : (code : ℕ) → code ≤ 2 → code_of (kind_of code) ≡ code
kind_code zero l = refl
kind_code (suc zero) l = refl
kind_code (suc (suc zero)) l = refl
kind_code (suc (suc (suc n))) l = let none : ⊥ = omega arith in absurd none

-- an event's number has that event's bytes
pub event_of_bytes : (code low high : ℕ) → code ≤ 2 → low < 256 → high < 256
    → event_bytes (code_of (kind_of code) * 65536 + (low + 256 * high)) ≡ code ∷ low ∷ high ∷ []
event_of_bytes code low high c l h =
    let e : code_of (kind_of code) ≡ code = kind_code code c in
    let above : (code * 65536 + (low + 256 * high)) / 65536 ≡ code = omega arith in
    let sum : code * 65536 + (low + 256 * high) ≡ low + 256 * (high + 256 * code) = omega arith in
    rw (e, above, sum, low_byte low (high + 256 * code) l, above_byte low (high + 256 * code) l, low_byte high code h)

-- and those bytes that number
pub bytes_of_event : (number : ℕ) → code_in number ≤ 2
    → code_of (kind_of (code_in number)) * 65536 + (number % 256 + 256 * (number / 256 % 256)) ≡ number
bytes_of_event number c = ap (λ (code : ℕ). code * 65536 + (number % 256 + 256 * (number / 256 % 256)))
    (kind_code (code_in number) c) ∙ omega arith
