-- The bytes of a schedule, one event after the other, and put into a room.
use mathlib.Core.{Path.{◌≡◌, refl, sym, ap, ◌∙◌}, List.{List, [], ◌∷◌, ◌++◌}}
use Prim.Native.Nat.{ℕ, ◌+◌, ◌*◌, ◌≤◌, ◌<◌}
use native.Mathlib.{Nat.{le_of_lt, zero-add}, Numerals.add-one, Omega.arith}
use lib.{ListN.{length, take, drop, get_or}, Seq.{take-suc, length-take-le}}
use Rattle.file.specs.File.{event_bytes, events_bytes, header_bytes, file_bytes, file_length}
use Rattle.file.proofs.Lengths.{length_events, length_file}
use Rattle.machine.specs.declared.Settings.{Settings}
use Rattle.text.{specs.Put.put, proofs.Putting.{put_append}}

-- the events of two lists
pub events_append : (a b : List ℕ) → events_bytes (a ++ b) ≡ events_bytes a ++ events_bytes b
events_append [] b = refl
events_append (number ∷ a) b = rw (events_append a b)

-- one event more
pub events_more : (numbers : List ℕ) (i : ℕ) → i < length numbers
    → events_bytes (take (i + 1) numbers) ≡ events_bytes (take i numbers) ++ event_bytes (get_or numbers i 0)
events_more numbers i l = rw (add-one, take-suc numbers i 0 l, events_append (take i numbers) (get_or numbers i 0 ∷ []))

-- ---- put into a room

-- the events before i take 3 bytes each
length_before : (numbers : List ℕ) (i : ℕ) → i ≤ length numbers → length (events_bytes (take i numbers)) ≡ 3 * i
length_before numbers i l = length_events (take i numbers) ∙ ap (λ (n : ℕ). 3 * n) (length-take-le i numbers l)

-- the events before i are behind the header, and event i is put behind them
pub put_more : (room behind numbers : List ℕ) (i : ℕ) → i < length numbers → file_length (length numbers) ≤ length room
    → behind ≡ put room 11 (events_bytes (take i numbers))
    → put behind (file_length i) (event_bytes (get_or numbers i 0)) ≡ put room 11 (events_bytes (take (i + 1) numbers))
put_more room behind numbers i l fits e =
    let passed : length (events_bytes (take i numbers)) ≡ 3 * i = length_before numbers i (le_of_lt l) in
    ap (λ (l : List ℕ). put l (file_length i) (event_bytes (get_or numbers i 0))) e
    ∙ put_append room 11 (events_bytes (take i numbers)) (event_bytes (get_or numbers i 0)) (file_length i)
    (omega arith) (omega arith)
    ∙ ap (put room 11) (sym (events_more numbers i l))

-- put at the start, bytes are followed by the rest of the room
pub put_start : (room bytes : List ℕ) → put room 0 bytes ≡ bytes ++ drop (length bytes) room
unfolding put
put_start room bytes = rw zero-add

-- the header and then the events are the file, and the rest of the room stays
pub put_file : (s : Settings) (numbers room headed written : List ℕ) → file_length (length numbers) ≤ length room
    → headed ≡ put room 0 (header_bytes s (length numbers)) → written ≡ put headed 11 (events_bytes numbers)
    → written ≡ file_bytes s numbers ++ drop (file_length (length numbers)) room
put_file s numbers room headed written fits head rest =
    rest
    ∙ ap (λ (l : List ℕ). put l 11 (events_bytes numbers)) head
    ∙ put_append room 0 (header_bytes s (length numbers)) (events_bytes numbers) 11 refl
    (omega (arith, length_events numbers))
    ∙ put_start room (file_bytes s numbers)
    ∙ ap (λ (n : ℕ). file_bytes s numbers ++ drop n room) (length_file s numbers)
