-- An accepted file, read event by event and written back, gives the same bytes.
use mathlib.Core.{Path.{◌≡◌, refl, sym, ap, ◌∙◌, subst}, Bool.false}
use mathlib.Core.List.{List, [], ◌∷◌, ◌++◌, append_assoc, append-nil}
use Prim.Native.Nat.{ℕ, zero, suc, ◌+◌, ◌≤◌, ◌<◌}
use Rattle.std.specs.Prelude.{Ok}
use native.Mathlib.{Nat.add-zero, Numerals.add-one, Omega.arith}
use lib.{Dec.{T, ltb}, ListN.{length, get_or, drop, drop_of_length-le}, Seq.drop-cons}
use borrow.Author.Tests.{ltb-false}
use Rattle.demands.specs.Refusals.{first}
use Rattle.counting.{specs.Counting.any_below, proofs.Some.{none_below, each_none}}
use Rattle.file.specs.File.{event_number, reading_said, file_length, byte_at, settings_of, count_of, code_at, event_at}
use Rattle.file.specs.File.{code_bad, header_cases, Read, header_bytes, code_in, event_bytes, events_bytes, file_bytes}
use Rattle.file.specs.File.{number_bad, writing, word_at, word_bytes}
use Rattle.file.specs.RoundTrip.{events_read, Bytes, FileComesBack}
use Rattle.file.proofs.{Numbers.{low_of_word, high_of_word, event_of_bytes}, Refusing.letters_tested}
use Rattle.file.proofs.Writes.{Writable, filled, writable_written}
use Rattle.file.proofs.Headers.{Header, header_accepted, Accepts, file_accepted, reading_given}

-- ---- a file as its elements

-- the n elements from an index on
abbrev elements : List ℕ → ℕ → ℕ → List ℕ
elements l i zero = []
elements l i (suc n) = get_or l i 0 ∷ elements l (i + 1) n

drop_elements : (l : List ℕ) (i n : ℕ) → i + n ≤ length l → drop i l ≡ elements l i n ++ drop (i + n) l
drop_elements l i zero fits = rw add-zero
drop_elements l i (suc n) fits =
    let later : drop (i + 1) l ≡ elements l (i + 1) n ++ drop (i + 1 + n) l = drop_elements l (i + 1) n (omega arith) in
    let same : i + 1 + n ≡ i + suc n = omega arith in
    drop-cons l i 0 (omega arith) ∙ ap (λ (r : List ℕ). get_or l i 0 ∷ r) (rw (sym (add-one i), later, same))

module _ (file : List ℕ) (bytes : Bytes file) (good : Header file) where
  -- 16 bits and then the next elements
  word_then : (i n : ℕ) (rest : List ℕ) → rest ≡ elements file (i + 1 + 1) n
      → word_bytes (word_at file i) ++ rest ≡ elements file i (suc (suc n))
  word_then i n rest e = rw (low_of_word file i (bytes i), high_of_word file i (bytes i) (bytes (i + 1)), e)

  -- behind the letters: version, mode, N, k and count
  header_fields : header_bytes (settings_of file) (count_of file) ≡ 71 ∷ 82 ∷ 83 ∷ elements file 3 8
  header_fields =
      let from_k = ap (λ (l : List ℕ). byte_at file 8 ∷ l) (word_then 9 0 [] refl) in
      let from_mode = ap (λ (l : List ℕ). byte_at file 5 ∷ l) (word_then 6 3 _ from_k) in
      ap (λ (l : List ℕ). 71 ∷ 82 ∷ 83 ∷ l) (word_then 3 6 _ from_mode)

  -- the header's bytes are the file's first eleven
  header_bytes_lem : header_bytes (settings_of file) (count_of file) ≡ elements file 0 11
  header_bytes_lem =
      let letters = (letters_tested file).says (subst T (sym good.letters) tt) in
      header_fields ∙ rw (letters.0, letters.1, letters.2)

  header_back : header_bytes (settings_of file) (count_of file) ++ drop 11 file ≡ file
  header_back = ap (λ (l : List ℕ). l ++ drop 11 file) header_bytes_lem ∙ sym (drop_elements file 0 11 good.long)

-- ---- the events that a reader gives

module _ (file : List ℕ) (passes : first (header_cases file []) ≡ Ok tt)
    (codes : any_below (code_bad file) (count_of file) ≡ false) where
  -- one event after the other
  read_next : (at n : ℕ) → at < count_of file
      → events_read file at (suc n) ≡ event_number (event_at file at) ∷ events_read file (at + 1) n
  read_next at n l =
      ap (λ (read : Read). (reading_said read.answer).values ++ events_read file read.at n)
      (reading_given file passes at l (none_below (code_bad file) (count_of file) codes at l))

  pub length_read : (n at : ℕ) → at + n ≤ count_of file → length (events_read file at n) ≡ n
  length_read zero at fits = refl
  length_read (suc n) at fits = ap length (read_next at n (omega arith)) ∙ ap suc (length_read n (at + 1) (omega arith))

  pub get_d_read : (n at i : ℕ) → at + n ≤ count_of file → i < n
      → get_or (events_read file at n) i 0 ≡ event_number (event_at file (at + i))
  get_d_read zero at i fits l = let none : ⊥ = omega arith in absurd none
  get_d_read (suc n) at zero fits l = ap (λ (l : List ℕ). get_or l 0 0) (read_next at n (omega arith)) ∙ rw add-zero
  get_d_read (suc n) at (suc i) fits l =
      let same : at + 1 + i ≡ at + suc i = omega arith in
      ap (λ (l : List ℕ). get_or l (suc i) 0) (read_next at n (omega arith))
      ∙ get_d_read n (at + 1) i (omega arith) (omega arith)
      ∙ ap (λ (j : ℕ). event_number (event_at file j)) same

  module _ (bytes : Bytes file) (whole : length file ≡ file_length (count_of file)) where
    event_is : (at : ℕ) → at < count_of file
        → event_bytes (event_number (event_at file at)) ≡ elements file (file_length at) 3
    event_is at l =
        event_of_bytes (code_at file at) (byte_at file (file_length at + 1)) (byte_at file (file_length at + 1 + 1))
        (ltb-false _ _ (none_below (code_bad file) (count_of file) codes at l)) (bytes _) (bytes _)

    event_back : (at : ℕ) → at < count_of file
        → event_bytes (event_number (event_at file at)) ++ drop (file_length (at + 1)) file ≡ drop (file_length at) file
    event_back at l =
        let next : file_length at + 3 ≡ file_length (at + 1) = omega arith in
        ap (λ (b : List ℕ). b ++ drop (file_length (at + 1)) file) (event_is at l)
        ∙ sym (drop_elements file (file_length at) 3 (omega arith) ∙ rw next)

    events_back : (n at : ℕ) → at + n ≤ count_of file
        → events_bytes (events_read file at n) ++ drop (file_length (at + n)) file ≡ drop (file_length at) file
    events_back zero at fits = rw add-zero
    events_back (suc n) at fits =
        let same : at + 1 + n ≡ at + suc n = omega arith in
        let number : ℕ = event_number (event_at file at) in
        let later : List ℕ = events_read file (at + 1) n in
        ap (λ (l : List ℕ). events_bytes l ++ drop (file_length (at + suc n)) file) (read_next at n (omega arith))
        ∙ append_assoc (event_bytes number) (events_bytes later) (drop (file_length (at + suc n)) file)
        ∙ ap (λ (k : ℕ). event_bytes number ++ (events_bytes later ++ drop (file_length k) file)) (sym same)
        ∙ ap (λ (l : List ℕ). event_bytes number ++ l) (events_back n (at + 1) (omega arith))
        ∙ event_back at (omega arith)

    -- all of them are the file's bytes behind the header
    all_back : events_bytes (events_read file 0 (count_of file)) ≡ drop 11 file
    all_back =
        sym (append-nil (events_bytes (events_read file 0 (count_of file))))
        ∙ ap (λ (l : List ℕ). events_bytes (events_read file 0 (count_of file)) ++ l)
        (sym (drop_of_length-le file {i = file_length (0 + count_of file)} (omega arith)))
        ∙ events_back (count_of file) 0 (omega arith)

    -- and no code of theirs is above 2
    codes_read : any_below (number_bad (events_read file 0 (count_of file))) (count_of file) ≡ false
    codes_read = each_none (number_bad (events_read file 0 (count_of file))) (count_of file) λ i l.
        let here : 0 + i ≡ i = omega arith in
        ap (λ (number : ℕ). ltb 2 (code_in number))
        (get_d_read (count_of file) 0 i (omega arith) l ∙ ap (λ (j : ℕ). event_number (event_at file j)) here)
        ∙ ap (λ (b : List ℕ). ltb 2 (get_or b 0 0)) (event_is i l)
        ∙ none_below (code_bad file) (count_of file) codes i l

-- ---- the theorem

module _ (file : List ℕ) (bytes : Bytes file) (passes : first (header_cases file []) ≡ Ok tt)
    (codes : any_below (code_bad file) (count_of file) ≡ false) where
  good : Header file
  good = header_accepted file passes

  count_read : length (events_read file 0 (count_of file)) ≡ count_of file
  count_read = length_read file passes codes (count_of file) 0 (omega arith)

  bytes_back : file_bytes (settings_of file) (events_read file 0 (count_of file)) ≡ file
  bytes_back =
      ap (λ (n : ℕ). header_bytes (settings_of file) n ++ events_bytes (events_read file 0 (count_of file))) count_read
      ∙ ap (λ (l : List ℕ). header_bytes (settings_of file) (count_of file) ++ l)
      (all_back file passes codes bytes good.whole)
      ∙ header_back file bytes good

  writable : Writable (settings_of file) (events_read file 0 (count_of file))
  writable = record {
    limits = good.limits;
    few = omega (arith, count_read, good.few);
    codes = ap (any_below (number_bad (events_read file 0 (count_of file)))) count_read
        ∙ codes_read file passes codes bytes good.whole;
  }

  written_back : (room : List ℕ) → length file ≤ length room
      → writing (settings_of file) (events_read file 0 (count_of file)) room ≡ filled file room
  written_back room =
      subst (λ (f : List ℕ). length f ≤ length room
      → writing (settings_of file) (events_read file 0 (count_of file)) room ≡ filled f room) bytes_back
      (writable_written (settings_of file) (events_read file 0 (count_of file)) room writable)

pub file_comes_back : FileComesBack
file_comes_back file bytes s count e room fits =
    let a : Accepts file s count = file_accepted file s count e in
    rw (sym a.its, sym a.counted) (written_back file bytes a.passes a.codes room fits)
