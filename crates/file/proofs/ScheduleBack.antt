-- An accepted schedule, written and read back, gives the same settings and events.
use mathlib.Core.{Path.{◌≡◌, refl, sym, ap, ◌∙◌, subst}, Logic.⊎_elim, Bool.false, List.{List, [], ◌∷◌, ◌++◌}}
use Prim.Native.Nat.{ℕ, zero, suc, ◌+◌, ◌*◌, ◌%◌, ◌/◌, ◌≤◌, ◌<◌}
use Rattle.std.specs.Prelude.{Ok}
use native.Mathlib.{Nat.add-zero, Omega.arith}
use lib.{Dec.{T, ltb}, ListN.{length, get_or, take, drop, get_or-append}, Seq.{get_or-append-add, take_at, ext_get_or}}
use borrow.Author.Tests.{ltb-false, le-ltb, not-false}
use Rattle.machine.specs.{Settings.{known_version, permitted}, RefusalNumbers.Said}
use Rattle.demands.specs.{Refusals.{Verdict, first}, Answers.Tells}
use Rattle.machine.proofs.refusals.Limits.{limits}
use Rattle.demands.proofs.refusals.Deciding.{no_case}
use Rattle.machine.specs.promises.Ranges.{WithinLimits}
use Rattle.machine.specs.declared.{Settings.Settings}
use Rattle.counting.{specs.Counting.any_below, proofs.Some.{none_below, each_none}}
use Rattle.file.specs.File.{opened_as, most_events, write_cases, event_number, reading_said, writing_said, file_length}
use Rattle.file.specs.File.{settings_of}
use Rattle.file.specs.File.{count_of, code_at, event_at, code_bad, header_cases, opening, Read, reading, header_bytes}
use Rattle.file.specs.File.{code_in, event_bytes, events_bytes, file_bytes, number_bad, write_verdict, written_by}
use Rattle.file.specs.File.{writing, version_of}
use Rattle.file.specs.RoundTrip.{events_read, Carries, ScheduleComesBack}
use Rattle.file.proofs.{Numbers.{bytes_of_word, bytes_of_event}, Lengths.length_file}
use Rattle.file.proofs.Headers.{Header, header_accepts, opening_passed, reading_given, reading_ends}
use Rattle.file.proofs.{Refusing.{wrote, each_writing}, Writes.Writable, FileBack.{length_read, get_d_read}}

-- ---- the bytes of the events, one by one

event_byte : (numbers : List ℕ) (i j : ℕ) → i < length numbers → j < 3
    → get_or (events_bytes numbers) (3 * i + j) 0 ≡ get_or (event_bytes (get_or numbers i 0)) j 0
event_byte [] i j l k = let none : ⊥ = omega arith in absurd none
event_byte (number ∷ numbers) zero j l k =
    let here : 3 * zero + j ≡ j = omega arith in
    ap (λ (m : ℕ). get_or (event_bytes number ++ events_bytes numbers) m 0) here
    ∙ get_or-append (event_bytes number) (events_bytes numbers) 0 j k
event_byte (number ∷ numbers) (suc i) j l k =
    let later : 3 * suc i + j ≡ 3 + (3 * i + j) = omega arith in
    ap (λ (m : ℕ). get_or (event_bytes number ++ events_bytes numbers) m 0) later
    ∙ get_or-append-add (event_bytes number) (events_bytes numbers) (3 * i + j) 0
    ∙ event_byte numbers i j (omega arith) k

file_byte : (s : Settings) (numbers : List ℕ) (i j : ℕ) → i < length numbers → j < 3
    → get_or (file_bytes s numbers) (file_length i + j) 0 ≡ get_or (event_bytes (get_or numbers i 0)) j 0
file_byte s numbers i j l k =
    let behind : file_length i + j ≡ 11 + (3 * i + j) = omega arith in
    ap (λ (m : ℕ). get_or (file_bytes s numbers) m 0) behind
    ∙ get_or-append-add (header_bytes s (length numbers)) (events_bytes numbers) (3 * i + j) 0
    ∙ event_byte numbers i j l k

-- ---- a written schedule opened and read

module _ (s : Settings) (numbers : List ℕ) (good : Writable s numbers) where
  abbrev file : List ℕ
  file = file_bytes s numbers

  within : WithinLimits s
  within = limits s (subst T (sym good.limits) tt)

  version_back : version_of file ≡ s.version
  version_back = bytes_of_word s.version (⊎_elim (λ e. omega arith) (λ e. omega arith) within.versions)

  settings_back : settings_of file ≡ s
  settings_back = rw (version_back, bytes_of_word s.n (omega (arith, within.n_most)))

  count_back : count_of file ≡ length numbers
  count_back = bytes_of_word (length numbers) (omega (arith, good.few))

  header_good : Header file
  header_good = record {
    long = omega (arith, length_file s numbers);
    letters = refl;
    version = ap known_version version_back ∙ ⊎_elim (ap known_version) (ap known_version) within.versions;
    limits = ap permitted settings_back ∙ good.limits;
    few = omega (arith, count_back, good.few);
    whole = length_file s numbers ∙ ap file_length (sym count_back);
  }

  passes : first (header_cases file []) ≡ Ok tt
  passes = header_accepts file header_good

  code_back : (i : ℕ) → i < length numbers → code_at file i ≡ code_in (get_or numbers i 0)
  code_back i l = ap (λ (m : ℕ). get_or file m 0) (sym (add-zero (file_length i)))
      ∙ file_byte s numbers i 0 l (omega arith)

  code_known : (i : ℕ) → i < length numbers → code_in (get_or numbers i 0) ≤ 2
  code_known i l = ltb-false _ _ (none_below (number_bad numbers) (length numbers) good.codes i l)

  codes_back : any_below (code_bad file) (count_of file) ≡ false
  codes_back =
      ap (any_below (code_bad file)) count_back
      ∙ each_none (code_bad file) (length numbers)
      (λ i l. ap (ltb 2) (code_back i l) ∙ none_below (number_bad numbers) (length numbers) good.codes i l)

  number_back : (i : ℕ) → i < length numbers → event_number (event_at file i) ≡ get_or numbers i 0
  number_back i l =
      let low : get_or file (file_length i + 1) 0 ≡ get_or numbers i 0 % 256 =
      file_byte s numbers i 1 l (omega arith) in
      let place : file_length i + 1 + 1 ≡ file_length i + 2 = omega arith in
      let high : get_or file (file_length i + 1 + 1) 0 ≡ get_or numbers i 0 / 256 % 256 =
      ap (λ (m : ℕ). get_or file m 0) place ∙ file_byte s numbers i 2 l (omega arith) in
      rw (code_back i l, low, high) (bytes_of_event (get_or numbers i 0) (code_known i l))

  given_back : (i : ℕ) → i < length numbers
      → ◌≡◌ {A = Read} (reading file i) (record { answer = Ok (event_at file i); at = i + 1 })
  given_back i l = reading_given file passes i (omega (arith, count_back))
      (ap (ltb 2) (code_back i l) ∙ le-ltb _ _ (code_known i l))

  events_back : events_read file 0 (length numbers) ≡ numbers
  events_back =
      let fits : 0 + length numbers ≤ count_of file = omega (arith, count_back) in
      let long : length (events_read file 0 (length numbers)) ≡ length numbers =
      length_read file passes codes_back (length numbers) 0 fits in
      ext_get_or 0 (events_read file 0 (length numbers)) numbers long λ i l.
      let below : i < length numbers = omega arith in
      let here : 0 + i ≡ i = omega arith in
      get_d_read file passes codes_back (length numbers) 0 i fits below
      ∙ ap (λ (j : ℕ). event_number (event_at file j)) here
      ∙ number_back i below

  opens_back : opening file ≡ opened_as s (length numbers)
  opens_back = opening_passed file _ refl passes ∙ rw (codes_back, settings_back, count_back)

  tells_back : (i : ℕ) → i < length numbers → Tells (reading_said (reading file i).answer) (get_or numbers i 0 ∷ [])
  tells_back i l =
      let given = ap (λ (read : Read). reading_said read.answer) (given_back i l) in (
        ap (λ (says : Said). says.number) given,
        ap (λ (says : Said). says.values) given
            ∙ ap (λ (number : ℕ). number ∷ []) (number_back i l),
      )

  schedule_back : Carries s numbers file
  schedule_back = record {
    opens = opens_back;
    opening_tells = rw opens_back (refl, refl);
    gives = tells_back;
    moves = λ i l. ap (λ (read : Read). read.at) (given_back i l);
    events = events_back;
    ends = ap (λ (read : Read). (reading_said read.answer).number)
        (reading_ends file passes (length numbers) (omega (arith, count_back)));
  }

-- ---- the theorem

-- what the writer's acceptance shows
written_accepted : (s : Settings) (numbers room : List ℕ) (count : ℕ)
    → Tells (writing_said (writing s numbers room).answer) (count ∷ [])
    → (write_verdict s numbers room ≡ Ok tt) × (file_length (length numbers) ≡ count)
written_accepted s numbers room count (accepted, value) = (
  wrote s numbers room accepted,
  ap (λ (values : List ℕ). get_or values 0 0)
      (sym ((each_writing s numbers room).values accepted) ∙ value),
)

verdict_writable : (s : Settings) (numbers room : List ℕ) → write_verdict s numbers room ≡ Ok tt → Writable s numbers
verdict_writable s numbers room accepted =
    let (limits, (few, (codes, last))) = no_case (write_cases s numbers room) accepted in
    record { limits = not-false (permitted s) limits; few = ltb-false most_events (length numbers) few; codes = codes }

pub schedule_comes_back : ScheduleComesBack
schedule_comes_back s numbers room count e =
    let accepted = written_accepted s numbers room count e in
    let bytes : take count (writing s numbers room).room ≡ file_bytes s numbers =
    ap (λ (v : Verdict). take count (written_by v s numbers room).room) accepted.0
    ∙ take_at (file_bytes s numbers) (drop (file_length (length numbers)) room) count
    (length_file s numbers ∙ accepted.1) in
    subst (Carries s numbers) (sym bytes) (schedule_back s numbers (verdict_writable s numbers room accepted.0))
