-- Opening, the next event and the writer are refused exactly by the lines of their tables, and answer what is promised.
use mathlib.Core.{Path.{◌≡◌, refl, ap, ◌∙◌}, Logic.{inl, inr}, List.{List, [], ◌∷◌}}
use Prim.Native.Nat.{ℕ, zero, suc, ◌+◌, ◌*◌, ◌/◌, ◌≤◌, ◌<◌}
use Rattle.std.specs.Prelude.{Ok}
use native.Mathlib.{Nat.not-suc-le-zero, Omega.arith}
use lib.{ListN.{length, get_or, drop, replicate}, Seq.drop_at}
use Rattle.demands.specs.{Refusals.{Verdict, Case}, Calls.event_of}
use Rattle.machine.specs.RefusalNumbers.{Said}
use Rattle.demands.specs.promises.Refusing.{Line, RefusedExactly}
use Rattle.demands.proofs.refusals.Deciding.{Are, refused_exactly, accepted_verdict, refusal_keeps}
use Rattle.machine.specs.declared.{Settings.Settings}
use Rattle.machine.proofs.refusals.Limits.{limits_tested}
use Rattle.counting.proofs.{Tested.{Tested, below, most, same, both, either, fails, meaning}, Some.some_below}
use Rattle.file.specs.File.{letters_right, version_of, settings_of, count_of, code_at, task_at, event_at, code_bad}
use Rattle.file.specs.File.{header_cases, code_cases, open_verdict, opening_by, kind_of, event_cases, event_verdict}
use Rattle.file.specs.File.{read_by, file_length, file_bytes, number_bad, write_cases, write_verdict, written_by}
use Rattle.file.specs.File.{opening_said, reading_said, writing_said}
use Rattle.file.specs.Refusing.{byte, header_lines, code_lines, open_lines, event_lines, next_lines, write_lines}
use Rattle.file.specs.Refusing.{OpeningTold, EachOpening, Gives, ReadingTold, EachReading, WritingTold}
use Rattle.file.specs.Refusing.{EachWriting, WriterTakes}
use Rattle.file.proofs.{Numbers.kind_code, Lengths.length_file}

-- ---- opening's tests but the last

pub letters_tested : (file : List ℕ) → Tested (letters_right file)
    ((byte file 0 ≡ 0x47) × (byte file 1 ≡ 0x52) × (byte file 2 ≡ 0x53))
letters_tested file =
    meaning (both (same (byte file 0) 0x47) (both (same (byte file 1) 0x52) (same (byte file 2) 0x53)))
    (λ (g, (r, s)). (g, r, s), λ (g, r, s). (g, (r, s)))

header_are : (file : List ℕ) (cases : List Case) (lines : List Line) → Are cases lines
    → Are (header_cases file cases) (header_lines file lines)
header_are file cases lines rest = (
  record { numbered = refl; tested = below (length file) 11 },
  λ long. (
    record { numbered = refl; tested = fails (letters_tested file) },
    λ letters. (
      record { numbered = refl; tested = fails (either (same (version_of file) 1) (same (version_of file) 2)) },
      λ version. (
        record { numbered = refl; tested = fails (limits_tested (settings_of file)) },
        λ fair. (
          record { numbered = refl; tested = below 16384 (count_of file) },
          λ few. (
            record { numbered = refl; tested = fails (same (length file) (11 + 3 * count_of file)) },
            λ whole. rest,
          ),
        ),
      ),
    ),
  ),
)

code_tested : (file : List ℕ) (i : ℕ) → Tested (code_bad file i) (2 < byte file (11 + 3 * i))
code_tested file i = below 2 (byte file (11 + 3 * i))

-- ---- opening

module _ (file : List ℕ) where
  abbrev open_says : Verdict → Said
  open_says v = opening_said (opening_by v (settings_of file) (count_of file))

  open_are : Are (header_cases file (code_cases file)) (open_lines file)
  open_are =
      header_are file (code_cases file) (code_lines file)
      (record { numbered = refl; tested = some_below (code_bad file) (code_tested file) (count_of file) }, λ none. tt)

  opened : (open_says (open_verdict file)).number ≡ 0 → open_verdict file ≡ Ok tt
  opened = accepted_verdict open_says refl (λ why. refl) (open_verdict file)

  opening_told : OpeningTold file
  opening_told = record {
    exactly =
        refused_exactly open_says refl (λ why. refl) (header_cases file (code_cases file)) (open_lines file) open_are;
    answers = λ accepted. ap (λ (v : Verdict). opening_by v (settings_of file) (count_of file)) (opened accepted);
    values = λ accepted. ap (λ (v : Verdict). (open_says v).values) (opened accepted);
  }

pub each_opening : EachOpening
each_opening = opening_told

-- ---- the next event

-- a code that is not above 2 is that of the event given
kind_given : (code task : ℕ) → code ≤ 2 → Gives code task (Ok (event_of (kind_of code) task))
kind_given zero task l = inl (refl, refl)
kind_given (suc zero) task l = inr (inl (refl, refl))
kind_given (suc (suc zero)) task l = inr (inr (refl, refl))
kind_given (suc (suc (suc code))) task l = let none : ⊥ = omega arith in absurd none

module _ (file : List ℕ) (at : ℕ) where
  abbrev next_says : Verdict → Said
  next_says v = reading_said (read_by v (event_at file at) at).answer

  next_are : Are (header_cases file (event_cases file at)) (next_lines file at)
  next_are =
      header_are file (event_cases file at) (event_lines file at) (
        record { numbered = refl; tested = most (count_of file) at },
        λ some. (record { numbered = refl; tested = code_tested file at }, λ known. tt),
      )

  next_exactly : RefusedExactly (next_says (event_verdict file at)) (next_lines file at)
  next_exactly = refused_exactly next_says refl (λ why. refl) (header_cases file (event_cases file at))
      (next_lines file at) next_are

  given : (next_says (event_verdict file at)).number ≡ 0 → event_verdict file at ≡ Ok tt
  given = accepted_verdict next_says refl (λ why. refl) (event_verdict file at)

  -- the last line of the table does not hold
  known : (next_says (event_verdict file at)).number ≡ 0 → code_at file at ≤ 2
  known accepted =
      let (long, (letters, (version, (fair, (few, (whole, (some, (code, last)))))))) =
      next_exactly.accepted.0 accepted in
      omega arith

  reading_told : ReadingTold file at
  reading_told = record {
    exactly = next_exactly;
    gives = λ accepted. rw (given accepted) (kind_given (code_at file at) (task_at file at).0 (known accepted));
    values = λ accepted. ap (λ (v : Verdict). (next_says v).values) (given accepted)
        ∙ ap (λ (code : ℕ). (code * 65536 + (task_at file at).0) ∷ []) (kind_code (code_at file at) (known accepted));
    moves = λ accepted. ap (λ (v : Verdict). (read_by v (event_at file at) at).at) (given accepted);
    stays = refusal_keeps next_says refl (λ why. refl) (λ v. (read_by v (event_at file at) at).at) at (λ why. refl)
        (event_verdict file at);
  }

pub each_reading : EachReading
each_reading = reading_told

-- ---- writing

module _ (s : Settings) (numbers room : List ℕ) where
  abbrev write_says : Verdict → Said
  write_says v = writing_said (written_by v s numbers room).answer

  write_are : Are (write_cases s numbers room) (write_lines s numbers room)
  write_are = (
    record { numbered = refl; tested = fails (limits_tested s) },
    λ fair. (
      record { numbered = refl; tested = below 16384 (length numbers) },
      λ few. (
        record {
          numbered = refl;
          tested =
              some_below (number_bad numbers) (λ i. below 2 (get_or numbers i 0 / 65536)) (length numbers);
        },
        λ known. (record { numbered = refl; tested = below (length room) (11 + 3 * length numbers) }, λ fits. tt),
      ),
    ),
  )

  pub wrote : (write_says (write_verdict s numbers room)).number ≡ 0 → write_verdict s numbers room ≡ Ok tt
  wrote = accepted_verdict write_says refl (λ why. refl) (write_verdict s numbers room)

  writing_told : WritingTold s numbers room
  writing_told = record {
    exactly = refused_exactly write_says refl (λ why. refl) (write_cases s numbers room)
        (write_lines s numbers room) write_are;
    values = λ accepted. ap (λ (v : Verdict). (write_says v).values) (wrote accepted);
    beyond = λ accepted. ap (λ (v : Verdict). drop (file_length (length numbers)) (written_by v s numbers room).room)
        (wrote accepted)
        ∙ drop_at (file_bytes s numbers) (drop (file_length (length numbers)) room) (file_length (length numbers))
        (length_file s numbers);
    keeps = refusal_keeps write_says refl (λ why. refl) (λ v. (written_by v s numbers room).room) room (λ why. refl)
        (write_verdict s numbers room);
  }

pub each_writing : EachWriting
each_writing = writing_told

-- no line holds of the schedule of no events and a room of eleven bytes
pub writer_takes : WriterTakes
writer_takes s l =
    (each_writing s [] (replicate 11 0)).exactly.accepted.1 (
      λ outside. outside l,
      (
        λ many. absurd (omega arith),
        (λ some. absurd (not-suc-le-zero some.1), (λ short. absurd (omega arith), tt)),
      ),
    )
