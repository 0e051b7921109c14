-- What opening's tests but the last show of a file that passes them, and how the later tests follow.
use mathlib.Core.{Path.{◌≡◌, refl, sym, ap, ◌∙◌}, Bool.{true, false}, List.{List, []}}
use Prim.Native.Nat.{ℕ, ◌+◌, ◌≤◌, ◌<◌}
use Rattle.std.specs.Prelude.{Err, Ok}
use lib.{Dec.eqb, ListN.length}
use borrow.Author.Tests.{ltb-false, eqb-true, not-false, le-ltb, le-leb, lt-leb, eq-eqb}
use Rattle.machine.specs.Settings.{known_version, permitted}
use Rattle.demands.specs.Refusals.{Verdict, first}
use Rattle.demands.proofs.refusals.Deciding.{no_case}
use Rattle.machine.specs.declared.{Settings.Settings, Refusal.{Refusal, TheVariants.NoEvent}}
use Rattle.machine.specs.declared.Opened.{Opened}
use Rattle.counting.specs.Counting.{any_below}
use Rattle.file.specs.File.{Opening, opened_as, most_events, file_length, letters_right, version_of, settings_of}
use Rattle.file.specs.File.{count_of, code_bad}
use Rattle.file.specs.File.{event_at, header_cases, open_verdict, opening_by, opening, Read, read_by, reading}
use Rattle.file.specs.File.{code_cases, event_cases}
use Rattle.file.proofs.Cases.{first_then, first_stays, first_both}

-- what each test shows
pub record Header (file : List ℕ) : Type 0 where
  pub long : 11 ≤ length file
  pub letters : letters_right file ≡ true
  pub version : known_version (version_of file) ≡ true
  pub limits : permitted (settings_of file) ≡ true
  pub few : count_of file ≤ most_events
  pub whole : length file ≡ file_length (count_of file)

pub header_accepted : (file : List ℕ) → first (header_cases file []) ≡ Ok tt → Header file
header_accepted file accepted =
    let (long, (letters, (version, (limits, (few, (whole, last)))))) = no_case (header_cases file []) accepted in
    record {
      long = ltb-false (length file) 11 long;
      letters = not-false (letters_right file) letters;
      version = not-false (known_version (version_of file)) version;
      limits = not-false (permitted (settings_of file)) limits;
      few = ltb-false most_events (count_of file) few;
      whole = eqb-true (length file) (file_length (count_of file))
          (not-false (eqb (length file) (file_length (count_of file))) whole);
    }

pub header_accepts : (file : List ℕ) → Header file → first (header_cases file []) ≡ Ok tt
header_accepts file good =
    rw (
      le-ltb _ _ good.long,
      good.letters,
      good.limits,
      good.version,
      le-ltb _ _ good.few,
      eq-eqb _ _ good.whole,
    )

-- a header's refusal is the file's, and a header that passes leaves the later tests
module _ (file : List ℕ) (verdict : Verdict) (is : verdict ≡ first (header_cases file [])) where
  pub opening_refused : (why : Refusal) → verdict ≡ Err why → Err why ≡ opening file
  opening_refused why e = ap (λ (v : Verdict). opening_by v (settings_of file) (count_of file))
      (sym (first_stays (header_cases file []) (code_cases file) why (sym is ∙ e)))

  pub opening_passed : verdict ≡ Ok tt → opening file ≡ opening_by (first (code_cases file)) (settings_of file)
      (count_of file)
  opening_passed e = ap (λ (v : Verdict). opening_by v (settings_of file) (count_of file))
      (first_then (header_cases file []) (code_cases file) (sym is ∙ e))

  pub reading_refused : (at : ℕ) (why : Refusal) → verdict ≡ Err why
      → ◌≡◌ {A = Read} (record { answer = Err why; at = at }) (reading file at)
  reading_refused at why e = ap (λ (v : Verdict). read_by v (event_at file at) at)
      (sym (first_stays (header_cases file []) (event_cases file at) why (sym is ∙ e)))

  pub reading_passed : (at : ℕ) → verdict ≡ Ok tt
      → reading file at ≡ read_by (first (event_cases file at)) (event_at file at) at
  reading_passed at e = ap (λ (v : Verdict). read_by v (event_at file at) at)
      (first_then (header_cases file []) (event_cases file at) (sym is ∙ e))

  pub passed : verdict ≡ Ok tt → Header file
  passed e = header_accepted file (sym is ∙ e)

-- ---- an accepted file

-- the file passes every test, and these are its settings and its count
pub record Accepts (file : List ℕ) (s : Settings) (count : ℕ) : Type 0 where
  pub passes : first (header_cases file []) ≡ Ok tt
  pub codes : any_below (code_bad file) (count_of file) ≡ false
  pub its : settings_of file ≡ s
  pub counted : count_of file ≡ count

-- what opens alike is alike
abbrev opened_in : Opened → Opening → Opened
opened_in other (Ok file) = file
opened_in other (Err why) = other

pub opened_alike : (s t : Settings) (n m : ℕ) → opened_as s n ≡ opened_as t m → (s ≡ t) × (n ≡ m)
opened_alike s t n m e =
    let alike = ap (opened_in (record { settings = s; count = n })) e in
    (ap (λ (file : Opened). file.settings) alike, ap (λ (file : Opened). file.count) alike)

pub file_accepted : (file : List ℕ) (s : Settings) (count : ℕ) → opening file ≡ opened_as s count
    → Accepts file s count
file_accepted file s count e = go (open_verdict file) refl e
  where
    go : (v : Verdict) → open_verdict file ≡ v
        → opening_by v (settings_of file) (count_of file) ≡ opened_as s count
        → Accepts file s count
    go (Ok accepted) is e =
        let parts = first_both (header_cases file []) (code_cases file) is in
        let alike = opened_alike (settings_of file) s (count_of file) count e in
        record { passes = parts.0; codes = (no_case (code_cases file) parts.1).0; its = alike.0; counted = alike.1 }
    go (Err why) is e = record { passes = cc; codes = cc; its = cc; counted = cc }

-- the event at a position before the count is given, and the reader moves on
pub reading_given : (file : List ℕ) → first (header_cases file []) ≡ Ok tt → (at : ℕ) → at < count_of file
    → code_bad file at ≡ false
    → ◌≡◌ {A = Read} (reading file at) (record { answer = Ok (event_at file at); at = at + 1 })
reading_given file passes at l known = reading_passed file _ refl at passes ∙ rw (lt-leb _ _ l, known)

-- at the count the reader is told that there is no event
pub reading_ends : (file : List ℕ) → first (header_cases file []) ≡ Ok tt → (at : ℕ) → count_of file ≤ at
    → ◌≡◌ {A = Read} (reading file at) (record { answer = Err NoEvent; at = at })
reading_ends file passes at l = reading_passed file _ refl at passes ∙ rw (le-leb _ _ l)
