-- Input longer than any file is refused by its header and its length alone. So a part of it that is longer than any
-- file has the same listing.
use mathlib.Core.{Path.{◌≡◌, refl, sym, ap, ◌∙◌}, Bool.{Bool, true, false, not, cond}, List.{List, [], ◌∷◌}}
use Prim.Native.Nat.{ℕ, ◌≤◌, ◌<◌}
use Rattle.std.specs.Prelude.{Err}
use native.Mathlib.Omega.{arith}
use lib.{Dec.{eqb, ltb}, ListN.{length, take}, Seq.{get_or-take, length-take-le, take_all}}
use borrow.Author.{Rules.rules, Tests.{le-ltb, ltb-true, ltb-false, ne_eqb}}
use Rattle.machine.specs.{Settings.known_version, RefusalNumbers.number_of}
use Rattle.demands.specs.Refusals.{Verdict, Case, when, first, outside_limits}
use Rattle.machine.specs.declared.Refusal.{Refusal}
use Rattle.machine.specs.declared.Refusal.TheVariants.{Limits, FileLength, Letters, Version, TooManyEvents, EventCode}
use Rattle.counting.specs.Counting.{any_below}
use Rattle.file.specs.File.{most_events, file_length, byte_at, letters_right, version_of, settings_of, count_of}
use Rattle.file.specs.File.{code_bad}
use Rattle.file.specs.File.{open_verdict, opening_by}
use Rattle.printed.specs.Listing.{refused_line, listing_by, listing}

-- why such a file is refused, by opening's tests on its header
abbrev why_by : Bool → Bool → Bool → Bool → Refusal
why_by letters version limits many = cond letters Letters
    (cond version Version (cond limits Limits (cond many TooManyEvents FileLength)))

abbrev why : List ℕ → Refusal
why file =
    why_by (not (letters_right file)) (not (known_version (version_of file))) (outside_limits (settings_of file))
    (ltb most_events (count_of file))

first_of_tests : (letters version limits many wrong : Bool) (rest : List Case) → (many ≡ false → wrong ≡ true)
    → first (when letters Letters ∷ when version Version ∷ when limits Limits ∷ when many TooManyEvents ∷ when wrong
    FileLength ∷ rest)
    ≡ Err (why_by letters version limits many)
first_of_tests true version limits many wrong rest w = refl
first_of_tests false true limits many wrong rest w = refl
first_of_tests false false true many wrong rest w = refl
first_of_tests false false false true wrong rest w = refl
first_of_tests false false false false wrong rest w = rw (w refl) refl

-- a count that is permitted gives another length
length_wrong : (file : List ℕ) → file_length most_events < length file → ltb most_events (count_of file) ≡ false
    → not (eqb (length file) (file_length (count_of file))) ≡ true
length_wrong file long few =
    let most = ltb-false most_events (count_of file) few in
    ap not (ne_eqb (length file) (file_length (count_of file)) (λ e. omega arith))

longer_refused : (file : List ℕ) → file_length most_events < length file
    → listing file ≡ refused_line (number_of (why file))
longer_refused file long =
    let header : 11 ≤ length file = omega arith in
    let letters = not (letters_right file) in
    let version = not (known_version (version_of file)) in
    let limits = outside_limits (settings_of file) in
    let codes = when (any_below (code_bad file) (count_of file)) EventCode ∷ [] in
    let tests = first_of_tests letters version limits _ _ codes (length_wrong file long) in
    let refused : open_verdict file ≡ Err (why file) = rw (le-ltb _ _ header) tests in
    ap (λ (v : Verdict). listing_by (opening_by v (settings_of file) (count_of file)) file) refused

-- the header of a part that is long enough is the header of the whole
why_same : (whole : List ℕ) (most : ℕ) → file_length most_events < most → why (take most whole) ≡ why whole
why_same whole most long =
    let same : (i : ℕ) → i < 11 → byte_at (take most whole) i ≡ byte_at whole i =
    λ i l. get_or-take most whole i 0 (omega arith) in
    search (rules, same)

-- as much of the input as such a buffer holds has the listing of the whole
pub part_listed : (whole : List ℕ) (most : ℕ) → file_length most_events < most
    → listing (take most whole) ≡ listing whole
part_listed whole most long = go (ltb (length whole) most) refl
  where
    go : (shorter : Bool) → ltb (length whole) most ≡ shorter → listing (take most whole) ≡ listing whole
    go true is = let l = ltb-true (length whole) most is in ap listing (take_all most whole (omega arith))
    go false is =
        let l = ltb-false (length whole) most is in
        let same : length (take most whole) ≡ most = length-take-le most whole l in
        let part : file_length most_events < length (take most whole) = omega arith in
        let all : file_length most_events < length whole = omega arith in
        let line : refused_line (number_of (why (take most whole))) ≡ refused_line (number_of (why whole)) =
        rw (why_same whole most long) in
        longer_refused (take most whole) part ∙ line ∙ sym (longer_refused whole all)
