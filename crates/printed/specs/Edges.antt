-- 01, "Both sides of each edge": the nine starred lines and both sides of the limits, as one statement, with the
-- figures that 02 names (P2 to P4, P6). A run begins with setup of a lent memory. Where a line of 01 leaves N, k, mode
-- or task open it is stated for all that are permitted; the lines that fix N and k and follow a run of turns are stated
-- on the largest memory: setup clears what is needed, and by `SurplusNeverBears` the rest changes no answer
-- (docs/DECISIONS.md).
use mathlib.Core.{Path.◌≡◌, Logic.◌⊎◌, List.{List, [], ◌∷◌, ◌++◌, map}}
use Rattle.std.specs.Prelude.{Result, Ok, ℕ, ◌+◌, ◌≤◌, ◌<◌, T}
use Rattle.machine.specs.Places.{name_number}
use Rattle.demands.specs.{Memory.{Memory, largest}, Answers.{Reply, told_in, said, is_accepted, plain}}
use Rattle.demands.specs.{Calls.{call, setup, ask, release}, History.{Answered, turns}}
use Rattle.demands.specs.promises.Refusing.{NoneHolds, lent_lines, range_lines}
use Rattle.demands.specs.promises.Demands.{SetUp, memory_after, history_of, used}
use Rattle.machine.specs.{Settings.bound, Turn.show}
use Rattle.machine.specs.declared.{Settings.Settings, Event.Event, Refusal.Refusal}
use Rattle.machine.specs.declared.Told.{Told, TheVariants.{Done, Seeks, Holds, Freed}}
use Rattle.machine.specs.declared.{Register.TheVariants.Mark, Letter.TheVariants.W}
use Rattle.text.specs.Decimal.{bytes_of}
use Rattle.printed.specs.{EndLine.events_of, Listing.listing}

-- mode, N, k and the version
abbrev pub settings : ℕ → ℕ → ℕ → ℕ → Settings
settings mode n k version = record { mode = mode; n = n; k = k; version = version }

-- 01's figures are those of version 1; with k at most 2 the rule of version 2 numbers the places alike
abbrev pub BothVersions : (ℕ → Type 0) → Type 0
BothVersions Line = Line 1 × Line 2

abbrev pub named : ℕ → Told
named n = Holds (record { 0 = n })

-- what calls are told
abbrev pub told_each : List Answered → List (Result Told Refusal)
told_each = map (λ (done : Answered). told_in done.answer)

-- what a run of calls is told, on the largest lent memory
abbrev pub told : Settings → List Event → List (Result Told Refusal)
told s events = told_each (history_of s largest events)

-- a task asks and takes so many turns
abbrev pub acquires : ℕ → ℕ → List Event
acquires p count = ask p ∷ turns count p

-- so many times "seeks"
abbrev pub seeks_for : ℕ → List (Result Told Refusal)
seeks_for ℕ.zero = []
seeks_for (ℕ.suc count) = Ok Seeks ∷ seeks_for count

-- a task is told that it seeks by its ask and by all of so many turns but the last, which gives it the name
abbrev pub served_at : ℕ → ℕ → List (Result Told Refusal)
served_at count name = seeks_for count ++ (Ok (named name) ∷ [])

-- an answer is the refusal of this number
abbrev pub Refuses : ℕ → Reply → Type 0
Refuses n answer = (said answer).number ≡ n

-- the answer of one more call after a run
abbrev pub last_of : Settings → List Event → Event → Reply
last_of s events event = (call s event (memory_after s largest events)).answer

-- 01's sixteen events, and its listing with the fields of 02, P6
abbrev pub sample : ℕ → List ℕ
sample version =
    0x47 ∷ 0x52 ∷ 0x53 ∷ version ∷ 0x00 ∷ 0x01 ∷ 0x02 ∷ 0x00 ∷ 0x02 ∷ 0x10 ∷ 0x00
    ∷ 0 ∷ 0 ∷ 0 ∷ 0 ∷ 1 ∷ 0
    ∷ 1 ∷ 0 ∷ 0 ∷ 1 ∷ 1 ∷ 0
    ∷ 1 ∷ 0 ∷ 0 ∷ 1 ∷ 0 ∷ 0 ∷ 1 ∷ 0 ∷ 0 ∷ 1 ∷ 0 ∷ 0 ∷ 1 ∷ 0 ∷ 0
    ∷ 1 ∷ 1 ∷ 0 ∷ 1 ∷ 1 ∷ 0 ∷ 1 ∷ 1 ∷ 0 ∷ 1 ∷ 1 ∷ 0
    ∷ 2 ∷ 0 ∷ 0 ∷ 1 ∷ 0 ∷ 0 ∷ 2 ∷ 1 ∷ 0
    ∷ []

abbrev pub sample_text : List ℕ
sample_text =
    bytes_of "grid 1 2 2\n0 ask 0 seeks\n1 ask 1 seeks\n2 turn 0 seeks W X 0 0 1\n3 turn 1 seeks W X 0 0 2\n"
    ++ (bytes_of "4 turn 0 seeks R M 0 0 0\n5 turn 0 seeks R M 0 1 0\n6 turn 0 seeks W M 0 0 1\n"
    ++ (bytes_of "7 turn 0 seeks R X 0 0 2\n8 turn 0 holds 2 W M 0 0 0\n9 turn 1 seeks R M 0 0 0\n"
    ++ (bytes_of "10 turn 1 seeks R M 0 1 0\n11 turn 1 seeks W M 0 1 1\n12 turn 1 holds 0 R X 0 0 2\n"
    ++ bytes_of "13 free 0 freed 2 none\n14 turn 0 refused 15\n15 free 1 freed 0 W M 0 1 0\nend 0 2 6\n")))

-- k = 5: places (0,0), (0,4), (1,0), (2,2), (4,0) have names 0, 4, 5, 11, 14
abbrev pub FiveNames : Type 0
FiveNames =
    (s : Settings) → s.k ≡ 5 → s.version ≡ 1
    → (name_number s 0 0 ≡ 0) × (name_number s 0 4 ≡ 4) × (name_number s 1 0 ≡ 5) × (name_number s 2 2 ≡ 11)
    × (name_number s 4 0 ≡ 14)

-- 02, P3: by diagonal they have 0, 10, 2, 12, 14
abbrev pub FiveByDiagonal : Type 0
FiveByDiagonal =
    (s : Settings) → s.k ≡ 5 → s.version ≡ 2
    → (name_number s 0 0 ≡ 0) × (name_number s 0 4 ≡ 10) × (name_number s 1 0 ≡ 2) × (name_number s 2 2 ≡ 12)
    × (name_number s 4 0 ≡ 14)

-- k = 1: ask gives name 0 after no turns
abbrev pub NoTurns : Type 0
NoTurns =
    (s : Settings) (lent : Memory) → SetUp s lent → s.k ≡ 1 → (p : ℕ) → p < s.n
    → ((call s (ask p) (setup s lent).memory).answer ≡ plain (named 0)) × (used s lent (ask p ∷ []) p ≡ 0)

-- Lone task, mode 1, N = 2, k = 2: name 0 after 5 turns (N+3)
abbrev pub LoneTask : Type 0
LoneTask = BothVersions (λ version.
    (told (settings 1 2 2 version) (acquires 0 5) ≡ served_at 5 0)
    × (told (settings 1 2 2 version) (acquires 1 5) ≡ served_at 5 0))

-- Then the other task: task 1 behind holder 0 gets name 1 in 3 turns; task 0 behind holder 1 in 4
abbrev pub TheOtherTask : Type 0
TheOtherTask = BothVersions (λ version.
    (told (settings 1 2 2 version) (acquires 0 5 ++ acquires 1 3) ≡ served_at 5 0 ++ served_at 3 1)
    × (told (settings 1 2 2 version) (acquires 1 5 ++ acquires 0 4) ≡ served_at 5 0 ++ served_at 4 1))

-- Mode 0, k = 2: first task name 0 in 4 turns, a later one name 1 in 2
abbrev pub OneTimePair : Type 0
OneTimePair =
    (s : Settings) (lent : Memory) → SetUp s lent → s.mode ≡ 0 → s.k ≡ 2 → (p q : ℕ) → p < s.n → q < s.n
    → (q ≡ p → ⊥)
    → told_each (history_of s lent (acquires p 4 ++ acquires q 2)) ≡ served_at 4 0 ++ served_at 2 1

-- The listing above, whose task 0 uses 6 turns, the bound for N = 2, k = 2
abbrev pub TheListing : Type 0
TheListing = BothVersions (λ version.
    (listing (sample version) ≡ sample_text)
    × (used (settings 1 2 2 version) largest (events_of (sample version) 9) 0 ≡ 6)
    × (bound (settings 1 2 2 version) ≡ 6))

-- 02, P2: "With k = 2, two asks and nothing more give PEAK 2", in both modes
abbrev pub two_asks : ℕ → ℕ → List ℕ
two_asks mode version =
    0x47 ∷ 0x52 ∷ 0x53 ∷ version ∷ 0x00 ∷ mode ∷ 0x02 ∷ 0x00 ∷ 0x02 ∷ 0x02 ∷ 0x00
    ∷ 0 ∷ 0 ∷ 0 ∷ 0 ∷ 1 ∷ 0
    ∷ []

abbrev pub TwoAsks : Type 0
TwoAsks = BothVersions (λ version.
    (listing (two_asks 1 version) ≡ bytes_of "grid 1 2 2\n0 ask 0 seeks\n1 ask 1 seeks\nend 0 2 0\n")
    × (listing (two_asks 0 version) ≡ bytes_of "grid 0 2 2\n0 ask 0 seeks\n1 ask 1 seeks\nend 0 2 0\n"))

-- 02, P6: "place 0 for X and for the one-time mark": task 1 at the one mark of the block
abbrev pub at_one_mark : ℕ → List ℕ
at_one_mark version =
    0x47 ∷ 0x52 ∷ 0x53 ∷ version ∷ 0x00 ∷ 0x00 ∷ 0x02 ∷ 0x00 ∷ 0x02 ∷ 0x04 ∷ 0x00
    ∷ 0 ∷ 1 ∷ 0 ∷ 1 ∷ 1 ∷ 0 ∷ 1 ∷ 1 ∷ 0 ∷ 1 ∷ 1 ∷ 0
    ∷ []

abbrev pub OneTimeMark : Type 0
OneTimeMark = BothVersions (λ version. listing (at_one_mark version)
    ≡ bytes_of "grid 0 2 2\n0 ask 1 seeks\n1 turn 1 seeks W X 0 0 2\n2 turn 1 seeks R M 0 0 0\n"
    ++ bytes_of "3 turn 1 seeks W M 0 0 1\nend 0 1 0\n")

-- 02, P4: while a task is out setup is 18; after its release setup is done again
abbrev pub SetupAgain : Type 0
SetupAgain = BothVersions (λ version.
    Refuses 18 (setup (settings 1 2 2 version) (memory_after (settings 1 2 2 version) largest (ask 0 ∷ []))).answer
    × ((setup (settings 1 2 2 version)
    (memory_after (settings 1 2 2 version) largest (acquires 0 5 ++ (release 0 ∷ [])))).answer ≡ plain Done))

-- Mode 1, N = 3, k = 2, two out, the third task's ask: 7. After one is freed: accepted. The two are both at their
-- start, or p holds, or both hold; either is freed. Behind the holder p the other needs p + 3 turns: write X, scan to
-- p's mark, clear
abbrev pub ThirdTask : ℕ → ℕ → ℕ → Type 0
ThirdTask p q r =
    let both_hold : List Event = ask p ∷ ask q ∷ (turns 6 p ++ turns (p + 3) q) in
    Refuses 7 (last_of (settings 1 3 2 1) (ask p ∷ ask q ∷ []) (ask r))
    × Refuses 7 (last_of (settings 1 3 2 1) (ask p ∷ ask q ∷ turns 6 p) (ask r))
    × (last_of (settings 1 3 2 1) (ask p ∷ ask q ∷ (turns 6 p ++ (release p ∷ []))) (ask r) ≡ plain Seeks)
    × Refuses 7 (last_of (settings 1 3 2 1) both_hold (ask r))
    × (last_of (settings 1 3 2 1) both_hold (release p)
    ≡ Ok (record { told = Freed (record { 0 = 0 }); shown = show W (Mark 0 p) 0 }))
    × (last_of (settings 1 3 2 1) both_hold (release q) ≡ plain (Freed (record { 0 = 1 })))
    × (last_of (settings 1 3 2 1) (both_hold ++ (release p ∷ [])) (ask r) ≡ plain Seeks)
    × (last_of (settings 1 3 2 1) (both_hold ++ (release q ∷ [])) (ask r) ≡ plain Seeks)

abbrev pub TwoOut : Type 0
TwoOut = ThirdTask 0 1 2 × ThirdTask 0 2 1 × ThirdTask 1 0 2 × ThirdTask 1 2 0 × ThirdTask 2 0 1 × ThirdTask 2 1 0

-- After setup with N = 256, an ask by 256: 4; by 255: accepted
abbrev pub LastIdentifier : Type 0
LastIdentifier =
    (s : Settings) (lent : Memory) → SetUp s lent → s.n ≡ 256
    → Refuses 4 (call s (ask 256) (setup s lent).memory).answer
    × T (is_accepted (call s (ask 255) (setup s lent).memory).answer)

-- Release in mode 0, any identifier below N: 5, also while idle
abbrev pub NoRelease : Type 0
NoRelease =
    (s : Settings) (m : Memory) → s.mode ≡ 0 → NoneHolds (lent_lines s m (range_lines s m [])) → (p : ℕ) → p < s.n
    → Refuses 5 (call s (release p) m).answer

abbrev pub NoReleaseIdle : Type 0
NoReleaseIdle =
    (s : Settings) (lent : Memory) → SetUp s lent → s.mode ≡ 0 → (p : ℕ) → p < s.n
    → Refuses 5 (call s (release p) (setup s lent).memory).answer

-- ---- the edges of the limits

-- the setups that the lines speak of are accepted: both modes, N from 1 to 256, k from 1 to 16 and at most N, both
-- versions
abbrev pub SetupsTaken : Type 0
SetupsTaken =
    (mode n k version : ℕ) → mode ≤ 1 → 1 ≤ n → n ≤ 256 → 1 ≤ k → k ≤ 16 → k ≤ n → (version ≡ 1) ⊎ (version ≡ 2)
    → SetUp (settings mode n k version) largest

-- k = 17: 1. k = 3, N = 2: 1. N = 257: 1. So is a mode of 2; and 02, P3: a version of 0 or 3. Whatever else the
-- settings say, whatever is lent, and whichever call it is
abbrev pub Outside : Settings → Type 0
Outside s =
    (s.k ≡ 17) ⊎ (((s.k ≡ 3) × (s.n ≡ 2)) ⊎ ((s.n ≡ 257) ⊎ ((s.mode ≡ 2)
    ⊎ ((s.version ≡ 0) ⊎ (s.version ≡ 3)))))

abbrev pub OutsideRefused : Type 0
OutsideRefused = (s : Settings) → Outside s → (m : Memory) (event : Event)
    → Refuses 1 (setup s m).answer × Refuses 1 (call s event m).answer

-- the table, whole
pub record Edges : Type 0 where
  pub five_names : FiveNames
  pub five_by_diagonal : FiveByDiagonal
  pub no_turns : NoTurns
  pub lone_task : LoneTask
  pub the_other_task : TheOtherTask
  pub one_time_pair : OneTimePair
  pub the_listing : TheListing
  pub two_asks_lem : TwoAsks
  pub one_time_mark : OneTimeMark
  pub setup_again : SetupAgain
  pub two_out : TwoOut
  pub last_identifier : LastIdentifier
  pub no_release : NoRelease
  pub no_release_idle : NoReleaseIdle
  pub setups_taken : SetupsTaken
  pub outside_refused : OutsideRefused
