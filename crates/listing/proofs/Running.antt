-- A run goes as the definition's progress: at its beginning, by one event more, and at its end.
use mathlib.Core.{Path.{◌≡◌, sym, ap, ◌∙◌}, List.{List, ◌++◌}}
use Prim.Native.Nat.{ℕ, ◌+◌, ◌*◌}
use native.Mathlib.{Numerals.add-one, Omega.arith}
use lib.ListN.{replicate}
use Rattle.machine.specs.{Records.idle, declared.{Settings.Settings, Record.Record}}
use Rattle.demands.specs.{Memory.{Memory, largest}, Answers.Reply, Calls.{Outcome, setup}, Lent.{lent, leaves}}
use Rattle.file.specs.File.{event_at}
use Rattle.printed.specs.Listing.{event_line, end_line, holders_of, advance_by, advance, progress, ended}
use Rattle.report.{specs.{declared.Page.Page, Pages.{Adds, Fits}}, proofs.Paging.{then, wider}}
use Rattle.listing.specs.{declared.Run.Run, Runs.{memory_of, progress_of, Advanced}}

-- rows as long as the largest settings need, all idle and 0, are the largest memory
pub fresh_rows : (records : List Record) (xs marks : List ℕ) → records ≡ replicate 256 idle → xs ≡ replicate 120 0
    → marks ≡ replicate 30720 0 → lent records xs marks ≡ largest
fresh_rows records xs marks idle clear clean = λ k. lent (idle k) (clear k) (clean k)

-- and setup on it leaves the beginning's memory
pub fresh : (s : Settings) (before after : Memory) (answer : Reply) → before ≡ largest
    → leaves answer after ≡ setup s before → after ≡ (setup s largest).memory
fresh s before after answer rows is = ap (λ (outcome : Outcome). outcome.memory) (is ∙ ap (setup s) rows)

-- the run stands where the definition is after i events, and the page has the lines so far
pub record Stands (s : Settings) (file : List ℕ) (i : ℕ) (first : Page) (run : Run) (page : Page) : Type 0 where
  pub settings : run.settings ≡ s
  pub lines : List ℕ
  pub stands : progress_of run lines ≡ progress s file i
  pub printed : Adds (23 + 56 * i) first lines page

module _ (s : Settings) (file : List ℕ) (first : Page) (i : ℕ) (old : Run) (page : Page)
    (before : Stands s file i first old page) where
  pub advances : (answer : Reply) (new : Run) (after : Page) → Fits (23 + 56 * i + 56) first
      → Advanced (event_at file i) old answer new → Adds 56 page (event_line i (event_at file i) answer) after
      → Stands s file (i + 1) first new after
  advances answer new after left step line =
      let event = event_at file i in
      let here = progress_of old before.lines in
      let lines = before.lines ++ event_line i event answer in
      let called = rw before.settings at step.called in
      let peak = rw before.settings at step.peak in
      let counted : progress_of new lines ≡ advance_by s i event (leaves answer (memory_of new)) here =
      λ k. record { memory = memory_of new; peak = peak k; most = step.most k; lines = lines } in
      record {
        settings = step.settings ∙ before.settings;
        lines = lines;
        stands = counted
            ∙ ap (λ (outcome : Outcome). advance_by s i event outcome here) called
            ∙ ap (advance s i event) before.stands
            ∙ ap (progress s file) (sym (add-one i));
        printed = wider (then before.printed 56 left (λ more. line)) (23 + 56 * (i + 1)) (omega arith);
      }

  pub ends : (holders : ℕ) (after : Page) → Fits (23 + 56 * i + 27) first
      → holders ≡ holders_of old.settings old.records → Adds 27 page (end_line holders old.peak old.most) after
      → Adds (50 + 56 * i) first (ended s (progress s file i)) after
  ends holders after left counted line =
      let last = rw (counted, before.settings) at line in
      rw (sym before.stands) (wider (then before.printed 27 left (λ more. last)) (50 + 56 * i) (omega arith))
