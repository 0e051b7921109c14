-- A space and the fields, behind the answer to a turn or a release; nothing behind that to an ask.
use Rattle.std.proofs.Common.{Option, ◌≡◌, ◌⊎◌, inl, inr, refl, ◌∷◌, [], ◌++◌, arith}
use Rattle.machine.specs.declared.{Kind.{Kind, TheVariants.{Turn, Release}}, Shown.Shown}
use Rattle.printed.specs.Listing.{shown_text, fields_text}
use Rattle.report.proofs.Paging.{then, wider, said}
use Rattle.report.proofs.Page.fields.Goals as goal

spaced : (kind : Kind) (shown : Option Shown) → (kind ≡ Turn) ⊎ (kind ≡ Release)
    → (32 ∷ []) ++ shown_text shown ≡ fields_text kind shown
spaced kind shown (inl e) = rw e refl
spaced kind shown (inr e) = rw e refl

pub returns-in-Ask : goal.returns-in-Ask
returns-in-Ask c = rw c.in-Ask.is (wider c.text.ensures 27 (omega arith))

pub returns-in-Turn : goal.returns-in-Turn
returns-in-Turn c =
    said (then c.text-in-Turn.ensures 26 c.requires (λ more. c.shown.ensures))
    (spaced c.args.kind c.args.shown c.in-Turn.is)
