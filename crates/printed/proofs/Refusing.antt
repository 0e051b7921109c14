-- Listing a file is refused exactly where the room is short, and else leaves the listing at the start of the room.
use mathlib.Core.{Path.{◌≡◌, refl, sym, ap, ◌∙◌}, Logic.{inl, inr, ⊎_elim, ◌↔◌}, List.{List, [], ◌∷◌}}
use Prim.Native.Nat.{ℕ, ◌<◌}
use Rattle.std.specs.Prelude.{Err, Ok}
use native.Mathlib.Omega.{arith}
use lib.{Dec.ltb, ListN.length}
use Rattle.demands.specs.Refusals.{Verdict, when}
use Rattle.machine.specs.RefusalNumbers.{Said, number_of}
use Rattle.demands.specs.promises.Refusing.{NoneHolds}
use Rattle.machine.proofs.refusals.Numbered.{refusal_says}
use Rattle.demands.proofs.refusals.Deciding.{Are, refused_exactly, accepted_verdict, refusal_keeps}
use Rattle.machine.specs.declared.{Refusal.TheVariants.ShortRoom}
use Rattle.counting.proofs.Tested.{below, meaning}
use Rattle.file.specs.File.{opened_as, Opening, opening, opening_said, writing_said}
use Rattle.file.specs.Refusing.{in_header, sixteen, open_lines}
use Rattle.file.proofs.Refusing.{each_opening}
use Rattle.file.proofs.Headers.{opened_alike}
use Rattle.printed.specs.{Listing.listing, Listed.{room_by, room_for, list_verdict, listed_by}}
use Rattle.printed.specs.Refusing.{RoomShort, list_lines, ListingTold, EachListing}

module _ (file room : List ℕ) where
  -- how much room is asked for, by whether the file opens
  short_line : (length room < room_for file) ↔ RoomShort file room
  short_line = go (opening file) refl
    where
      go : (o : Opening) → opening file ≡ o → (length room < room_by o) ↔ RoomShort file room
      go (Ok opened) is =
          let told = each_opening file in
          let none : (opening_said (opening file)).number ≡ 0 = ap (λ (o : Opening). (opening_said o).number) is in
          let opens = told.exactly.accepted.0 none in
          let same : opened_as (in_header file) (sixteen file 9) ≡ Ok opened = sym (told.answers none) ∙ is in
          let count : sixteen file 9 ≡ opened.count = (opened_alike (in_header file) opened.settings
          (sixteen file 9) opened.count same).1 in (
            λ short. inl (opens, omega arith),
            ⊎_elim (λ short. let l = short.1 in omega arith) (λ closed. absurd (closed.0 opens)),
          )
      go (Err why) is =
          let low = (refusal_says why).0 in
          let number : (opening_said (opening file)).number ≡ number_of why =
          ap (λ (o : Opening). (opening_said o).number) is in
          let closed : NoneHolds (open_lines file)
          → ⊥ = λ none. let zero = (each_opening file).exactly.accepted.1 none in omega arith in
          (λ short. inr (closed, short), ⊎_elim (λ opens. absurd (closed opens.0)) (λ short. short.1))

  abbrev says : Verdict → Said
  says v = writing_said (listed_by v (listing file) room).answer

  listed_passed : (says (list_verdict file room)).number ≡ 0 → list_verdict file room ≡ Ok tt
  listed_passed = accepted_verdict says refl (λ why. refl) (list_verdict file room)

  room_are : Are (when (ltb (length room) (room_for file)) ShortRoom ∷ []) (list_lines file room)
  room_are = (record { numbered = refl; tested = meaning (below (length room) (room_for file)) short_line }, λ fits. tt)

  listing_told : ListingTold file room
  listing_told = record {
    exactly = refused_exactly says refl (λ why. refl) (when (ltb (length room) (room_for file)) ShortRoom ∷ [])
        (list_lines file room) room_are;
    values = λ accepted. ap (λ (v : Verdict). (says v).values) (listed_passed accepted);
    text = λ accepted. ap (λ (v : Verdict). (listed_by v (listing file) room).room) (listed_passed accepted);
    keeps = refusal_keeps says refl (λ why. refl) (λ v. (listed_by v (listing file) room).room) room (λ why. refl)
        (list_verdict file room);
  }

pub each_listing : EachListing
each_listing = listing_told
