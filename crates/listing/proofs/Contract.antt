-- Laws of the listing's contract: a room too short, the text in a room long enough, and that the contract determines
-- both.
use mathlib.Core.{Path.{◌≡◌, refl, sym, ap, ◌∙◌}, List.{List, [], ◌∷◌, ◌++◌}}
use Rattle.std.specs.Prelude.{Ok, Err, ℕ, ◌≤◌, ◌<◌}
use native.Mathlib.{Nat.zero-add, Omega.arith}
use lib.{Dec.ltb, ListN.{length, drop, length-append}}
use borrow.Author.Tests.{lt-ltb, le-ltb}
use Rattle.file.specs.File.{Opening, opening, Writing, Written, written_of}
use Rattle.printed.specs.{Listing.{listing_by, listing}, Listed.{room_by, room_for, list_verdict, listed_by, listed}}
use Rattle.machine.specs.declared.Refusal.TheVariants.{ShortRoom}
use Rattle.demands.specs.Refusals.{Verdict, when, first}
use Rattle.text.specs.Put.{put, Puts}
use Rattle.listing.proofs.Opened.{events_few}

-- a text put at the start of the room
put_first : (room text : List ℕ) → put room 0 text ≡ text ++ drop (length text) room
unfolding put
put_first room text = rw (zero-add (length text))

-- what is left where a file opens so
abbrev left_by : Opening → List ℕ → List ℕ → Written
left_by opens file room = listed_by (first (when (ltb (length room) (room_by opens)) ShortRoom ∷ []))
    (listing_by opens file) room

module _ (file room : List ℕ) (opens : Opening) (is : opens ≡ opening file) where
  so : left_by opens file room ≡ listed file room
  so = ap (λ (o : Opening). left_by o file room) is

  pub room_short : length room < room_by opens → written_of (Err ShortRoom) room ≡ listed file room
  room_short short =
      let e : left_by opens file room ≡ written_of (Err ShortRoom) room = rw (lt-ltb _ _ short) refl in
      sym e ∙ so

  pub text_listed : (to : ℕ) (after : List ℕ) → room_by opens ≤ length room
      → Puts room 0 (listing_by opens file) to after → written_of (Ok to) after ≡ listed file room
  text_listed to after long puts =
      let text = listing_by opens file in
      let e : left_by opens file room ≡ written_of (Ok (length text)) (text ++ drop (length text) room) =
      rw (le-ltb _ _ long) refl in
      let past : to ≡ length text = puts.past ∙ zero-add (length text) in
      let room_after : after ≡ text ++ drop (length text) room = puts.room_after ∙ put_first room text in
      rw (past, room_after) (sym e ∙ so)

-- two outcomes that the contract of `list` admits are equal
pub listed_determined : (file room : List ℕ) (answer answer' : Writing) (after after' : List ℕ)
    → written_of answer after ≡ listed file room → written_of answer' after' ≡ listed file room
    → (answer ≡ answer') × (after ≡ after')
listed_determined file room answer answer' after after' p q =
    let e : written_of answer after ≡ written_of answer' after' = p ∙ sym q in
    (ap (λ (l : Written). l.answer) e, ap (λ (l : Written). l.room) e)

-- ---- what a caller of `list` learns

within : (verdict : Verdict) (room text after : List ℕ) (count : ℕ)
    → written_of (Ok count) after ≡ listed_by verdict text room → count ≤ length after
within (Err why) room text after count e =
    let answer : ◌≡◌ {A = Writing} (Ok count) (Err why) = ap (λ (l : Written). l.answer) e in
    let z : ◌≡◌ {A = ℕ} 0 1 = cc in
    omega arith
within (Ok accepted) room text after count e =
    let answer : ◌≡◌ {A = Writing} (Ok count) (Ok (length text)) = ap (λ (l : Written). l.answer) e in
    let same : count ≡ length text = cc in
    let whole : after ≡ text ++ drop (length text) room = ap (λ (l : Written). l.room) e in
    rw whole (omega (arith, length-append text (drop (length text) room)))

-- the text lies within the room
pub text_within : (file room after : List ℕ) (count : ℕ) → written_of (Ok count) after ≡ listed file room
    → count ≤ length after
text_within file room after count is = within (list_verdict file room) room (listing file) after count is

-- 50 bytes and 56 for each of 16,384 events are room for any file
pub room_always : (file : List ℕ) → room_for file ≤ 917554
room_always file = go (opening file) refl
  where
    go : (o : Opening) → opening file ≡ o → room_by o ≤ 917554
    go (Ok opened) is = let few = events_few file opened.settings opened.count is in omega arith
    go (Err why) is = omega arith
