-- Laws of `put`: its length, one byte, and one text after another.
use mathlib.Core.{Path.{◌≡◌, sym, ap, ◌∙◌}, List.{List, [], ◌∷◌, ◌++◌, append_assoc}}
use Prim.Native.Nat.{ℕ, suc, ◌+◌, ◌≤◌, ◌<◌}
use native.Mathlib.{Nat.add_assoc, Numerals.add-one, Omega.arith}
use lib.ListN.{length, take, drop, set, length-append, length-drop, take-append-drop}
use lib.Seq.{length-take-le, take_at, drop-append-add, drop-drop, set_split}
use borrow.Rule.Slice.PartMut.{put_mid}
use Rattle.text.specs.Put.{put, Puts}

pub put_byte : (room : List ℕ) (at b : ℕ) → at < length room → set room at b ≡ put room at (b ∷ [])
unfolding put
put_byte room at b l = let e : at + 1 ≡ suc at = add-one at in rw (e, set_split room at b l)

module _ (room : List ℕ) (at : ℕ) where
  pub put_nothing : put room at [] ≡ room
  unfolding put
  put_nothing = let e : at + 0 ≡ at = omega arith in rw e (take-append-drop at room)

  pub length_put : (text : List ℕ) → at + length text ≤ length room → length (put room at text) ≡ length room
  unfolding put
  length_put text fits =
      rw (
        length-append (take at room) (text ++ drop (at + length text) room),
        length-append text (drop (at + length text) room),
        length-drop (at + length text) room,
        length-take-le at room (omega arith),
      )
      (omega arith)

  -- one text after another is the two put as one
  pub put_append : (a b : List ℕ) (to : ℕ) → to ≡ at + length a → to + length b ≤ length room
      → put (put room at a) to b ≡ put room at (a ++ b)
  unfolding put
  put_append a b to past fits =
      let head : List ℕ = take at room ++ a in
      let rest : List ℕ = drop (at + length a) room in
      let last : List ℕ = drop (at + length (a ++ b)) room in
      let long : length head ≡ to =
      length-append (take at room) a ∙ rw (length-take-le at room (omega arith)) (sym past) in
      let whole : take at room ++ (a ++ rest) ≡ head ++ rest = sym (append_assoc (take at room) a rest) in
      let before : take to (head ++ rest) ≡ head = take_at head rest to long in
      let after : drop (to + length b) (head ++ rest) ≡ last =
      ap (λ (n : ℕ). drop (n + length b) (head ++ rest)) (sym long)
      ∙ drop-append-add head rest (length b)
      ∙ drop-drop (length b) (at + length a) room
      ∙ ap (λ (n : ℕ). drop n room) (add_assoc at (length a) (length b))
      ∙ ap (λ (n : ℕ). drop (at + n) room) (sym (length-append a b)) in
      rw (whole, before, after)
      (append_assoc (take at room) a (b ++ last)
      ∙ ap (λ (l : List ℕ). take at room ++ l) (sym (append_assoc a b last)))

  -- one byte after a text
  pub put_byte_after : (a : List ℕ) (b to : ℕ) → to ≡ at + length a → to < length room
      → set (put room at a) to b ≡ put room at (a ++ (b ∷ []))
  put_byte_after a b to past fits =
      let long = length_put a (omega arith) in
      put_byte (put room at a) to b (omega arith) ∙ put_append a (b ∷ []) to past (omega arith)

  -- a part of the room, over which a text of its length is written
  pub put_part : (text : List ℕ) (long : ℕ) → long ≡ length text → put_mid at long room text ≡ put room at text
  unfolding put
  put_part text long same = rw (same, drop-drop (length text) at room)

-- two rooms that a writer's contract admits are equal, and so are the two indices
pub puts_determined : (room : List ℕ) (at : ℕ) (text : List ℕ) (to to' : ℕ) (after after' : List ℕ)
    → Puts room at text to after → Puts room at text to' after' → (to ≡ to') × (after ≡ after')
puts_determined room at text to to' after after' p q = (p.past ∙ sym q.past, p.room_after ∙ sym q.room_after)
