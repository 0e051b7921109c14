-- What `listing::list` leaves in a room that is long enough for any file: the whole listing, and never a refusal.
use mathlib.Core.{Path.{◌≡◌, ap}, List.{List, ◌++◌}}
use Prim.Native.Nat.{ℕ, ◌≤◌}
use native.Mathlib.Nat.{le_trans}
use lib.{ListN.{length, take, drop}, Seq.take-append_seam}
use borrow.Author.Tests.{le-ltb}
use Rattle.std.specs.{Prelude.Ok, Result.result_unwrap_or}
use Rattle.file.specs.File.{Writing, Written, written_of}
use Rattle.printed.specs.{Listing.listing, Listed.listed}
use Rattle.listing.proofs.Contract.{room_always}

module _ (file room after : List ℕ) (long : 917554 ≤ length room) (answer : Writing)
    (is : written_of answer after ≡ listed file room) where
  -- the listing stands at the start of the room, and its length is answered
  whole : written_of answer after
      ≡ written_of (Ok (length (listing file))) (listing file ++ drop (length (listing file)) room)
  whole = rw (le-ltb _ _ (le_trans (room_always file) long)) at is

  -- as many bytes as are answered are the listing
  pub text_whole : take (result_unwrap_or answer 0) after ≡ listing file
  text_whole =
      rw (ap (λ (left : Written). left.answer) whole, ap (λ (left : Written). left.room) whole)
      (take-append_seam (listing file) (drop (length (listing file)) room))
