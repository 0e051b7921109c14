-- `longest` is as long as it says, by a law of every length: nothing counts to half a million.
use Rattle.std.proofs.Common.{◌≡◌, ℕ, length, replicate, sym}
use Rattle.std.proofs.lemmas.List.{length-replicate}
use Rattle.gridlist.proofs.longest.Goals as goal

long : (n a : ℕ) → n ≡ length (replicate n a)
long n a = sym (length-replicate n a)

pub returns : goal.returns
returns c = long _ 0
