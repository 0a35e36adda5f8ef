-- A loop over heights that keeps the first so far in some order.
-- Assumes nothing.
use Rattle.std.proofs.Common.{◌≡◌, ℕ, ◌+◌, ◌<◌, ◌≤◌, Bool, List, length, get_or, take, fold}
use lib.Ieee.{Float, nan}
use Rattle.std.proofs.lemmas.List.{take_all}
use Rattle.std.proofs.lemmas.List.Sums.{fold_more}
use Rattle.math.specs.Heights.{first_of}

module _ (before : Float → Float → Bool) (ys : List Float) (i : ℕ) (best : Float) where
  pub first_more :
      (next : Float) → i < length ys → best ≡ fold (first_of before) nan (take i ys)
      → next ≡ first_of before best (get_or ys i nan) → next ≡ fold (first_of before) nan (take (i + 1) ys)
  first_more next h e n = cc (fold_more (first_of before) nan ys i nan h)

  pub first_all : length ys ≤ i → best ≡ fold (first_of before) nan (take i ys) → best ≡ fold (first_of before) nan ys
  first_all h e = cc (take_all i ys h)
