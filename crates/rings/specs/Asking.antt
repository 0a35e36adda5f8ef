-- Asking a walk that goes ring by ring, of any things.
-- Assumes nothing.
use Rattle.std.specs.Prelude.{ℕ, zero, suc, ◌+◌, ◌-◌, List, [], ◌∷◌, ◌++◌, Some, None, Option}
use Rattle.search.specs.BoxLists.{from_on}

module _ {X : Type 0} (ring : ℕ → List X) where
  -- Where ring k was entered last and xs is left of it, and n more rings may be entered: what is answered, the ring entered last by
  -- then and what is left of it. What is left of a ring comes first, whatever may be entered; a new ring is entered where nothing is.
  abbrev pub asked : ℕ → ℕ → List X → Option X × ℕ × List X
  asked n k (x ∷ xs) = (Some x, k, xs)
  asked zero k [] = (None, k, [])
  asked (suc n) k [] = asked n (k + 1) (ring (k + 1))

  -- what is to come as long as no ring past the last one may be entered
  abbrev pub to_come : ℕ → List X → ℕ → List X
  to_come k xs last = xs ++ from_on ring (k + 1) (last - k)
