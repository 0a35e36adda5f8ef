-- What asking a walk for its next triangle answers.
-- Assumes nothing.
use Rattle.std.specs.Prelude.{◌≡◌, List, [], ◌∷◌, Some, None, Option}

-- the first of the list, which leaves the rest; an empty list gives none and stays
abbrev pub Gives : {X : Type 0} → List X → Option X → List X → Type 0
Gives [] r after = (r ≡ None) × (after ≡ [])
Gives (x ∷ xs) r after = (r ≡ Some x) × (after ≡ xs)
