-- Asking a walk until it gives no more.
-- Assumes nothing.
use Rattle.std.proofs.Common.{◌≡◌, ◌<◌, true, false, List, [], ◌∷◌, length, is_some, Option, sym, ap, ◌∙◌, true≢false, arith}
use Rattle.walks.specs.Walks.{Gives}

-- each answer leaves a shorter list
pub shorter : {X : Type 0} (xs ys : List X) (r : Option X) → true ≡ is_some r → Gives xs r ys → length ys < length xs
shorter [] ys r some (e, rest) = absurd (true≢false (some ∙ ap is_some e))
shorter (x ∷ xs) ys r some (e, rest) = rw rest (omega arith)

-- where none is given, none is to come
pub spent : {X : Type 0} (xs ys : List X) (r : Option X) → false ≡ is_some r → Gives xs r ys → ys ≡ []
spent [] ys r none (e, rest) = rest
spent (x ∷ xs) ys r none (e, rest) = absurd (true≢false (sym (none ∙ ap is_some e)))
