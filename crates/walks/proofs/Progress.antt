-- A walk ends: each triangle that it gives leaves fewer to come; and the chains that begin with it give what is made of its list.
-- Assumes nothing.
use Rattle.std.proofs.Common.{◌≡◌, List, [], ◌∷◌, length, Some, None, Option, arith}
use Rattle.std.specs.Iterator.{MakesProgress, AlwaysYields, at_most}
use Rattle.std.specs.Prelude.{⊤}
use Rattle.walks.specs.Walks.{Gives}

pub gives_progress :
    {X : Type 0} (s : List X) (r : Option X) (t : List X) → Gives s r t → MakesProgress (λ _. ⊤) (λ w. at_most (length w)) s r t
gives_progress [] r t h = rw (h.0, h.1) (record { on = λ _. tt; keeps = tt; rests = λ _. tt })
gives_progress (x ∷ xs) r t h = rw (h.0, h.1) (record { on = λ _. (tt, tt, omega arith); keeps = tt; rests = λ _. tt })

-- a walk gives its list
pub walk_yields :
    {S X : Type 0} (steps : S → Option X → S → Type 0) (rest : S → List X) → ((s : S) (r : Option X) (t : S) → steps s r t → Gives (rest s) r (rest t))
    → (xs : List X) (s : S) → rest s ≡ xs → AlwaysYields steps (λ x. x) s xs
walk_yields steps rest gives [] s e = λ x j met. let g = rw e at (gives s (Some x) j met) in let none = g.0 in cc
walk_yields steps rest gives (x ∷ xs) s e = (
  λ j met. let g = rw e at (gives s None j met) in let some = g.0 in cc,
  λ y j met. let g = rw e at (gives s (Some y) j met) in let first = g.0 in (cc, walk_yields steps rest gives xs j g.1),
)
