-- Listing what a chain of iterators gives.
-- Assumes nothing.
use Rattle.std.proofs.Common.{◌≡◌, ℕ, ◌<◌, List, [], ◌∷◌, length, Result, Ok, Err, Some, map-id, sym, subst, ◌∙◌, arith}
use Rattle.std.proofs.lemmas.Iterator.{YieldsList, items_from_drains}
use Rattle.std.specs.Iterator.{AlwaysYields, DrainsIf, Yields, YieldsThen}
use Rattle.std.specs.Prelude.{⊤, IfOk, OnErr, MatchResult, Option}

-- a chain that gives one more after some has a longer list than these
longer :
    {S X : Type 0} (steps : S → Option X → S → Type 0) (xs all : List X) (s t u : S) (x : X)
    → AlwaysYields steps (λ x. x) s all → Yields steps s xs t → steps t (Some x) u → length xs < length all
longer steps [] [] s t u x always given more = absurd (always x u (subst (λ a. steps a (Some x) u) (sym given) more))
longer steps [] (z ∷ all) s t u x always given more = omega arith
longer steps (y ∷ ys) [] s t u x always given more = absurd (always y given.0 given.1)
longer steps (y ∷ ys) (z ∷ all) s t u x always given more =
    let fewer = longer steps ys all given.0 t u x (always.1 y given.0 given.1).1 given.2 more in omega arith

-- what was collected of a chain, whatever collects it, has the chain's list; where n items fill it and one more came, the list is longer
pub listed :
    {S X V E : Type 0} {steps : S → Option X → S → Type 0} {s : S} {all : List X} (items : V → List X) (n m : ℕ) (r : Result V E)
    → IfOk r (λ v. (i : S) × (xs : List X) × (i ≡ s) × DrainsIf steps ⊤ i xs × (items v ≡ xs))
    → OnErr r ((i : S) × (xs : List X) × (x : X) × (u : S) × (i ≡ s) × YieldsThen steps i xs (Some x) u × (length xs ≡ n))
    → YieldsList steps (λ x. x) s all → length all ≡ m → MatchResult r (λ v. items v ≡ all) (λ _. n < m)
listed {steps = steps} items n m (Ok v) ran full yields len =
    ran.4 ∙ sym (map-id ran.1) ∙ items_from_drains ran.1 (subst (λ i. DrainsIf steps ⊤ i ran.1) ran.2 ran.3) yields
listed {steps = steps} {all = all} items n m (Err e) ran full yields len =
    let always = subst (λ i. AlwaysYields steps (λ x. x) i all) (sym full.4) yields.runs in
    let more = longer steps full.1 all full.0 full.5.0 full.3 full.2 always full.5.1 full.5.2 in
    omega (arith, full.6, len)
