-- Reaches: a shorter one gives the beginning of a longer one's list, and whatever reaches a cursor is asked with, what it gives begins
-- the list of all rings.
-- Assumes nothing.
use Rattle.std.specs.Prelude.{◌≡◌, ℕ, ◌-◌, T, List, [], ◌∷◌, ◌++◌, None}
use Rattle.std.specs.Float.Ieee.{le}
use mathlib.Core.List.{IsPrefix}
use Rattle.std.specs.Option.{option_to_list}
use Rattle.rings.specs.Asking.{asked}
use Rattle.rings.specs.RingCursors.{RingCursor, asked_of, to_come_within}
use Rattle.rings.specs.Reaches.{last_ring}
use Rattle.rings.specs.RingLists.{ring_of, rings_up_to, unlimited_rings}
use Rattle.rings.specs.declared.reach.Reach.{Reach}
use Rattle.rings.specs.declared.reach.Reach.TheVariants.{Unlimited, Distance}
use Rattle.shape.specs.Grids.{Grid}
use Rattle.takers.specs.declared.triangle.NumberedTriangle.{NumberedTriangle}

-- the first reach is no longer than the second: unlimited is longer than every distance, and `le` holds of no NaN
abbrev pub NoLonger : Reach → Reach → Type 0
NoLonger (Distance d) (Distance e) = T (le d e)
NoLonger (Distance d) Unlimited = T (le d d)
NoLonger Unlimited (Distance e) = ⊥
NoLonger Unlimited Unlimited = Unit

-- a shorter reach gives the beginning of a longer one's list
abbrev pub ShorterReachBegins : Grid → Type 0
ShorterReachBegins g =
    (flags : List ℕ) (ci cj : ℕ) (shorter longer : Reach) → NoLonger shorter longer
    → IsPrefix (rings_up_to g flags ci cj (last_ring g ci cj shorter)) (rings_up_to g flags ci cj (last_ring g ci cj longer))

-- where a cursor gives none, the same is to come as before, whatever reach it is asked with then
abbrev pub NoneLeavesAll : Type 0
NoneLeavesAll =
    (w : RingCursor) (reach later : Reach) → (asked_of w reach).0 ≡ None → to_come_within (asked_of w reach).1 later ≡ to_come_within w later

-- what a cursor gives in all when it is asked with one reach after the other: ring k was entered last, and xs is left of it
abbrev pub given : Grid → List ℕ → ℕ → ℕ → List Reach → ℕ → List NumberedTriangle → List NumberedTriangle
given g flags ci cj [] k xs = []
given g flags ci cj (reach ∷ reaches) k xs =
    let answer = asked (ring_of g flags ci cj) (last_ring g ci cj reach - k) k xs in
    option_to_list answer.0 ++ given g flags ci cj reaches answer.1 answer.2

-- whatever reach each call brings, what a fresh cursor gave so far begins the list of all rings
abbrev pub GivenBeginsAllRings : Grid → Type 0
GivenBeginsAllRings g =
    (flags : List ℕ) (ci cj : ℕ) (reaches : List Reach)
    → IsPrefix (given g flags ci cj reaches 0 (ring_of g flags ci cj 0)) (unlimited_rings g flags ci cj)
