-- A shorter reach gives the beginning of a longer one's list, and what a cursor gives begins the list of all rings.
-- Assumes nothing.
use Rattle.std.proofs.Common.{None, ◌≡◌, ℕ, ◌+◌, ◌-◌, ◌^◌, ◌<◌, ◌≤◌, List, [], ◌∷◌, ◌++◌, sym, refl, ap, ◌∙◌, subst, append_assoc, arith}
use mathlib.Core.List.{IsPrefix}
use Rattle.math.specs.Scales.{scale_refusal}
use Rattle.rings.proofs.AskingLaws.{asked_begins, all_to_come, none_leaves_all}
use Rattle.search.proofs.FromOn.{from_on_add}
use Rattle.rings.specs.Asking.{asked, to_come}
use Rattle.rings.specs.Reaches.{last_ring}
use Rattle.rings.specs.RingCursors.{rings_of, last_ring_of}
use Rattle.rings.specs.RingLists.{farthest_ring, ring_of}
use Rattle.rings.specs.declared.reach.Reach.{Reach}
use Rattle.search.specs.BoxLists.{from_on}
use Rattle.shape.specs.Grids.{Grid}
use Rattle.std.specs.Option.{option_to_list}
use Rattle.takers.specs.declared.triangle.NumberedTriangle.{NumberedTriangle}
use Rattle.walk_laws.proofs.ReachOrder.{allowed_rises}
use Rattle.walk_laws.specs.Reaching.{given, ShorterReachBegins, GivenBeginsAllRings, NoneLeavesAll}

-- fewer rings are a beginning of more
fewer_begin : {X : Type 0} (f : ℕ → List X) (k m n : ℕ) → m ≤ n → IsPrefix (from_on f k m) (from_on f k n)
fewer_begin f k m n h =
    let e : m + (n - m) ≡ n = omega arith in
    (from_on f (k + m) (n - m), sym (rw e at (from_on_add f k m (n - m))))

pub shorter_reach :
    (g : Grid) → 0 < g.rows → g.rows < 2 ^ 24 → 0 < g.columns → g.columns < 2 ^ 24 → scale_refusal g.scale ≡ None
    → ShorterReachBegins g
shorter_reach g some_rows few_rows some_columns few_columns ranged flags ci cj shorter longer h =
    let l = allowed_rises g some_rows few_rows some_columns few_columns ranged shorter longer h in
    fewer_begin (ring_of g flags ci cj) 0 (last_ring g ci cj shorter + 1 - 0) (last_ring g ci cj longer + 1 - 0)
    (omega arith)

module _ (g : Grid) (flags : List ℕ) (ci cj : ℕ) where
  -- what is given begins what is to come, since no reach enters a ring past the farthest
  given_begins : (reaches : List Reach) (k : ℕ) (xs : List NumberedTriangle)
      → IsPrefix (given g flags ci cj reaches k xs)
      (to_come (ring_of g flags ci cj) k xs (farthest_ring g.rows g.columns ci cj))
  given_begins [] k xs = (to_come (ring_of g flags ci cj) k xs (farthest_ring g.rows g.columns ci cj), refl)
  given_begins (reach ∷ reaches) k xs =
      let last = last_ring g ci cj reach in
      let answer = asked (ring_of g flags ci cj) (last - k) k xs in
      let after = given_begins reaches answer.1 answer.2 in
      let far = farthest_ring g.rows g.columns ci cj in
      let begins = asked_begins (ring_of g flags ci cj) last k xs far (omega arith) in
      (after.0, rw append_assoc (ap (λ ys. option_to_list answer.0 ++ ys) after.1 ∙ sym begins))

pub given_begins_all : (g : Grid) → GivenBeginsAllRings g
given_begins_all g flags ci cj reaches =
    subst (IsPrefix (given g flags ci cj reaches 0 (ring_of g flags ci cj 0)))
    (all_to_come (ring_of g flags ci cj) (farthest_ring g.rows g.columns ci cj))
    (given_begins g flags ci cj reaches 0 (ring_of g flags ci cj 0))

pub none_leaves : NoneLeavesAll
none_leaves w reach later none = none_leaves_all (rings_of w) (last_ring_of w reach) w.ring w.left (last_ring_of w later) none
