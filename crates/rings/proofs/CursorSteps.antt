-- Asking a cursor: what it answers from what its search finds, and that this is the first of what is to come.
-- Assumes nothing.
use Rattle.std.proofs.Common.{◌≡◌, ℕ, ◌-◌, List, ◌++◌, None, Option, sym, ap, ◌∙◌, subst}
use Rattle.math.specs.declared.vector.Vector.{Vector}
use Rattle.points.specs.Points.{closest_cell}
use Rattle.rings.proofs.AskingLaws.{asked_gives, all_to_come}
use Rattle.rings.specs.Asking.{asked}
use Rattle.rings.specs.RingCursors.{RingCursor, fresh_cursor, rings_of, last_ring_of, asked_of, to_come_within}
use Rattle.rings.specs.Reaches.{last_ring, rings_within}
use Rattle.rings.specs.RingLists.{ring_of}
use Rattle.rings.specs.declared.reach.Reach.{Reach}
use Rattle.shape.specs.Grids.{Grid}
use Rattle.std.specs.Option.{option_to_list}
use Rattle.takers.specs.declared.triangle.NumberedTriangle.{NumberedTriangle}
use Rattle.walks.specs.Walks.{Gives}

module _ (g : Grid) (flags : List ℕ) (ci cj : ℕ) (reach : Reach) where
  -- the cursor that entered ring k last, of which xs is left
  abbrev at : ℕ → List NumberedTriangle → RingCursor
  at k xs = record { grid = g; flags = flags; row = ci; column = cj; ring = k; left = xs }

  -- where none waits, what was found is the answer
  pub found_next :
      (k last k' : ℕ) (p r : Option NumberedTriangle) (xs ys : List NumberedTriangle) → p ≡ None → last ≡ last_ring g ci cj reach
      → ◌≡◌ {A = Option NumberedTriangle × ℕ × List NumberedTriangle} (r, k', ys) (asked (ring_of g flags ci cj) (last - k) k xs)
      → ◌≡◌ {A = Option NumberedTriangle × RingCursor} (r, at k' ys) (asked_of (at k (option_to_list p ++ xs)) reach)
  found_next k last k' p r xs ys none e found =
      rw none
      (ap {B = Option NumberedTriangle × RingCursor} (λ a. (a.0, at a.1 a.2))
      (found ∙ ap (λ n. asked (ring_of g flags ci cj) (n - k) k xs) e))

-- a cursor that is asked with one reach gives the first of what is to come with it, and leaves the rest
pub cursor_gives :
    (w w' : RingCursor) (reach : Reach) (r : Option NumberedTriangle)
    → ◌≡◌ {A = Option NumberedTriangle × RingCursor} (r, w') (asked_of w reach)
    → Gives (to_come_within w reach) r (to_come_within w' reach)
cursor_gives w w' reach r e =
    subst (λ a. Gives (to_come_within w reach) a.0 (to_come_within a.1 reach)) (sym e)
    (asked_gives (rings_of w) (last_ring_of w reach) w.ring w.left)

-- of a fresh one all its rings are to come
pub fresh_to_come :
    (g : Grid) (flags : List ℕ) (p : Vector) (reach : Reach) (w : RingCursor) → w ≡ fresh_cursor g flags p
    → to_come_within w reach ≡ rings_within g flags p reach
fresh_to_come g flags p reach w e =
    ap (λ v. to_come_within v reach) e
    ∙ all_to_come (ring_of g flags (closest_cell g p).0 (closest_cell g p).1) (last_ring g (closest_cell g p).0 (closest_cell g p).1 reach)
