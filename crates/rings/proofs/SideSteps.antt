-- Walking along a side of a ring: the part off the grid gives nothing.
-- Assumes nothing.
use Rattle.std.proofs.Common.{◌≡◌, ℕ, ◌+◌, ◌-◌, ◌<◌, ◌≤◌, max, true, false, ◌&&◌, ltb, leb, List, [], ◌++◌, sym, refl, ap, ◌∙◌, arith}
use Rattle.std.proofs.lemmas.Bool.Decides.{nat_tests}
use Rattle.search.proofs.FromOn.{from_on_first, from_on_none, from_on_skip}
use Rattle.rings.specs.RingLists.{side_length, place_of, on_grid, place_list, side_from}
use Rattle.rings.specs.Spans.{IsSpan}
use Rattle.rings.specs.declared.place.RingSide.{RingSide}
use Rattle.search.specs.BoxLists.{cell_list}
use Rattle.search.specs.Triangles.{corners_at}
use Rattle.shape.specs.Grids.{Grid}
use Rattle.takers.specs.declared.triangle.NumberedTriangle.{NumberedTriangle}

before_span : (start end t : ℕ) → t < start → (leb start t && ltb t end) ≡ false
before_span start end t h = grind (arith, nat_tests)

past_span : (start end t : ℕ) → end ≤ t → (leb start t && ltb t end) ≡ false
past_span start end t h = grind (arith, nat_tests)

within_span : (start end t : ℕ) → start ≤ t → t < end → (leb start t && ltb t end) ≡ true
within_span start end t h l = grind (arith, nat_tests)

module _ (g : Grid) (flags : List ℕ) (ci cj k : ℕ) (side : RingSide) (start end : ℕ)
    (span : IsSpan (side_length k side) start end (λ t. on_grid g.rows g.columns k (place_of ci cj k side t))) where
  off_grid : (t : ℕ) → on_grid g.rows g.columns k (place_of ci cj k side t) ≡ false
      → place_list g flags k (place_of ci cj k side t) ≡ []
  off_grid t off = rw off refl

  pub on_grid_lem : (t : ℕ) → start ≤ t → t < end → on_grid g.rows g.columns k (place_of ci cj k side t) ≡ true
  on_grid_lem t h l = let b = span.ends in span.passes t (omega arith) ∙ within_span start end t h l

  -- up to the part on the grid
  pub side_skips : (step : ℕ) → side_from g flags ci cj k side step ≡ side_from g flags ci cj k side (max step start)
  side_skips step =
      let empty : (t : ℕ) → step ≤ t → t < step + (max step start - step) → t < side_length k side
      → place_list g flags k (place_of ci cj k side t) ≡ [] =
      λ t from l b. off_grid t (span.passes t b ∙ before_span start end t (omega arith)) in
      let there : step + (max step start - step) ≡ max step start = omega arith in
      from_on_skip _ (max step start - step) step (side_length k side) empty ∙ rw there refl

  -- from the end of that part on
  pub side_ends : (step : ℕ) → end ≤ step → side_from g flags ci cj k side step ≡ []
  side_ends step h =
      let empty : (t : ℕ) → step ≤ t → t < step + (side_length k side - step) → t < side_length k side
      → place_list g flags k (place_of ci cj k side t) ≡ [] =
      λ t from l b. off_grid t (span.passes t b ∙ past_span start end t (omega arith)) in
      from_on_skip _ (side_length k side - step) step (side_length k side) empty
      ∙ from_on_none _ (step + (side_length k side - step)) (side_length k side) (omega arith)

  -- one step of that part: the triangles of its cell come first
  pub side_step :
      (step i j : ℕ) (xs : List NumberedTriangle) → start ≤ step → step < end
      → ◌≡◌ {A = ℕ × ℕ} (i, j) ((place_of ci cj k side step).0 - k, (place_of ci cj k side step).1 - k)
      → xs ≡ cell_list g flags (corners_at g i j) i j
      → side_from g flags ci cj k side step ≡ xs ++ side_from g flags ci cj k side (step + 1)
  side_step step i j xs h l cell drawn =
      let bound = span.ends in
      let p = place_of ci cj k side step in
      let first : place_list g flags k p ≡ xs =
      rw (on_grid_lem step h l) (sym (drawn ∙ ap (λ q. cell_list g flags (corners_at g q.0 q.1) q.0 q.1) cell)) in
      from_on_first _ step (side_length k side) (omega arith) ∙ rw first refl
