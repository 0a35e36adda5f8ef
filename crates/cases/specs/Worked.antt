-- Cases worked out by hand, stated of the definitions that the calls' contracts cite.
-- Assumes nothing.
use Rattle.std.specs.Prelude.{◌≡◌, ℕ, Bool, true, false, List, [], ◌∷◌, map, length, replicate, pos, negsuc, Some, None, from_bits, slice_set, Float}
use Rattle.std.specs.Float.{fin, binary32}
use Rattle.utils.specs.Tables.{place}
use Rattle.math.specs.Constants.{half, one, min_scale, max_scale}
use Rattle.numbering.specs.Numbers.{triangle_number}
use Rattle.cells.specs.declared.feature_id.FeatureId.{FeatureId}
use Rattle.cells.specs.declared.feature_id.FeatureId.TheVariants.{Edge, Face}
use Rattle.math.specs.declared.aabb.Aabb.{Aabb}
use Rattle.quantize.specs.Quantize.{floor_cell, ceil_cell}
use Rattle.points.specs.Points.{cell_at}
use Rattle.rings.specs.RingLists.{ring_of, unlimited_rings}
use Rattle.search.specs.BoxLists.{box_list}
use Rattle.shape.specs.Grids.{Grid, made}
use Rattle.shape.specs.Tables.{converted_at}

-- 3 rows and 4 columns of points, so 2 rows and 3 columns of cells, all plain; and the same with cell (1, 2) zigzag
abbrev pub plain : List ℕ
plain = replicate 6 0

abbrev pub zigzagged : List ℕ
zigzagged = slice_set plain (place 2 1 2) 1

-- what the three sides of a triangle of cell (1, 2) convert to
abbrev pub sides_of : List ℕ → Bool → List FeatureId
sides_of flags left = map (λ k. converted_at 2 3 flags 1 2 left (Edge k)) (0 ∷ 1 ∷ 2 ∷ [])

-- 4 × 4 cells, height 0 and scale 1
abbrev pub zero : Float
zero = fin false 0 (pos 0)

abbrev pub flat : Grid
flat = made 5 5 (replicate 25 zero) (record { x = one; y = one; z = one })

-- the box from (-0.25, -1, -0.5) to (0.25, 1, -0.25)
abbrev pub quarter_box : Aabb
quarter_box =
    record {
      mins = record { x = fin true 1 (negsuc 1); y = fin true 1 (pos 0); z = fin true 1 (negsuc 0) };
      maxs = record { x = fin false 1 (negsuc 1); y = one; z = fin true 1 (negsuc 1) };
    }

-- 3 × 3 cells, height 0, scale 1 and no status set
abbrev pub small : Grid
small = made 4 4 (replicate 16 zero) (record { x = one; y = one; z = one })

abbrev pub standing : List ℕ
standing = replicate 9 0

-- the numbers of both triangles of each cell of a list, the left one first
abbrev pub numbers_of : List (ℕ × ℕ) → List ℕ
numbers_of [] = []
numbers_of ((i, j) ∷ cells) = triangle_number 3 3 i j true ∷ triangle_number 3 3 i j false ∷ numbers_of cells

pub record WorkedCases : Type 0 where
  pub constants : (half ≡ fin false 1 (negsuc 0)) × (one ≡ fin false 1 (pos 0))
  pub scales : (min_scale ≡ fin false 1 (negsuc 19)) × (max_scale ≡ fin false 1 (pos 20))
  pub left_triangle : triangle_number 2 3 1 2 true ≡ 5
  pub right_triangle : triangle_number 2 3 1 2 false ≡ 11
  pub plain_left : sides_of plain true ≡ Edge 5 ∷ Edge 22 ∷ Edge 15 ∷ []
  pub plain_right : sides_of plain false ≡ Edge 16 ∷ Edge 7 ∷ Edge 22 ∷ []
  pub zigzag_left : sides_of zigzagged true ≡ Edge 5 ∷ Edge 16 ∷ Edge 22 ∷ []
  pub zigzag_right : sides_of zigzagged false ≡ Edge 22 ∷ Edge 7 ∷ Edge 15 ∷ []
  pub front : converted_at 2 3 zigzagged 1 2 false (Face 0) ≡ Face 11
  pub back : converted_at 2 3 zigzagged 1 2 false (Face 1) ≡ Face 23
  pub quarter : (floor_cell (fin false 1 (negsuc 1)) 4 ≡ 3) × (ceil_cell (fin false 1 (negsuc 1)) 4 ≡ 3)
  pub eighth : (floor_cell (fin false 1 (negsuc 2)) 4 ≡ 2) × (ceil_cell (fin false 1 (negsuc 2)) 4 ≡ 3)
  pub border : cell_at flat (record { x = half; y = half; z = half }) ≡ Some (3, 3)
  pub past_border : cell_at flat (record { x = from_bits binary32 0x3F00_0001; y = half; z = half }) ≡ None
  pub box : map (λ t. t.id) (box_list flat (replicate 16 0) quarter_box)
      ≡ 0 ∷ 16 ∷ 1 ∷ 17 ∷ 4 ∷ 20 ∷ 5 ∷ 21 ∷ 8 ∷ 24 ∷ 9 ∷ 25 ∷ 12 ∷ 28 ∷ 13 ∷ 29 ∷ []
  pub ring_round_middle : map (λ t. t.id) (ring_of small standing 1 1 1)
      ≡ numbers_of ((0, 0) ∷ (1, 0) ∷ (2, 0) ∷ (2, 1) ∷ (2, 2) ∷ (1, 2) ∷ (0, 2) ∷ (0, 1) ∷ [])
  pub rings_round_corner : map (λ t. t.id) (unlimited_rings small standing 0 0)
      ≡ numbers_of ((0, 0) ∷ (1, 0) ∷ (1, 1) ∷ (0, 1) ∷ (2, 0) ∷ (2, 1) ∷ (2, 2) ∷ (1, 2) ∷ (0, 2) ∷ [])
  pub all_round_corner : length (unlimited_rings small standing 0 0) ≡ 18
