-- Emptied whole: a walk by columns, and unlimited rings round the cell closest to a point, add up the triangles by rising number.
-- Assumes nothing.
use Rattle.std.proofs.Common.{◌≡◌, ℕ, ◌-◌, ◌^◌, ◌<◌, min, max, Bool, true, false, cond, List, [], fold, refl, ap, ◌∙◌, arith}
use Rattle.emptying.proofs.AnyOrderFolds.{order_does_not_count}
use Rattle.emptying.specs.ByNumber.{by_number, where_fits, AnyOrder}
use Rattle.math.specs.declared.vector.Vector.{Vector}
use Rattle.points.specs.Points.{closest_cell, unscaled_x, unscaled_z}
use Rattle.quantize.specs.Quantize.{position}
use Rattle.rings.specs.Reaches.{last_ring, rings_within}
use Rattle.rings.specs.RingLists.{farthest_ring, rings_up_to, unlimited_rings}
use Rattle.rings.specs.declared.reach.Reach.TheVariants.{Unlimited}
use Rattle.shape.specs.Grids.{Grid}
use Rattle.shape.specs.Tables.{table_refusal}
use Rattle.std.specs.Option.{is_none}
use Rattle.std.specs.Float.{ratio_floor}
use Rattle.takers.specs.declared.triangle.NumberedTriangle.{NumberedTriangle}
use Rattle.walk_laws.proofs.ReachOrder.{held_most}
use Rattle.walks.specs.ColumnLists.{column_list}

-- the closest cell is one of the grid
pub closest_row_lt : (g : Grid) (p : Vector) → 0 < g.rows → (closest_cell g p).0 < g.rows
closest_row_lt g p some = omega (arith, held_most ratio_floor (position (unscaled_z g p) g.rows) (g.rows - 1))

pub closest_column_lt : (g : Grid) (p : Vector) → 0 < g.columns → (closest_cell g p).1 < g.columns
closest_column_lt g p some = omega (arith, held_most ratio_floor (position (unscaled_x g p) g.columns) (g.columns - 1))

farthest_is_last : (a b c d r k : ℕ) → a < r → b < k → c < r → d < k → r < 2 ^ 24 → k < 2 ^ 24 → min (2 ^ 64 - 1) (max (max a c) (max b d)) ≡ max (max a c) (max b d)
farthest_is_last a b c d r k p q h l few_rows few_columns = omega arith

-- unlimited rings are all rings
pub unlimited_is_all :
    (g : Grid) (flags : List ℕ) (p : Vector) → 0 < g.rows → g.rows < 2 ^ 24 → 0 < g.columns → g.columns < 2 ^ 24
    → rings_within g flags p Unlimited ≡ unlimited_rings g flags (closest_cell g p).0 (closest_cell g p).1
unlimited_is_all g flags p some_rows few_rows some_columns few_columns =
    let row = closest_row_lt g p some_rows in
    let column = closest_column_lt g p some_columns in
    let last : last_ring g (closest_cell g p).0 (closest_cell g p).1 Unlimited ≡ farthest_ring g.rows g.columns (closest_cell g p).0 (closest_cell g p).1 =
    farthest_is_last _ _ _ _ g.rows g.columns row column (omega arith) (omega arith) few_rows few_columns in
    ap (rings_up_to g flags (closest_cell g p).0 (closest_cell g p).1) last

-- where two lists add up alike, so they do where the table fits
fits_alike :
    {Total : Type 0} (adds : Total → NumberedTriangle → Total) (first : Total) (b : Bool) (xs ys : List NumberedTriangle)
    → fold adds first xs ≡ fold adds first ys → fold adds first (cond b xs []) ≡ fold adds first (cond b ys [])
fits_alike adds first true xs ys e = e
fits_alike adds first false xs ys e = refl

module _ {Total : Type 0} (adds : Total → NumberedTriangle → Total) (any : AnyOrder adds) (g : Grid) (flags : List ℕ) (first : Total) where
  pub columns_by_number :
      fold adds first (where_fits g flags (column_list g flags)) ≡ fold adds first (where_fits g flags (by_number g flags))
  columns_by_number =
      fits_alike adds first (is_none (table_refusal g flags)) (column_list g flags) (by_number g flags)
      ((order_does_not_count adds any g flags).columns first)

  module _ (some_rows : 0 < g.rows) (few_rows : g.rows < 2 ^ 24) (some_columns : 0 < g.columns) (few_columns : g.columns < 2 ^ 24) (p : Vector) where
    pub rings_add_up : fold adds first (rings_within g flags p Unlimited) ≡ fold adds first (by_number g flags)
    rings_add_up =
        ap (fold adds first) (unlimited_is_all g flags p some_rows few_rows some_columns few_columns)
        ∙ (order_does_not_count adds any g flags).rings _ _ (closest_row_lt g p some_rows) (closest_column_lt g p some_columns) first

    pub rings_by_number :
        fold adds first (where_fits g flags (rings_within g flags p Unlimited)) ≡ fold adds first (where_fits g flags (by_number g flags))
    rings_by_number =
        fits_alike adds first (is_none (table_refusal g flags)) (rings_within g flags p Unlimited)
        (by_number g flags) rings_add_up
