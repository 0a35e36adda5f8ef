-- A wider box loses nothing.
-- Assumes nothing.
use Rattle.std.specs.Prelude.{ℕ, T, List}
use Rattle.std.specs.Float.Ieee.{le}
use mathlib.Core.List.{Sublist}
use Rattle.math.specs.declared.aabb.Aabb.{Aabb}
use Rattle.shape.specs.Grids.{Grid}
use Rattle.search.specs.BoxLists.{box_list}

-- no lower coordinate is less and no upper one greater; `le` holds of no NaN, so no coordinate is one
pub record Within (inner outer : Aabb) : Type 0 where
  pub low_x : T (le outer.mins.x inner.mins.x)
  pub low_y : T (le outer.mins.y inner.mins.y)
  pub low_z : T (le outer.mins.z inner.mins.z)
  pub high_x : T (le inner.maxs.x outer.maxs.x)
  pub high_y : T (le inner.maxs.y outer.maxs.y)
  pub high_z : T (le inner.maxs.z outer.maxs.z)

-- of a grid, under any statuses: a box within another gives the outer list with triangles left out
abbrev pub WiderBoxLosesNothing : Grid → Type 0
WiderBoxLosesNothing g =
    (flags : List ℕ) (inner outer : Aabb) → Within inner outer → Sublist (box_list g flags inner) (box_list g flags outer)
