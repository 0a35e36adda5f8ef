-- How many rings a reach allows, and the triangles within it.
-- Assumes nothing.
use Rattle.std.specs.Prelude.{ℕ, ◌-◌, ◌^◌, min, max, cond, List, from_bits, Float}
use Rattle.std.specs.Float.Ieee.{div, eq}
use Rattle.std.specs.Float.{ratio_ceil, binary32}
use Rattle.math.specs.Lines.{cell_width}
use Rattle.math.specs.declared.vector.Vector.{Vector}
use Rattle.points.specs.Points.{closest_cell}
use Rattle.quantize.specs.Quantize.{held}
use Rattle.rings.specs.RingLists.{farthest_ring, rings_up_to}
use Rattle.rings.specs.declared.reach.Reach.{Reach}
use Rattle.rings.specs.declared.reach.Reach.TheVariants.{Unlimited, Distance}
use Rattle.shape.specs.Grids.{Grid}
use Rattle.takers.specs.declared.triangle.NumberedTriangle.{NumberedTriangle}

-- the largest number of rings that is counted
abbrev pub most_rings : ℕ
most_rings = 2 ^ 64 - 1

-- the largest finite float, which means unlimited
abbrev pub max_finite : Float
max_finite = from_bits binary32 0x7F7F_FFFF

-- how many cells of an axis a distance spans, a part of a cell counted whole: 0 where it is negative or a NaN
abbrev pub spanned : ℕ → Float → Float → ℕ
spanned n scale d = held ratio_ceil (div binary32 d (cell_width n scale)) most_rings

-- the number of the last ring that a reach allows
abbrev pub allowed : Grid → Reach → ℕ
allowed g Unlimited = most_rings
allowed g (Distance d) =
    cond (eq d max_finite) most_rings (max (spanned g.columns g.scale.x d) (spanned g.rows g.scale.z d))

-- the last ring that a walk round the cell (ci, cj) enters with a reach
abbrev pub last_ring : Grid → ℕ → ℕ → Reach → ℕ
last_ring g ci cj reach = min (allowed g reach) (farthest_ring g.rows g.columns ci cj)

-- the triangles of a fresh walk round the cell closest to a point, with one reach
abbrev pub rings_within : Grid → List ℕ → Vector → Reach → List NumberedTriangle
rings_within g flags p reach =
    let center = closest_cell g p in
    rings_up_to g flags center.0 center.1 (last_ring g center.0 center.1 reach)
