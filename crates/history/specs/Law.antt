-- The law that a grid keeps, whatever was called on it since it was made.
-- Assumes nothing.
use Rattle.std.specs.Prelude.{◌≡◌, ℕ, ◌<◌, ◌≤◌, true, ◌&&◌, ◌⊎◌, List, fold}
use mathlib.Core.List.{IsPrefix}
use Rattle.emptying.specs.ByNumber.{by_number}
use Rattle.history.specs.Past.{State, Making, Step, Past, given_around}
use Rattle.history.specs.Present.{granted, present_flag, present_scale, moment_of, settles}
use Rattle.history.specs.declared.call.Event.{Event}
use Rattle.math.specs.declared.vector.Vector.{Vector}
use Rattle.numbering.specs.Seams.{SeamsCarryOneNumber, NumbersJoinPoints}
use Rattle.points.specs.Points.{closest_cell}
use Rattle.rings.specs.Reaches.{last_ring, rings_within}
use Rattle.rings.specs.declared.reach.Reach.{Reach}
use Rattle.rings.specs.declared.reach.Reach.TheVariants.{Unlimited}
use Rattle.search.specs.Widening.{WiderBoxLosesNothing}
use Rattle.shape.specs.Grids.{Grid, made}
use Rattle.shape.specs.Tables.{byte_at}
use Rattle.takers.specs.declared.triangle.NumberedTriangle.{NumberedTriangle}
use Rattle.walk_laws.specs.Reaching.{NoLonger}
use Rattle.walk_laws.specs.RingNumbers.{ring_number, RingByRing}
use Rattle.walk_laws.specs.SharedVertices.{ShareSpots}
use Rattle.walk_laws.specs.Walked.{HoldsEachOnce}
use Rattle.walks.specs.ColumnLists.{column_list}

-- only an accepted setting and a granted rescaling move the moment
abbrev pub OnlySettlingMoves : Type 0
OnlySettlingMoves =
    (s s' : State) (e : Event) → Step s e s' → ((settles e.call && granted e.answer) ≡ true) ⊎ (moment_of s' ≡ moment_of s)

-- a fresh walk round a point with one reach gives each standing triangle of its allowed rings once, ring by ring, and no other
abbrev pub AllowedRingsComeOnce : Grid → List ℕ → Type 0
AllowedRingsComeOnce g flags =
    (p : Vector) (reach : Reach) → let center = closest_cell g p in
    HoldsEachOnce g flags (λ i j. ring_number center.0 center.1 i j ≤ last_ring g center.0 center.1 reach)
    (rings_within g flags p reach)
    × RingByRing g center.0 center.1 (rings_within g flags p reach)

-- Of a past of a making that ends in the state s, and of any rule by which a total is added up.
pub record GridLaw {Total : Type 0} (adds : Total → NumberedTriangle → Total) (m : Making) (es : List Event) (s : State) : Type 0 where
  -- each cell's byte is its present flag
  pub flags_are_present :
      (i j : ℕ) → i < s.grid.rows → j < s.grid.columns → byte_at s.grid.rows s.flags i j ≡ present_flag es i j
  -- the grid is the one that making gives under the present scale
  pub grid_is_as_made : s.grid ≡ made m.rows m.columns m.heights (present_scale m es)
  -- a seam carries exactly one number
  pub seams_carry_one_number : SeamsCarryOneNumber s.grid.rows s.grid.columns s.flags
  -- two sides have equal numbers exactly when they join the same two points
  pub numbers_join_points : NumbersJoinPoints s.grid.rows s.grid.columns s.flags
  -- walked triangles that share a vertex number share its coordinates, with those of any past of this making that ends under the same scale
  pub shared_vertices_are_in_one_spot :
      (es' : List Event) (s' : State) → Past m es' s' → s'.grid.scale ≡ s.grid.scale
      → ShareSpots s.grid s.flags s'.grid s'.flags
  -- whatever reaches a ring cursor was asked with, what it gave begins the list of unlimited rings round its point
  pub given_begins_unlimited_rings :
      (p : Vector) (reaches : List Reach) → IsPrefix (given_around s p reaches) (rings_within s.grid s.flags p Unlimited)
  -- a shorter reach gives the beginning of a longer one's list
  pub shorter_reach_begins_longer :
      (p : Vector) (shorter longer : Reach) → NoLonger shorter longer
      → IsPrefix (rings_within s.grid s.flags p shorter) (rings_within s.grid s.flags p longer)
  -- a box within another gives the other's list with triangles left out
  pub wider_box_loses_nothing : WiderBoxLosesNothing s.grid
  -- a fresh ring walk gives each standing triangle of its allowed rings once, ring by ring, and no other
  pub allowed_rings_come_once : AllowedRingsComeOnce s.grid s.flags
  -- emptying a fresh walk by columns, or fresh unlimited rings round any point, adds every standing triangle once, by rising number
  pub columns_add_each_once :
      (first : Total) → fold adds first (column_list s.grid s.flags) ≡ fold adds first (by_number s.grid s.flags)
  pub rings_add_each_once :
      (p : Vector) (first : Total)
      → fold adds first (rings_within s.grid s.flags p Unlimited) ≡ fold adds first (by_number s.grid s.flags)
