-- The law of a grid holds at the end of every past.
-- Assumes nothing.
use Rattle.std.proofs.Common.{None, ◌≡◌, ℕ, ◌^◌, ◌<◌, List, sym, ap, ◌∙◌, subst}
use mathlib.Core.List.{IsPrefix}
use Rattle.emptying.proofs.AnyOrderFolds.{order_does_not_count}
use Rattle.emptying.proofs.WholeWalks.{unlimited_is_all, rings_add_up}
use Rattle.emptying.specs.ByNumber.{AnyOrder}
use Rattle.history.proofs.Kept.{Kept, checked, rows_made, columns_made, kept}
use Rattle.history.specs.Law.{GridLaw}
use Rattle.history.specs.Past.{State, Making, Past, given_around}
use Rattle.history.specs.declared.call.Event.{Event}
use Rattle.math.specs.Scales.{scale_refusal}
use Rattle.math.specs.declared.vector.Vector.{Vector}
use Rattle.numbering.proofs.SeamNumbers.{each_seam_carries_one_number, equal_numbers_join_equal_points}
use Rattle.points.specs.Points.{closest_cell}
use Rattle.rings.specs.Reaches.{last_ring, rings_within}
use Rattle.rings.specs.RingLists.{unlimited_rings}
use Rattle.rings.specs.declared.reach.Reach.TheVariants.{Unlimited}
use Rattle.search.proofs.WiderBoxes.{wider_box}
use Rattle.shape.specs.Grids.{Grid, made}
use Rattle.takers.specs.declared.triangle.NumberedTriangle.{NumberedTriangle}
use Rattle.walk_laws.proofs.ColumnMembers.{columns_hold_each_once}
use Rattle.walk_laws.proofs.Prefixes.{shorter_reach, given_begins_all}
use Rattle.walk_laws.proofs.RingMembers.{rings_hold_each_once}
use Rattle.walk_laws.proofs.VertexSpots.{one_spot}
use Rattle.walk_laws.specs.SharedVertices.{ShareSpots}

-- ---- a grid of a size that making accepts

record Fits (g : Grid) : Type 0 where
  some_rows : 0 < g.rows
  few_rows : g.rows < 2 ^ 24
  some_columns : 0 < g.columns
  few_columns : g.columns < 2 ^ 24
  ranged : scale_refusal g.scale ≡ None

-- so unlimited rings are all rings
all_unlimited :
    (g : Grid) → Fits g → (flags : List ℕ) (p : Vector)
    → unlimited_rings g flags (closest_cell g p).0 (closest_cell g p).1 ≡ rings_within g flags p Unlimited
all_unlimited g f flags p =
    sym (unlimited_is_all g flags p f.some_rows f.few_rows f.some_columns f.few_columns)

-- ---- the end of a past

module _ {m : Making} {es : List Event} {s : State} (k : Kept m es s) where
  kept_fits : Fits s.grid
  kept_fits =
      let c = checked m in
      record {
        some_rows = rw (rows_made k) c.some_rows;
        few_rows = rw (rows_made k) c.few_rows;
        some_columns = rw (columns_made k) c.some_columns;
        few_columns = rw (columns_made k) c.few_columns;
        ranged = subst (λ g. scale_refusal g.scale ≡ None) (sym k.as_made) k.ranged;
      }

  -- two pasts of one making that end under one scale end in one grid
  same_grid : {es' : List Event} {s' : State} → Kept m es' s' → s'.grid.scale ≡ s.grid.scale → s.grid ≡ s'.grid
  same_grid k' e =
      let scale = ap (λ g. g.scale) k.as_made in
      let scale' = ap (λ g. g.scale) k'.as_made in
      k.as_made ∙ ap (made m.rows m.columns m.heights) (sym scale ∙ sym e ∙ scale') ∙ sym k'.as_made

pub grid_law :
    {Total : Type 0} (adds : Total → NumberedTriangle → Total) → AnyOrder adds
    → (m : Making) (es : List Event) (s : State) → Past m es s → GridLaw adds m es s
grid_law adds any m es s past =
    let k = kept past in
    let g = s.grid in
    let flags = s.flags in
    let f = kept_fits k in
    record {
      flags_are_present = λ i j p q. rw (rows_made k) (k.present i j (rw (rows_made k) at p) (rw (columns_made k) at q));
      grid_is_as_made = k.as_made;
      seams_carry_one_number = each_seam_carries_one_number g.rows g.columns flags;
      numbers_join_points = equal_numbers_join_equal_points g.rows g.columns flags;
      shared_vertices_are_in_one_spot = λ es' s' past' e.
          subst (λ g'. ShareSpots g flags g' s'.flags) (same_grid k (kept past') e)
          (one_spot g (columns_hold_each_once g) (rings_hold_each_once g) flags s'.flags);
      given_begins_unlimited_rings = λ p reaches.
          subst (IsPrefix (given_around s p reaches)) (all_unlimited g f flags p)
          (given_begins_all g flags (closest_cell g p).0 (closest_cell g p).1 reaches);
      shorter_reach_begins_longer = λ p.
          shorter_reach g f.some_rows f.few_rows f.some_columns f.few_columns f.ranged flags
          (closest_cell g p).0 (closest_cell g p).1;
      wider_box_loses_nothing =
          wider_box g f.some_rows f.few_rows f.some_columns f.few_columns f.ranged;
      allowed_rings_come_once = λ p reach.
          rings_hold_each_once g flags (closest_cell g p).0 (closest_cell g p).1
          (last_ring g (closest_cell g p).0 (closest_cell g p).1 reach);
      columns_add_each_once = (order_does_not_count adds any g flags).columns;
      rings_add_each_once = λ p first.
          rings_add_up adds any g flags first f.some_rows f.few_rows f.some_columns f.few_columns p;
    }
