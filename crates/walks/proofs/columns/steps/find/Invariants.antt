use Rattle.std.proofs.Common.{◌≡◌, ◌-◌, ◌<◌, ◌≤◌}
use Rattle.shape.specs.Grids.{grid_of}
use Rattle.walks.specs.ColumnLists.{columns_from, first_slot, slots}
use Rattle.walks.proofs.columns.steps.find.Given as goal

-- what is still to come is what was to come at the start
abbrev pub invariant-loop-cell : goal.invariant-loop-cell
invariant-loop-cell l =
    let g = grid_of l.field.grid.now in
    let flags = l.field.statuses.data.now in
    (columns_from g flags (first_slot g l.cell.0 l.cell.1) ≡ columns_from g flags (first_slot g l.fn.start.0 l.fn.start.1))
    × (l.cell.0 < g.rows) × (l.cell.1 ≤ g.columns)

abbrev pub decreases-loop-cell : goal.decreases-loop-cell
decreases-loop-cell l = let g = grid_of l.field.grid.now in slots g - first_slot g l.cell.0 l.cell.1
