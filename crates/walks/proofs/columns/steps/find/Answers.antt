use Rattle.std.proofs.Common.{◌≡◌, ◌++◌, sym, ◌∙◌, arith}
use Rattle.shape.specs.Grids.{grid_of}
use Rattle.walks.specs.ColumnLists.{columns_from, first_slot}
use Rattle.walks.specs.Standing.{standing_list}
use Rattle.walks.proofs.ColumnSteps.{cell_on, none_standing}
use Rattle.walks.proofs.columns.steps.find.Goals as goal
use Rattle.walks.proofs.columns.steps.find.Goals.{After-is_some}

-- from the cell to the one after it: what was found comes first
found_first :
    (c : After-is_some)
    → columns_from (grid_of c.args.field.now.grid.now) c.args.field.now.statuses.data.now (first_slot (grid_of c.args.field.now.grid.now) c.loop-cell.cell.0 c.loop-cell.cell.1)
    ≡ standing_list c.standing_at-found.result
    ++ columns_from (grid_of c.args.field.now.grid.now) c.args.field.now.statuses.data.now
    (first_slot (grid_of c.args.field.now.grid.now) c.after-cell.result.0 c.after-cell.result.1)
found_first c =
    let g = grid_of c.args.field.now.grid.now in
    let columns = rw c.grid-grid.ensures at c.ncols.ensures in
    let next = rw c.grid-grid.ensures at c.after-cell.ensures.next in
    cell_on g c.args.field.now.statuses.data.now c.loop-cell.cell.0 c.loop-cell.cell.1 c.loop-cell.invariant.1
    (standing_list c.standing_at-found.result) (first_slot g c.after-cell.result.0 c.after-cell.result.1) (omega (arith, columns))
    c.standing_at-found.ensures next

pub returns-then-is_some-clause-found : goal.returns-then-is_some-clause-found
returns-then-is_some-clause-found c = sym c.loop-cell.invariant.0 ∙ found_first c.before

pub loop-cell-preserved : goal.loop-cell-preserved
loop-cell-preserved c =
    let none = none_standing c.standing_at-found.result (sym c.if-is_some.ensures) in
    let step = rw none at (found_first c.before) in
    let row = rw c.grid-grid.ensures at c.after-cell.ensures.row in
    let column = rw c.grid-grid.ensures at c.after-cell.ensures.column in
    (sym step ∙ c.loop-cell.invariant.0, row, column)
