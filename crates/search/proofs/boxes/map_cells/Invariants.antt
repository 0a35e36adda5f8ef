use Rattle.std.proofs.Common.{◌≡◌, ◌-◌, fold}
use Rattle.search.specs.BoxLists.{box_cell, from_on, rows_between}
use Rattle.shape.specs.Grids.{grid_of}
use Rattle.search.proofs.boxes.map_cells.Given as goal

-- what is left to hand over brings the total to where it has to end
abbrev pub invariant-loop-j : goal.invariant-loop-j
invariant-loop-j g l =
    let t = g.T.Taker in
    let column = rows_between (grid_of l.field.grid.now) l.field.statuses.data.now l.aabb l.rows.start l.rows.end in
    (fold t.adds (t.total l.f) (from_on column l.j (l.fn.columns.end - l.j))
    ≡ fold t.adds (t.total l.initial.f) (from_on column l.fn.columns.start (l.fn.columns.end - l.fn.columns.start)))
    × (t.place l.f ≡ t.place l.initial.f)

-- and the same of a column
abbrev pub invariant-loop-i : goal.invariant-loop-i
invariant-loop-i g l =
    let t = g.T.Taker in
    let cell = box_cell (grid_of l.field.grid.now) l.field.statuses.data.now l.aabb l.j in
    (fold t.adds (t.total l.f) (from_on cell l.i (l.rows.end - l.i))
    ≡ fold t.adds (t.total l.initial.f) (from_on cell l.rows.start (l.rows.end - l.rows.start)))
    × (t.place l.f ≡ t.place l.initial.f)
