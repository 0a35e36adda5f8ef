use Rattle.std.proofs.Common.{sym, ◌∙◌}
use Rattle.search.specs.BoxLists.{box_cell, rows_between}
use Rattle.shape.specs.Grids.{grid_of}
use Rattle.search.proofs.Handing.{handed_more, handed_all}
use Rattle.search.proofs.boxes.map_cells.Goals as goal

pub loop-i-preserved : goal.loop-i-preserved
loop-i-preserved g c = (
  handed_more g.T.Taker.adds (box_cell (grid_of c.args.field.now.grid.now) c.args.field.now.statuses.data.now c.args.aabb.now c.loop-j.j)
      c.loop-i.i c.args.rows.end (g.T.Taker.total c.loop-i.f) (g.T.Taker.total c.map_cell.new.f)
      c.loop-i-test.true c.map_cell.ensures.added ∙ c.loop-i.invariant.0,
  c.map_cell.ensures.lender ∙ c.loop-i.invariant.1,
)

pub loop-j-preserved : goal.loop-j-preserved
loop-j-preserved g c =
    let t = g.T.Taker in
    let grid = grid_of c.args.field.now.grid.now in
    let flags = c.args.field.now.statuses.data.now in
    let cell = box_cell grid flags c.args.aabb.now c.loop-j.j in
    let column = sym (handed_all t.adds cell c.loop-i.i c.args.rows.end (t.total c.loop-i.f) c.loop-i-test.false) ∙ c.loop-i.invariant.0 in (
      handed_more t.adds (rows_between grid flags c.args.aabb.now c.args.rows.start c.args.rows.end)
          c.loop-j.j c.args.columns.end (t.total c.loop-j.f) (t.total c.loop-i.f) c.loop-j-test.true column ∙ c.loop-j.invariant.0,
      c.loop-i.invariant.1 ∙ c.loop-j.invariant.1,
    )
