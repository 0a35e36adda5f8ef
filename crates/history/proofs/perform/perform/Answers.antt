use Rattle.history.proofs.Steps.{step_by, status_set, scale_set, cell_told, box_told}
use Rattle.history.proofs.perform.perform.Goals as goal
use Rattle.history.specs.Past.{converts, searches_box, walks_columns, walks_around, empties_columns, empties_rings, asks_status, asks_vids, asks_triangle}
use Rattle.history.specs.Runs.{state_of}

pub returns-in-SetCellStatus-clause-step : goal.returns-in-SetCellStatus-clause-step
returns-in-SetCellStatus-clause-step g c =
    step_by _ _ c.in-SetCellStatus.is (status_set (state_of c.args.grid.now c.args.flags.now) c.in-SetCellStatus.i c.in-SetCellStatus.j c.in-SetCellStatus.status c.set_cell_status.result _ c.set_cell_status.ensures.answer c.set_cell_status.ensures.table)

pub returns-in-SetScale-clause-step : goal.returns-in-SetScale-clause-step
returns-in-SetScale-clause-step g c =
    step_by _ _ c.in-SetScale.is (scale_set (state_of c.args.grid.now c.args.flags.now) c.in-SetScale.scale c.set_scale.result _ c.set_scale.ensures.answer c.set_scale.ensures.grid)

pub returns-in-ConvertTriangleFeatureId-clause-step : goal.returns-in-ConvertTriangleFeatureId-clause-step
returns-in-ConvertTriangleFeatureId-clause-step g c =
    step_by _ _ c.in-ConvertTriangleFeatureId.is (converts c.in-ConvertTriangleFeatureId.i c.in-ConvertTriangleFeatureId.j c.in-ConvertTriangleFeatureId.left c.in-ConvertTriangleFeatureId.fid c.convert_triangle_feature_id.result c.convert_triangle_feature_id.ensures)

pub returns-in-MapElementsInLocalAabb-clause-step : goal.returns-in-MapElementsInLocalAabb-clause-step
returns-in-MapElementsInLocalAabb-clause-step g c =
    step_by _ _ c.in-MapElementsInLocalAabb.is (searches_box c.in-MapElementsInLocalAabb.aabb c.map_elements_in_local_aabb.result c.map_elements_in_local_aabb.ensures.answer)

pub returns-in-Triangles-clause-step : goal.returns-in-Triangles-clause-step
returns-in-Triangles-clause-step g c =
    step_by _ _ c.in-Triangles.is (walks_columns c.in-Triangles.times c.ask_triangles.result c.ask_triangles.ensures.answer)

pub returns-in-TrianglesAroundPoint-clause-step : goal.returns-in-TrianglesAroundPoint-clause-step
returns-in-TrianglesAroundPoint-clause-step g c =
    step_by _ _ c.in-TrianglesAroundPoint.is (walks_around c.in-TrianglesAroundPoint.point c.in-TrianglesAroundPoint.reaches c.ask_triangles_around_point.result c.ask_triangles_around_point.ensures.answer)

pub returns-in-EmptyTriangles-clause-step : goal.returns-in-EmptyTriangles-clause-step
returns-in-EmptyTriangles-clause-step g c =
    step_by _ _ c.in-EmptyTriangles.is (empties_columns c.empty_triangles.result c.empty_triangles.ensures.answer)

pub returns-in-EmptyTrianglesWithin-clause-step : goal.returns-in-EmptyTrianglesWithin-clause-step
returns-in-EmptyTrianglesWithin-clause-step g c =
    step_by _ _ c.in-EmptyTrianglesWithin.is (empties_rings c.in-EmptyTrianglesWithin.point c.in-EmptyTrianglesWithin.reach c.empty_triangles_within.result c.empty_triangles_within.ensures.answer)

pub returns-in-CellStatus-clause-step : goal.returns-in-CellStatus-clause-step
returns-in-CellStatus-clause-step g c =
    step_by _ _ c.in-CellStatus.is (asks_status c.in-CellStatus.i c.in-CellStatus.j c.cell_status.result c.cell_status.ensures)

pub returns-in-TriangleVidsAtId-clause-step : goal.returns-in-TriangleVidsAtId-clause-step
returns-in-TriangleVidsAtId-clause-step g c =
    step_by _ _ c.in-TriangleVidsAtId.is (asks_vids c.in-TriangleVidsAtId.id c.triangle_vids_at_id.result c.triangle_vids_at_id.ensures)

pub returns-in-TriangleAtId-clause-step : goal.returns-in-TriangleAtId-clause-step
returns-in-TriangleAtId-clause-step g c =
    step_by _ _ c.in-TriangleAtId.is (asks_triangle c.in-TriangleAtId.id c.triangle_at_id.result c.triangle_at_id.ensures)

pub returns-in-CellAtPoint-clause-step : goal.returns-in-CellAtPoint-clause-step
returns-in-CellAtPoint-clause-step g c =
    step_by _ _ c.in-CellAtPoint.is (cell_told (state_of c.args.grid.now c.args.flags.now) c.in-CellAtPoint.point c.cell_at_point.result c.cell_at_point.ensures)

pub returns-in-RootAabb-clause-step : goal.returns-in-RootAabb-clause-step
returns-in-RootAabb-clause-step g c =
    step_by _ _ c.in-RootAabb.is (box_told (state_of c.args.grid.now c.args.flags.now) c.root_aabb.result c.root_aabb.ensures)
