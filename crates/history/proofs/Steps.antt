-- From what a call's contract says to a step of the past.
-- Assumes nothing.
use Rattle.std.proofs.Common.{◌≡◌, ℕ, List, Option, Result, sym, subst}
use Rattle.cells.specs.declared.status.HeightFieldCellStatus.{HeightFieldCellStatus}
use Rattle.history.specs.Past.{State, Step, answered, sets_status, rescales, asks_cell, asks_box}
use Rattle.history.specs.declared.call.Answer.{Answer}
use Rattle.history.specs.declared.call.Answer.TheVariants.{Done, Cell, BoundingBox}
use Rattle.history.specs.declared.call.Call.{Call}
use Rattle.history.specs.declared.call.Call.TheVariants.{SetCellStatus, SetScale, CellAtPoint, RootAabb}
use Rattle.math.specs.Scales.{scale_refusal}
use Rattle.math.specs.declared.aabb.Aabb.{Aabb}
use Rattle.math.specs.declared.vector.Vector.{Vector}
use Rattle.points.specs.Points.{cell_at}
use Rattle.shape.specs.Grids.{Grid, rescaling_leaves}
use Rattle.shape.specs.Tables.{setting_refusal, setting_leaves}
use Rattle.utils.specs.Errors.{Answers}
use Rattle.utils.specs.declared.error.HeightFieldError.{HeightFieldError}

-- a call that is known to be another
pub step_by : {s s' : State} {r : Answer} (call other : Call) → call ≡ other → Step s (answered other r) s' → Step s (answered call r) s'
step_by {s} {s'} {r} call other e = subst (λ c. Step s (answered c r) s') (sym e)

module _ (s : State) where
  pub status_set :
      (i j : ℕ) (status : HeightFieldCellStatus) (r : Result (Unit {0}) HeightFieldError) (flags : List ℕ)
      → Answers r (setting_refusal s.grid.rows s.grid.columns s.flags i j status.0) (λ _. Unit {0})
      → flags ≡ setting_leaves s.grid.rows s.grid.columns s.flags i j status.0
      → Step s (answered (SetCellStatus i j status) (Done r)) (record { grid = s.grid; flags = flags })
  status_set i j status r flags answers leaves =
      subst (λ f. Step s (answered (SetCellStatus i j status) (Done r)) (record { grid = s.grid; flags = f })) (sym leaves)
      (sets_status i j status r answers)

  pub scale_set :
      (scale : Vector) (r : Result (Unit {0}) HeightFieldError) (grid : Grid) → Answers r (scale_refusal scale) (λ _. Unit {0})
      → grid ≡ rescaling_leaves s.grid scale
      → Step s (answered (SetScale scale) (Done r)) (record { grid = grid; flags = s.flags })
  scale_set scale r grid answers leaves =
      subst (λ g. Step s (answered (SetScale scale) (Done r)) (record { grid = g; flags = s.flags })) (sym leaves)
      (rescales scale r answers)

  pub cell_told : (p : Vector) (cell : Option (ℕ × ℕ)) → cell ≡ cell_at s.grid p → Step s (answered (CellAtPoint p) (Cell cell)) s
  cell_told p cell e = subst (λ c. Step s (answered (CellAtPoint p) (Cell c)) s) (sym e) (asks_cell p)

  pub box_told : (b : Aabb) → b ≡ s.grid.box → Step s (answered RootAabb (BoundingBox b)) s
  box_told b e = subst (λ c. Step s (answered RootAabb (BoundingBox c)) s) (sym e) asks_box
