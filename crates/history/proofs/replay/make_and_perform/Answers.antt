use Rattle.std.proofs.Common.{length, refl}
use Rattle.std.proofs.lemmas.Result.{err_from_is_err_and}
use Rattle.history.proofs.Performing.{since_making, cleared_start, refused_leaves}
use Rattle.history.proofs.replay.make_and_perform.Goals as goal
use Rattle.history.specs.Past.{Making}
use Rattle.shape.specs.Grids.{grid_of}

pub returns-clause-answer : goal.returns-clause-answer
returns-clause-answer g c =
    let made = c.in_ok-grid.ensures in
    let m : Making =
    record {
      rows = c.args.nrows;
      columns = c.args.ncols;
      heights = c.args.heights_zx.now;
      cells = length c.args.flags.now;
      scale = c.args.scale;
      accepted = made.answer.0;
    } in (
      made.answer.0,
      since_making g.T.Taker.adds m c.perform_all.new.log _ _ _ _
          (cleared_start m (grid_of c.in_ok-grid.grid) c.args.flags.now c.new.new.flags _ made.answer.1 made.answer.0
          made.cleared) c.perform_all.ensures.performed
          c.perform_all.ensures.law,
    )

pub returns-in_err-grid-clause-refused : goal.returns-in_err-grid-clause-refused
returns-in_err-grid-clause-refused g c =
    let p = err_from_is_err_and c.from_residual.result c.from_residual.ensures.1 in
    rw p.1 (refused_leaves _ _ _ _ _ c.in_err-grid.ensures.answer c.in_err-grid.ensures.cleared, refl, refl)
