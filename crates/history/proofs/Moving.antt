-- Only settling moves the moment, and a run prolongs a past.
-- Assumes nothing.
use Rattle.std.proofs.Common.{List, ◌++◌, Ok, Err, refl, inl, inr, append_assoc, append-nil}
use Rattle.history.specs.Law.{OnlySettlingMoves}
use Rattle.history.specs.Past.{State, Making, sets_status, rescales, converts, searches_box, walks_columns, walks_around, empties_columns, empties_rings, asks_status, asks_vids, asks_triangle, asks_cell, asks_box, Past, goes_on}
use Rattle.history.specs.Runs.{Run, nothing, one_more}
use Rattle.history.specs.declared.call.Event.{Event}
use Rattle.utils.proofs.Errors.{refused}
use Rattle.takers.specs.declared.triangle.NumberedTriangle.{NumberedTriangle}

pub only_settling_moves : OnlySettlingMoves
only_settling_moves s s' e (sets_status i j status (Ok u) h) = inl refl
only_settling_moves s s' e (sets_status i j status (Err x) h) =
    inr (rw (refused _ x h))
only_settling_moves s s' e (rescales scale (Ok u) h) = inl refl
only_settling_moves s s' e (rescales scale (Err x) h) = inr (rw (refused _ x h))
only_settling_moves s s' e (converts i j left fid r h) = inr refl
only_settling_moves s s' e (searches_box b r h) = inr refl
only_settling_moves s s' e (walks_columns times r h) = inr refl
only_settling_moves s s' e (walks_around p reaches r h) = inr refl
only_settling_moves s s' e (empties_columns r h) = inr refl
only_settling_moves s s' e (empties_rings p reach r h) = inr refl
only_settling_moves s s' e (asks_status i j r h) = inr refl
only_settling_moves s s' e (asks_vids id r h) = inr refl
only_settling_moves s s' e (asks_triangle id r h) = inr refl
only_settling_moves s s' e (asks_cell p) = inr refl
only_settling_moves s s' e asks_box = inr refl

-- the events of a run come after those of the past that it starts from
pub run_prolongs :
    {m : Making} {es : List Event} {s : State} {es' : List Event} {xs : List NumberedTriangle} {s' : State}
    → Past m es s → Run s es' xs s' → Past m (es ++ es') s'
run_prolongs p nothing = rw append-nil p
run_prolongs p (one_more run step) = rw (← append_assoc) (goes_on (run_prolongs p run) step)
