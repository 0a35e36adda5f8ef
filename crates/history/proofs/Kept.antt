-- What lasts through a past: the grid is as made under the present scale, and the table holds the present flags.
-- Assumes nothing.
use Rattle.std.proofs.Common.{◌≡◌, ℕ, ◌-◌, ◌*◌, ◌<◌, cond, List, [], ◌∷◌, ◌++◌, length, set, is_ok, None, Ok, Err, Result, sym, refl, ap, ◌∙◌, arith}
use Rattle.cells.specs.declared.status.HeightFieldCellStatus.{HeightFieldCellStatus}
use Rattle.history.proofs.Accepted.{setting_inside, read_back, Checked, making_checked}
use Rattle.history.specs.Past.{State, Making, start, answered, Step, sets_status, rescales, converts, searches_box, walks_columns, walks_around, empties_columns, empties_rings, asks_status, asks_vids, asks_triangle, asks_cell, asks_box, Past, begins, goes_on}
use Rattle.history.specs.Present.{granted, byte_set_by, scale_set_by, present_flag, present_scale}
use Rattle.history.specs.declared.call.Answer.TheVariants.{Done}
use Rattle.history.specs.declared.call.Call.TheVariants.{SetCellStatus, SetScale}
use Rattle.history.specs.declared.call.Event.{Event}
use Rattle.math.specs.Scales.{scale_refusal}
use Rattle.math.specs.declared.vector.Vector.{Vector}
use Rattle.search.proofs.Handing.{either_way, folded_append}
use Rattle.shape.specs.Grids.{made, rescaled, rescaling_leaves}
use Rattle.shape.specs.Tables.{byte_at, setting_refusal, setting_leaves}
use Rattle.std.proofs.lemmas.List.{length-set, length-replicate, get_or-replicate}
use Rattle.utils.proofs.Errors.{refused}
use Rattle.utils.proofs.Tables.{place_lt}
use Rattle.utils.specs.Errors.{Answers}
use Rattle.utils.specs.Tables.{place}
use Rattle.utils.specs.declared.error.HeightFieldError.{HeightFieldError}

-- what lasts from a making to the state after the events
pub record Kept (m : Making) (es : List Event) (s : State) : Type 0 where
  pub as_made : s.grid ≡ made m.rows m.columns m.heights (present_scale m es)
  pub ranged : scale_refusal (present_scale m es) ≡ None
  pub table : length s.flags ≡ (m.rows - 1) * (m.columns - 1)
  pub present : (i j : ℕ) → i < m.rows - 1 → j < m.columns - 1 → byte_at (m.rows - 1) s.flags i j ≡ present_flag es i j

-- the checks of a making
pub checked : (m : Making) → Checked m.rows m.columns m.cells m.scale
checked m = making_checked m.rows m.columns (length m.heights) m.cells m.scale m.accepted

kept_start : (m : Making) → Kept m [] (start m)
kept_start m =
    let c = checked m in
    record {
      as_made = refl;
      ranged = c.ranged;
      table = length-replicate m.cells 0 ∙ c.table;
      present = λ i j p q.
          get_or-replicate m.cells (place (m.rows - 1) i j) 0 0
          (omega (arith, c.table, place_lt (m.rows - 1) (m.columns - 1) i j p q));
    }

-- ---- one more event

-- a byte and the scale after an event
abbrev byte_after : ℕ → ℕ → ℕ → Event → ℕ
byte_after i j byte e = cond (granted e.answer) (byte_set_by i j byte e.call) byte

abbrev scale_after : Vector → Event → Vector
scale_after scale e = cond (granted e.answer) (scale_set_by scale e.call) scale

flag_after :
    (es : List Event) (e : Event) (i j : ℕ) → present_flag (es ++ e ∷ []) i j ≡ byte_after i j (present_flag es i j) e
flag_after es e i j = folded_append (byte_after i j) 0 es (e ∷ [])

scale_after_lem : (m : Making) (es : List Event) (e : Event) → present_scale m (es ++ e ∷ []) ≡ scale_after (present_scale m es) e
scale_after_lem m es e = folded_append scale_after m.scale es (e ∷ [])

module _ {m : Making} {es : List Event} {s : State} (k : Kept m es s) where
  -- an event that leaves the state, a scale and a byte as they are
  kept_left :
      (e : Event) → ((scale : Vector) → scale_after scale e ≡ scale) → ((i j byte : ℕ) → byte_after i j byte e ≡ byte)
      → Kept m (es ++ e ∷ []) s
  kept_left e scale byte =
      let same : present_scale m (es ++ e ∷ []) ≡ present_scale m es = scale_after_lem m es e ∙ scale (present_scale m es) in
      record {
        as_made = rw same k.as_made;
        ranged = rw same k.ranged;
        table = k.table;
        present = λ i j p q. k.present i j p q ∙ sym (flag_after es e i j ∙ byte i j (present_flag es i j));
      }

  -- a rescaling that is granted, and one that is refused
  kept_rescaled :
      (scale : Vector) (r : Result (Unit {0}) HeightFieldError) → Answers r (scale_refusal scale) (λ _. Unit {0})
      → Kept m (es ++ answered (SetScale scale) (Done r) ∷ [])
      (record { grid = rescaling_leaves s.grid scale; flags = s.flags })
  kept_rescaled scale (Ok u) h =
      let e = answered (SetScale scale) (Done (Ok u)) in
      let new : present_scale m (es ++ e ∷ []) ≡ scale = scale_after_lem m es e in
      let granted : rescaling_leaves s.grid scale ≡ rescaled s.grid scale = rw h.0 in
      record {
        as_made = granted ∙ ap (λ g. rescaled g scale) k.as_made ∙ rw new;
        ranged = rw new h.0;
        table = k.table;
        present = λ i j p q. k.present i j p q ∙ sym (flag_after es e i j);
      }
  kept_rescaled scale (Err e) h =
      rw (refused _ e h) (kept_left (answered (SetScale scale) (Done (Err e))) (λ _. refl) (λ _ _ _. refl))

  pub rows_made : s.grid.rows ≡ m.rows - 1
  rows_made = ap (λ g. g.rows) k.as_made

  pub columns_made : s.grid.columns ≡ m.columns - 1
  columns_made = ap (λ g. g.columns) k.as_made

  -- a setting that is accepted, and one that is refused
  kept_set :
      (row column : ℕ) (status : HeightFieldCellStatus) (r : Result (Unit {0}) HeightFieldError)
      → Answers r (setting_refusal s.grid.rows s.grid.columns s.flags row column status.0) (λ _. Unit {0})
      → Kept m (es ++ answered (SetCellStatus row column status) (Done r) ∷ [])
      (record { grid = s.grid; flags = setting_leaves s.grid.rows s.grid.columns s.flags row column status.0 })
  kept_set row column status (Ok u) h =
      let e = answered (SetCellStatus row column status) (Done (Ok u)) in
      let byte = status.0 in
      let at = place s.grid.rows row column in
      let same : present_scale m (es ++ e ∷ []) ≡ present_scale m es = scale_after_lem m es e in
      let written : setting_leaves s.grid.rows s.grid.columns s.flags row column byte ≡ set s.flags at byte = rw h.0 in
      let inside = setting_inside s.grid.rows s.grid.columns s.flags row column byte h.0 in
      let row_lt : row < m.rows - 1 = rw rows_made at inside.0 in
      let column_lt : column < m.columns - 1 = rw columns_made at inside.1 in
      let within = place_lt (m.rows - 1) (m.columns - 1) row column row_lt column_lt in
      record {
        as_made = rw same k.as_made;
        ranged = rw same k.ranged;
        table = ap length written ∙ length-set s.flags at byte ∙ k.table;
        present = λ i j p q.
            let read = read_back (m.rows - 1) s.flags row column byte i j row_lt p (omega (arith, k.table, within)) in
            rw (written, rows_made) (read ∙ ap (cond _ byte) (k.present i j p q) ∙ sym (flag_after es e i j));
      }
  kept_set row column status (Err e) h =
      rw (refused _ e h)
      (kept_left (answered (SetCellStatus row column status) (Done (Err e))) (λ _. refl) (λ _ _ _. refl))

-- ---- all the events

kept_step : {m : Making} {es : List Event} {s s' : State} {e : Event} → Kept m es s → Step s e s' → Kept m (es ++ e ∷ []) s'
kept_step k (sets_status i j status r h) = kept_set k i j status r h
kept_step k (rescales scale r h) = kept_rescaled k scale r h
kept_step k (converts i j left fid r h) = kept_left k _ (λ _. refl) (λ _ _ _. refl)
kept_step k (searches_box b r h) = kept_left k _ (either_way (is_ok r)) (λ i j. either_way (is_ok r))
kept_step k (walks_columns times r h) = kept_left k _ (λ _. refl) (λ _ _ _. refl)
kept_step k (walks_around p reaches r h) = kept_left k _ (λ _. refl) (λ _ _ _. refl)
kept_step k (empties_columns r h) = kept_left k _ (either_way (is_ok r)) (λ i j. either_way (is_ok r))
kept_step k (empties_rings p reach r h) = kept_left k _ (either_way (is_ok r)) (λ i j. either_way (is_ok r))
kept_step k (asks_status i j r h) = kept_left k _ (λ _. refl) (λ _ _ _. refl)
kept_step k (asks_vids id r h) = kept_left k _ (λ _. refl) (λ _ _ _. refl)
kept_step k (asks_triangle id r h) = kept_left k _ (λ _. refl) (λ _ _ _. refl)
kept_step k (asks_cell p) = kept_left k _ (λ _. refl) (λ _ _ _. refl)
kept_step k asks_box = kept_left k _ (λ _. refl) (λ _ _ _. refl)

pub kept : {m : Making} {es : List Event} {s : State} → Past m es s → Kept m es s
kept {m} begins = kept_start m
kept (goes_on p step) = kept_step (kept p) step
