-- Performing the calls of a log one after the other.
-- Assumes nothing.
use Rattle.std.proofs.Common.{◌≡◌, ℕ, ◌+◌, ◌<◌, cond, None, Option, List, [], ◌∷◌, ◌++◌, map, length, get_or, take, set, replicate, fold, sym, refl, ap, ◌∙◌, subst}
use Rattle.emptying.specs.ByNumber.{AnyOrder}
use Rattle.history.proofs.LawHolds.{grid_law}
use Rattle.history.proofs.Moving.{run_prolongs}
use Rattle.history.specs.Past.{State, Making, start, Step, Past, begins}
use Rattle.history.specs.Runs.{handed, nothing, one_more, Performed, KeepsLaw, KeptSinceMaking}
use Rattle.history.specs.declared.call.Event.{Event}
use Rattle.search.proofs.Handing.{folded_append}
use Rattle.shape.specs.Grids.{Grid, made}
use Rattle.std.proofs.lemmas.List.{map-set, set-get_or, take_more_set}
use Rattle.std.specs.Option.{is_none}
use Rattle.utils.proofs.Errors.{refused}
use Rattle.utils.specs.Errors.{error_number, refusal_number}
use Rattle.utils.specs.declared.error.HeightFieldError.{HeightFieldError}
use Rattle.takers.specs.declared.triangle.NumberedTriangle.{NumberedTriangle}

module _ {Total : Type 0} (adds : Total → NumberedTriangle → Total) (s : State) (first : Total) where
  pub performed_none : Performed adds [] s s first first
  performed_none = record { triangles = []; run = nothing; total = refl }

  one_more_performed :
      (es : List Event) (e : Event) (s' s'' : State) (total last : Total) → Performed adds es s s' first total → Step s' e s''
      → last ≡ fold adds total (handed s' e.call) → Performed adds (es ++ e ∷ []) s s'' first last
  one_more_performed es e s' s'' total last p step added =
      record {
        triangles = p.triangles ++ handed s' e.call;
        run = one_more p.run step;
        total =
            added ∙ ap (λ t. fold adds t (handed s' e.call)) p.total
            ∙ sym (folded_append adds first p.triangles (handed s' e.call));
      }

  -- one more call of a log, with its answer written down
  pub performed_more :
      (log : List Event) (k : ℕ) (e : Event) (s' s'' : State) (total last : Total) → k < length log
      → Performed adds (take k log) s s' first total → Step s' e s'' → last ≡ fold adds total (handed s' e.call)
      → Performed adds (take (k + 1) (set log k e)) s s'' first last
  performed_more log k e s' s'' total last h p step added =
      subst (λ es. Performed adds es s s'' first last) (sym (take_more_set log k e h))
      (one_more_performed (take k log) e s' s'' total last p step added)

  pub performed_keeps_law : AnyOrder adds → (es : List Event) (s' : State) (last : Total) → Performed adds es s s' first last → KeepsLaw adds es s s'
  performed_keeps_law any es s' last p m before past =
      let all = run_prolongs past p.run in
      (all, grid_law adds any m (before ++ es) s' all)

-- an answer that is written down leaves the calls
pub calls_stay :
    (log : List Event) (k : ℕ) (d e : Event) → e.call ≡ (get_or log k d).call
    → map (λ e. e.call) (set log k e) ≡ map (λ e. e.call) log
calls_stay log k d e same =
    map-set (λ e. e.call) log k e ∙ ap (set (map (λ e. e.call) log) k) same
    ∙ sym (map-set (λ e. e.call) log k (get_or log k d)) ∙ ap (map (λ e. e.call)) (set-get_or log k d)

-- what is performed on the grid that a making gives is the grid's whole past
pub since_making :
    {Total : Type 0} (adds : Total → NumberedTriangle → Total) (m : Making) (es : List Event) (s s' : State) (first last : Total)
    → s ≡ start m → Performed adds es s s' first last → KeepsLaw adds es s s'
    → KeptSinceMaking adds m.rows m.columns m.heights m.cells m.scale es s' first last
since_making adds m es s s' first last made performed keeps =
    let whole = keeps m [] (subst (Past m []) (sym made) begins) in
    record {
      making = m;
      of_these = (refl, refl, refl, refl, refl);
      performed = subst (λ x. Performed adds es x s' first last) made performed;
      past = whole.0;
      law = whole.1;
    }

-- making leaves a cleared table
pub cleared_start :
    (m : Making) (grid : Grid) (before after : List ℕ) (refusal : Option HeightFieldError) → grid ≡ made m.rows m.columns m.heights m.scale
    → refusal ≡ None → after ≡ cond (is_none refusal) (replicate m.cells 0) before
    → ◌≡◌ {A = State} (record { grid = grid; flags = after }) (start m)
cleared_start m grid before after refusal is none cleared = rw (is, cleared, none) refl

-- a refused making leaves the table
pub refused_leaves :
    (before cleared after : List ℕ) (refusal : Option HeightFieldError) (e : HeightFieldError) → error_number e ≡ refusal_number refusal
    → after ≡ cond (is_none refusal) cleared before → after ≡ before
refused_leaves before cleared after refusal e number leaves = leaves ∙ rw (refused refusal e number) refl
