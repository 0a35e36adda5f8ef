-- What is read of a point, on the grid or off it.
-- Assumes nothing.
use Rattle.std.proofs.Common.{◌≡◌, ℕ, ◌+◌, true, false, cond, List, slice_index_or, Ok, Err, Result, arith}
use Rattle.std.specs.Result.{result_unwrap_or}
use lib.Ieee.{Float, nan}
use Rattle.std.proofs.lemmas.Bool.Decides.{nat_tests}
use Rattle.utils.proofs.Errors.{refused}
use Rattle.utils.specs.Errors.{Answers}
use Rattle.utils.specs.declared.error.HeightFieldError.{HeightFieldError}
use Rattle.utils.specs.Tables.{place, inside, index_refusal}

-- the height that a table gives, or NaN where it refuses
pub height_read :
    (r c rows columns i j : ℕ) (heights : List Float) (read : Result Float HeightFieldError) → rows ≡ r + 1 → columns ≡ c + 1
    → Answers read (index_refusal rows columns i j) (λ x. (d : Float) → x ≡ slice_index_or heights (place rows i j) d)
    → result_unwrap_or read nan ≡ cond (inside (r + 1) (c + 1) i j) (slice_index_or heights (place (r + 1) i j) nan) nan
height_read r c rows columns i j heights (Ok y) p q answers =
    let on : inside rows columns i j ≡ true = grind (arith, nat_tests, answers.0) in
    rw (← p, ← q, on) (answers.1 nan)
height_read r c rows columns i j heights (Err e) p q answers =
    let off : inside rows columns i j ≡ false = let refusal = refused (index_refusal rows columns i j) e answers in grind (arith, nat_tests) in
    rw (← p, ← q, off)
