-- The number of each refusal, and what a call that may be refused answers.
-- Assumes nothing.
use Rattle.std.specs.Prelude.{◌≡◌, ℕ, Ok, Err, Result, Some, None, Option}
use Rattle.utils.specs.declared.error.HeightFieldError.{HeightFieldError}
use Rattle.utils.specs.declared.error.HeightFieldError.TheVariants.{TooFewPoints, TooManyPoints, LengthMismatch, ScaleOutOfRange, IndexOutOfRange, InvalidStatus, InvalidLocalIndex, BufferTooShort}

abbrev pub error_number : HeightFieldError → ℕ
error_number TooFewPoints = 1
error_number TooManyPoints = 2
error_number LengthMismatch = 3
error_number ScaleOutOfRange = 4
error_number IndexOutOfRange = 5
error_number InvalidStatus = 6
error_number InvalidLocalIndex = 7
error_number BufferTooShort = 8

-- the same of a refusal that there may be: 0 where there is none
abbrev pub refusal_number : Option HeightFieldError → ℕ
refusal_number None = 0
refusal_number (Some e) = error_number e

-- The value that P describes where no check refuses, else the refusal, by its number.
abbrev pub Answers : {X : Type 0} → Result X HeightFieldError → Option HeightFieldError → (X → Type 0) → Type 0
Answers (Ok x) refusal P = (refusal ≡ None) × P x
Answers (Err e) refusal P = error_number e ≡ refusal_number refusal
