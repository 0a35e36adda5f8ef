-- A number tells its refusal, and checks pass in turn.
-- Assumes nothing.
use Rattle.std.proofs.Common.{◌≡◌, ℕ, cond, eqb, Some, None, Option, sym, refl, ap, ◌∙◌, arith}
use Rattle.std.specs.Option.{option_or}
use Rattle.utils.specs.Errors.{error_number, refusal_number}
use Rattle.utils.specs.declared.error.HeightFieldError.{HeightFieldError}
use Rattle.utils.specs.declared.error.HeightFieldError.TheVariants.{TooFewPoints, TooManyPoints, LengthMismatch, ScaleOutOfRange, IndexOutOfRange, InvalidStatus, InvalidLocalIndex, BufferTooShort}

-- the refusal of a number; of 0 and the rest, the last
numbered : ℕ → HeightFieldError
numbered n =
    cond (eqb n 1) TooFewPoints
    (cond (eqb n 2) TooManyPoints
    (cond (eqb n 3) LengthMismatch
    (cond (eqb n 4) ScaleOutOfRange
    (cond (eqb n 5) IndexOutOfRange (cond (eqb n 6) InvalidStatus (cond (eqb n 7) InvalidLocalIndex BufferTooShort))))))

numbered_lem : (e : HeightFieldError) → numbered (error_number e) ≡ e
unfolding numbered
numbered_lem TooFewPoints = refl
numbered_lem TooManyPoints = refl
numbered_lem LengthMismatch = refl
numbered_lem ScaleOutOfRange = refl
numbered_lem IndexOutOfRange = refl
numbered_lem InvalidStatus = refl
numbered_lem InvalidLocalIndex = refl
numbered_lem BufferTooShort = refl

none_is_zero : (e : HeightFieldError) → error_number e ≡ 0 → ⊥
none_is_zero TooFewPoints h = omega arith
none_is_zero TooManyPoints h = omega arith
none_is_zero LengthMismatch h = omega arith
none_is_zero ScaleOutOfRange h = omega arith
none_is_zero IndexOutOfRange h = omega arith
none_is_zero InvalidStatus h = omega arith
none_is_zero InvalidLocalIndex h = omega arith
none_is_zero BufferTooShort h = omega arith

-- what is answered with the number of a refusal is that refusal
pub refused : (refusal : Option HeightFieldError) (e : HeightFieldError) → error_number e ≡ refusal_number refusal → refusal ≡ Some e
refused None e h = absurd (none_is_zero e h)
refused (Some x) e h = ap (λ y. Some y) (sym (numbered_lem x) ∙ ap numbered (sym h) ∙ numbered_lem e)

-- where two checks in turn refuse nothing, neither refuses
pub both_pass : {X : Type 0} (a b : Option X) → option_or a b ≡ None → (a ≡ None) × (b ≡ None)
both_pass None b h = (refl, h)
both_pass (Some e) b h = (h, cc)
