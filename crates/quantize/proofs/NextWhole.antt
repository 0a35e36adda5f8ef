-- A held floor is the greatest whole number of its range that is not above the float, and a held ceil the least that is
-- not below: up to 2 ^ 24 a whole number is exactly a float, so `le` against it is an inequality of whole numbers, and
-- the division gives the rest.
-- Assumes nothing.
use Rattle.std.proofs.Common.{ℕ, ◌*◌, ◌^◌, ◌<◌, ◌≤◌, Bool, true, false, T, ℤ, pos, sym, refl, subst, inl, inr, zero-le, le_of_lt, mul-le-mul_right, mul-le-mul_left, arith}
use lib.Ieee.{Float, nan, inf, fin, binary32, up, down, le, of_int, is_nan}
use lib.Ieee.Back.{round_whole}
use lib.Ieee.Exact.{HasValue}
use lib.Ieee.Fits.{down_pos}
use native.Mathlib.Nat.{min-eq_left, min-eq_right}
use Rattle.std.specs.Float.{ratio_floor, ratio_ceil}
use Rattle.std.proofs.lemmas.Nat.{div-add-mod', le-div}
use Rattle.std.proofs.lemmas.Bool.{cases_lt, true≢false}
use Rattle.math.proofs.Order.{AtMost}
use Rattle.quantize.specs.Quantize.{held, IsFloorHeld, IsCeilHeld, HeldNumbersAreNext}
use Rattle.quantize.proofs.CellOrder.{raised_least, raised_reaches}
use Rattle.quantize.proofs.FloatLe.{le→values, values→le, le_nan_right, le_inf_right, le_inf_left}

-- ---- n / d cut and raised, for a d above 0

cut_below : (n d k : ℕ) → 0 < d → k ≤ ratio_floor n d → k * d ≤ n
cut_below n d k h l = omega (arith, mul-le-mul_right d l, div-add-mod' n d)

-- ---- a whole number and a finite float

whole_value : (j : ℕ) → j ≤ 2 ^ 24 → HasValue (of_int binary32 (pos j)) false j 1
unfolding of_int
whole_value j small = round_whole binary32 false j small

module _ (s : Bool) (m : ℕ) (e : ℤ) (j : ℕ) (small : j ≤ 2 ^ 24) where
  whole-le→at-most : T (le (of_int binary32 (pos j)) (fin s m e)) → AtMost false j 1 s (m * up e) (down e)
  whole-le→at-most h = le→values _ (fin s m e) false j 1 s _ _ (whole_value j small) (refl, refl) h

  at-most→whole-le : AtMost false j 1 s (m * up e) (down e) → T (le (of_int binary32 (pos j)) (fin s m e))
  at-most→whole-le h =
      values→le _ (fin s m e) false j 1 s _ _ (omega arith) (down_pos e) (whole_value j small) (refl, refl) h

  le-whole→at-most : T (le (fin s m e) (of_int binary32 (pos j))) → AtMost s (m * up e) (down e) false j 1
  le-whole→at-most h = le→values (fin s m e) _ s _ _ false j 1 (refl, refl) (whole_value j small) h

  at-most→le-whole : AtMost s (m * up e) (down e) false j 1 → T (le (fin s m e) (of_int binary32 (pos j)))
  at-most→le-whole h =
      values→le (fin s m e) _ s _ _ false j 1 (down_pos e) (omega arith) (refl, refl) (whole_value j small) h

-- ---- the law

module _ (top : ℕ) (small : top ≤ 2 ^ 24) where
  floor_held : (x : Float) → IsFloorHeld x top (held ratio_floor x top)
  floor_held nan = record { within = zero-le; greatest = λ j l h. absurd (le_nan_right _ h); not_above = inl refl }
  floor_held (inf true) =
      record {
        within = zero-le;
        greatest = λ j l h. absurd (subst T (le_inf_right _ false j 1 true (whole_value j (omega arith))) h);
        not_above = inl refl;
      }
  floor_held (inf false) =
      record {
        within = omega arith;
        greatest = λ j l h. l;
        not_above = inr (subst T (sym (le_inf_right _ false top 1 false (whole_value top small))) tt);
      }
  floor_held (fin true m e) =
      record {
        within = zero-le;
        greatest = λ j l h.
            omega (arith, whole-le→at-most true m e j (omega arith) h, mul-le-mul_left j (down_pos e));
        not_above = inl refl;
      }
  floor_held (fin false m e) =
      let n = m * up e in
      let d = down e in
      record {
        within = omega arith;
        greatest = λ j l h.
            let below = whole-le→at-most false m e j (omega arith) h in
            omega (arith, le-div j n d (down_pos e) (omega arith));
        not_above =
            let below = cut_below n d (held ratio_floor (fin false m e) top) (down_pos e) (omega arith) in
            inr (at-most→whole-le false m e _ (omega arith) (omega arith));
      }

  ceil_held : (x : Float) → IsCeilHeld x top (held ratio_ceil x top)
  unfolding is_nan
  ceil_held nan =
      record {
        within = zero-le;
        least = λ j l h. zero-le;
        not_below = λ number. absurd (true≢false number);
        of_nan = λ _. refl;
      }
  ceil_held (inf true) =
      record {
        within = zero-le;
        least = λ j l h. zero-le;
        not_below = λ _. inr (subst T (sym (le_inf_left true _ false 0 1 (whole_value 0 zero-le))) tt);
        of_nan = λ none. absurd (true≢false (sym none));
      }
  ceil_held (inf false) =
      record {
        within = omega arith;
        least = λ j l h. absurd (subst T (le_inf_left false _ false j 1 (whole_value j (omega arith))) h);
        not_below = λ _. inl refl;
        of_nan = λ none. absurd (true≢false (sym none));
      }
  ceil_held (fin true m e) =
      record {
        within = zero-le;
        least = λ j l h. zero-le;
        not_below = λ _. inr (at-most→le-whole true m e 0 zero-le (omega arith));
        of_nan = λ none. absurd (true≢false (sym none));
      }
  ceil_held (fin false m e) =
      let n = m * up e in
      let d = down e in
      record {
        within = omega arith;
        least = λ j l h.
            let above = le-whole→at-most false m e j (omega arith) h in
            omega (arith, raised_least n d j (down_pos e) (omega arith));
        not_below = λ _.
            elim (cases_lt (ratio_ceil n d) top) [
              | inl l ↦
                  let above : n ≤ held ratio_ceil (fin false m e) top * d =
                  rw (min-eq_left (le_of_lt l)) (raised_reaches n d (down_pos e)) in
                  inr (at-most→le-whole false m e _ (omega arith) (omega arith))
              | inr l ↦ inl (min-eq_right l)
            ];
        of_nan = λ none. absurd (true≢false (sym none));
      }

pub held_numbers_are_next : HeldNumbersAreNext
held_numbers_are_next x top small = (floor_held top small x, ceil_held top small x)
