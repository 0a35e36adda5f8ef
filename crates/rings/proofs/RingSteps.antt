-- Walking from side to side and from ring to ring: what will be answered stays the same.
-- Assumes nothing.
use Rattle.std.proofs.Common.{◌≡◌, ℕ, suc, ◌+◌, ◌-◌, ◌*◌, ◌<◌, ◌≤◌, max, false, cond, ltb, List, [], ◌++◌, is_some, Some, None, Option, sym, refl, ap, ◌∙◌, append-nil, arith}
use Rattle.rings.specs.Asking.{asked}
use Rattle.rings.specs.RingLists.{side_after, side_from, sides_after, ring_from, ring_of}
use Rattle.rings.specs.declared.place.RingSide.{RingSide}
use Rattle.rings.specs.declared.place.RingSide.TheVariants.{RowRising, ColumnRising, RowFalling, ColumnFalling}
use Rattle.shape.specs.Grids.{Grid}
use Rattle.std.proofs.lemmas.Bool.Decides.{nat_tests}
use Rattle.takers.specs.declared.triangle.NumberedTriangle.{NumberedTriangle}
use Rattle.walks.proofs.ColumnSteps.{none_standing}
use Rattle.walks.specs.Standing.{standing_list}
use Rattle.walks.specs.declared.standing.Standing.{Standing}

-- how many sides come after one
abbrev pub sides_left : RingSide → ℕ
sides_left RowRising = 3
sides_left ColumnRising = 2
sides_left RowFalling = 1
sides_left ColumnFalling = 0

-- the next ring is entered only where it is not past the last
ring_after : (k last : ℕ) (p q : ℕ × RingSide) → cond (ltb k last) (Some p) None ≡ Some q → (p ≡ q) × (k < last)
ring_after k last p q e = (grind (arith, nat_tests), grind (arith, nat_tests))

pub goes_on_less :
    (k : ℕ) (side : RingSide) (last : ℕ) (p : ℕ × RingSide) → side_after k side last ≡ Some p
    → (4 * (last - p.0) + sides_left p.1 < 4 * (last - k) + sides_left side) × (p.0 ≤ max k last)
goes_on_less k RowRising last p e = let same : (k, ColumnRising) ≡ p = cc in rw (← same) (omega arith, omega arith)
goes_on_less k ColumnRising last p e = let same : (k, RowFalling) ≡ p = cc in rw (← same) (omega arith, omega arith)
goes_on_less k RowFalling last p e = let same : (k, ColumnFalling) ≡ p = cc in rw (← same) (omega arith, omega arith)
goes_on_less k ColumnFalling last p e = let a = ring_after k last _ p e in rw (← a.0) (omega arith, omega arith)

module _ (g : Grid) (flags : List ℕ) (ci cj last : ℕ) where
  -- what will be answered from a step of a side on
  abbrev pub from_place : ℕ → RingSide → ℕ → Option NumberedTriangle × ℕ × List NumberedTriangle
  from_place k side step = asked (ring_of g flags ci cj) (last - k) k (ring_from g flags ci cj k side step)

  goes_on :
      (k : ℕ) (side : RingSide) (p : ℕ × RingSide) → side_after k side last ≡ Some p
      → asked (ring_of g flags ci cj) (last - k) k (sides_after g flags ci cj k side) ≡ from_place p.0 p.1 0
  goes_on k RowRising p e = let same : (k, ColumnRising) ≡ p = cc in rw (← same) refl
  goes_on k ColumnRising p e = let same : (k, RowFalling) ≡ p = cc in rw (← same) refl
  goes_on k RowFalling p e =
      let same : (k, ColumnFalling) ≡ p = cc in
      rw (← same) (ap (asked (ring_of g flags ci cj) (last - k) k) (sym (append-nil (side_from g flags ci cj k ColumnFalling 0))))
  goes_on k ColumnFalling p e =
      let a = ring_after k last _ p e in
      let more : last - k ≡ suc (last - (k + 1)) = let l = a.1 in omega arith in
      rw (more, ← a.0) refl

  module _ (k : ℕ) (side : RingSide) (step after : ℕ) (found : Option Standing)
      (finds : side_from g flags ci cj k side step ≡ standing_list found ++ side_from g flags ci cj k side after) where
    module _ (none : is_some found ≡ false) (ends : side_from g flags ci cj k side after ≡ []) where
      -- where there is none, the sides after it are left
      side_done : from_place k side step ≡ asked (ring_of g flags ci cj) (last - k) k (sides_after g flags ci cj k side)
      side_done = rw (finds, none_standing found none, ends) refl

      pub answers_later : (q : ℕ × RingSide) → side_after k side last ≡ Some q → from_place q.0 q.1 0 ≡ from_place k side step
      answers_later q e = sym (side_done ∙ goes_on k side q e)
