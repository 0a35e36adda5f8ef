-- The column list holds each standing triangle once, and all rings round a cell hold the same triangles.
-- Assumes nothing.
use Rattle.std.proofs.Common.{◌≡◌, ℕ, ◌+◌, ◌-◌, ◌*◌, ◌/◌, ◌%◌, ◌<◌, Bool, true, false, eqb, List, sym, arith}
use mathlib.Core.Path.{subst₃}
use Rattle.std.proofs.lemmas.Nat.{div-add-mod', div-mul-add, mod-mul-add}
use Rattle.std.proofs.lemmas.Bool.Decides.{nat_tests}
use Rattle.rings.specs.RingLists.{farthest_ring}
use Rattle.shape.specs.Grids.{Grid}
use Rattle.takers.specs.declared.triangle.NumberedTriangle.{NumberedTriangle}
use Rattle.walk_laws.proofs.OnceLists.{holds_same, holds_from_on, holds_perm}
use Rattle.walk_laws.proofs.RingMembers.{rings_hold}
use Rattle.walk_laws.proofs.WalkedCells.{Stands, HoldsCells, one_triangle, standing_inside, id_names_one, cells_same, each_once}
use Rattle.walk_laws.specs.RingNumbers.{RingsAreColumnsInAnotherOrder}
use Rattle.walk_laws.specs.Walked.{ColumnsHoldEachOnce}
use Rattle.walks.proofs.ColumnSteps.{slot_lt}
use Rattle.walks.specs.ColumnLists.{column_list, slots, first_slot}

-- the slots of a cell after its first
abbrev side_of : Bool → ℕ
side_of true = 0
side_of false = 1

-- the cell and the side of a slot tell its number, and are told by it
parts_tell_slot :
    (r k l : ℕ) → k / 2 % r ≡ l / 2 % r → k / 2 / r ≡ l / 2 / r → eqb (k % 2) 0 ≡ eqb (l % 2) 0 → k ≡ l
parts_tell_slot r k l p q e =
    let a = div-add-mod' (k / 2) r in
    let b = div-add-mod' (l / 2) r in
    let half : k / 2 ≡ l / 2 = cc in
    grind (arith, nat_tests)

slot_tells_parts :
    (r i j : ℕ) (left : Bool) → i < r → let k = 2 * (j * r + i) + side_of left in
    (k / 2 % r ≡ i) × (k / 2 / r ≡ j) × (eqb (k % 2) 0 ≡ left)
slot_tells_parts r i j left h =
    let half : (2 * (j * r + i) + side_of left) / 2 ≡ j * r + i = grind arith in
    (rw half (mod-mul-add j r i h), rw half (div-mul-add j r i h), grind (arith, nat_tests))

module _ (g : Grid) (flags : List ℕ) where
  -- t is the triangle of slot k, and stands
  abbrev InSlot : ℕ → NumberedTriangle → Type 0
  InSlot k = Stands g flags (k / 2 % g.rows) (k / 2 / g.rows) (eqb (k % 2) 0)

  slots_differ : (k l : ℕ) (s t : NumberedTriangle) → InSlot k s → InSlot l t → s.id ≡ t.id → k ≡ l
  slots_differ k l s t p q e =
      let same = id_names_one g flags _ _ _ _ _ _ s t p q e in
      parts_tell_slot g.rows k l same.0 same.1 same.2

  pub columns_hold : HoldsCells g flags (λ i j. Unit {0}) (column_list g flags)
  columns_hold =
      holds_same (λ t. t.id)
      (λ t (k, l, m, s).
      record { row = k / 2 % g.rows; column = k / 2 / g.rows; left = eqb (k % 2) 0; stands = s.0; within = tt; is = s.1 })
      (λ t s.
      let inside = standing_inside g flags s.row s.column s.left s.stands in
      let parts = slot_tells_parts g.rows s.row s.column s.left inside.0 in (
        first_slot g s.row s.column + side_of s.left,
        omega arith,
        grind (arith, slot_lt g flags s.row s.column inside.0 inside.1),
        subst₃ (λ i j left. Stands g flags i j left t) (sym parts.0) (sym parts.1) (sym parts.2) (s.stands, s.is),
      ))
      (holds_from_on (λ t. t.id) slots_differ 0 (slots g - 0) (λ k l m. one_triangle g flags _ _ _))

pub columns_hold_each_once : (g : Grid) → ColumnsHoldEachOnce g
columns_hold_each_once g flags = each_once g flags (columns_hold g flags)

pub rings_are_columns : (g : Grid) → RingsAreColumnsInAnotherOrder g
rings_are_columns g flags ci cj row_lt column_lt =
    holds_perm (λ t. t.id)
    (cells_same g flags (λ i j a b p. tt) (λ i j a b (p : Unit {0}). omega arith)
    (rings_hold g flags ci cj (farthest_ring g.rows g.columns ci cj)))
    (columns_hold g flags)
