-- The triangles by rising number are each standing triangle once, and the numbers rise.
-- Assumes nothing.
use Rattle.std.proofs.Common.{◌≡◌, ℕ, ◌*◌, List, sym, ap, ◌∙◌, arith}
use mathlib.Core.List.Pairwise
use mathlib.Core.Path.{subst₃}
use Rattle.std.proofs.lemmas.Nat.{div-add-mod'}
use Rattle.std.proofs.lemmas.Bool.Decides.{nat_tests}
use Rattle.emptying.specs.ByNumber.{by_number, RisesOverEach}
use Rattle.numbering.proofs.Bounds.{triangle_lt}
use Rattle.numbering.specs.Numbers.{triangle_number, among_side, row_of, column_of, is_left}
use Rattle.shape.specs.Grids.{Grid}
use Rattle.takers.specs.declared.triangle.NumberedTriangle.{NumberedTriangle}
use Rattle.walk_laws.proofs.OnceLists.{holds_same, holds_from_on, ranks_rise}
use Rattle.walk_laws.proofs.WalkedCells.{left_of_number, row_of_number, column_of_number}
use Rattle.walk_laws.proofs.WalkedCells.{Stands, HoldsCells, one_triangle, standing_inside, each_once}

-- the cell and the side that a number names have that number
named_has_number : (r c n : ℕ) → triangle_number r c (row_of r c n) (column_of r c n) (is_left r c n) ≡ n
named_has_number r c n = grind (arith, nat_tests, div-add-mod' (among_side r c n) r)

module _ (g : Grid) (flags : List ℕ) where
  -- t is the triangle with number n, and stands
  abbrev WithNumber : ℕ → NumberedTriangle → Type 0
  WithNumber n = Stands g flags (row_of g.rows g.columns n) (column_of g.rows g.columns n) (is_left g.rows g.columns n)

  id_is_number : (n : ℕ) (t : NumberedTriangle) → WithNumber n t → t.id ≡ n
  id_is_number n t s = ap (λ u. u.id) s.1 ∙ named_has_number g.rows g.columns n

  numbers_differ : (k l : ℕ) (s t : NumberedTriangle) → WithNumber k s → WithNumber l t → s.id ≡ t.id → k ≡ l
  numbers_differ k l s t p q e = sym (id_is_number k s p) ∙ e ∙ id_is_number l t q

  pub numbers_hold : HoldsCells g flags (λ i j. Unit {0}) (by_number g flags)
  numbers_hold =
      holds_same (λ t. t.id)
      (λ t (n, l, m, s). record { row = _; column = _; left = _; stands = s.0; within = tt; is = s.1 })
      (λ t s.
      let (row_lt, column_lt) = standing_inside g flags s.row s.column s.left s.stands in (
        triangle_number g.rows g.columns s.row s.column s.left,
        omega arith,
        omega (arith, triangle_lt g.rows g.columns s.row s.column s.left row_lt column_lt),
        subst₃ (λ i j left. Stands g flags i j left t)
            (sym (row_of_number _ _ _ _ row_lt column_lt s.left))
            (sym (column_of_number _ _ _ _ row_lt column_lt s.left))
            (sym (left_of_number _ _ _ _ row_lt column_lt s.left))
            (s.stands, s.is),
      ))
      (holds_from_on (λ t. t.id) numbers_differ 0 (2 * (g.rows * g.columns)) (λ k l m. one_triangle g flags _ _ _))

  pub numbers_rise_over_each : RisesOverEach g flags (by_number g flags)
  numbers_rise_over_each =
      record {
        each = each_once g flags numbers_hold;
        rises = Pairwise.imp₂ (λ s t at_most differ. omega arith)
            (ranks_rise (λ t. t.id) numbers_differ (λ t. t.id) id_is_number 0 (2 * (g.rows * g.columns))
            (λ k l m. one_triangle g flags _ _ _))
            (Pairwise.of_map' (λ t. t.id) numbers_hold.once);
      }
