-- The steps of a walk by columns.
-- Assumes nothing.
use Rattle.std.proofs.Common.{◌≡◌, ℕ, ◌+◌, ◌*◌, ◌/◌, ◌%◌, ◌<◌, true, false, List, [], ◌++◌, is_some, Some, None, Option, sym, refl, ap, ◌∙◌, append_assoc, arith}
use Rattle.std.proofs.lemmas.Nat.{div-mul-add, mod-mul-add, mul-add-lt}
use Rattle.search.proofs.FromOn.{from_on_first}
use Rattle.search.specs.BoxLists.{cell_list}
use Rattle.search.specs.Triangles.{corners_at}
use Rattle.shape.specs.Grids.{Grid}
use Rattle.takers.specs.declared.triangle.NumberedTriangle.{NumberedTriangle}
use Rattle.walks.specs.Standing.{standing_list}
use Rattle.walks.specs.declared.standing.Standing.{Standing}
use Rattle.walks.specs.ColumnLists.{drawn_at, column_slot, slots, columns_from, first_slot}

module _ (g : Grid) (flags : List ℕ) where
  module _ (i j : ℕ) (row : i < g.rows) where
    -- a cell and a side can be read off the slot
    left_slot : column_slot g flags (first_slot g i j) ≡ drawn_at g flags i j true
    left_slot =
        let n = j * g.rows + i in
        let half : 2 * n / 2 ≡ n = omega arith in
        let side : 2 * n % 2 ≡ 0 = omega arith in
        rw (half, side, mod-mul-add j g.rows i row, div-mul-add j g.rows i row) refl

    right_slot : column_slot g flags (first_slot g i j + 1) ≡ drawn_at g flags i j false
    right_slot =
        let n = j * g.rows + i in
        let half : (2 * n + 1) / 2 ≡ n = omega arith in
        let side : (2 * n + 1) % 2 ≡ 1 = omega arith in
        rw (half, side, mod-mul-add j g.rows i row, div-mul-add j g.rows i row) refl

    pub slot_lt : j < g.columns → first_slot g i j + 1 < slots g
    slot_lt column = omega (arith, mul-add-lt j g.rows i g.columns column row)

    -- one cell on: what it gives comes first
    pub cell_step :
        j < g.columns
        → columns_from g flags (first_slot g i j)
        ≡ cell_list g flags (corners_at g i j) i j ++ columns_from g flags (first_slot g i j + 2)
    cell_step column =
        let k = first_slot g i j in
        let within = slot_lt column in
        let two : k + 1 + 1 ≡ k + 2 = omega arith in
        let second : columns_from g flags (k + 1) ≡ drawn_at g flags i j false ++ columns_from g flags (k + 2) =
        rw two at (from_on_first (column_slot g flags) (k + 1) (slots g) within ∙ ap (λ xs. xs ++ columns_from g flags (k + 1 + 1)) right_slot) in
        from_on_first (column_slot g flags) k (slots g) (omega arith)
        ∙ ap (λ xs. xs ++ columns_from g flags (k + 1)) left_slot
        ∙ ap (λ xs. drawn_at g flags i j true ++ xs) second
        ∙ sym (append_assoc (drawn_at g flags i j true) (drawn_at g flags i j false) (columns_from g flags (k + 2)))

    -- the same, to the cell after it
    pub cell_on :
        (xs : List NumberedTriangle) (next : ℕ) → j < g.columns → xs ≡ cell_list g flags (corners_at g i j) i j → next ≡ first_slot g i j + 2
        → columns_from g flags (first_slot g i j) ≡ xs ++ columns_from g flags next
    cell_on xs next column e h = rw (e, h) (cell_step column)

-- a cell in which none was found has no triangle
pub none_standing : (r : Option Standing) → is_some r ≡ false → standing_list r ≡ []
none_standing None h = refl
none_standing (Some s) h = cc
