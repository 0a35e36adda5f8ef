-- The rings round a cell hold each standing triangle once, ring by ring.
-- Assumes nothing.
use Rattle.std.proofs.Common.{◌≡◌, ℕ, zero, suc, ◌+◌, ◌-◌, ◌*◌, ◌<◌, ◌≤◌, Bool, true, false, cond, ◌⊎◌, ◌↔◌, List, [], sym, refl, ◌∙◌, inl, inr, ⊎_elim, arith}
use Rattle.std.proofs.lemmas.Bool.{cases_lt}
use Rattle.std.proofs.lemmas.Bool.Decides.{nat_tests}
use Rattle.rings.specs.RingLists.{side_length, place_of, on_grid, place_list, side_from, ring_of, rings_up_to}
use Rattle.rings.specs.declared.place.RingSide.{RingSide}
use Rattle.rings.specs.declared.place.RingSide.TheVariants.{RowRising, ColumnRising, RowFalling, ColumnFalling}
use Rattle.search.specs.BoxLists.{cell_list}
use Rattle.search.specs.Triangles.{corners_at}
use Rattle.shape.specs.Grids.{Grid}
use Rattle.walk_laws.proofs.OnceLists.{holds_none, ranks_rise}
use Rattle.walk_laws.proofs.WalkedCells.{HoldsCells, standing_inside, one_cell, fact_by_number, facts_differ}
use Rattle.walk_laws.proofs.WalkedCells.{cells_same, cells_append, cells_from_on, each_once}
use Rattle.walk_laws.specs.RingNumbers.{ring_number, ring_of_triangle, RingByRing, RingsHoldEachOnce}

-- ---- the arithmetic of a ring

-- the cell (i, j) is at a step of a side of ring k
abbrev AtStep : ℕ → ℕ → ℕ → RingSide → ℕ → ℕ → ℕ → Type 0
AtStep ci cj k RowRising step i j = (i + k ≡ ci + step) × (j + k ≡ cj)
AtStep ci cj k ColumnRising step i j = (i ≡ ci + k) × (j + k ≡ cj + step)
AtStep ci cj k RowFalling step i j = (i + step ≡ ci + k) × (j ≡ cj + k)
AtStep ci cj k ColumnFalling step i j = (i + k ≡ ci) × (j + step ≡ cj + k)

-- the cell (i, j) is on a side of ring k
abbrev OnSide : ℕ → ℕ → ℕ → RingSide → ℕ → ℕ → Type 0
OnSide ci cj k side i j = (step : ℕ) × (step < side_length k side) × AtStep ci cj k side step i j

-- a side's last step is at most 2k
side_short : (k : ℕ) (side : RingSide) (step : ℕ) → step < side_length k side → step ≤ 2 * k
side_short zero RowRising step h = omega arith
side_short zero ColumnRising step h = omega arith
side_short zero RowFalling step h = omega arith
side_short zero ColumnFalling step h = omega arith
side_short (suc k) side step h = omega arith

module _ (ci cj k : ℕ) where
  -- the same by the place of the step
  at_step_is :
      (side : RingSide) (step i j : ℕ) → step ≤ 2 * k
      → ((i + k ≡ (place_of ci cj k side step).0) × (j + k ≡ (place_of ci cj k side step).1)) ↔ AtStep ci cj k side step i j
  at_step_is RowRising step i j h = (λ (p, q). omega arith, λ (p, q). omega arith)
  at_step_is ColumnRising step i j h = (λ (p, q). omega arith, λ (p, q). omega arith)
  at_step_is RowFalling step i j h = (λ (p, q). omega arith, λ (p, q). omega arith)
  at_step_is ColumnFalling step i j h = (λ (p, q). omega arith, λ (p, q). omega arith)

  -- a cell is at one step of a side at most
  one_step : (side : RingSide) (s t i j : ℕ) → AtStep ci cj k side s i j → AtStep ci cj k side t i j → s ≡ t
  one_step RowRising s t i j p q = omega arith
  one_step ColumnRising s t i j p q = omega arith
  one_step RowFalling s t i j p q = omega arith
  one_step ColumnFalling s t i j p q = omega arith

-- the cell (i, j) is on one of the last two sides of ring k, of the last three, or of all
abbrev OnLastTwo : ℕ → ℕ → ℕ → ℕ → ℕ → Type 0
OnLastTwo ci cj k i j = OnSide ci cj k RowFalling i j ⊎ OnSide ci cj k ColumnFalling i j

abbrev OnLastThree : ℕ → ℕ → ℕ → ℕ → ℕ → Type 0
OnLastThree ci cj k i j = OnSide ci cj k ColumnRising i j ⊎ OnLastTwo ci cj k i j

abbrev OnRing : ℕ → ℕ → ℕ → ℕ → ℕ → Type 0
OnRing ci cj k i j = OnSide ci cj k RowRising i j ⊎ OnLastThree ci cj k i j

module _ (ci cj : ℕ) where
  -- no cell is on two sides
  first_side_apart : (k i j : ℕ) → OnSide ci cj k RowRising i j → OnLastThree ci cj k i j → ⊥
  first_side_apart zero i j p q = grind arith
  first_side_apart (suc k) i j p q = grind arith

  second_side_apart : (k i j : ℕ) → OnSide ci cj k ColumnRising i j → OnLastTwo ci cj k i j → ⊥
  second_side_apart zero i j p q = grind arith
  second_side_apart (suc k) i j p q = grind arith

  third_side_apart : (k i j : ℕ) → OnSide ci cj k RowFalling i j → OnSide ci cj k ColumnFalling i j → ⊥
  third_side_apart zero i j p q = omega arith
  third_side_apart (suc k) i j p q = omega arith

  -- a cell is on ring k just where it is k from the centre
  ring_has_number : (k i j : ℕ) → OnRing ci cj k i j → ring_number ci cj i j ≡ k
  ring_has_number zero i j p = grind arith
  ring_has_number (suc k) i j p = grind arith

  number_has_ring : (k i j : ℕ) → ring_number ci cj i j ≡ k → OnRing ci cj k i j
  number_has_ring zero i j h = inl (0, omega arith, omega arith)
  number_has_ring (suc k) i j h =
      let n = suc k in
      ⊎_elim
      (λ (p : i < ci + n). ⊎_elim
      (λ (q : cj < j + n). ⊎_elim
      (λ (r : ci < i + n). inr (inr (inl (ci + n - i, omega arith, omega arith))))
      (λ (r : i + n ≤ ci). inr (inr (inr (cj + n - j, omega arith, omega arith)))) (cases_lt ci (i + n)))
      (λ (q : j + n ≤ cj). inl (i + n - ci, omega arith, omega arith)) (cases_lt cj (j + n)))
      (λ (p : ci + n ≤ i). ⊎_elim
      (λ (q : j < cj + n). inr (inl (j + n - cj, omega arith, omega arith)))
      (λ (q : cj + n ≤ j). inr (inr (inl (ci + n - i, omega arith, omega arith)))) (cases_lt j (cj + n))) (cases_lt i (ci + n))

-- ---- the triangles of a place, a side, a ring and the rings

module _ (g : Grid) (flags : List ℕ) where
  place_holds :
      (k : ℕ) (p : ℕ × ℕ) → HoldsCells g flags (λ i j. (i + k ≡ p.0) × (j + k ≡ p.1)) (place_list g flags k p)
  place_holds k p = go (on_grid g.rows g.columns k p) refl
    where
      go :
          (b : Bool) → on_grid g.rows g.columns k p ≡ b
          → HoldsCells g flags (λ i j. (i + k ≡ p.0) × (j + k ≡ p.1))
          (cond b (cell_list g flags (corners_at g (p.0 - k) (p.1 - k)) (p.0 - k) (p.1 - k)) [])
      go true e =
          cells_same g flags (λ i j a b (x, y). grind (arith, nat_tests)) (λ i j a b (x, y). omega arith)
          (one_cell g flags (p.0 - k) (p.1 - k))
      go false e =
          holds_none (λ t. t.id) (λ t s.
          let inside = standing_inside g flags s.row s.column s.left s.stands in grind (arith, nat_tests, s.within))

  module _ (ci cj : ℕ) where
    side_holds :
        (k : ℕ) (side : RingSide) → HoldsCells g flags (OnSide ci cj k side) (side_from g flags ci cj k side 0)
    side_holds k side =
        cells_same g flags (λ i j a b (step, l, m, s). (step, omega arith, s))
        (λ i j a b (step, m, s). (step, omega arith, omega arith, s))
        (cells_from_on g flags (one_step ci cj k side) 0 (side_length k side - 0) (λ step l m.
        let is = at_step_is ci cj k side step in
        let short = side_short k side step (omega arith) in
        cells_same g flags (λ i j a b. (is i j short).0) (λ i j a b. (is i j short).1) (place_holds k (place_of ci cj k side step))))

    ring_holds : (k : ℕ) → HoldsCells g flags (λ i j. ring_number ci cj i j ≡ k) (ring_of g flags ci cj k)
    ring_holds k =
        cells_same g flags (λ i j a b. ring_has_number ci cj k i j) (λ i j a b. number_has_ring ci cj k i j)
        (cells_append g flags (first_side_apart ci cj k) (side_holds k RowRising)
        (cells_append g flags (second_side_apart ci cj k) (side_holds k ColumnRising)
        (cells_append g flags (third_side_apart ci cj k) (side_holds k RowFalling) (side_holds k ColumnFalling))))

    pub rings_hold : (last : ℕ) → HoldsCells g flags (λ i j. ring_number ci cj i j ≤ last) (rings_up_to g flags ci cj last)
    rings_hold last =
        cells_same g flags (λ i j a b (k, l, m, e). omega arith)
        (λ i j a b h. (ring_number ci cj i j, omega arith, omega arith, refl))
        (cells_from_on g flags (λ k l i j p q. sym p ∙ q) 0 (last + 1 - 0) (λ k l m. ring_holds k))

    ring_by_ring : (last : ℕ) → RingByRing g ci cj (rings_up_to g flags ci cj last)
    ring_by_ring last =
        ranks_rise (λ t. t.id) (facts_differ g flags (λ k l i j p q. sym p ∙ q))
        (ring_of_triangle g ci cj) (λ k t. fact_by_number g flags t) 0 (last + 1 - 0) (λ k l m. ring_holds k)

pub rings_hold_each_once : (g : Grid) → RingsHoldEachOnce g
rings_hold_each_once g flags ci cj last = (each_once g flags (rings_hold g flags ci cj last), ring_by_ring g flags ci cj last)
