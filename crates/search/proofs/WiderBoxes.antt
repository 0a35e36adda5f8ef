-- A box within another gives the other's triangles with some left out.
-- Where the outer box misses the grid, so does the inner one; where it skips a cell, so does the inner one; and along
-- either axis it begins no later and ends no earlier.
-- Assumes nothing.
use Rattle.std.proofs.Common.{None, ◌≡◌, ℕ, ◌+◌, ◌^◌, ◌<◌, Bool, true, false, ◌||◌, T, List, refl, arith}
use lib.Ieee.{Float, nan, inf, fin, binary32, div, neg, lt, le, is_nan}
use mathlib.Core.List.Sublistᴰ
use mathlib.Core.List.{Sublistᴰ}
use Rattle.math.proofs.Order.{not_lt_trans, at-most→not-lt, not-lt→at-most}
use Rattle.math.specs.Constants.{half}
use Rattle.math.specs.Scales.{scale_refusal}
use Rattle.math.specs.declared.aabb.Aabb.{Aabb}
use Rattle.quantize.proofs.CellOrder.{cells_keep_order, scaling_keeps_order}
use Rattle.quantize.proofs.FloatLe.{le→at-most, at-most→le}
use Rattle.shape.specs.Grids.{Grid, height_at}
use Rattle.points.specs.Points.{unscaled_x, unscaled_z}
use Rattle.std.proofs.lemmas.Bool.{true≢false}
use Rattle.std.proofs.lemmas.Bool.Decides.{nat_tests}
use Rattle.search.proofs.SubLists.{sublist_unless, sublist_between}
use Rattle.search.specs.BoxLists.{over, under, all_corners, cell_list, box_cell, rows_between, misses, first_row, last_row, box_list}
use Rattle.search.specs.Triangles.{box_corners_at}
use Rattle.search.specs.Widening.{Within, WiderBoxLosesNothing}

-- ---- `le` and `lt`

-- x ≤ y: two numbers, the second not less
record Ordered (x y : Float) : Type 0 where
  left : is_nan x ≡ false
  right : is_nan y ≡ false
  not_less : lt y x ≡ false

le→ordered : (x y : Float) → T (le x y) → Ordered x y
unfolding le lt is_nan
le→ordered nan y h = absurd h
le→ordered (inf s) nan h = absurd h
le→ordered (inf s) (inf t) h = record { left = refl; right = refl; not_less = grind arith }
le→ordered (inf s) (fin t n d) h = record { left = refl; right = refl; not_less = grind arith }
le→ordered (fin s m e) nan h = absurd h
le→ordered (fin s m e) (inf t) h = record { left = refl; right = refl; not_less = grind arith }
le→ordered (fin s m e) (fin t n d) h =
    record { left = refl; right = refl; not_less = at-most→not-lt t n d s m e (le→at-most s m e t n d h) }

ordered→le : (x y : Float) → Ordered x y → T (le x y)
unfolding le lt is_nan
ordered→le nan y o = absurd (true≢false o.left)
ordered→le (inf s) nan o = absurd (true≢false o.right)
ordered→le (inf s) (inf t) o = grind (arith, o.not_less)
ordered→le (inf s) (fin t n d) o = grind (arith, o.not_less)
ordered→le (fin s m e) nan o = absurd (true≢false o.right)
ordered→le (fin s m e) (inf t) o = grind (arith, o.not_less)
ordered→le (fin s m e) (fin t n d) o = at-most→le s m e t n d (not-lt→at-most t n d s m e o.not_less)

le_le_trans : (x y z : Float) → T (le y z) → T (le x y) → T (le x z)
le_le_trans x y z k h =
    let o = le→ordered x y h in
    let p = le→ordered y z k in
    ordered→le x z
    (record { left = o.left; right = p.right; not_less = not_lt_trans z y x o.right p.not_less o.not_less })

lt_le_trans : (x y z : Float) → T (le y z) → lt x y ≡ true → lt x z ≡ true
lt_le_trans x y z k h =
    let p = le→ordered y z k in
    let back : lt x z ≡ false → lt x y ≡ false = λ l. not_lt_trans x z y p.right l p.not_less in
    grind arith

le_lt_trans : (x y z : Float) → T (le x y) → lt y z ≡ true → lt x z ≡ true
le_lt_trans x y z h k =
    let o = le→ordered x y h in
    let back = not_lt_trans y x z o.left o.not_less in
    grind arith

-- ---- tests that follow from one another

or_implies :
    (a b c d : Bool) → (a ≡ true → c ≡ true) → (b ≡ true → d ≡ true) → (a || b) ≡ true → (c || d) ≡ true
or_implies a b c d p q h = grind arith

all_corners_imply :
    (g : Grid) (i j : ℕ) (p q : Float → Bool) → ((y : Float) → p y ≡ true → q y ≡ true)
    → all_corners g i j p ≡ true → all_corners g i j q ≡ true
all_corners_imply g i j p q each h =
    let a = each (height_at g i j) in
    let b = each (height_at g (i + 1) j) in
    let c = each (height_at g i (j + 1)) in
    let d = each (height_at g (i + 1) (j + 1)) in
    grind arith

-- ---- one box within another, on one grid

module _
    (g : Grid) (some_rows : 0 < g.rows) (few_rows : g.rows < 2 ^ 24)
    (some_columns : 0 < g.columns) (few_columns : g.columns < 2 ^ 24)
    (ranged : scale_refusal g.scale ≡ None) (inner outer : Aabb) (within : Within inner outer) where
  low_x : T (le (unscaled_x g outer.mins) (unscaled_x g inner.mins))
  low_x = scaling_keeps_order outer.mins.x inner.mins.x g.scale.x (grind (arith, nat_tests)) within.low_x

  low_z : T (le (unscaled_z g outer.mins) (unscaled_z g inner.mins))
  low_z = scaling_keeps_order outer.mins.z inner.mins.z g.scale.z (grind (arith, nat_tests)) within.low_z

  high_x : T (le (unscaled_x g inner.maxs) (unscaled_x g outer.maxs))
  high_x = scaling_keeps_order inner.maxs.x outer.maxs.x g.scale.x (grind (arith, nat_tests)) within.high_x

  high_z : T (le (unscaled_z g inner.maxs) (unscaled_z g outer.maxs))
  high_z = scaling_keeps_order inner.maxs.z outer.maxs.z g.scale.z (grind (arith, nat_tests)) within.high_z

  over_inner : (y : Float) → over g outer y ≡ true → over g inner y ≡ true
  over_inner y =
      le_lt_trans (div binary32 inner.maxs.y g.scale.y) (div binary32 outer.maxs.y g.scale.y) y
      (scaling_keeps_order inner.maxs.y outer.maxs.y g.scale.y (grind (arith, nat_tests)) within.high_y)

  under_inner : (y : Float) → under g outer y ≡ true → under g inner y ≡ true
  under_inner y =
      lt_le_trans y (div binary32 outer.mins.y g.scale.y) (div binary32 inner.mins.y g.scale.y)
      (scaling_keeps_order outer.mins.y inner.mins.y g.scale.y (grind (arith, nat_tests)) within.low_y)

  cell_sublist : (flags : List ℕ) (j i : ℕ) → Sublistᴰ (box_cell g flags inner j i) (box_cell g flags outer j i)
  cell_sublist flags j i =
      sublist_unless _ _
      (or_implies (all_corners g i j (over g outer)) (all_corners g i j (under g outer))
      (all_corners g i j (over g inner)) (all_corners g i j (under g inner))
      (all_corners_imply g i j (over g outer) (over g inner) over_inner)
      (all_corners_imply g i j (under g outer) (under g inner) under_inner))
      (Sublistᴰ.refl (cell_list g flags (box_corners_at g i j) i j))

  misses_inner : misses g outer ≡ true → misses g inner ≡ true
  misses_inner h =
      let before-x = le_le_trans (neg half) (unscaled_x g inner.maxs) (unscaled_x g outer.maxs) high_x in
      let before-z = le_le_trans (neg half) (unscaled_z g inner.maxs) (unscaled_z g outer.maxs) high_z in
      let past-x = lt_le_trans half (unscaled_x g outer.mins) (unscaled_x g inner.mins) low_x in
      let past-z = lt_le_trans half (unscaled_z g outer.mins) (unscaled_z g inner.mins) low_z in
      grind arith

  rows_sublist :
      (flags : List ℕ) (j : ℕ)
      → Sublistᴰ (rows_between g flags inner (first_row g inner) (last_row g inner + 1) j)
      (rows_between g flags outer (first_row g outer) (last_row g outer + 1) j)
  rows_sublist flags j =
      let keeps_low = (cells_keep_order _ _ g.rows some_rows few_rows low_z).1 in
      let keeps_high = (cells_keep_order _ _ g.rows some_rows few_rows high_z).0 in
      sublist_between (box_cell g flags inner j) (box_cell g flags outer j) (cell_sublist flags j) _ _ _ _
      (omega arith) (omega arith)

  box_sublist : (flags : List ℕ) → Sublistᴰ (box_list g flags inner) (box_list g flags outer)
  box_sublist flags =
      let keeps_low = (cells_keep_order _ _ g.columns some_columns few_columns low_x).1 in
      let keeps_high = (cells_keep_order _ _ g.columns some_columns few_columns high_x).0 in
      sublist_unless (misses g inner) (misses g outer) misses_inner
      (sublist_between _ _ (rows_sublist flags) _ _ _ _ (omega arith) (omega arith))

pub wider_box :
    (g : Grid) → 0 < g.rows → g.rows < 2 ^ 24 → 0 < g.columns → g.columns < 2 ^ 24 → scale_refusal g.scale ≡ None
    → WiderBoxLosesNothing g
wider_box g some_rows few_rows some_columns few_columns ranged flags inner outer within =
    ∣ box_sublist g some_rows few_rows some_columns few_columns ranged inner outer within flags ∣₁
