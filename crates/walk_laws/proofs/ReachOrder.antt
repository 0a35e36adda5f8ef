-- A longer reach allows no fewer rings. A cell is no wider than 2 ^ 20, so the largest finite distance, which means unlimited, spans as
-- many cells as are counted, and so does every distance past it.
-- Assumes nothing.
use Rattle.std.proofs.Common.{None, ◌≡◌, ℕ, ◌^◌, ◌<◌, ◌≤◌, true, false, T, pos, refl, subst, arith}
use lib.Ieee.{Float, nan, inf, fin, binary32, mul, div, le, eq, of_bits, of_int}
use lib.Ieee.Fits.{and_l, and_r}
use lib.Ieee.Positive.{positive, between, mul_mono}
use Rattle.math.specs.Constants.{one, min_scale, max_scale}
use Rattle.math.specs.Lines.{unit_width, cell_width}
use Rattle.math.specs.Scales.{in_range, scale_refusal}
use Rattle.quantize.proofs.CellOrder.{count_le, count_positive, width_positive}
use Rattle.quantize.proofs.CellOrder.{scale_positive, held_le, raised_rises, raised_zero}
use Rattle.quantize.proofs.Rounding.{div_le, div_turns_le}
use Rattle.quantize.specs.Quantize.{held}
use Rattle.rings.specs.Reaches.{most_rings, max_finite, spanned, allowed}
use Rattle.rings.specs.declared.reach.Reach.{Reach}
use Rattle.rings.specs.declared.reach.Reach.TheVariants.{Unlimited, Distance}
use Rattle.shape.specs.Grids.{Grid}
use Rattle.std.proofs.lemmas.Bool.{false≢true}
use Rattle.std.proofs.lemmas.Bool.Decides.{nat_tests}
use Rattle.std.specs.Float.{ratio_ceil}
use Rattle.walk_laws.specs.Reaching.{NoLonger}

-- ---- any floats

eq→le : (x y : Float) → eq x y ≡ true → T (le y x)
unfolding le eq
eq→le nan y h = absurd (false≢true h)
eq→le (inf s) nan h = absurd (false≢true h)
eq→le (inf s) (inf t) h = grind arith
eq→le (inf s) (fin t n d) h = absurd (false≢true h)
eq→le (fin s m e) nan h = absurd (false≢true h)
eq→le (fin s m e) (inf t) h = absurd (false≢true h)
eq→le (fin s m e) (fin t n d) h = grind (arith, nat_tests)

pub held_most : (p : ℕ → ℕ → ℕ) (x : Float) (top : ℕ) → held p x top ≤ top
held_most p nan top = omega arith
held_most p (inf true) top = omega arith
held_most p (inf false) top = omega arith
held_most p (fin true m e) top = omega arith
held_most p (fin false m e) top = omega arith

-- ---- one axis

abbrev counted : ℕ → Float
counted n = of_int binary32 (pos n)

-- the narrowest and the widest cell
abbrev narrowest : Float
narrowest = mul binary32 (unit_width (counted (2 ^ 24))) min_scale

abbrev widest : Float
widest = mul binary32 (unit_width (counted 1)) max_scale

-- the largest finite distance spans at least as many of the widest cells as are counted
widest_spanned : held ratio_ceil (div binary32 max_finite widest) most_rings ≡ most_rings
unfolding of_bits of_int div mul
widest_spanned = refl

-- a quotient that is not less spans no fewer
held_rises : (x y : Float) → T (le x y) → held ratio_ceil x most_rings ≤ held ratio_ceil y most_rings
held_rises x y = held_le ratio_ceil raised_zero raised_rises x y most_rings

module _ (n : ℕ) (some : 0 < n) (few : n < 2 ^ 24) (scale : Float) (ranged : T (in_range scale)) where
  no_narrower : T (le narrowest (cell_width n scale))
  unfolding of_bits of_int div
  no_narrower =
      let l : n ≤ 2 ^ 24 = omega arith in
      mul_mono binary32 (unit_width (counted (2 ^ 24))) (unit_width (counted n)) min_scale scale
      tt (width_positive n some few) tt (scale_positive scale ranged)
      (div_turns_le binary32 one (counted n) (counted (2 ^ 24)) tt (count_positive n some l) tt (count_le n (2 ^ 24) l))
      (and_l (le min_scale scale) (le scale max_scale) ranged)

  no_wider : T (le (cell_width n scale) widest)
  unfolding of_bits of_int div
  no_wider =
      mul_mono binary32 (unit_width (counted n)) (unit_width (counted 1)) scale max_scale
      (width_positive n some few) tt (scale_positive scale ranged) tt
      (div_turns_le binary32 one (counted 1) (counted n) tt tt (count_positive n some (omega arith)) (count_le 1 n some))
      (and_r (le min_scale scale) (le scale max_scale) ranged)

  cell_positive : T (positive (cell_width n scale))
  unfolding of_bits of_int div mul
  cell_positive = between narrowest (cell_width n scale) widest tt tt no_narrower no_wider

  spanned_rises : (d e : Float) → T (le d e) → spanned n scale d ≤ spanned n scale e
  spanned_rises d e h =
      held_rises (div binary32 d (cell_width n scale)) (div binary32 e (cell_width n scale))
      (div_le binary32 d e (cell_width n scale) cell_positive h)

  max_spanned : most_rings ≤ spanned n scale max_finite
  unfolding of_bits of_int div mul
  max_spanned =
      subst (λ k. k ≤ spanned n scale max_finite) widest_spanned
      (held_rises (div binary32 max_finite widest) (div binary32 max_finite (cell_width n scale))
      (div_turns_le binary32 max_finite (cell_width n scale) widest tt cell_positive tt no_wider))

  -- as many as are counted, where a distance is no shorter than one that means unlimited
  most_spanned : (d e : Float) → T (le d e) → eq d max_finite ≡ true → most_rings ≤ spanned n scale e
  most_spanned d e h is =
      let below = spanned_rises max_finite d (eq→le d max_finite is) in
      let above = spanned_rises d e h in
      omega (arith, max_spanned)

-- ---- both axes

allowed_most : (g : Grid) (reach : Reach) → allowed g reach ≤ most_rings
allowed_most g Unlimited = omega arith
allowed_most g (Distance d) =
    let x = held_most ratio_ceil (div binary32 d (cell_width g.columns g.scale.x)) most_rings in
    let z = held_most ratio_ceil (div binary32 d (cell_width g.rows g.scale.z)) most_rings in
    grind arith

module _
    (g : Grid) (some_rows : 0 < g.rows) (few_rows : g.rows < 2 ^ 24)
    (some_columns : 0 < g.columns) (few_columns : g.columns < 2 ^ 24)
    (ranged : scale_refusal g.scale ≡ None) where
  pub allowed_rises : (shorter longer : Reach) → NoLonger shorter longer → allowed g shorter ≤ allowed g longer
  allowed_rises (Distance d) (Distance e) h =
      let x_ranged : T (in_range g.scale.x) = grind (arith, nat_tests) in
      let z_ranged : T (in_range g.scale.z) = grind (arith, nat_tests) in
      let x = spanned_rises g.columns some_columns few_columns g.scale.x x_ranged d e h in
      let z = spanned_rises g.rows some_rows few_rows g.scale.z z_ranged d e h in
      let all = most_spanned g.columns some_columns few_columns g.scale.x x_ranged d e h in
      grind (arith, allowed_most g (Distance d))
  allowed_rises (Distance d) Unlimited h = allowed_most g (Distance d)
  allowed_rises Unlimited (Distance e) h = absurd h
  allowed_rises Unlimited Unlimited h = omega arith
