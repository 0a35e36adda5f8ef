-- The lowest and the highest of a list of heights.
-- Assumes nothing.
use Rattle.std.specs.Prelude.{◌≡◌, ℕ, ◌<◌, Bool, true, false, cond, ◌||◌, ◌⊎◌, List, length, get_or, fold, is_nan, slice_index_or, Float}
use Rattle.std.specs.Float.{nan}
use Rattle.std.specs.Float.Ieee.{lt}

-- of the first so far and one more height: a NaN is passed over, and of equal ones the later is kept
abbrev pub first_of : (Float → Float → Bool) → Float → Float → Float
first_of before best y = cond (before best y || is_nan y) best y

abbrev pub lowest_of : List Float → Float
lowest_of ys = fold (first_of lt) nan ys

abbrev pub highest_of : List Float → Float
highest_of ys = fold (first_of (λ a b. lt b a)) nan ys

-- y stands at place k and is no NaN, no number of the list comes before it, and each number after that place comes after it
pub record FirstAt (before : Float → Float → Bool) (ys : List Float) (y : Float) (k : ℕ) : Type 0 where
  pub within : k < length ys
  pub there : get_or ys k nan ≡ y
  pub number : is_nan y ≡ false
  pub none_before : (m : ℕ) → m < length ys → is_nan (slice_index_or ys m nan) ≡ false → before (slice_index_or ys m nan) y ≡ false
  pub last : (m : ℕ) → k < m → m < length ys → is_nan (slice_index_or ys m nan) ≡ false → before y (slice_index_or ys m nan) ≡ true

-- y is the first number of the list in that order, of equal ones the last; NaN where there is no number
abbrev pub IsFirst : (Float → Float → Bool) → List Float → Float → Type 0
IsFirst before ys y =
    ((y ≡ nan) × ((k : ℕ) → k < length ys → is_nan (slice_index_or ys k nan) ≡ true)) ⊎ ((k : ℕ) × FirstAt before ys y k)

abbrev pub IsLowest : List Float → Float → Type 0
IsLowest ys y = IsFirst lt ys y

abbrev pub IsHighest : List Float → Float → Type 0
IsHighest ys y = IsFirst (λ a b. lt b a) ys y
