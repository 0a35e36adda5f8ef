-- The lowest and the highest of heights, where -0 is below +0 and a NaN is passed over.
-- Assumes nothing.
use Rattle.std.specs.Prelude.{cond, List, [], ◌∷◌, Some, None, fold, Option, is_nan, Float}
use Rattle.std.specs.Float.{total_cmp}
use Rattle.std.specs.Option.{option_map}
use Rattle.std.specs.Ordering.{is_lt}
use Rattle.takers.specs.declared.band.Band.{Band}
use Rattle.takers.specs.declared.triangle.NumberedTriangle.{NumberedTriangle}

pub record Heights : Type 0 where
  pub lowest : Float
  pub highest : Float

abbrev pub heights_of : Option Band → Option Heights
heights_of b = option_map (λ x. record { lowest = x.lowest; highest = x.highest }) b

-- the one that comes first in the order of all numbers, and the one that comes last
abbrev pub earlier : Float → Float → Float
earlier x y = cond (is_lt (total_cmp y x)) y x

abbrev pub later : Float → Float → Float
later x y = cond (is_lt (total_cmp x y)) y x

-- with one more number
abbrev pub widened : Option Heights → Float → Option Heights
widened None y = Some (record { lowest = y; highest = y })
widened (Some h) y = Some (record { lowest = earlier h.lowest y; highest = later h.highest y })

-- with one more height, which may be a NaN
abbrev pub joined_by : Option Heights → Float → Option Heights
joined_by h y = cond (is_nan y) h (widened h y)

-- the heights of a triangle's corners
abbrev pub corner_heights : NumberedTriangle → List Float
corner_heights t = t.triangle.a.y ∷ t.triangle.b.y ∷ t.triangle.c.y ∷ []

-- with the corners of one more triangle
abbrev pub banded : Option Heights → NumberedTriangle → Option Heights
banded h t = fold joined_by h (corner_heights t)
