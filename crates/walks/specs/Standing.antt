-- The standing triangles of a cell, as a list.
-- Assumes nothing.
use Rattle.std.specs.Prelude.{List, [], ◌∷◌, Some, None, Option}
use Rattle.std.specs.Option.{option_to_list}
use Rattle.takers.specs.declared.triangle.NumberedTriangle.{NumberedTriangle}
use Rattle.walks.specs.declared.standing.Standing.{Standing}

abbrev pub standing_list : Option Standing → List NumberedTriangle
standing_list None = []
standing_list (Some s) = s.first ∷ option_to_list s.second
