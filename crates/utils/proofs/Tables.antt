-- Where the entries of a table lie, and that their places tell them.
-- Assumes nothing.
use Rattle.std.proofs.Common.{◌≡◌, ℕ, ◌+◌, ◌*◌, ◌<◌, arith}
use Rattle.std.proofs.lemmas.Nat.{mul-add-lt, div-mul-add, mod-mul-add}
use Rattle.utils.specs.Tables.{place}

-- an entry's place is below the length
pub place_lt : (rows columns i j : ℕ) → i < rows → j < columns → place rows i j < rows * columns
place_lt rows columns i j p q = omega (arith, mul-add-lt j rows i columns q p)

-- a place tells its row and its column
pub place_tells : (r i j i' j' : ℕ) → i < r → i' < r → place r i j ≡ place r i' j' → (i ≡ i') × (j ≡ j')
place_tells r i j i' j' p p' e =
    let same : j * r + i ≡ j' * r + i' = omega arith in
    let row = mod-mul-add j r i p in
    let row' = mod-mul-add j' r i' p' in
    let column = div-mul-add j r i p in
    let column' = div-mul-add j' r i' p' in
    (cc, cc)
