-- The part of a side that lies on the grid.
-- Assumes nothing.
use Rattle.std.specs.Prelude.{◌≡◌, ℕ, ◌<◌, ◌≤◌, Bool, ◌&&◌, nat_le, nat_lt}

-- of the steps below a length, those from start up to end are the ones that pass a test
pub record IsSpan (length start end : ℕ) (test : ℕ → Bool) : Type 0 where
  pub ends : end ≤ length
  pub passes : (t : ℕ) → t < length → test t ≡ (nat_le start t && nat_lt t end)
