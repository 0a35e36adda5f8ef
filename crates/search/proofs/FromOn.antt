-- What rows, columns or rings give in all is what the first of them give, and then what those after them give; those that give nothing
-- may be passed over.
-- Assumes nothing.
use Rattle.std.proofs.Common.{◌≡◌, ℕ, zero, suc, ◌+◌, ◌-◌, ◌<◌, ◌≤◌, List, [], ◌++◌, refl, ◌∙◌, inl, inr, append_assoc, arith}
use Rattle.search.specs.BoxLists.{from_on}
use Rattle.std.proofs.lemmas.Bool.{cases_lt}

module _ {X : Type 0} (f : ℕ → List X) where
  pub from_on_add : (k m n : ℕ) → from_on f k (m + n) ≡ from_on f k m ++ from_on f (k + m) n
  from_on_add k zero n =
      let e : k + 0 ≡ k = omega arith in
      let z : 0 + n ≡ n = omega arith in
      rw (e, z)
  from_on_add k (suc m) n =
      let e : k + suc m ≡ k + 1 + m = omega arith in
      let z : suc m + n ≡ suc (m + n) = omega arith in
      rw (e, z, append_assoc, from_on_add (k + 1) m n)

  -- up to the same end: what comes first from k on, if anything does
  pub from_on_first : (k end : ℕ) → k < end → from_on f k (end - k) ≡ f k ++ from_on f (k + 1) (end - (k + 1))
  from_on_first k end h = let left : end - k ≡ suc (end - (k + 1)) = omega arith in rw left refl

  pub from_on_none : (k end : ℕ) → end ≤ k → from_on f k (end - k) ≡ []
  from_on_none k end h = let left : end - k ≡ 0 = omega arith in rw left refl

  -- d of them that give nothing
  pub from_on_skip :
      (d k end : ℕ) → ((t : ℕ) → k ≤ t → t < k + d → t < end → f t ≡ [])
      → from_on f k (end - k) ≡ from_on f (k + d) (end - (k + d))
  from_on_skip zero k end empty = let same : k + 0 ≡ k = omega arith in rw same refl
  from_on_skip (suc d) k end empty =
      let next : k + suc d ≡ k + 1 + d = omega arith in
      let rest = from_on_skip d (k + 1) end (λ t h l b. empty t (omega arith) (omega arith) b) in
      rw next
      (elim (cases_lt k end) [
        | inl some ↦
            let none : f k ≡ [] = empty k (omega arith) (omega arith) some in
            from_on_first k end some ∙ rw none rest
        | inr past ↦ from_on_none k end past ∙ rw (from_on_none (k + 1 + d) end (omega arith)) refl
      ])
