-- Lists with some elements left out: of a list that may be skipped, and of rows or columns one after the other.
-- Assumes nothing.
use Rattle.std.proofs.Common.{◌≡◌, ℕ, zero, suc, ◌+◌, ◌-◌, ◌≤◌, Bool, true, false, cond, List, [], refl, inl, inr, arith}
use mathlib.Core.List.Sublistᴰ
use mathlib.Core.List.{Sublistᴰ}
use Rattle.std.proofs.lemmas.Bool.{cases_lt, false≢true}
use Rattle.search.specs.BoxLists.{from_on}

module _ {X : Type 0} where
  -- where the longer list is skipped, so is the shorter
  pub sublist_unless :
      (p q : Bool) {xs ys : List X} → (q ≡ true → p ≡ true) → Sublistᴰ xs ys → Sublistᴰ (cond p [] xs) (cond q [] ys)
  sublist_unless true q {ys = ys} h s = Sublistᴰ.nil-sublist (cond q [] ys)
  sublist_unless false true h s = absurd (false≢true (h refl))
  sublist_unless false false h s = s

  -- the longer list begins d places before, and ends where it did
  sublist_earlier :
      (f : ℕ → List X) (l : List X) (d k k' n n' : ℕ) → k' ≡ k + d → n' ≡ n + d
      → Sublistᴰ l (from_on f k' n) → Sublistᴰ l (from_on f k n')
  sublist_earlier f l zero k k' n n' p q s =
      let p' : k' ≡ k = omega arith in
      let q' : n' ≡ n = omega arith in
      rw q' (rw p' at s)
  sublist_earlier f l (suc d) k k' n n' p q s =
      let q' : n' ≡ suc (n + d) = omega arith in
      rw q' (Sublistᴰ.append (Sublistᴰ.nil-sublist (f k)) (sublist_earlier f l d (k + 1) k' n (n + d) (omega arith) refl s))

  module _ (f f' : ℕ → List X) (each : (k : ℕ) → Sublistᴰ (f k) (f' k)) where
    sublist_longer : (k n n' : ℕ) → n ≤ n' → Sublistᴰ (from_on f k n) (from_on f' k n')
    sublist_longer k zero n' h = Sublistᴰ.nil-sublist (from_on f' k n')
    sublist_longer k (suc n) zero h = absurd (omega arith)
    sublist_longer k (suc n) (suc n') h = Sublistᴰ.append (each k) (sublist_longer (k + 1) n n' (omega arith))

    -- each range goes from a place up to another that does not count; the longer begins no later and ends no earlier
    pub sublist_between :
        (first end first' end' : ℕ) → first' ≤ first → end ≤ end'
        → Sublistᴰ (from_on f first (end - first)) (from_on f' first' (end' - first'))
    sublist_between first end first' end' h k =
        elim (cases_lt first end) [
          | inl some ↦
              sublist_earlier f' (from_on f first (end - first)) (first - first') first' first (end' - first) (end' - first')
              (omega arith) (omega arith) (sublist_longer first (end - first) (end' - first) (omega arith))
          | inr none ↦
              let nothing : end - first ≡ 0 = omega arith in
              rw nothing (Sublistᴰ.nil-sublist (from_on f' first' (end' - first')))
        ]
