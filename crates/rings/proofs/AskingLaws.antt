-- Asking a walk that goes ring by ring: the answer is the first of what is to come, and leaves the rest to come.
-- Assumes nothing.
use Rattle.std.proofs.Common.{◌≡◌, ℕ, zero, suc, ◌+◌, ◌-◌, ◌≤◌, max, List, [], ◌∷◌, ◌++◌, None, sym, refl, ◌∙◌, inl, inr, arith}
use Rattle.rings.specs.Asking.{asked, to_come}
use Rattle.search.specs.BoxLists.{from_on}
use Rattle.std.proofs.lemmas.Bool.{cases_lt}
use Rattle.std.specs.Option.{option_to_list}
use Rattle.walks.specs.Walks.{Gives}

module _ {X : Type 0} (ring : ℕ → List X) where
  -- the next ring is what comes first of the rings to come, where there is one
  enters : (k m n : ℕ) → m - k ≡ suc n → to_come ring k [] m ≡ to_come ring (k + 1) (ring (k + 1)) m
  enters k m n h =
      let l : m - (k + 1) ≡ n = omega arith in
      rw (h, l)

  -- ---- n more rings may be entered

  gives_of : (last n k : ℕ) (xs : List X) → last - k ≡ n
      → Gives (to_come ring k xs last) (asked ring n k xs).0 (to_come ring (asked ring n k xs).1 (asked ring n k xs).2 last)
  gives_of last n k (x ∷ xs) h = (refl, refl)
  gives_of last zero k [] h = rw h (refl, refl)
  gives_of last (suc n) k [] h = rw (enters k last n h) (gives_of last n (k + 1) (ring (k + 1)) (omega arith))

  rest_of : (m n k : ℕ) (xs : List X) → n ≤ m - k
      → to_come ring k xs m ≡ option_to_list (asked ring n k xs).0 ++ to_come ring (asked ring n k xs).1 (asked ring n k xs).2 m
  rest_of m n k (x ∷ xs) h = refl
  rest_of m zero k [] h = refl
  rest_of m (suc n) k [] h =
      enters k m (m - (k + 1)) (omega arith) ∙ rest_of m n (k + 1) (ring (k + 1)) (omega arith)

  -- what is left of the ring entered last is given before any other
  nothing_left : (n k : ℕ) (xs : List X) → (asked ring n k xs).0 ≡ None → xs ≡ []
  nothing_left n k [] h = refl
  nothing_left n k (x ∷ xs) h = let z : ◌≡◌ {A = ℕ} 0 1 = cc in absurd (omega arith)

  -- an empty ring may be entered, whatever the last one is
  skips : (k m : ℕ) → ring (k + 1) ≡ [] → to_come ring (k + 1) (ring (k + 1)) m ≡ to_come ring k [] m
  skips k m e =
      elim (cases_lt k m) [
        | inl some ↦ sym (enters k m (m - (k + 1)) (omega arith))
        | inr none ↦
            let here : m - k ≡ 0 = omega arith in
            let next : m - (k + 1) ≡ 0 = omega arith in
            rw (here, next, e)
      ]

  none_of : (m n k : ℕ) (xs : List X) → (asked ring n k xs).0 ≡ None
      → to_come ring (asked ring n k xs).1 (asked ring n k xs).2 m ≡ to_come ring k xs m
  none_of m n k (x ∷ xs) h = let z : ◌≡◌ {A = ℕ} 0 1 = cc in absurd (omega arith)
  none_of m zero k [] h = refl
  none_of m (suc n) k [] h =
      none_of m n (k + 1) (ring (k + 1)) h ∙ skips k m (nothing_left n (k + 1) (ring (k + 1)) h)

  within_of : (n k : ℕ) (xs : List X) → (k ≤ (asked ring n k xs).1) × ((asked ring n k xs).1 ≤ k + n)
  within_of n k (x ∷ xs) = (omega arith, omega arith)
  within_of zero k [] = (omega arith, omega arith)
  within_of (suc n) k [] =
      let w = within_of n (k + 1) (ring (k + 1)) in
      (omega arith, omega arith)

  -- ---- the rings up to the last one may be entered

  module _ (last k : ℕ) (xs : List X) where
    -- the answer is the first of what is to come, and what it leaves is the rest
    pub asked_gives :
        Gives (to_come ring k xs last) (asked ring (last - k) k xs).0
        (to_come ring (asked ring (last - k) k xs).1 (asked ring (last - k) k xs).2 last)
    asked_gives = gives_of last (last - k) k xs refl

    -- so it is of what is to come up to a farther ring
    pub asked_begins :
        (m : ℕ) → last ≤ m
        → to_come ring k xs m
        ≡ option_to_list (asked ring (last - k) k xs).0 ++ to_come ring (asked ring (last - k) k xs).1 (asked ring (last - k) k xs).2 m
    asked_begins m h = rest_of m (last - k) k xs (omega arith)

    -- where nothing is given, the same is to come as before, up to any ring
    pub none_leaves_all :
        (m : ℕ) → (asked ring (last - k) k xs).0 ≡ None
        → to_come ring (asked ring (last - k) k xs).1 (asked ring (last - k) k xs).2 m ≡ to_come ring k xs m
    none_leaves_all m = none_of m (last - k) k xs

    -- the ring entered last is no nearer than before, and no farther than that or the last one
    pub entered_within : (k ≤ (asked ring (last - k) k xs).1) × ((asked ring (last - k) k xs).1 ≤ max k last)
    entered_within = let w = within_of (last - k) k xs in (w.0, omega arith)

  -- from ring 0 on all rings are to come
  pub all_to_come : (last : ℕ) → to_come ring 0 (ring 0) last ≡ from_on ring 0 (last + 1 - 0)
  all_to_come last = let more : last + 1 - 0 ≡ suc (last - 0) = omega arith in rw more refl
