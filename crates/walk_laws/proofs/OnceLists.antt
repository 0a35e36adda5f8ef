-- Lists that hold just the elements of one kind, each id once: one list after another, and the lists of `from_on`.
-- Assumes nothing.
use Rattle.std.proofs.Common.{◌≡◌, ℕ, zero, suc, ◌+◌, ◌<◌, ◌≤◌, ◌⊎◌, List, [], ◌++◌, map, sym, ap, ◌∙◌, subst, inl, inr, ⊎_elim, arith}
use mathlib.Core.HLevel.{⊥_prop}
use mathlib.Core.List.{map-append, Perm, perm_ext_iff_of_Nodup}
use mathlib.Core.List.Memᴰ
use mathlib.Core.List.{Mem, mem-append_left, mem-append_right, not-mem-nil, exists_of_mem-map}
use mathlib.Core.List.Pairwise
use mathlib.Core.List.{Pairwise, Pairwise-append, Pairwise-of_forall}
use mathlib.Core.List.{Nodup, Nodup-append}
use mathlib.Core.Logic.{∥∥₁_elim, ∥∥₁_map, ∥∥₁_prop}
use native.Mathlib.Bridge.{le_prop}
use Rattle.search.specs.BoxLists.{from_on}
use Rattle.std.proofs.lemmas.Bool.{cases_lt}

-- of one of the kinds from the a-th on, n of them
abbrev pub AmongKinds : {X : Type 0} → (ℕ → X → Type 0) → ℕ → ℕ → X → Type 0
AmongKinds S a n t = (k : ℕ) × (a ≤ k) × (k < a + n) × S k t

module _ {X : Type 0} (id : X → ℕ) where
  -- xs holds every element of the kind S, no other, and each id once
  pub record Holds (S : X → Type 0) (xs : List X) : Type 0 where
    pub every : (t : X) → S t → Mem t xs
    pub only : (t : X) → Mem t xs → ∥ S t ∥₁
    pub once : Nodup (map id xs)

  -- a kind said in another way
  pub holds_same :
      {S R : X → Type 0} {xs : List X} → ((t : X) → S t → R t) → ((t : X) → R t → S t) → Holds S xs → Holds R xs
  holds_same to from h =
      record {
        every = λ t r. h.every t (from t r);
        only = λ t m. ∥∥₁_map (h.only t m) (to t);
        once = h.once;
      }

  pub holds_none : {S : X → Type 0} → ((t : X) → S t → ⊥) → Holds S []
  holds_none none = record { every = λ t s. absurd (none t s); only = λ t m. absurd (not-mem-nil m); once = Pairwise.nil }

  -- two kinds that share no id
  pub holds_append :
      {S R : X → Type 0} {xs ys : List X} → ((s t : X) → S s → R t → id s ≡ id t → ⊥)
      → Holds S xs → Holds R ys → Holds (λ t. S t ⊎ R t) (xs ++ ys)
  holds_append {S} {R} {xs} {ys} differ h k =
      record {
        every = λ t. ⊎_elim (λ s. mem-append_left ys (h.every t s)) (λ r. mem-append_right xs (k.every t r));
        only = λ t m. ∥∥₁_elim m ∥∥₁_prop (λ d. ⊎_elim
            (λ p. ∥∥₁_map (h.only t ∣ p ∣₁) inl) (λ p. ∥∥₁_map (k.only t ∣ p ∣₁) inr) (Memᴰ.append_cases xs d));
        once = rw map-append (Nodup-append.1 (
          h.once,
          k.once,
          λ n p q.
              ∥∥₁_elim (exists_of_mem-map p) ⊥_prop (λ a. ∥∥₁_elim (exists_of_mem-map q) ⊥_prop (λ b.
              ∥∥₁_elim (h.only a.0 a.1) ⊥_prop (λ s. ∥∥₁_elim (k.only b.0 b.1) ⊥_prop (λ r.
              differ a.0 b.0 s r (a.2 ∙ sym b.2))))),
        ));
      }

  -- kinds with numbers, no id being of two
  module _
      {S : ℕ → X → Type 0} {f : ℕ → List X} (differ : (k l : ℕ) (s t : X) → S k s → S l t → id s ≡ id t → k ≡ l) where
    pub holds_from_on :
        (a n : ℕ) → ((k : ℕ) → a ≤ k → k < a + n → Holds (S k) (f k)) → Holds (AmongKinds S a n) (from_on f a n)
    holds_from_on a zero each = holds_none (λ t (k, l, m, s). omega arith)
    holds_from_on a (suc n) each =
        holds_same
        (λ t. ⊎_elim (λ s. (a, omega arith, omega arith, s)) (λ (k, l, m, s). (k, omega arith, omega arith, s)))
        (λ t (k, l, m, s). ⊎_elim
        (λ (p : a < k). inr (k, omega arith, omega arith, s))
        (λ (p : k ≤ a). let e : k ≡ a = omega arith in inl (subst (λ i. S i t) e s)) (cases_lt a k))
        (holds_append (λ s t x (k, l, m, y) e. omega (arith, differ a k s t x y e))
        (each a (omega arith) (omega arith)) (holds_from_on (a + 1) n (λ k l m. each k (omega arith) (omega arith))))

    -- where a kind's number is the rank of its elements, none comes after one of a higher rank
    pub ranks_rise :
        (rank : X → ℕ) → ((k : ℕ) (t : X) → S k t → rank t ≡ k)
        → (a n : ℕ) → ((k : ℕ) → a ≤ k → k < a + n → Holds (S k) (f k)) → Pairwise (λ s t. rank s ≤ rank t) (from_on f a n)
    ranks_rise rank is a zero each = Pairwise.nil
    ranks_rise rank is a (suc n) each =
        let first = each a (omega arith) (omega arith) in
        let later : (k : ℕ) → a + 1 ≤ k → k < a + 1 + n → Holds (S k) (f k) = λ k l m. each k (omega arith) (omega arith) in
        (Pairwise-append (λ s t. le_prop)).1 (
          Pairwise.imp_of_mem (λ s t p q _. ∥∥₁_elim (first.only s p) le_prop
              (λ x. ∥∥₁_elim (first.only t q) le_prop (λ y. omega (arith, is a s x, is a t y))))
              (Pairwise-of_forall (λ s t. tt {0})),
          ranks_rise rank is (a + 1) n later,
          λ s p t q. ∥∥₁_elim (first.only s p) le_prop
              (λ x. ∥∥₁_elim ((holds_from_on (a + 1) n later).only t q) le_prop (λ (k, l, m, y). omega (arith, is a s x, is k t y))),
        )

  holds_nodup : {S : X → Type 0} {xs : List X} → Holds S xs → Nodup xs
  holds_nodup h = Pairwise.of_map id (λ s t differ e. differ (ap id e)) h.once

  -- two lists of one kind differ in their order only
  pub holds_perm : {S : X → Type 0} {xs ys : List X} → Holds S xs → Holds S ys → Perm xs ys
  holds_perm h k =
      (perm_ext_iff_of_Nodup (holds_nodup h) (holds_nodup k)).1
      (λ t. (λ m. ∥∥₁_elim (h.only t m) ∥∥₁_prop (k.every t), λ m. ∥∥₁_elim (k.only t m) ∥∥₁_prop (h.every t)))
