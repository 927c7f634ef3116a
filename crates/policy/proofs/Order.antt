-- Rules that differ, the order of two rules in a list, lists that occur in order in others. The idea throughout: a list with a
-- rule in it is `u ++ (r ∷ v)`, and laws on `++` do the rest. Assumes nothing.
use Prim.Native.Nat.{ℕ, ◌≤◌, zero-le}
use native.Mathlib.Omega.{arith}
use mathlib.Core.Path.{◌≡◌, refl, sym, ◌∙◌, ap}
use mathlib.Core.Bool.{true, not}
use mathlib.Core.Logic.{◌⊎◌, inl, inr, ⊎_elim, ⊎_map, ◌≢◌}
use mathlib.Core.List.{List, [], ◌∷◌, ◌++◌}
use mathlib.Core.List.Memᴰ
use mathlib.Core.List.Sublistᴰ
use mathlib.Core.List.{Sublistᴰ}
use borrow.Author.Tests.{eqb-true, eqb-false}
use lib.Dec.{eqb}
use lib.ListN.{length}
use Rattle.policy.specs.Lists.{mem, before, after, occurs, differ}
use Rattle.policy.specs.Properties.{In, Distinct, Within, Precedes}
use Rattle.policy.proofs.Tests.{by_test, never, and_both, both_and, not_true, false_not, not_first, not_second}
use Rattle.policy.proofs.Lists.{not_mem, not_in, length_around, around_cases, before_after, before_at, after_at}

-- Rules that differ.
pub differ_distinct : (l : List ℕ) → differ l ≡ true → Distinct l
unfolding differ
differ_distinct [] e = tt
differ_distinct (x ∷ l) e =
    let both = and_both (not (mem x l)) (differ l) e in
    (not_mem x l (not_true both.0), differ_distinct l both.1)

pub distinct_differ : (l : List ℕ) → Distinct l → differ l ≡ true
unfolding differ
distinct_differ [] d = refl
distinct_differ (x ∷ l) d = both_and (false_not (not_in x l d.0)) (distinct_differ l d.1)

pub distinct_left : (u v : List ℕ) → Distinct (u ++ v) → Distinct u
distinct_left [] v d = tt
distinct_left (x ∷ u) v d = (λ h. d.0 (Memᴰ.append_left v h), distinct_left u v d.1)

pub distinct_right : (u v : List ℕ) → Distinct (u ++ v) → Distinct v
distinct_right [] v d = d
distinct_right (x ∷ u) v d = distinct_right u v d.1

pub distinct_apart : (u v : List ℕ) → Distinct (u ++ v) → (r : ℕ) → In r u → ¬ In r v
distinct_apart [] v d r h k = Memᴰ.not-nil h
distinct_apart (x ∷ u) v d r h k =
    ⊎_elim (λ e. d.0 (Memᴰ.append_right u (Memᴰ.cast (sym e) k))) (λ t. distinct_apart u v d.1 r t k) (Memᴰ.cases_cons h)

pub apart_distinct : (u v : List ℕ) → Distinct u → Distinct v → ((r : ℕ) → In r u → ¬ In r v) → Distinct (u ++ v)
apart_distinct [] v d e apart = e
apart_distinct (x ∷ u) v d e apart = (
  λ h. ⊎_elim (λ t. d.0 t) (λ t. apart x (Memᴰ.head refl) t) (Memᴰ.append_cases u h),
  apart_distinct u v d.1 e (λ r t k. apart r (Memᴰ.tail t) k),
)

-- a rule between two parts is in neither
pub not_earlier : (x : ℕ) (u v : List ℕ) → Distinct (u ++ (x ∷ v)) → ¬ In x u
not_earlier x u v d h = distinct_apart u (x ∷ v) d x h (Memᴰ.head refl)

pub not_later : (x : ℕ) (u v : List ℕ) → Distinct (u ++ (x ∷ v)) → ¬ In x v
not_later x u v d = (distinct_right u (x ∷ v) d).0

pub distinct_around : (x : ℕ) (u v : List ℕ) → Distinct (u ++ (x ∷ v)) → ¬ In x (u ++ v) × Distinct (u ++ v)
distinct_around x u v d = (
  λ h. ⊎_elim (λ t. not_earlier x u v d t) (λ t. not_later x u v d t) (Memᴰ.append_cases u h),
  apart_distinct u v (distinct_left u (x ∷ v) d) (distinct_right u (x ∷ v) d).1
      (λ r t k. distinct_apart u (x ∷ v) d r t (Memᴰ.tail k)),
)

pub around_distinct : (x : ℕ) (u v : List ℕ) → ¬ In x (u ++ v) → Distinct (u ++ v) → Distinct (u ++ (x ∷ v))
around_distinct x u v n d =
    apart_distinct u (x ∷ v) (distinct_left u v d) ((λ h. n (Memᴰ.append_right u h)), distinct_right u v d)
    (λ r t k.
    ⊎_elim (λ e. n (Memᴰ.append_left v (Memᴰ.cast (sym e) t))) (λ h. distinct_apart u v d r t h) (Memᴰ.cases_cons k))

-- rules that differ and are all in another list are not more than that list has
pub within_length : (l m : List ℕ) → Distinct l → Within l m → length l ≤ length m
within_length [] m d w = zero-le
within_length (x ∷ l) m d w =
    let u = before x m in
    let v = after x m in
    let at : m ≡ u ++ (x ∷ v) = before_after x m (w x (Memᴰ.head refl)) in
    let rest : Within l (u ++ v) =
    λ r h. not_first (λ e. d.0 (Memᴰ.cast (sym e) h)) (around_cases x r u v (rw at at (w r (Memᴰ.tail h)))) in
    omega (arith, within_length l (u ++ v) d.1 rest, ap length at ∙ length_around x u v)

-- The order of two rules.
pub precedes_in_left : (a b : ℕ) (l : List ℕ) → Precedes a b l → In a l
precedes_in_left a b [] p = absurd p
precedes_in_left a b (x ∷ l) p = ⊎_elim (λ h. Memᴰ.head (sym h.0)) (λ t. Memᴰ.tail (precedes_in_left a b l t)) p

pub precedes_in_right : (a b : ℕ) (l : List ℕ) → Precedes a b l → In b l
precedes_in_right a b [] p = absurd p
precedes_in_right a b (x ∷ l) p = ⊎_elim (λ h. Memᴰ.tail h.1) (λ t. Memᴰ.tail (precedes_in_right a b l t)) p

pub precedes_left : (a b : ℕ) (u v : List ℕ) → Precedes a b u → Precedes a b (u ++ v)
precedes_left a b [] v p = absurd p
precedes_left a b (x ∷ u) v p = ⊎_elim (λ h. inl (h.0, Memᴰ.append_left v h.1)) (λ t. inr (precedes_left a b u v t)) p

pub precedes_right : (a b : ℕ) (u v : List ℕ) → Precedes a b v → Precedes a b (u ++ v)
precedes_right a b [] v p = p
precedes_right a b (x ∷ u) v p = inr (precedes_right a b u v p)

pub precedes_across : (a b : ℕ) (u v : List ℕ) → In a u → In b v → Precedes a b (u ++ v)
precedes_across a b [] v h k = absurd (Memᴰ.not-nil h)
precedes_across a b (x ∷ u) v h k =
    ⊎_elim (λ e. inl (sym e, Memᴰ.append_right u k)) (λ t. inr (precedes_across a b u v t k)) (Memᴰ.cases_cons h)

pub precedes_cases : (a b : ℕ) (u v : List ℕ) → Precedes a b (u ++ v) → Precedes a b u ⊎ ((In a u × In b v) ⊎ Precedes a b v)
precedes_cases a b [] v p = inr (inr p)
precedes_cases a b (x ∷ u) v p =
    ⊎_elim
    (λ h. ⊎_elim (λ t. inl (inl (h.0, t))) (λ t. inr (inl (Memᴰ.head (sym h.0), t))) (Memᴰ.append_cases u h.1))
    (λ t.
    ⊎_elim (λ k. inl (inr k)) (⊎_elim (λ k. inr (inl (Memᴰ.tail k.0, k.1))) (λ k. inr (inr k)))
    (precedes_cases a b u v t))
    p

-- it is a strict order, and of two rules one comes first
pub precedes_asym : (a b : ℕ) (l : List ℕ) → Distinct l → Precedes a b l → Precedes b a l → ⊥
precedes_asym a b [] d p q = p
precedes_asym a b (x ∷ l) d p q =
    ⊎_elim
    (λ h. ⊎_elim (λ k. d.0 (Memᴰ.cast h.0 k.1)) (λ k. d.0 (Memᴰ.cast h.0 (precedes_in_right b a l k))) q)
    (λ h. ⊎_elim (λ k. d.0 (Memᴰ.cast k.0 (precedes_in_right a b l h))) (λ k. precedes_asym a b l d.1 h k) q)
    p

pub precedes_irreflexive : (a : ℕ) (l : List ℕ) → Distinct l → Precedes a a l → ⊥
precedes_irreflexive a l d p = precedes_asym a a l d p p

pub precedes_trans : (a b c : ℕ) (l : List ℕ) → Distinct l → Precedes a b l → Precedes b c l → Precedes a c l
precedes_trans a b c [] d p q = p
precedes_trans a b c (x ∷ l) d p q =
    ⊎_elim
    (λ h. inl (h.0, ⊎_elim (λ k. k.1) (λ k. precedes_in_right b c l k) q))
    (λ h. inr (precedes_trans a b c l d.1 h (not_first (λ k. d.0 (Memᴰ.cast k.0 (precedes_in_right a b l h))) q)))
    p

pub precedes_total : (a b : ℕ) (l : List ℕ) → In a l → In b l → a ≢ b → Precedes a b l ⊎ Precedes b a l
precedes_total a b [] h k n = absurd (Memᴰ.not-nil h)
precedes_total a b (x ∷ l) h k n =
    ⊎_elim
    (λ e. inl (inl (sym e, not_first (λ f. n (e ∙ sym f)) (Memᴰ.cases_cons k))))
    (λ t. ⊎_elim (λ f. inr (inl (sym f, t))) (λ s. ⊎_map inr inr (precedes_total a b l t s n)) (Memᴰ.cases_cons k))
    (Memᴰ.cases_cons h)

-- a third rule put in or taken out leaves the order of two others
pub precedes_around : (a b x : ℕ) (u v : List ℕ) → Precedes a b (u ++ v) → Precedes a b (u ++ (x ∷ v))
precedes_around a b x u v p =
    ⊎_elim (λ h. precedes_left a b u (x ∷ v) h)
    (⊎_elim (λ h. precedes_across a b u (x ∷ v) h.0 (Memᴰ.tail h.1)) (λ h. precedes_right a b u (x ∷ v) (inr h)))
    (precedes_cases a b u v p)

pub around_precedes : (a b x : ℕ) (u v : List ℕ) → a ≢ x → b ≢ x → Precedes a b (u ++ (x ∷ v)) → Precedes a b (u ++ v)
around_precedes a b x u v na nb p =
    ⊎_elim (λ h. precedes_left a b u v h)
    (
    ⊎_elim
    (λ h. precedes_across a b u v h.0 (not_first nb (Memᴰ.cases_cons h.1)))
    (λ h. precedes_right a b u v (not_first (λ e. na (sym e.0)) h))
    )
    (precedes_cases a b u (x ∷ v) p)

-- The order of two rules is what stands before a rule, and after it.
pub before_precedes : (a b : ℕ) (l : List ℕ) → In b l → In a (before b l) → Precedes a b l
before_precedes a b l h k =
    rw (before_after b l h) (precedes_across a b (before b l) (b ∷ after b l) k (Memᴰ.head refl))

pub precedes_before : (a b : ℕ) (l : List ℕ) → Distinct l → Precedes a b l → In a (before b l)
unfolding before
precedes_before a b [] d p = absurd p
precedes_before a b (x ∷ l) d p =
    by_test (eqb x b)
    (λ t. let e : x ≡ b = eqb-true x b t in
    absurd (⊎_elim (λ h. d.0 (Memᴰ.cast e h.1)) (λ k. d.0 (Memᴰ.cast e (precedes_in_right a b l k))) p))
    (λ f. rw f (⊎_elim (λ h. Memᴰ.head (sym h.0)) (λ k. Memᴰ.tail (precedes_before a b l d.1 k)) p))

pub after_precedes : (a b : ℕ) (l : List ℕ) → In b (after a l) → Precedes a b l
unfolding after
after_precedes a b [] h = absurd (Memᴰ.not-nil h)
after_precedes a b (x ∷ l) h =
    by_test (eqb x a) (λ t. inl (eqb-true x a t, rw t at h)) (λ f. inr (after_precedes a b l (rw f at h)))

pub precedes_after : (a b : ℕ) (l : List ℕ) → Precedes a b l → In b (after a l)
unfolding after
precedes_after a b [] p = absurd p
precedes_after a b (x ∷ l) p =
    by_test (eqb x a)
    (λ t. rw t (⊎_elim (λ h. h.1) (λ k. precedes_in_right a b l k) p))
    (λ f. rw f (precedes_after a b l (not_first (λ h. eqb-false x a f h.0) p)))

pub precedes_to : (r x : ℕ) (u v : List ℕ) → Distinct (u ++ (r ∷ v)) → Precedes x r (u ++ (r ∷ v)) → In x u
precedes_to r x u v d p = rw (before_at r u v (not_earlier r u v d)) at (precedes_before x r (u ++ (r ∷ v)) d p)

pub precedes_from : (r x : ℕ) (u v : List ℕ) → Distinct (u ++ (r ∷ v)) → Precedes r x (u ++ (r ∷ v)) → In x v
precedes_from r x u v d p = rw (after_at r u v (not_earlier r u v d)) at (precedes_after r x (u ++ (r ∷ v)) p)

-- Lists that occur in order in others.
pub sublist_in : {k l : List ℕ} → Sublistᴰ k l → (r : ℕ) → In r k → In r l
sublist_in Sublistᴰ.slnil r h = h
sublist_in (Sublistᴰ.cons s) r h = Memᴰ.tail (sublist_in s r h)
sublist_in (Sublistᴰ.cons-cons e s) r h =
    ⊎_elim (λ f. Memᴰ.head (f ∙ e)) (λ t. Memᴰ.tail (sublist_in s r t)) (Memᴰ.cases_cons h)

pub sublist_distinct : {k l : List ℕ} → Sublistᴰ k l → Distinct l → Distinct k
sublist_distinct Sublistᴰ.slnil d = d
sublist_distinct (Sublistᴰ.cons s) d = sublist_distinct s d.1
sublist_distinct (Sublistᴰ.cons-cons e s) d = ((λ h. d.0 (Memᴰ.cast (sym e) (sublist_in s _ h))), sublist_distinct s d.1)

pub sublist_precedes : {k l : List ℕ} (a b : ℕ) → Sublistᴰ k l → Precedes a b k → Precedes a b l
sublist_precedes a b Sublistᴰ.slnil p = p
sublist_precedes a b (Sublistᴰ.cons s) p = inr (sublist_precedes a b s p)
sublist_precedes a b (Sublistᴰ.cons-cons e s) p =
    ⊎_elim (λ h. inl (sym e ∙ h.0, sublist_in s b h.1)) (λ t. inr (sublist_precedes a b s t)) p

pub sublist_length : {k l : List ℕ} → Sublistᴰ k l → length k ≤ length l
sublist_length Sublistᴰ.slnil = omega arith
sublist_length (Sublistᴰ.cons s) = omega (arith, sublist_length s)
sublist_length (Sublistᴰ.cons-cons e s) = omega (arith, sublist_length s)

pub sublist_around : (x : ℕ) (u v : List ℕ) → Sublistᴰ (u ++ v) (u ++ (x ∷ v))
sublist_around x u v = Sublistᴰ.append (Sublistᴰ.refl u) (Sublistᴰ.cons (Sublistᴰ.refl v))

pub sublist_tails : {x y : ℕ} {k l : List ℕ} → Sublistᴰ (x ∷ k) (y ∷ l) → Sublistᴰ k l
sublist_tails {k} s =
    ⊎_elim (λ h. Sublistᴰ.trans (Sublistᴰ.cons (Sublistᴰ.refl k)) h) (λ h. h.1) (Sublistᴰ.cases_cons-cons s)

pub sublist_past : {x y : ℕ} {k l : List ℕ} → x ≢ y → Sublistᴰ (x ∷ k) (y ∷ l) → Sublistᴰ (x ∷ k) l
sublist_past n s = not_second (λ h. n h.0) (Sublistᴰ.cases_cons-cons s)

pub sublist_after : (r : ℕ) (k l : List ℕ) → In r l → Sublistᴰ k (after r l) → Sublistᴰ (r ∷ k) l
unfolding after
sublist_after r k [] h s = absurd (Memᴰ.not-nil h)
sublist_after r k (x ∷ l) h s =
    by_test (eqb x r)
    (λ t. Sublistᴰ.cons-cons (sym (eqb-true x r t)) (rw t at s))
    (λ f. let there : In r l = not_first (λ e. eqb-false x r f (sym e)) (Memᴰ.cases_cons h) in
    Sublistᴰ.cons (sublist_after r k l there (rw f at s)))

-- what occurs in two lists one after the other is a part that occurs in the first and then one that occurs in the second
pub sublist_parts : (k u v : List ℕ) → Sublistᴰ k (u ++ v)
    → (front : List ℕ) × (rest : List ℕ) × (k ≡ front ++ rest) × Sublistᴰ front u × Sublistᴰ rest v
sublist_parts k [] v s = ([], k, refl, Sublistᴰ.slnil, s)
sublist_parts k (x ∷ u) v s =
    ⊎_elim
    (λ h. let parts = sublist_parts k u v h in (parts.0, parts.1, parts.2, Sublistᴰ.cons parts.3, parts.4))
    (λ h. let parts = sublist_parts h.0 u v h.2 in
    (x ∷ parts.0, parts.1, h.1 ∙ ap (λ (l : List ℕ). x ∷ l) parts.2, Sublistᴰ.cons-cons refl parts.3, parts.4))
    (Sublistᴰ.cases_cons s)

pub occurs_sublist : (k l : List ℕ) → occurs k l ≡ true → Sublistᴰ k l
unfolding occurs
occurs_sublist [] [] e = Sublistᴰ.slnil
occurs_sublist (x ∷ k) [] e = never e refl
occurs_sublist [] (y ∷ l) e = Sublistᴰ.nil-sublist (y ∷ l)
occurs_sublist (x ∷ k) (y ∷ l) e =
    by_test (eqb y x)
    (λ t. Sublistᴰ.cons-cons (sym (eqb-true y x t)) (occurs_sublist k l (rw (t, occurs) at e)))
    (λ f. Sublistᴰ.cons (occurs_sublist (x ∷ k) l (rw (f, occurs) at e)))

pub sublist_occurs : (k l : List ℕ) → Sublistᴰ k l → occurs k l ≡ true
unfolding occurs
sublist_occurs [] [] s = refl
sublist_occurs (x ∷ k) [] s = elim s [ ]
sublist_occurs [] (y ∷ l) s = refl
sublist_occurs (x ∷ k) (y ∷ l) s =
    by_test (eqb y x)
    (λ t. rw (t, occurs) (sublist_occurs k l (sublist_tails s)))
    (λ f. rw (f, occurs) (sublist_occurs (x ∷ k) l (sublist_past (λ e. eqb-false y x f (sym e)) s)))
