-- Lists of rule numbers: the tests of specs/Lists.antt against the properties of specs/Properties.antt, and a list around one of
-- its rules. Each law goes by recursion on the list. Assumes nothing.
use Prim.Native.Nat.{ℕ, zero, suc, ◌<◌}
use native.Mathlib.Nat.{not-suc-le-zero, le_of_suc-le-suc}
use native.Mathlib.Omega.{arith}
use mathlib.Core.Path.{◌≡◌, refl, sym, ◌∙◌, ap}
use mathlib.Core.Bool.{Bool, true, false}
use mathlib.Core.Logic.{◌⊎◌, inl, inr, ⊎_elim}
use mathlib.Core.List.{List, [], ◌∷◌, ◌++◌, map, reverse, reverse_aux}
use mathlib.Core.List.Memᴰ
use mathlib.Core.List.{Memᴰ}
use borrow.Author.Tests.{eqb-true, eqb-false, eq-eqb, ne_eqb}
use lib.Dec.{eqb}
use lib.ListN.{length, get_or, length-append}
use Rattle.policy.specs.Lists.{all, mem, contains, before, after, without, same}
use Rattle.policy.specs.Properties.{In, Within}
use Rattle.policy.proofs.Tests.{by_test, never, and_both, both_and, or_either, or_left, or_right, falsely, not_first}
use Rattle.policy.proofs.Tests.{not_second}

-- Membership: the test and the property.
pub mem_in : (r : ℕ) (l : List ℕ) → mem r l ≡ true → In r l
unfolding mem
mem_in r [] e = never e refl
mem_in r (x ∷ l) e =
    ⊎_elim (λ t. Memᴰ.head (sym (eqb-true x r t))) (λ t. Memᴰ.tail (mem_in r l t)) (or_either (eqb x r) (mem r l) e)

pub in_mem : (r : ℕ) (l : List ℕ) → In r l → mem r l ≡ true
unfolding mem
in_mem r [] h = absurd (Memᴰ.not-nil h)
in_mem r (x ∷ l) h =
    ⊎_elim (λ e. or_left (mem r l) (eq-eqb x r (sym e))) (λ t. or_right (eqb x r) (in_mem r l t)) (Memᴰ.cases_cons h)

pub not_mem : (r : ℕ) (l : List ℕ) → mem r l ≡ false → ¬ In r l
not_mem r l e h = never (in_mem r l h) e

pub not_in : (r : ℕ) (l : List ℕ) → ¬ In r l → mem r l ≡ false
not_in r l h = falsely (λ t. h (mem_in r l t))

-- Places, lengths, and a list turned round.
pub in_some {ℓ} : {A : Type ℓ} (x : A) (l : List A) → Memᴰ x l → 0 < length l
in_some x [] h = absurd (Memᴰ.not-nil h)
in_some x (y ∷ l) h = omega arith

pub length_nil {ℓ} : {A : Type ℓ} (l : List A) → length l ≡ 0 → l ≡ []
length_nil [] e = refl
length_nil (x ∷ l) e = absurd (omega arith)

pub place_in_lem {ℓ} : {A : Type ℓ} (d : A) (l : List A) (k : ℕ) → k < length l → Memᴰ (get_or l k d) l
place_in_lem d [] k h = absurd (not-suc-le-zero h)
place_in_lem d (x ∷ l) zero h = Memᴰ.head refl
place_in_lem d (x ∷ l) (suc k) h = Memᴰ.tail (place_in_lem d l k (le_of_suc-le-suc h))

reverse_cases {ℓ} : {A : Type ℓ} (x : A) (u v : List A) → Memᴰ x (reverse_aux u v) → Memᴰ x u ⊎ Memᴰ x v
reverse_cases x [] v h = inr h
reverse_cases x (y ∷ u) v h =
    ⊎_elim (λ k. inl (Memᴰ.tail k)) (λ k. ⊎_elim (λ e. inl (Memᴰ.head e)) (λ t. inr t) (Memᴰ.cases_cons k))
    (reverse_cases x u (y ∷ v) h)

pub reverse_in {ℓ} : {A : Type ℓ} (x : A) (l : List A) → Memᴰ x (reverse l) → Memᴰ x l
reverse_in x l h = not_second Memᴰ.not-nil (reverse_cases x l [] h)

-- Every element passes.
pub all_in {ℓ} : {A : Type ℓ} (test : A → Bool) (l : List A) → all test l ≡ true → (x : A) → Memᴰ x l → test x ≡ true
unfolding all
all_in test [] e x h = absurd (Memᴰ.not-nil h)
all_in test (y ∷ l) e x h =
    let both = and_both (test y) (all test l) e in
    ⊎_elim (λ same. ap test same ∙ both.0) (λ t. all_in test l both.1 x t) (Memᴰ.cases_cons h)

pub in_all {ℓ} : {A : Type ℓ} (test : A → Bool) (l : List A) → ((x : A) → Memᴰ x l → test x ≡ true) → all test l ≡ true
unfolding all
in_all test [] h = refl
in_all test (y ∷ l) h = both_and (h y (Memᴰ.head refl)) (in_all test l (λ x t. h x (Memᴰ.tail t)))

pub all_append {ℓ} : {A : Type ℓ} (test : A → Bool) (u v : List A)
    → all test u ≡ true → all test v ≡ true → all test (u ++ v) ≡ true
all_append test u v e f =
    in_all test (u ++ v) (λ x h. ⊎_elim (all_in test u e x) (all_in test v f x) (Memᴰ.append_cases u h))

pub all_map {ℓ κ} : {A : Type ℓ} {B : Type κ} (test : B → Bool) (f : A → B) (l : List A)
    → ((x : A) → test (f x) ≡ true) → all test (map f l) ≡ true
unfolding all
all_map test f [] h = refl
all_map test f (x ∷ l) h = both_and (h x) (all_map test f l h)

pub contains_within : (l other : List ℕ) → contains l other ≡ true → Within other l
unfolding contains
contains_within l other e r h = mem_in r l (all_in (λ r. mem r l) other e r h)

pub within_contains : (l other : List ℕ) → Within other l → contains l other ≡ true
unfolding contains
within_contains l other h = in_all (λ r. mem r l) other (λ r t. in_mem r l (h r t))

-- The same list.
pub same_eq : (l m : List ℕ) → same l m ≡ true → l ≡ m
unfolding same
same_eq [] [] e = refl
same_eq [] (y ∷ m) e = never e refl
same_eq (x ∷ l) [] e = never e refl
same_eq (x ∷ l) (y ∷ m) e =
    let both = and_both (eqb x y) (same l m) e in
    let heads = eqb-true x y both.0 in
    let tails = same_eq l m both.1 in
    cc

pub same_refl : (l : List ℕ) → same l l ≡ true
unfolding same
same_refl [] = refl
same_refl (x ∷ l) = both_and (eq-eqb x x refl) (same_refl l)

-- A rule between two parts of a list.
pub length_around : (x : ℕ) (u v : List ℕ) → length (u ++ (x ∷ v)) ≡ suc (length (u ++ v))
length_around x u v = omega (arith, length-append u (x ∷ v), length-append u v)

pub in_middle : (x : ℕ) (u v : List ℕ) → In x (u ++ (x ∷ v))
in_middle x u v = Memᴰ.append_right u (Memᴰ.head refl)

pub in_around : (x r : ℕ) (u v : List ℕ) → In r (u ++ v) → In r (u ++ (x ∷ v))
in_around x r u v h =
    ⊎_elim (λ t. Memᴰ.append_left (x ∷ v) t) (λ t. Memᴰ.append_right u (Memᴰ.tail t)) (Memᴰ.append_cases u h)

pub around_cases : (x r : ℕ) (u v : List ℕ) → In r (u ++ (x ∷ v)) → (r ≡ x) ⊎ In r (u ++ v)
around_cases x r u v h =
    ⊎_elim (λ t. inr (Memᴰ.append_left v t))
    (λ t. ⊎_elim (λ e. inl e) (λ k. inr (Memᴰ.append_right u k)) (Memᴰ.cases_cons t))
    (Memᴰ.append_cases u h)

-- What stands before a rule and after it.
pub before_after : (r : ℕ) (l : List ℕ) → In r l → l ≡ before r l ++ (r ∷ after r l)
unfolding before after
before_after r [] h = absurd (Memᴰ.not-nil h)
before_after r (x ∷ l) h =
    by_test (eqb x r)
    (λ t. rw t (ap (λ (y : ℕ). y ∷ l) (eqb-true x r t)))
    (λ f. let there : In r l = not_first (λ e. eqb-false x r f (sym e)) (Memᴰ.cases_cons h) in
    rw f (ap (λ (m : List ℕ). x ∷ m) (before_after r l there)))

pub not_before : (r : ℕ) (l : List ℕ) → ¬ In r (before r l)
unfolding before
not_before r [] h = Memᴰ.not-nil h
not_before r (x ∷ l) h =
    by_test (eqb x r)
    (λ t. Memᴰ.not-nil (rw t at h))
    (λ f. ⊎_elim (λ e. eqb-false x r f (sym e)) (λ t. not_before r l t) (Memᴰ.cases_cons (rw f at h)))

pub before_at : (r : ℕ) (u v : List ℕ) → ¬ In r u → before r (u ++ (r ∷ v)) ≡ u
unfolding before
before_at r [] v h = rw (eq-eqb r r refl)
before_at r (x ∷ u) v h =
    rw (ne_eqb x r (λ e. h (Memᴰ.head (sym e)))) (ap (λ (m : List ℕ). x ∷ m) (before_at r u v (λ t. h (Memᴰ.tail t))))

pub after_at : (r : ℕ) (u v : List ℕ) → ¬ In r u → after r (u ++ (r ∷ v)) ≡ v
unfolding after
after_at r [] v h = rw (eq-eqb r r refl)
after_at r (x ∷ u) v h = rw (ne_eqb x r (λ e. h (Memᴰ.head (sym e)))) (after_at r u v (λ t. h (Memᴰ.tail t)))

pub without_at : (r : ℕ) (u v : List ℕ) → ¬ In r u → without r (u ++ (r ∷ v)) ≡ u ++ v
unfolding without
without_at r u v h = rw (before_at r u v h, after_at r u v h)
