-- Lists that follow the order of another, and a rule taken out, moved down or moved up behind a front part: what stood before
-- what still does. A law goes by where the two rules stand: in the front part, behind it, or one on each side. Assumes nothing.
use Prim.Native.Nat.{ℕ}
use mathlib.Core.Path.{◌≡◌, refl, sym, ◌∙◌, ap, subst}
use mathlib.Core.Logic.{inl, inr, ⊎_elim, ◌≢◌}
use mathlib.Core.List.{List, [], ◌∷◌, ◌++◌, append_assoc}
use mathlib.Core.List.Memᴰ
use mathlib.Core.List.Sublistᴰ
use mathlib.Core.List.{Sublistᴰ}
use borrow.Author.Tests.{eqb-true, eqb-false, ne_eqb}
use lib.Dec.{eqb}
use Rattle.policy.specs.Lists.{mem, before, after, without}
use Rattle.policy.specs.Properties.{In, Distinct, Within, Precedes}
use Rattle.policy.proofs.Tests.{by_test, not_first, not_second}
use Rattle.policy.proofs.Lists.{mem_in, not_mem, in_middle, in_around, around_cases, before_after}
use Rattle.policy.proofs.Order.{distinct_left, distinct_right, distinct_apart, apart_distinct, distinct_around}
use Rattle.policy.proofs.Order.{around_distinct, precedes_in_left, precedes_in_right, precedes_left, precedes_right}
use Rattle.policy.proofs.Order.{precedes_across, precedes_cases, precedes_asym, precedes_irreflexive, precedes_total}
use Rattle.policy.proofs.Order.{precedes_around, around_precedes, sublist_in, sublist_around}

-- two rules in the order of the first list are in that order in the second
abbrev pub Follows : List ℕ → List ℕ → Type 0
Follows k l = (a b : ℕ) → Precedes a b k → Precedes a b l

-- two rules of a list that follows another stand in it as they stand in the other
pub follows_back : (a b : ℕ) (k l : List ℕ) → Follows k l → Distinct l → In a k → In b k → Precedes a b l → Precedes a b k
follows_back a b k l f d h g p =
    not_second (λ q. precedes_asym a b l d p (f b a q))
    (precedes_total a b k h g (λ e. precedes_irreflexive b l d (rw e at p)))

-- a rule put in between those that precede it in the other list and those that it precedes there
pub follows_around : (r : ℕ) (u v l : List ℕ) → ((x : ℕ) → In x u → Precedes x r l) → ((x : ℕ) → In x v → Precedes r x l)
    → Follows (u ++ v) l → Follows (u ++ (r ∷ v)) l
follows_around r u v l early late f a b p =
    ⊎_elim (λ q. f a b (precedes_left a b u v q))
    (
    ⊎_elim
    (λ (q : In a u × In b (r ∷ v)).
    ⊎_elim (λ e. rw e (early a q.0)) (λ k. f a b (precedes_across a b u v q.0 k)) (Memᴰ.cases_cons q.1))
    (⊎_elim (λ (q : (r ≡ a) × In b v). rw (← q.0) (late b q.1)) (λ q. f a b (precedes_right a b u v q)))
    )
    (precedes_cases a b u (r ∷ v) p)

-- a list with the rules of another, in its order, is that other
pub same_order : (k l : List ℕ) → Distinct k → Distinct l → Within k l → Within l k → Follows k l → k ≡ l
same_order [] [] dk dl w v f = refl
same_order [] (y ∷ l) dk dl w v f = absurd (Memᴰ.not-nil (v y (Memᴰ.head refl)))
same_order (x ∷ k) [] dk dl w v f = absurd (Memᴰ.not-nil (w x (Memᴰ.head refl)))
same_order (x ∷ k) (y ∷ l) dk dl w v f =
    let first : y ≡ x =
    ⊎_elim (λ e. e)
    (λ h. (not_second (λ p. dl.0 (precedes_in_right x y l p)) (f x y (inl (refl, h)))).0)
    (Memᴰ.cases_cons (v y (Memᴰ.head refl))) in
    let rest : k ≡ l =
    same_order k l dk.1 dl.1
    (λ r h. not_first (λ e. dk.0 (Memᴰ.cast (sym (e ∙ first)) h)) (Memᴰ.cases_cons (w r (Memᴰ.tail h))))
    (λ r h. not_first (λ e. dl.0 (Memᴰ.cast (first ∙ sym e) h)) (Memᴰ.cases_cons (v r (Memᴰ.tail h))))
    (λ a b p. not_first (λ h. dk.0 (Memᴰ.cast (sym first ∙ h.0) (precedes_in_left a b k p))) (f a b (inr p))) in
    cc

-- Behind a front part.
pub precedes_front : (a b : ℕ) (u v : List ℕ) → Distinct (u ++ v) → In b u → Precedes a b (u ++ v) → Precedes a b u
precedes_front a b u v d h p =
    not_second (⊎_elim (λ q. distinct_apart u v d b h q.1) (λ q. distinct_apart u v d b h (precedes_in_right a b v q)))
    (precedes_cases a b u v p)

pub precedes_behind : (a b : ℕ) (u v w : List ℕ) → Distinct (u ++ v) → In a u → (In b v → In b w)
    → Precedes a b (u ++ v) → Precedes a b (u ++ w)
precedes_behind a b u v w d h change p =
    ⊎_elim (λ q. precedes_left a b u w q)
    (⊎_elim (λ q. precedes_across a b u w h (change q.1)) (λ q. absurd (distinct_apart u v d a h (precedes_in_left a b v q))))
    (precedes_cases a b u v p)

-- A rule taken out: where it is absent the list stays as it is, and otherwise what stood around it is left.
pub without_absent : (r : ℕ) (l : List ℕ) → ¬ In r l → without r l ≡ l
unfolding without before after
without_absent r [] n = refl
without_absent r (y ∷ l) n =
    rw (ne_eqb y r (λ e. n (Memᴰ.head (sym e))))
    (ap (λ (m : List ℕ). y ∷ m) (without_absent r l (λ h. n (Memᴰ.tail h))))

without_by : (C : List ℕ → List ℕ → Type 0) (r : ℕ) (l : List ℕ)
    → (¬ In r l → C l l) → ((u v : List ℕ) → C (u ++ (r ∷ v)) (u ++ v)) → C l (without r l)
unfolding without
without_by C r l absent around =
    by_test (mem r l)
    (λ t. subst (λ (m : List ℕ). C m (before r l ++ after r l)) (sym (before_after r l (mem_in r l t)))
    (around (before r l) (after r l)))
    (λ f. let n = not_mem r l f in subst (C l) (sym (without_absent r l n)) (absent n))

pub without_sublist : (r : ℕ) (l : List ℕ) → Sublistᴰ (without r l) l
without_sublist r l = without_by (λ m w. Sublistᴰ w m) r l (λ n. Sublistᴰ.refl l) (λ u v. sublist_around r u v)

without_distinct : (r : ℕ) (l : List ℕ) → Distinct l → ¬ In r (without r l) × Distinct (without r l)
without_distinct r l =
    without_by (λ m w. Distinct m → ¬ In r w × Distinct w) r l (λ n d. (n, d)) (λ u v. distinct_around r u v)

-- A rule moved down behind a front part: only rules that stood after it may now stand before it.
pub lowered_in : (r z : ℕ) (u x y : List ℕ) → In z (u ++ (r ∷ (x ++ y))) → In z (u ++ (x ++ (r ∷ y)))
lowered_in r z u x y h =
    ⊎_elim (λ k. Memᴰ.append_left (x ++ (r ∷ y)) k)
    (λ k. Memᴰ.append_right u (⊎_elim (λ e. Memᴰ.cast e (in_middle r x y)) (λ t. in_around r z x y t) (Memᴰ.cases_cons k)))
    (Memᴰ.append_cases u h)

pub lowered_back : (r z : ℕ) (u x y : List ℕ) → In z (u ++ (x ++ (r ∷ y))) → In z (u ++ (r ∷ (x ++ y)))
lowered_back r z u x y h =
    ⊎_elim (λ k. Memᴰ.append_left (r ∷ (x ++ y)) k)
    (λ k. Memᴰ.append_right u (⊎_elim (λ e. Memᴰ.head e) (λ t. Memᴰ.tail t) (around_cases r z x y k)))
    (Memᴰ.append_cases u h)

pub lowered_distinct : (r : ℕ) (u x y : List ℕ) → Distinct (u ++ (r ∷ (x ++ y))) → Distinct (u ++ (x ++ (r ∷ y)))
lowered_distinct r u x y d =
    let out = distinct_around r u (x ++ y) d in
    rw (append_assoc u x (r ∷ y)) at (around_distinct r (u ++ x) y (rw append_assoc out.0) (rw append_assoc out.1))

pub precedes_lowered : (a b r : ℕ) (u x y : List ℕ) → a ≢ r
    → Precedes a b (u ++ (r ∷ (x ++ y))) → Precedes a b (u ++ (x ++ (r ∷ y)))
precedes_lowered a b r u x y na p =
    ⊎_elim (λ q. precedes_left a b u (x ++ (r ∷ y)) q)
    (
    ⊎_elim
    (λ q. precedes_across a b u (x ++ (r ∷ y)) q.0 (lowered_in r b [] x y q.1))
    (λ q. precedes_right a b u (x ++ (r ∷ y)) (precedes_around a b r x y (not_first (λ h. na (sym h.0)) q)))
    )
    (precedes_cases a b u (r ∷ (x ++ y)) p)

-- A rule moved up, or put in, right behind a front part: only rules that stood before it may now stand after it.
pub raised_in : (r x : ℕ) (u l : List ℕ) → In x (u ++ l) → In x (u ++ (r ∷ without r l))
raised_in r x u l =
    without_by (λ m w. In x (u ++ m) → In x (u ++ (r ∷ w))) r l (λ n. in_around r x u l) (λ y z. lowered_back r x u y z)

pub raised_back : (r x : ℕ) (u l : List ℕ) → x ≢ r → In x (u ++ (r ∷ without r l)) → In x (u ++ l)
raised_back r x u l other =
    without_by (λ m w. In x (u ++ (r ∷ w)) → In x (u ++ m)) r l
    (λ n h. not_first other (around_cases r x u l h)) (λ y z. lowered_in r x u y z)

pub raised_distinct : (r : ℕ) (u l : List ℕ) → ¬ In r u → Distinct (u ++ l) → Distinct (u ++ (r ∷ without r l))
raised_distinct r u l n d =
    apart_distinct u (r ∷ without r l) (distinct_left u l d) (without_distinct r l (distinct_right u l d))
    (λ x h k.
    ⊎_elim (λ e. n (Memᴰ.cast (sym e) h)) (λ t. distinct_apart u l d x h (sublist_in (without_sublist r l) x t))
    (Memᴰ.cases_cons k))

precedes_lifted : (a b r : ℕ) (u x y : List ℕ) → b ≢ r
    → Precedes a b (u ++ (x ++ (r ∷ y))) → Precedes a b (u ++ (r ∷ (x ++ y)))
precedes_lifted a b r u x y nb p =
    ⊎_elim (λ q. precedes_left a b u (r ∷ (x ++ y)) q)
    (
    ⊎_elim
    (λ q. precedes_across a b u (r ∷ (x ++ y)) q.0 (lowered_back r b [] x y q.1))
    (λ q. precedes_right a b u (r ∷ (x ++ y))
    (
    by_test (eqb r a)
    (λ t. inl (eqb-true r a t, not_first nb (around_cases r b x y (precedes_in_right a b (x ++ (r ∷ y)) q))))
    (λ f. inr (around_precedes a b r x y (λ e. eqb-false r a f (sym e)) nb q))
    ))
    )
    (precedes_cases a b u (x ++ (r ∷ y)) p)

pub precedes_raised : (a b r : ℕ) (u l : List ℕ) → b ≢ r → Precedes a b (u ++ l) → Precedes a b (u ++ (r ∷ without r l))
precedes_raised a b r u l nb =
    without_by (λ m w. Precedes a b (u ++ m) → Precedes a b (u ++ (r ∷ w))) r l
    (λ n. precedes_around a b r u l) (λ x y. precedes_lifted a b r u x y nb)
