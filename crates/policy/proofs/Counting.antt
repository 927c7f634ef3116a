-- What is picked from a list, and how many rules there are. The idea of the counts: rules that differ and are all in another list
-- are not more than that list has. Assumes nothing.
use Prim.Native.Nat.{ℕ, zero, suc, ◌+◌, ◌≤◌, ◌<◌}
use native.Mathlib.Nat.{not-suc-le-zero}
use native.Mathlib.Omega.{arith}
use mathlib.Core.Path.{◌≡◌, refl, sym, ◌∙◌, ap}
use mathlib.Core.Bool.{Bool, true, cond, not}
use mathlib.Core.Logic.{⊎_elim, ◌≢◌}
use mathlib.Core.List.{List, [], ◌∷◌, ◌++◌, append_assoc}
use mathlib.Core.List.Memᴰ
use mathlib.Core.List.{Sublistᴰ}
use borrow.Author.Tests.{eqb-true, eqb-false}
use lib.Dec.{eqb}
use lib.ListN.{length}
use Rattle.policy.specs.Lists.{pick, mem, common, missing}
use Rattle.policy.specs.Properties.{In, Distinct}
use Rattle.policy.proofs.Tests.{by_test, falsely, not_first}
use Rattle.policy.proofs.Lists.{mem_in, in_mem, not_in}
use Rattle.policy.proofs.Order.{within_length, sublist_in, sublist_distinct}

-- What is picked.
pub pick_in : (test : ℕ → Bool) (l : List ℕ) (r : ℕ) → In r (pick test l) → In r l × (test r ≡ true)
unfolding pick
pick_in test [] r h = absurd (Memᴰ.not-nil h)
pick_in test (x ∷ l) r h =
    let later : In r (pick test l) → In r (x ∷ l) × (test r ≡ true) =
    λ k. let at = pick_in test l r k in (Memᴰ.tail at.0, at.1) in
    by_test (test x)
    (λ t. ⊎_elim (λ e. (Memᴰ.head e, ap test e ∙ t)) later (Memᴰ.cases_cons (rw t at h)))
    (λ f. later (rw f at h))

in_pick : (test : ℕ → Bool) (l : List ℕ) (r : ℕ) → In r l → test r ≡ true → In r (pick test l)
unfolding pick
in_pick test [] r h e = absurd (Memᴰ.not-nil h)
in_pick test (x ∷ l) r h e =
    ⊎_elim
    (λ s. let t : test x ≡ true = ap test (sym s) ∙ e in rw t (Memᴰ.head s))
    (λ t. Memᴰ.append_right (cond (test x) (x ∷ []) []) (in_pick test l r t e))
    (Memᴰ.cases_cons h)

pub pick_sublist : (test : ℕ → Bool) (l : List ℕ) → Sublistᴰ (pick test l) l
unfolding pick
pick_sublist test [] = Sublistᴰ.slnil
pick_sublist test (x ∷ l) =
    by_test (test x) (λ t. rw t (Sublistᴰ.cons-cons refl (pick_sublist test l))) (λ f. rw f (Sublistᴰ.cons (pick_sublist test l)))

pub pick_append : (test : ℕ → Bool) (u v : List ℕ) → pick test (u ++ v) ≡ pick test u ++ pick test v
unfolding pick
pick_append test [] v = refl
pick_append test (x ∷ u) v =
    rw (pick_append test u v) (sym (append_assoc (cond (test x) (x ∷ []) []) (pick test u) (pick test v)))

-- a list that occurs in order in another is what a test that passes its rules alone picks from the other
pick_occurring : {k l : List ℕ} (test : ℕ → Bool) → Sublistᴰ k l → Distinct l
    → ((r : ℕ) → In r k → test r ≡ true) → ((r : ℕ) → In r l → test r ≡ true → In r k) → pick test l ≡ k
unfolding pick
pick_occurring test Sublistᴰ.slnil d pass only = refl
pick_occurring test (Sublistᴰ.cons {a = x} s) d pass only =
    rw (falsely (λ t. d.0 (sublist_in s x (only x (Memᴰ.head refl) t))))
    (pick_occurring test s d.1 pass (λ r h. only r (Memᴰ.tail h)))
pick_occurring test (Sublistᴰ.cons-cons {b = y} e s) d pass only =
    let rest = pick_occurring test s d.1 (λ r h. pass r (Memᴰ.tail h))
    (λ r h t. not_first (λ f. d.0 (Memᴰ.cast (sym (f ∙ e)) h)) (Memᴰ.cases_cons (only r (Memᴰ.tail h) t))) in
    rw (pass y (Memᴰ.head (sym e))) (cc)

pub common_occurring : {k l : List ℕ} → Sublistᴰ k l → Distinct l → common l k ≡ k
unfolding common
common_occurring {k} s d = pick_occurring (λ r. mem r k) s d (λ r h. in_mem r k h) (λ r h t. mem_in r k t)

-- How many are picked, and how many are not.
pub pick_count : (test : ℕ → Bool) (l : List ℕ) → length (pick test l) + length (pick (λ r. not (test r)) l) ≡ length l
unfolding pick
pick_count test [] = refl
pick_count test (x ∷ l) =
    by_test (test x) (λ t. rw t (omega (arith, pick_count test l))) (λ f. rw f (omega (arith, pick_count test l)))

pub one_of : (r : ℕ) (l : List ℕ) → In r l → (length (common (r ∷ []) l) ≡ 1) × (length (missing (r ∷ []) l) ≡ 0)
unfolding common missing pick
one_of r l h = rw (in_mem r l h) (refl, refl)

pub none_of : (r : ℕ) (l : List ℕ) → ¬ In r l → (length (common (r ∷ []) l) ≡ 0) × (length (missing (r ∷ []) l) ≡ 1)
unfolding common missing pick
none_of r l n = rw (not_in r l n) (refl, refl)

-- the rules that two lists have in common are as many counted in the one as in the other
common_fewer : (l m : List ℕ) → Distinct l → length (common l m) ≤ length (common m l)
unfolding common
common_fewer l m d =
    within_length (common l m) (common m l) (sublist_distinct (pick_sublist (λ x. mem x m) l) d)
    (λ r h. let at = pick_in (λ x. mem x m) l r h in in_pick (λ x. mem x l) m r (mem_in r m at.1) (in_mem r l at.0))

pub common_count : (l m : List ℕ) → Distinct l → Distinct m → length (common l m) ≡ length (common m l)
common_count l m dl dm = omega (arith, common_fewer l m dl, common_fewer m l dm)

-- Rules that differ and are below a number are not more than that number.
below : ℕ → List ℕ
below zero = []
below (suc n) = n ∷ below n

below_length : (n : ℕ) → length (below n) ≡ n
unfolding below
below_length zero = refl
below_length (suc n) = ap suc (below_length n)

in_below : (r n : ℕ) → r < n → In r (below n)
unfolding below
in_below r zero h = absurd (not-suc-le-zero h)
in_below r (suc n) h =
    by_test (eqb r n)
    (λ t. Memᴰ.head (eqb-true r n t))
    (λ f. let other : r ≢ n = eqb-false r n f in Memᴰ.tail (in_below r n (omega arith)))

pub inside_length : (n : ℕ) (l : List ℕ) → Distinct l → ((r : ℕ) → In r l → r < n) → length l ≤ n
inside_length n l d inside = rw (below_length n) at (within_length l (below n) d (λ r h. in_below r n (inside r h)))
