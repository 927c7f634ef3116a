-- How a policy's front part grows with the list. The idea: with the list's next rule just that rule more stands among the first, so the
-- front part grows where the rule stands right behind it, and stays where another does. Assumes nothing.
use Prim.Native.Nat.{ℕ, zero, suc, ◌+◌, ◌≤◌, ◌<◌, zero-le, suc-le-suc}
use native.Mathlib.Nat.{le_of_suc-le-suc}
use native.Mathlib.Numerals.{add-one}
use native.Mathlib.Omega.{arith}
use mathlib.Core.Path.{◌≡◌, refl, sym, ◌∙◌, ap, ap₂}
use mathlib.Core.Bool.{Bool, true, false, ◌||◌}
use mathlib.Core.List.{List, [], ◌∷◌}
use mathlib.Core.List.Memᴰ
use borrow.Author.Tests.{eqb-true, eqb-false, eq-eqb, ne_eqb}
use lib.Dec.{eqb}
use lib.ListN.{length, take, get_or}
use Rattle.policy.specs.Lists.{mem}
use Rattle.policy.specs.Properties.{In}
use Rattle.policy.proofs.Tests.{by_test, never, or_left, or_right}
use Rattle.ordering.specs.Fronts.{stands, front, passes_at, is_at, Listed, Known}
use Rattle.ordering.proofs.Support.{stands_among}

-- One rule more, r, passes.
module _ (test other : ℕ → Bool) (r : ℕ) where
  grows : (l : List ℕ) → ((x : ℕ) → In x l → other x ≡ (test x || eqb x r)) → is_at r (front test l) l ≡ true → suc (front test l) ≤ front other l
  unfolding front passes_at
  grows [] more e = never e refl
  grows (x ∷ l) more e =
      by_test (test x)
      (λ t. rw (t, more x (Memᴰ.head refl) ∙ or_left (eqb x r) t) (suc-le-suc (grows l (λ y h. more y (Memᴰ.tail h)) (rw t at e))))
      (λ f. rw (f, more x (Memᴰ.head refl) ∙ or_right (test x) (rw f at e)) (suc-le-suc zero-le))

  stays : (l : List ℕ) → ((x : ℕ) → In x l → other x ≡ (test x || eqb x r)) → is_at r (front test l) l ≡ false → front test l ≡ front other l
  unfolding front passes_at
  stays [] more e = refl
  stays (x ∷ l) more e =
      by_test (test x)
      (λ t. rw (t, more x (Memᴰ.head refl) ∙ or_left (eqb x r) t) (ap suc (stays l (λ y h. more y (Memᴰ.tail h)) (rw t at e))))
      (λ f. rw (f, more x (Memᴰ.head refl) ∙ ap₂ (λ (a b : Bool). a || b) f (rw f at e)))

-- the first rules and one more
mem_next : (x k : ℕ) (l : List ℕ) → k < length l → mem x (take (suc k) l) ≡ (mem x (take k l) || eqb x (get_or l k 0))
unfolding mem
mem_next x k [] h = absurd (omega arith)
mem_next x zero (y ∷ l) h =
    by_test (eqb y x)
    (λ t. rw (t, eq-eqb x y (sym (eqb-true y x t))))
    (λ f. rw (f, ne_eqb x y (λ e. eqb-false y x f (sym e))))
mem_next x (suc k) (y ∷ l) h = by_test (eqb y x) (λ t. rw t) (λ f. rw f (mem_next x k l (le_of_suc-le-suc h)))

module _ (places l : List ℕ) (listed : Listed places l) (k : ℕ) (inside : k < length l) (policy : List ℕ) (known : Known policy) where
  one_more : (x : ℕ) → In x policy → stands places (suc k) x ≡ (stands places k x || eqb x (get_or l k 0))
  one_more x h =
      stands_among places l listed (suc k) x (known x h)
      ∙ mem_next x k l inside
      ∙ ap (λ (b : Bool). b || eqb x (get_or l k 0)) (sym (stands_among places l listed k x (known x h)))

  -- the list's next rule stands right behind the front part, or it doesn't
  takes : is_at (get_or l k 0) (front (stands places k) policy) policy ≡ true → front (stands places k) policy + 1 ≤ front (stands places (k + 1)) policy
  takes e = rw (add-one k, add-one (front (stands places k) policy)) (grows (stands places k) (stands places (suc k)) (get_or l k 0) policy one_more e)

  keeps : is_at (get_or l k 0) (front (stands places k) policy) policy ≡ false → front (stands places k) policy ≡ front (stands places (k + 1)) policy
  keeps e = rw (add-one k) (stays (stands places k) (stands places (suc k)) (get_or l k 0) policy one_more e)

  pub front_after : (a : ℕ) (next : Bool) → a ≡ front (stands places k) policy → next ≡ is_at (get_or l k 0) a policy
      → (next ≡ true → a + 1 ≤ front (stands places (k + 1)) policy) × (next ≡ false → a ≡ front (stands places (k + 1)) policy)
  front_after a next is tells =
      let behind : is_at (get_or l k 0) (front (stands places k) policy) policy ≡ next = ap (λ (n : ℕ). is_at (get_or l k 0) n policy) (sym is) ∙ sym tells in
      (λ t. rw is (takes (behind ∙ t)), λ f. is ∙ keeps (behind ∙ f))
