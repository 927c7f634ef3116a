-- Support by front parts. The idea: the rules before r in the running list are those that stand among its first, r itself is none of them, so a
-- policy supports r exactly when r is the rule right behind the policy's longest front part of such rules. Assumes nothing.
use Prim.Native.Nat.{ℕ, zero, suc, ◌+◌, ◌≤◌, ◌<◌, zero-le, suc-le-suc}
use native.Mathlib.Nat.{le_of_suc-le-suc}
use native.Mathlib.Numerals.{add-one}
use native.Mathlib.Omega.{arith}
use mathlib.Core.Path.{◌≡◌, refl, sym, ◌∙◌, ap, ap₂}
use mathlib.Core.Bool.{Bool, true, false, cond, ◌&&◌, ◌||◌}
use mathlib.Core.Logic.{⊎_map}
use mathlib.Core.List.{List, [], ◌∷◌}
use mathlib.Core.List.Memᴰ
use borrow.Author.Tests.{eqb-true, le-leb, lt-leb, leb-true, leb-false}
use lib.Dec.{eqb, leb, eqb-suc-suc, eqb-zero-suc}
use lib.ListN.{length, take, drop, get_or}
use lib.Seq.{split_at, take-length, take-nil}
use Rattle.policy.specs.Lists.{all, mem, contains, before}
use Rattle.policy.specs.Judge.{supported_by, supported, full}
use Rattle.policy.specs.Command.{within}
use Rattle.policy.specs.Properties.{In}
use Rattle.policy.proofs.Tests.{by_test, never, both_and, or_either, either_or}
use Rattle.policy.proofs.Lists.{not_in, place_in_lem, before_at}
use Rattle.policy.proofs.Order.{not_earlier}
use Rattle.running.specs.Place.{further, place_in}
use Rattle.ordering.specs.Fronts.{stands, front, passes_at, is_at, Listed, Known, Judging}

-- The rule at an index.

module _ (test : ℕ → Bool) where
  pub passes_inside : (i : ℕ) (l : List ℕ) → i < length l → passes_at test i l ≡ test (get_or l i 0)
  unfolding passes_at
  passes_inside i [] h = absurd (omega arith)
  passes_inside zero (x ∷ l) h = refl
  passes_inside (suc i) (x ∷ l) h = passes_inside i l (le_of_suc-le-suc h)

  pub passes_within : (i : ℕ) (l : List ℕ) → passes_at test i l ≡ true → i < length l
  unfolding passes_at
  passes_within i [] e = never e refl
  passes_within zero (x ∷ l) e = suc-le-suc zero-le
  passes_within (suc i) (x ∷ l) e = suc-le-suc (passes_within i l e)

  pub passes_past : (i : ℕ) (l : List ℕ) → length l ≤ i → passes_at test i l ≡ false
  unfolding passes_at
  passes_past i [] h = refl
  passes_past zero (x ∷ l) h = absurd (omega arith)
  passes_past (suc i) (x ∷ l) h = passes_past i l (le_of_suc-le-suc h)

  -- The longest front part.

  pub front_fits : (l : List ℕ) → front test l ≤ length l
  unfolding front
  front_fits [] = zero-le
  front_fits (x ∷ l) = by_test (test x) (λ t. rw t (suc-le-suc (front_fits l))) (λ f. rw f zero-le)

  -- one more rule passes
  pub front_one : (i : ℕ) (l : List ℕ) → i ≤ front test l → passes_at test i l ≡ true → suc i ≤ front test l
  unfolding front passes_at
  front_one i [] h e = never e refl
  front_one zero (x ∷ l) h e = rw e (suc-le-suc zero-le)
  front_one (suc i) (x ∷ l) h e =
      by_test (test x)
      (λ t. rw t (suc-le-suc (front_one i l (le_of_suc-le-suc (rw t at h)) e)))
      (λ f. absurd (omega (arith, rw f at h)))

  -- the next one doesn't, or there is none: the front part ends here
  pub front_ends : (i : ℕ) (l : List ℕ) → i ≤ front test l → passes_at test i l ≡ false → i ≡ front test l
  unfolding front passes_at
  front_ends i [] h e = omega arith
  front_ends zero (x ∷ l) h e = rw e
  front_ends (suc i) (x ∷ l) h e =
      by_test (test x)
      (λ t. rw t (ap suc (front_ends i l (le_of_suc-le-suc (rw t at h)) e)))
      (λ f. absurd (omega (arith, rw f at h)))

  -- one further where the rule at the index passes: never past the front part, and stuck only at its end
  abbrev ahead : ℕ → List ℕ → ℕ
  ahead i l = cond (passes_at test i l) (i + 1) i

  pub ahead_inside : (i : ℕ) (l : List ℕ) → i ≤ front test l → ahead i l ≤ front test l
  ahead_inside i l h = by_test (passes_at test i l) (λ t. rw (t, add-one i) (front_one i l h t)) (λ f. rw f h)

  pub ahead_later : (i : ℕ) (l : List ℕ) → i ≤ ahead i l
  ahead_later i l = by_test (passes_at test i l) (λ t. rw t (omega arith)) (λ f. rw f (omega arith))

  pub ahead_stuck : (i : ℕ) (l : List ℕ) → i ≤ front test l → ahead i l ≡ i → i ≡ front test l
  ahead_stuck i l h e =
      by_test (passes_at test i l) (λ t. absurd (omega (arith, rw t at e))) (λ f. front_ends i l h f)

-- the same test on the rules of the list has the same front part
front_same : (test other : ℕ → Bool) (l : List ℕ) → ((x : ℕ) → In x l → test x ≡ other x) → front test l ≡ front other l
unfolding front
front_same test other [] alike = refl
front_same test other (x ∷ l) alike =
    ap₂ (λ (b : Bool) (n : ℕ). cond b (suc n) 0) (alike x (Memᴰ.head refl)) (front_same test other l (λ y h. alike y (Memᴰ.tail h)))

-- A rule that fails the test is in the list, and all before it pass, exactly when it stands right behind the front part.
and_false : (b : Bool) → (b && false) ≡ false
and_false true = refl
and_false false = refl

behind_front : (test : ℕ → Bool) (r : ℕ) → test r ≡ false → (l : List ℕ)
    → (mem r l && all test (before r l)) ≡ passes_at (λ x. eqb x r) (front test l) l
unfolding mem all before front passes_at
behind_front test r fails [] = refl
behind_front test r fails (x ∷ l) =
    by_test (eqb x r)
    (λ e. rw (e, ap test (eqb-true x r e) ∙ fails, e))
    (λ n. by_test (test x)
    (λ t. rw (n, t) (behind_front test r fails l))
    (λ f. rw (n, f, n) (and_false (mem r l))))

-- Every rule passes exactly when the front part is the whole list.
all_front : (test : ℕ → Bool) (l : List ℕ) → all test l ≡ eqb (front test l) (length l)
unfolding all front
all_front test [] = refl
all_front test (x ∷ l) =
    by_test (test x)
    (λ t. rw (t, eqb-suc-suc (front test l) (length l)) (all_front test l))
    (λ f. rw (f, eqb-zero-suc (length l)))

-- What the array says.

within_top : (i top : ℕ) → 0 < i → i ≤ top → within i top ≡ true
unfolding within
within_top i top some h = both_and (le-leb 1 i some) (le-leb i top h)

within_over : (i top : ℕ) → top < i → within i top ≡ false
unfolding within
within_over i top h = rw (lt-leb i top h) (and_false (leb 1 i))

within_no : (i : ℕ) → within i 0 ≡ false
unfolding within
within_no zero = refl
within_no (suc i) = within_over (suc i) 0 (omega arith)

within_none : (top : ℕ) → within 0 top ≡ false
unfolding within
within_none top = refl

further_within : (place k : ℕ) → within (further place) (suc k) ≡ within place k
unfolding further within
further_within zero k = refl
further_within (suc place) k =
    by_test (leb (suc place) k)
    (λ t. let h = leb-true (suc place) k t in
    within_top (suc (suc place)) (suc k) (omega arith) (omega arith) ∙ sym (within_top (suc place) k (omega arith) h))
    (λ f. let h = leb-false (suc place) k f in within_over (suc (suc place)) (suc k) (omega arith) ∙ sym (within_over (suc place) k h))

-- a rule is among the first k exactly when its place is
place_among : (x k : ℕ) (l : List ℕ) → within (place_in x l) k ≡ mem x (take k l)
unfolding place_in mem
place_among x k [] = rw take-nil (within_none k)
place_among x zero (y ∷ l) = within_no (place_in x (y ∷ l))
place_among x (suc k) (y ∷ l) =
    by_test (eqb y x)
    (λ e. rw e (within_top 1 (suc k) (omega arith) (omega arith)))
    (λ n. rw n (further_within (place_in x l) k ∙ place_among x k l))

-- what a rule's place says of it
module _ (places : List ℕ) (k : ℕ) (policy : List ℕ) (i : ℕ) (inside : i < length policy) where
  pub stands_nowhere : get_or places (get_or policy i 0) 0 ≡ 0 → passes_at (stands places k) i policy ≡ false
  unfolding stands
  stands_nowhere e = passes_inside (stands places k) i policy inside ∙ rw e (within_none k)

  pub stands_somewhere : ¬ (get_or places (get_or policy i 0) 0 ≡ 0) → passes_at (stands places k) i policy ≡ leb (get_or places (get_or policy i 0) 0) k
  unfolding stands within
  stands_somewhere n = passes_inside (stands places k) i policy inside ∙ rw (le-leb 1 (get_or places (get_or policy i 0) 0) (omega arith))

-- the front part by none of the rules
pub front_start : (places policy : List ℕ) → 0 ≡ front (stands places 0) policy
unfolding front stands
front_start places [] = refl
front_start places (x ∷ policy) = rw (within_no (get_or places x 0))

module _ (places l : List ℕ) (listed : Listed places l) where
  pub stands_among : (k x : ℕ) → x < 1024 → stands places k x ≡ mem x (take k l)
  unfolding stands
  stands_among k x h = ap (λ (p : ℕ). within p k) (listed.says.1 x h) ∙ place_among x k l

  -- a policy is in the list exactly when its front part is the whole policy
  pub contains_front : (policy : List ℕ) → Known policy → contains l policy ≡ eqb (front (stands places (length l)) policy) (length policy)
  unfolding contains
  contains_front policy known =
      all_front (λ x. mem x l) policy
      ∙ ap (λ (n : ℕ). eqb n (length policy))
      (front_same (λ x. mem x l) (stands places (length l)) policy
      (λ x h. sym (stands_among (length l) x (known x h) ∙ ap (mem x) (take-length l))))

  module _ (k : ℕ) (inside : k < length l) where
    abbrev rule : ℕ
    rule = get_or l k 0

    -- the rules before the k-th are the first k
    first_rules : (¬ In rule (take k l)) × (before rule l ≡ take k l)
    first_rules =
        let cut = split_at l k 0 inside in
        let new : ¬ In rule (take k l) = not_earlier rule (take k l) (drop (suc k) l) (rw cut at listed.distinct) in
        (new, ap (before rule) cut ∙ before_at rule (take k l) (drop (suc k) l) new)

    module _ (policy : List ℕ) (known : Known policy) where
      pub supported_behind : supported_by policy l rule ≡ is_at rule (front (stands places k) policy) policy
      unfolding supported_by contains
      supported_behind =
          let u = take k l in
          let (new, is) = first_rules in
          ap (λ (m : List ℕ). mem rule policy && all (λ x. mem x m) (before rule policy)) is
          ∙ behind_front (λ x. mem x u) rule (not_in rule u new) policy
          ∙ ap (λ (n : ℕ). is_at rule n policy)
          (front_same (λ x. mem x u) (stands places k) policy (λ x h. sym (stands_among k x (known x h))))

      -- a front part that ends before the rule is the longest
      pub supported_met : (i : ℕ) → i ≤ front (stands places k) policy → is_at rule i policy ≡ true → supported_by policy l rule ≡ true
      supported_met i h e =
          let fits = passes_within (λ x. eqb x rule) i policy e in
          let is : get_or policy i 0 ≡ rule = eqb-true (get_or policy i 0) rule (sym (passes_inside (λ x. eqb x rule) i policy fits) ∙ e) in
          let small : rule < 1024 = rw is at (known (get_or policy i 0) (place_in_lem 0 policy i fits)) in
          let new : stands places k rule ≡ false = stands_among k rule small ∙ not_in rule (take k l) first_rules.0 in
          let ends = front_ends (stands places k) i policy h (passes_inside (stands places k) i policy fits ∙ ap (stands places k) is ∙ new) in
          supported_behind ∙ ap (λ (n : ℕ). is_at rule n policy) (sym ends) ∙ e

-- Both policies.
module _ (initial target places l : List ℕ) (j : Judging initial target places l) where
  pub full_fronts : (eqb (front (stands places (length l)) initial) (length initial) || eqb (front (stands places (length l)) target) (length target))
      ≡ full initial target l
  unfolding full
  full_fronts =
      ap₂ (λ (a b : Bool). a || b)
      (sym (contains_front places l j.listed initial j.first))
      (sym (contains_front places l j.listed target j.last))

  module _ (k : ℕ) (inside : k < length l) where
    pub supported_fronts :
        (is_at (get_or l k 0) (front (stands places k) initial) initial || is_at (get_or l k 0) (front (stands places k) target) target)
        ≡ supported initial target l (get_or l k 0)
    unfolding supported
    supported_fronts =
        ap₂ (λ (a b : Bool). a || b)
        (sym (supported_behind places l j.listed k inside initial j.first))
        (sym (supported_behind places l j.listed k inside target j.last))

    -- a front part of either that ends right before the rule
    pub supported_next : (a b : ℕ) → a ≤ front (stands places k) initial → b ≤ front (stands places k) target
        → (is_at (get_or l k 0) a initial || is_at (get_or l k 0) b target) ≡ true → supported initial target l (get_or l k 0) ≡ true
    unfolding supported
    supported_next a b h g e =
        either_or
        (⊎_map
        (supported_met places l j.listed k inside initial j.first a h)
        (supported_met places l j.listed k inside target j.last b g)
        (or_either (is_at (get_or l k 0) a initial) (is_at (get_or l k 0) b target) e))
