-- The first match by places: where the first k rules do not match, a policy decides as the rest of its list does, under its default; and
-- the place is no greater than the list is long. Assumes nothing.
use Prim.Native.Nat.{ℕ, suc, ◌+◌, ◌≤◌, ◌<◌, zero-le}
use native.Mathlib.Numerals.{add-one}
use native.Mathlib.Omega.{arith}
use mathlib.Core.Path.{◌≡◌, refl, sym, ◌∙◌, ap}
use mathlib.Core.Bool.{Bool, true, false}
use mathlib.Core.List.{List, [], ◌∷◌}
use lib.ListN.{length, drop, get_or, drop_of_length-le}
use lib.Seq.{drop-cons}
use Rattle.policy.specs.Policy.{Matching, Policy, decide_from, decide}
use Rattle.policy.specs.declared.Action.{Action}
use Rattle.policy.proofs.Tests.{by_test}

-- the first k rules do not match
abbrev pub Passed : Matching → Policy → ℕ → Type 0
Passed m p k = decide m p ≡ decide_from m p.default (k + 1) (drop k p.list)

pub passed_none : (m : Matching) (p : Policy) → Passed m p 0
unfolding decide
passed_none m p = refl

-- the rule at place k + 1 is passed too, or it decides
module _ (m : Matching) (p : Policy) (k n : ℕ) (met : Bool) (passed : Passed m p k) (inside : k < length p.list)
    (at : n ≡ get_or p.list k 0) (tested : met ≡ m.hit n) where
  next : drop k p.list ≡ n ∷ drop (suc k) p.list
  next = drop-cons p.list k 0 inside ∙ ap (λ (r : ℕ). r ∷ drop (suc k) p.list) (sym at)

  pub passed_more : met ≡ false → Passed m p (k + 1)
  unfolding decide_from
  passed_more miss = passed ∙ rw (next, ← tested, miss, add-one k, add-one (suc k))

  pub decides_here : met ≡ true → decide m p ≡ record { action = m.action n; place = k + 1 }
  unfolding decide_from
  decides_here hit = passed ∙ rw (next, ← tested, hit)

pub decides_none : (m : Matching) (p : Policy) (k : ℕ) → Passed m p k → length p.list ≤ k
    → decide m p ≡ record { action = p.default; place = 0 }
unfolding decide_from
decides_none m p k passed h = passed ∙ rw (drop_of_length-le p.list h)

-- The place is one of the list, or 0.
place_in_rest : (m : Matching) (default : Action) (k : ℕ) (l : List ℕ) → (decide_from m default (suc k) l).place ≤ k + length l
unfolding decide_from
place_in_rest m default k [] = zero-le
place_in_rest m default k (r ∷ l) =
    by_test (m.hit r) (λ met. rw met (omega arith)) (λ miss. rw miss (omega (arith, place_in_rest m default (suc k) l)))

pub place_in_list : (m : Matching) (p : Policy) → (decide m p).place ≤ length p.list
unfolding decide
place_in_list m p = omega (arith, place_in_rest m p.default 0 p.list)
