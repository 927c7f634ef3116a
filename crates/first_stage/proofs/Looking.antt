-- Looking through the rules of a running list: what stands at an index, and what is found from an index on. Assumes nothing.
use Prim.Native.Nat.{ℕ, ◌+◌, ◌-◌, ◌≤◌, ◌<◌}
use native.Mathlib.Omega.{arith}
use mathlib.Core.Path.{◌≡◌, refl, sym, ◌∙◌, ap}
use mathlib.Core.Bool.{Bool, cond}
use mathlib.Core.List.{List, [], ◌∷◌}
use borrow.Author.Tests.{ltb-false}
use lib.Dec.{ltb}
use lib.ListN.{length, take, drop, get_or, length-take, length-drop}
use lib.Seq.{get_or-take}
use Rattle.std.specs.Prelude.{Option as CodeOption, Some, None}
use Rattle.std.specs.List.{position_or_len}
use Rattle.std.proofs.lemmas.List.{drop-take}
use Rattle.std.proofs.lemmas.List.Recursion.{is_position_or_len}
use Rattle.policy.proofs.Tests.{by_test}
use Rattle.running.specs.declared.Running.{Running}
use Rattle.running.specs.Running.{view}
use Rattle.running.proofs.Edits.{view_count}
use Rattle.first_stage.specs.Looking.{until}

-- the rule at an index of the list that is shown
pub rule_shown : (list : Running) (k : ℕ) → k < length (view list) → get_or list.rules k 0 ≡ get_or (view list) k 0
unfolding view
rule_shown list k h = sym (get_or-take list.len list.rules k 0 (omega (arith, length-take list.len list.rules)))

-- no more come before the first rule that passes a test than there are
pub until_fits : (test : ℕ → Bool) (l : List ℕ) → until test l ≤ length l
unfolding until
until_fits test [] = omega arith
until_fits test (x ∷ l) = by_test (test x) (λ t. rw t (omega arith)) (λ f. rw f (omega (arith, until_fits test l)))

pub found_fits : (test : ℕ → Bool) (l : List ℕ) (from at : ℕ) → from ≤ length l → at ≡ from + until test (drop from l) → at ≤ length l
found_fits test l from at inside e = omega (arith, until_fits test (drop from l), length-drop from l)

-- the rules of the list that are shown from an index on
pub rest_shown : (list : Running) (from len : ℕ) → len ≡ length (view list) → from ≤ len → take (len - from) (drop from list.rules) ≡ drop from (view list)
rest_shown list from len is inside =
    let whole : from + (len - from) ≡ len = omega arith in
    sym (drop-take from (len - from) list.rules) ∙ rw whole (ap (drop from) (view_count list len is))

-- What `position` finds is how many rules come before.
module _ (test : ℕ → Bool) (l : List ℕ) where
  until_is : until test l ≡ position_or_len test l
  unfolding until
  until_is = is_position_or_len (until test) test refl (λ x rest. ap (cond (test x) 0) (omega arith)) l

  abbrev pub Found : CodeOption ℕ
  Found = cond (ltb (position_or_len test l) (length l)) (Some (position_or_len test l)) None

  pub found_some : (answer : CodeOption ℕ) (k : ℕ) → answer ≡ Found → answer ≡ Some k → k ≡ until test l
  found_some answer k is some =
      by_test (ltb (position_or_len test l) (length l))
      (λ t. let there : answer ≡ Some (position_or_len test l) = rw t at is in let same : k ≡ position_or_len test l = cc in same ∙ sym until_is)
      (λ f. absurd (let none : answer ≡ None = rw f at is in cc))

  pub found_none : (answer : CodeOption ℕ) → answer ≡ Found → answer ≡ None → length l ≡ until test l
  found_none answer is none =
      by_test (ltb (position_or_len test l) (length l))
      (λ t. absurd (let there : answer ≡ Some (position_or_len test l) = rw t at is in cc))
      (λ f. omega (arith, ltb-false _ _ f, until_is, until_fits test l))
