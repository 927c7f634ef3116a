-- The place of a rule in a list: by what stands in front of the rule, 0 exactly where the rule is absent. A rule's place leads back to it, and
-- out of the list. The idea: the list cut around the rule. Assumes nothing.
use Prim.Native.Nat.{ℕ, suc, ◌+◌, ◌≤◌, ◌<◌}
use native.Mathlib.Omega.{arith}
use mathlib.Core.Path.{◌≡◌, refl, sym, ◌∙◌, ap}
use mathlib.Core.Bool.{false, cond}
use mathlib.Core.List.Memᴰ
use mathlib.Core.List.{List, [], ◌∷◌, ◌++◌}
use borrow.Author.Tests.{eq-eqb, ne_eqb}
use lib.Dec.{eqb}
use lib.ListN.{length, length-append}
use Rattle.policy.specs.Lists.{mem, before, after, without}
use Rattle.policy.specs.Command.{rule_at, lifted}
use Rattle.policy.specs.Properties.{In}
use Rattle.policy.proofs.Tests.{falsely}
use Rattle.policy.proofs.Lists.{mem_in, not_mem, before_after, not_before}
use Rattle.policy.proofs.Commands.{rule_at_lem, lifted_at}
use Rattle.running.specs.Place.{further, place_in}

-- a rule that isn't in the list has place 0
pub place_absent : (r : ℕ) (l : List ℕ) → ¬ In r l → place_in r l ≡ 0
unfolding place_in further
place_absent r [] n = refl
place_absent r (x ∷ l) n = rw (ne_eqb x r (λ e. n (Memᴰ.head (sym e))), place_absent r l (λ h. n (Memᴰ.tail h)))

-- a rule with what stands in front of it
pub place_at : (r : ℕ) (u v : List ℕ) → ¬ In r u → place_in r (u ++ (r ∷ v)) ≡ suc (length u)
unfolding place_in further
place_at r [] v n = rw (eq-eqb r r refl)
place_at r (x ∷ u) v n = rw (ne_eqb x r (λ e. n (Memᴰ.head (sym e))), place_at r u v (λ h. n (Memᴰ.tail h)))

-- a rule that isn't behind
pub place_front : (r : ℕ) (u v : List ℕ) → ¬ In r v → place_in r (u ++ v) ≡ place_in r u
unfolding place_in
place_front r [] v n = place_absent r v n
place_front r (x ∷ u) v n = ap (λ (place : ℕ). cond (eqb x r) 1 (further place)) (place_front r u v n)

-- a rule that is in the list
pub place_present : (r : ℕ) (l : List ℕ) → In r l → place_in r l ≡ suc (length (before r l))
place_present r l h = ap (place_in r) (before_after r l h) ∙ place_at r (before r l) (after r l) (not_before r l)

-- place 0 says exactly that the rule is absent
pub place_zero : (r : ℕ) (l : List ℕ) → place_in r l ≡ 0 → mem r l ≡ false
place_zero r l e = falsely (λ t. let n = place_present r l (mem_in r l t) in omega arith)

pub absent_place : (r : ℕ) (l : List ℕ) → mem r l ≡ false → place_in r l ≡ 0
absent_place r l e = place_absent r l (not_mem r l e)

-- A rule's place leads back to it, and out of the list.

module _ (r : ℕ) (l : List ℕ) (h : In r l) where
  pub place_within : (0 < place_in r l) × (place_in r l ≤ length l)
  place_within =
      let long : length l ≡ length (before r l) + suc (length (after r l)) = ap length (before_after r l h) ∙ length-append (before r l) (r ∷ after r l) in
      omega (arith, place_present r l h)

  pub place_rule : rule_at (place_in r l) l ≡ r
  place_rule = rule_at_lem (before r l) r (after r l) (place_present r l h) (before_after r l h)

  pub place_lifted : lifted (place_in r l) l ≡ without r l
  unfolding without
  place_lifted = lifted_at (before r l) r (after r l) (place_present r l h) (before_after r l h)
