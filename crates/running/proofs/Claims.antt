-- Refusals by number: what a step gives, passed or failed, is what its sentence in document 01 says; and each edit gives what the step gives, since
-- the place that it is told is 0 exactly where the rule is absent, and leads to the rule where it is there. Assumes nothing.
use Prim.Native.Nat.{ℕ, suc, ◌<◌}
use native.Mathlib.Omega.{arith}
use mathlib.Core.Path.{◌≡◌, refl, sym, ap, subst}
use mathlib.Core.Bool.{not}
use mathlib.Core.List.{List, [], ◌∷◌, ◌++◌}
use borrow.Author.Tests.{lt-ltb, le-leb, eq-eqb, ne_eqb}
use lib.Dec.{eqb, ltb}
use lib.ListN.{length}
use Rattle.policy.specs.Lists.{mem, without}
use Rattle.policy.specs.Policy.{most_rules}
use Rattle.policy.specs.Command.{Outcome, passed, failed, needs, within, lifted, placed, step, fault_number}
use Rattle.policy.specs.declared.Command.{Command}
use Rattle.policy.specs.declared.Command.TheVariants.{App, DelRule, Ins, DelPlace, Mov}
use Rattle.policy.specs.declared.Fault.TheVariants.{Present, Absent, Place, Number}
use Rattle.policy.proofs.Tests.{by_test, never, both_and}
use Rattle.policy.proofs.Lists.{mem_in}
use Rattle.policy.proofs.Numbers.{fault_numbers_differ}
use Rattle.policy.proofs.Commands.{makes_passes, passes_makes, makes_unique, fails_with, failed_fails}
use Rattle.running.specs.Running.{refusing_numbers, Shown, given, roomy, appended, rule_deleted, inserted, place_deleted, relocated}
use Rattle.running.specs.Place.{place_in}
use Rattle.running.specs.Claims.{RefusingNumbersDiffer, ByNumber, GivenByNumber, PlaceDeletedByNumber, RelocatedByNumber}
use Rattle.running.specs.Claims.{RuleDeletedByNumber, AppendedByNumber, InsertedByNumber}
use Rattle.std.specs.Prelude.{Some, None}
use Rattle.running.proofs.Place.{place_zero, absent_place, place_within, place_lifted}

pub refusing_numbers_differ : RefusingNumbersDiffer
unfolding refusing_numbers
refusing_numbers_differ None None e = refl
refusing_numbers_differ None (Some g) e = absurd (omega (arith, ap length e))
refusing_numbers_differ (Some f) None e = absurd (omega (arith, ap length e))
refusing_numbers_differ (Some f) (Some g) e = ap Some (fault_numbers_differ f g (cc))

module _ (size : ℕ) (l : List ℕ) (c : Command) where
  by_outcome_lem : (o : Outcome) → step size l c ≡ o → ByNumber size l c (given l o)
  unfolding refusing_numbers given
  by_outcome_lem (passed m) e = record {
    fails = λ n. (
      λ f. absurd (omega (arith, ap length f)),
      λ h. let (fault, is, fails) = fails_with size l c n h in let clash : ◌≡◌ {A = ℕ} 0 1 = cc in absurd (omega arith),
    );
    keeps = λ n f. absurd (omega (arith, ap length f));
    makes = λ x. (
      λ (none, is). rw is at (passes_makes size l c m e),
      λ h. (refl, makes_unique size l c m x (passes_makes size l c m e) h),
    );
  }
  by_outcome_lem (failed fault) e = record {
    fails = λ n. (
      λ f. let number : fault_number fault ≡ n = cc in rw number at (failed_fails size l c fault e),
      λ h. let (other, is, fails) = fails_with size l c n h in let same : other ≡ fault = cc in rw (← same, is),
    );
    keeps = λ n f. refl;
    makes = λ x. (
      λ (none, is). absurd (omega (arith, ap length none)),
      λ h. let clash : ◌≡◌ {A = ℕ} 0 1 = cc (makes_passes size l c x h) in absurd (omega arith),
    );
  }

pub given_by_number : GivenByNumber
given_by_number size l c = by_outcome_lem size l c (step size l c) refl

pub place_deleted_by_number : PlaceDeletedByNumber
unfolding place_deleted step
place_deleted_by_number size l i = given_by_number size l (DelPlace i)

pub relocated_by_number : RelocatedByNumber
unfolding relocated step
relocated_by_number size l i j = given_by_number size l (Mov i j)

-- The tests of a rule's place against those of the list.
pub absent_test : (r : ℕ) (l : List ℕ) → eqb (place_in r l) 0 ≡ not (mem r l)
absent_test r l =
    by_test (mem r l)
    (λ t. rw t (ne_eqb (place_in r l) 0 (λ e. never t (place_zero r l e))))
    (λ f. rw f (eq-eqb (place_in r l) 0 (absent_place r l f)))

pub present_test : (r : ℕ) (l : List ℕ) → within (place_in r l) (length l) ≡ mem r l
unfolding within
present_test r l =
    by_test (mem r l)
    (λ t. let bounds = place_within r l (mem_in r l t) in
    rw t (both_and (le-leb 1 (place_in r l) bounds.0) (le-leb (place_in r l) (length l) bounds.1)))
    (λ f. rw (f, absent_place r l f))

-- a rule is taken out from its place, and added where a slot is free
pub takes_out : (r : ℕ) (l : List ℕ)
    → needs (within (place_in r l) (length l)) Absent (passed (lifted (place_in r l) l)) ≡ needs (mem r l) Absent (passed (without r l))
unfolding needs
takes_out r l =
    rw (present_test r l)
    (by_test (mem r l) (λ t. rw t (ap passed (place_lifted r l (mem_in r l t)))) (λ f. rw f))

adds : (r : ℕ) (l m : List ℕ) → length l < most_rules
    → needs (eqb (place_in r l) 0) Present (roomy l (passed m)) ≡ needs (not (mem r l)) Present (passed m)
unfolding roomy needs
adds r l m free = rw (absent_test r l, lt-ltb (length l) most_rules free)

module _ (size : ℕ) (l : List ℕ) where
  -- what shows as the step does has its numbers
  shows : (c : Command) (s : Shown) → s ≡ given l (step size l c) → ByNumber size l c s
  shows c s e = subst (ByNumber size l c) (sym e) (given_by_number size l c)

  rule_deleted_shows : (r : ℕ) → rule_deleted size l r (place_in r l) ≡ given l (step size l (DelRule r))
  unfolding rule_deleted step
  rule_deleted_shows r = ap (λ (o : Outcome). given l (needs (ltb r size) Number o)) (takes_out r l)

  appended_shows : (r : ℕ) → length l < most_rules → appended size l r (place_in r l) ≡ given l (step size l (App r))
  unfolding appended step
  appended_shows r free = ap (λ (o : Outcome). given l (needs (ltb r size) Number o)) (adds r l (l ++ (r ∷ [])) free)

  inserted_shows : (i r : ℕ) → length l < most_rules → inserted size l i r (place_in r l) ≡ given l (step size l (Ins i r))
  unfolding inserted step
  inserted_shows i r free =
      ap (λ (o : Outcome). given l (needs (ltb r size) Number (needs (within i (suc (length l))) Place o))) (adds r l (placed i r l) free)

pub rule_deleted_by_number : RuleDeletedByNumber
rule_deleted_by_number size l r = shows size l (DelRule r) (rule_deleted size l r (place_in r l)) (rule_deleted_shows size l r)

pub appended_by_number : AppendedByNumber
appended_by_number size l r free = shows size l (App r) (appended size l r (place_in r l)) (appended_shows size l r free)

pub inserted_by_number : InsertedByNumber
inserted_by_number size l i r free = shows size l (Ins i r) (inserted size l i r (place_in r l)) (inserted_shows size l i r free)
