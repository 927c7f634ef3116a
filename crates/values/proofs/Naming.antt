-- How a list names rules, by number: its two tests say the properties. Assumes nothing.
use Prim.Native.Nat.{ℕ}
use native.Mathlib.Omega.{arith}
use mathlib.Core.Path.{refl, ap}
use mathlib.Core.List.{List}
use borrow.Author.Tests.{ltb-true}
use lib.Dec.{ltb}
use lib.ListN.{get_or}
use Rattle.policy.specs.Lists.{all, differ}
use Rattle.policy.specs.Properties.{Distinct}
use Rattle.policy.specs.Claims.{Admitted}
use Rattle.policy.proofs.Tests.{by_test}
use Rattle.policy.proofs.Lists.{all_in}
use Rattle.running.specs.Naming.{named}
use Rattle.running.specs.declared.Naming.TheVariants.{Outside, Twice, Once}
use Rattle.deployment.specs.Properties.{NamesOutside}
use Rattle.deployment.proofs.Tests.{denies_inside, denies_not, says_differ, says_not}
use Rattle.values.specs.Naming.{naming_numbers, NamingNumbersDiffer, NamesByNumber, NamedByNumber}

-- the first of some numbers, 0 where there is none
first : List ℕ → ℕ
first numbers = get_or numbers 0 0

pub naming_numbers_differ : NamingNumbersDiffer
unfolding naming_numbers first
naming_numbers_differ Outside Outside e = refl
naming_numbers_differ Outside Twice e = absurd (omega (arith, ap first e))
naming_numbers_differ Outside Once e = absurd (omega (arith, ap first e))
naming_numbers_differ Twice Outside e = absurd (omega (arith, ap first e))
naming_numbers_differ Twice Twice e = refl
naming_numbers_differ Twice Once e = absurd (omega (arith, ap first e))
naming_numbers_differ Once Outside e = absurd (omega (arith, ap first e))
naming_numbers_differ Once Twice e = absurd (omega (arith, ap first e))
naming_numbers_differ Once Once e = refl

module _ (size : ℕ) (l : List ℕ) where
  -- no policy names a number outside the catalogue
  policy_inside : Admitted size l → ¬ NamesOutside size l
  policy_inside policy (r, h, out) = omega (arith, policy.inside r h)

  names_outside : NamesOutside size l → NamesByNumber size l Outside
  unfolding naming_numbers first
  names_outside out = record {
    outside = (λ e. out, λ h. refl);
    twice = (λ e. absurd (omega (arith, ap first e)), λ h. absurd (h.0 out));
    once = (λ e. absurd (omega (arith, ap first e)), λ policy. absurd (policy_inside policy out));
  }

  names_twice : ¬ NamesOutside size l → ¬ Distinct l → NamesByNumber size l Twice
  unfolding naming_numbers first
  names_twice inside twice = record {
    outside = (λ e. absurd (omega (arith, ap first e)), λ out. absurd (inside out));
    twice = (λ e. (inside, twice), λ h. refl);
    once = (λ e. absurd (omega (arith, ap first e)), λ policy. absurd (twice policy.distinct));
  }

  names_once : ¬ NamesOutside size l → Admitted size l → NamesByNumber size l Once
  unfolding naming_numbers first
  names_once inside policy = record {
    outside = (λ e. absurd (omega (arith, ap first e)), λ out. absurd (inside out));
    twice = (λ e. absurd (omega (arith, ap first e)), λ h. absurd (h.1 policy.distinct));
    once = (λ e. policy, λ h. refl);
  }

pub named_by_number : NamedByNumber
unfolding named
named_by_number size l =
    by_test (all (λ r. ltb r size) l)
    (λ t. let inside = denies_not (denies_inside size l) t in
    by_test (differ l)
    (λ d. rw (t, d)
    (names_once size l inside
    (record { inside = λ r h. ltb-true r size (all_in (λ x. ltb x size) l t r h); distinct = (says_differ l).0 d })))
    (λ d. rw (t, d) (names_twice size l inside (says_not (says_differ l) d))))
    (λ f. rw f (names_outside size l ((denies_inside size l).0 f)))
