-- Policies: the tests of a policy's value are how its list names the rules of the catalogue. Assumes nothing.
use Prim.Native.Nat.{ℕ}
use native.Mathlib.Omega.{arith}
use mathlib.Core.Path.{◌≡◌}
use mathlib.Core.Bool.{true}
use mathlib.Core.List.{List}
use lib.Dec.{ltb}
use lib.ListN.{length, take}
use lib.Seq.{take_all}
use Rattle.policy.specs.Lists.{all, differ}
use Rattle.policy.proofs.Tests.{by_test}
use Rattle.running.specs.Naming.{named}
use Rattle.running.specs.declared.Naming.{Naming}
use Rattle.running.specs.declared.Naming.TheVariants as naming
use Rattle.deployment.specs.Values.{numbers_of, list_fits}
use Rattle.deployment.specs.Contents.{policy_read}
use Rattle.deployment.specs.FieldValues.{policy_value}
use Rattle.deployment.specs.declared.Why.TheVariants.{Outside, Twice}
use Rattle.deployment.proofs.Records.{numbers_length}
use Rattle.deployment.proofs.Tests.{says_list}
use Rattle.catalogue.specs.Answers.{checking}
use Rattle.std.specs.Prelude.{Result, Ok, Err}
use Rattle.deployment.specs.declared.Why.{Why}

-- the answer to how a list names rules
abbrev pub answer : Naming → Result Unit Why
answer naming.Outside = Err Outside
answer naming.Twice = Err Twice
answer naming.Once = Ok tt

module _ (size : ℕ) (value : List ℕ) (fits : list_fits (length value) ≡ true) where
  -- a list of the right length has no more than 1,024 numbers
  pub all_listed : take 1024 (numbers_of value) ≡ numbers_of value
  all_listed =
      let right = (says_list (length value)).0 fits in
      take_all 1024 (numbers_of value) (omega (arith, numbers_length value, right.1, right.2))

  pub policy_answer : checking (policy_value size value) ≡ answer (named size (take 1024 (numbers_of value)))
  unfolding checking policy_value policy_read named
  policy_answer =
      by_test (all (λ r. ltb r size) (numbers_of value))
      (λ inside. by_test (differ (numbers_of value))
      (λ distinct. rw (all_listed, fits, inside, distinct))
      (λ twice. rw (all_listed, fits, inside, twice)))
      (λ outside. rw (all_listed, fits, outside))
