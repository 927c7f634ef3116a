-- Values that a caller lends: they are refused as their tests say; where they pass, what is read of them is valid and, written again, the
-- values that were lent. So each policy is the numbers of its value, and the rules are as many as their bytes hold. Assumes nothing.
use Prim.Native.Nat.{ℕ, ◌/◌}
use native.Mathlib.Omega.{arith}
use mathlib.Core.Path.{◌≡◌, sym, ◌∙◌, ap}
use mathlib.Core.List.{List, map}
use lib.ListN.{length}
use Rattle.policy.specs.Claims.{Admitted}
use Rattle.policy.specs.Rule.{Rule}
use Rattle.deployment.specs.Bytes.{joined}
use Rattle.deployment.specs.Values.{rule_bytes, numbers_of, numbers_bytes}
use Rattle.deployment.specs.Contents.{Contents}
use Rattle.deployment.specs.File.{accepted, refused}
use Rattle.deployment.specs.FieldValues.{FieldValues, values_read, at_zero, read_values}
use Rattle.deployment.specs.Properties.{Valid}
use Rattle.deployment.specs.Claims.{values_of, AreValues}
use Rattle.deployment.specs.declared.Why.{Why}
use Rattle.deployment.proofs.Values.{length_rules, policy_numbers}
use Rattle.deployment.proofs.FieldValues.{values_written_again}
use Rattle.catalogue.specs.Answers.{checking}
use Rattle.std.specs.Prelude.{Ok, Err}
use Rattle.values.proofs.Given.{passed, failed}

rules_counted : (catalogue : List Rule) (rules : List ℕ) → joined (map rule_bytes catalogue) ≡ rules → length rules / 27 ≡ length catalogue
rules_counted catalogue rules e = omega (arith, ap length e, length_rules catalogue)

policy_back : (c : Contents) → Valid c → (policy value : List ℕ) → Admitted (length c.catalogue) policy → numbers_bytes policy ≡ value
    → numbers_of value ≡ policy
policy_back c valid policy value sound e =
    ap numbers_of (sym e) ∙ policy_numbers (length c.catalogue) policy valid.catalogue.few sound

-- the values that a caller lends
module _ (v : FieldValues) where
  pub values_refused : (why : Why) → Err why ≡ checking (values_read v) → read_values v ≡ refused (record { why = why; at = 0 })
  unfolding read_values at_zero
  values_refused why e = ap at_zero (failed (values_read v) why e)

  -- the contents that are read of them
  pub record LentRead : Type 0 where
    pub contents : Contents
    pub is : read_values v ≡ accepted contents
    pub valid : Valid contents
    pub written : values_of contents ≡ v
    pub counted : length v.rules / 27 ≡ length contents.catalogue
    pub initial : numbers_of v.initial ≡ contents.initial
    pub target : numbers_of v.target ≡ contents.target

  pub values_accepted : AreValues v → Ok tt ≡ checking (values_read v) → LentRead
  unfolding read_values at_zero values_of
  values_accepted are e =
      let (c, found) = passed (values_read v) e in
      let is : read_values v ≡ accepted c = ap at_zero found in
      let (valid, written) = values_written_again v c are is in
      record {
        contents = c;
        is = is;
        valid = valid;
        written = written;
        counted = rules_counted c.catalogue v.rules (ap (λ (w : FieldValues). w.rules) written);
        initial = policy_back c valid c.initial v.initial valid.initial.sound (ap (λ (w : FieldValues). w.initial) written);
        target = policy_back c valid c.target v.target valid.target.sound (ap (λ (w : FieldValues). w.target) written);
      }
