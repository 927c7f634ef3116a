-- The writer's claims. The idea: the fields of contents are those of their field values, one by one. Assumes nothing.
use Prim.Native.Nat.{ℕ, ◌/◌}
use native.Mathlib.Omega.{arith}
use mathlib.Core.Path.{◌≡◌, refl, ap}
use mathlib.Core.List.{List, [], ◌∷◌, map, append_assoc}
use mathlib.Core.Option.{Option, none, some}
use lib.ListN.{length}
use Rattle.policy.specs.Rule.{Rule}
use Rattle.deployment.specs.Bytes.{joined}
use Rattle.deployment.specs.Values.{rule_bytes, numbers_bytes, default_bytes, default_field, script_bytes}
use Rattle.deployment.specs.File.{rule_tag, default_tag, keep_tag, script_tag, field_bytes, if_there, file_of}
use Rattle.deployment.specs.Claims.{values_of}
use Rattle.deployment.proofs.Values.{length_rules, rules_apart}
use Rattle.deployment.proofs.ReadBack.{valid_fits}
use Rattle.writer.specs.Answers.{rules_bytes, field_if, lists_bytes, given_bytes}
use Rattle.writer.specs.Claims.{GivenIsFile, GivenFits}
use Rattle.writer.proofs.Files.{length_given}

-- The fields of contents, from their field values.
rules_file : (catalogue : List Rule) (rules : List ℕ) → joined (map rule_bytes catalogue) ≡ rules
    → joined (map (λ rule. field_bytes rule_tag (rule_bytes rule)) catalogue) ≡ rules_bytes (length rules / 27) rules
unfolding rules_bytes
rules_file catalogue rules e =
    let counted : length (joined (map rule_bytes catalogue)) / 27 ≡ length catalogue = omega (arith, length_rules catalogue) in
    rw (← e, counted, rules_apart catalogue) (ap joined (each catalogue))
  where
    each : (catalogue : List Rule) → map (λ rule. field_bytes rule_tag (rule_bytes rule)) catalogue ≡ map (field_bytes rule_tag) (map rule_bytes catalogue)
    each [] = refl
    each (rule ∷ catalogue) = ap (λ (l : List (List ℕ)). field_bytes rule_tag (rule_bytes rule) ∷ l) (each catalogue)

there_file : {A : Type 0} (tag : ℕ) (written : A → List ℕ) (o : Option A)
    → if_there tag written o ≡ field_if tag (elim o [ none ↦ none | some a ↦ some (written a) ])
unfolding if_there field_if
there_file tag written none = refl
there_file tag written (some a) = refl

pub given_is_file : GivenIsFile
unfolding values_of file_of lists_bytes given_bytes
given_is_file v c e =
    rw (
      ← e,
      ← rules_file c.catalogue (joined (map rule_bytes c.catalogue)) refl,
      ← there_file default_tag default_bytes (default_field c.default),
      ← there_file keep_tag numbers_bytes c.keep,
      ← there_file script_tag script_bytes c.script,
    )
    (simp append_assoc)

pub given_fits : GivenFits
given_fits v c valid e = omega (arith, valid_fits c valid, ap length (given_is_file v c e), length_given v)
