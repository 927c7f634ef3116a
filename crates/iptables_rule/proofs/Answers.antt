-- Any two answers that a contract allows are equal. Assumes nothing.
use Prim.Native.Nat.{ℕ}
use mathlib.Core.Path.{◌≡◌, sym, ◌∙◌}
use mathlib.Core.List.{List}
use Rattle.std.specs.Prelude.{Option as CodeOption, Result}
use Rattle.policy.specs.declared.Action.{Action}
use Rattle.deployment.specs.declared.Why.{Why}
use Rattle.iptables_rule.proofs.target_of.Reads as target-of
use Rattle.iptables_rule.proofs.no_record.Reads as no_record
use Rattle.iptables_rule.proofs.rule_of.Reads as rule-of

pub one_target : (κ : _) (a : _) (r s : CodeOption Action) (e f : _) → target-of.Post κ a r e → target-of.Post κ a s f → r ≡ s
one_target κ a r s e f p q = p ∙ sym q

pub one_no_record : (κ : _) (a : _) (r s : List ℕ) (e f : _) → no_record.Post κ a r e → no_record.Post κ a s f → r ≡ s
one_no_record κ a r s e f p q = p ∙ sym q

pub one_rule : (κ : _) (a : _) (r s : Result (List ℕ) Why) (e f : _) → rule-of.Post κ a r e → rule-of.Post κ a s f → r ≡ s
one_rule κ a r s e f p q = p ∙ sym q
