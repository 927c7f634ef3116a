-- Any two answers that a contract allows are equal: of `decided`, `hit`, `action` and `default_of`. Assumes nothing.
use mathlib.Core.Path.{◌≡◌, sym, ◌∙◌}
use mathlib.Core.Bool.{Bool}
use Rattle.policy.specs.declared.Action.{Action}
use Rattle.policy.specs.declared.Decision.{Decision}
use Rattle.decision.proofs.decided.Reads as decided
use Rattle.decision.proofs.default_of.Reads as default-of
use Rattle.decision.proofs.hit.Reads as hit
use Rattle.decision.proofs.action.Reads as action

pub one_decision : (κ : _) (a : _) (r s : Decision) (e f : _) → decided.Post κ a r e → decided.Post κ a s f → r ≡ s
one_decision κ a r s e f p q = p ∙ sym q

pub one_hit : (κ : _) (a : _) (r s : Bool) (e f : _) → hit.Post κ a r e → hit.Post κ a s f → r ≡ s
one_hit κ a r s e f p q = p ∙ sym q

pub one_action : (κ : _) (a : _) (r s : Action) (e f : _) → action.Post κ a r e → action.Post κ a s f → r ≡ s
one_action κ a r s e f p q = p ∙ sym q

pub one_default : (κ : _) (a : _) (r s : Action) (e f : _) → default-of.Post κ a r e → default-of.Post κ a s f → r ≡ s
one_default κ a r s e f p q = p ∙ sym q
