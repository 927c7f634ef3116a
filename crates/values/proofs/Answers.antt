-- Any two answers that a contract allows are equal. Assumes nothing.
use mathlib.Core.Path.{◌≡◌, sym, ◌∙◌}
use mathlib.Core.Bool.{Bool}
use Rattle.std.specs.Prelude.{Result}
use Rattle.deployment.specs.declared.Why.{Why}
use Rattle.values.proofs.lists.values_checked.Reads as values-checked
use Rattle.values.proofs.list_fits.Reads as list-fits
use Rattle.values.proofs.script_fits.Reads as script-fits
use Rattle.values.proofs.policy_checked.Reads as policy-checked
use Rattle.values.proofs.default_checked.Reads as default-checked
use Rattle.values.proofs.lists.default_if_there.Reads as default-if-there
use Rattle.values.proofs.keep_checked.Reads as keep-checked
use Rattle.values.proofs.script_checked.Reads as script-checked

pub one_policy : (κ : _) (a : _) (r s : Result Unit Why) (e f : _) → policy-checked.Post κ a r e → policy-checked.Post κ a s f → r ≡ s
one_policy κ a r s e f p q = p ∙ sym q

pub one_default : (κ : _) (a : _) (r s : Result Unit Why) (e f : _) → default-checked.Post κ a r e → default-checked.Post κ a s f → r ≡ s
one_default κ a r s e f p q = p ∙ sym q

pub one_default_if_there : (κ : _) (a : _) (r s : Result Unit Why) (e f : _) → default-if-there.Post κ a r e → default-if-there.Post κ a s f
    → r ≡ s
one_default_if_there κ a r s e f p q = p ∙ sym q

pub one_keep : (κ : _) (a : _) (r s : Result Unit Why) (e f : _) → keep-checked.Post κ a r e → keep-checked.Post κ a s f → r ≡ s
one_keep κ a r s e f p q = p ∙ sym q

pub one_script : (κ : _) (a : _) (r s : Result Unit Why) (e f : _) → script-checked.Post κ a r e → script-checked.Post κ a s f → r ≡ s
one_script κ a r s e f p q = p ∙ sym q

pub one_values : (κ : _) (a : _) (r s : Result Unit Why) (e f : _) → values-checked.Post κ a r e → values-checked.Post κ a s f → r ≡ s
one_values κ a r s e f p q = p ∙ sym q

pub one_list_length : (κ : _) (a : _) (r s : Bool) (e f : _) → list-fits.Post κ a r e → list-fits.Post κ a s f → r ≡ s
one_list_length κ a r s e f p q = p ∙ sym q

pub one_script_length : (κ : _) (a : _) (r s : Bool) (e f : _) → script-fits.Post κ a r e → script-fits.Post κ a s f → r ≡ s
one_script_length κ a r s e f p q = p ∙ sym q
