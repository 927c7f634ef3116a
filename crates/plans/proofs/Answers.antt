-- Any two answers that a contract allows are equal, with every byte of the field or the place. Assumes nothing.
use mathlib.Core.Path.{◌≡◌, sym, ◌∙◌}
use Rattle.deployment.proofs.Lent.{same_left}
use Rattle.plans.specs.declared.Plan.{Plan}
use Rattle.std.specs.Prelude.{Result}
use Rattle.deployment.specs.declared.Refusal.{Refusal}
use Rattle.plans.proofs.field.put.Reads as put
use Rattle.plans.proofs.field.close.Reads as close
use Rattle.plans.proofs.send.Reads as send

pub one_put : (κ : _) (a : _) (r s : Unit) (e f : _) → put.Post κ a r e → put.Post κ a s f → e.0.now ≡ f.0.now
one_put κ a r s e f p q = p ∙ sym q

pub one_close : (κ : _) (a : _) (r s : Plan) (e f : _) → close.Post κ a r e → close.Post κ a s f → (r ≡ s) × (e.0.now ≡ f.0.now)
one_close κ a r s e f p q = (p.0 ∙ sym q.0, p.1 ∙ sym q.1)

pub one_sent : (κ : _) (a : _) (r s : Result Plan Refusal) (e f : _) → send.Post κ a r e → send.Post κ a s f
    → (r ≡ s) × (e.1.1.0.now ≡ f.1.1.0.now)
one_sent κ a r s e f p q = same_left p q
