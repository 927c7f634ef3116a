-- Any two verdicts that the judge allows are equal, by its contract as the checker reads it. Assumes nothing.
use mathlib.Core.Path.{◌≡◌, sym, ◌∙◌}
use Rattle.policy.specs.declared.Verdict.{Verdict}
use Rattle.judge.proofs.verdict_of.Reads as verdict-of

pub one_verdict : (κ : _) (a : _) (r s : Verdict) (e f : _) → verdict-of.Post κ a r e → verdict-of.Post κ a s f → r ≡ s
one_verdict κ a r s e f p q = p ∙ sym q
