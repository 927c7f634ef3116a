-- Any two answers that a contract allows are equal. Assumes nothing.
use mathlib.Core.Bool.{Bool}
use mathlib.Core.Path.{◌≡◌, sym, ◌∙◌}
use Rattle.std.specs.Prelude.{Result}
use Rattle.deployment.specs.declared.Why.{Why}
use Rattle.iptables_lines.specs.declared.Line.{Line}
use Rattle.iptables_lines.proofs.is_filter.Reads as is-filter
use Rattle.iptables_lines.proofs.line_read.Reads as Line-read

pub one_filter : (κ : _) (a : _) (r s : Bool) (e f : _) → is-filter.Post κ a r e → is-filter.Post κ a s f → r ≡ s
one_filter κ a r s e f p q = p ∙ sym q

pub one_line : (κ : _) (a : _) (r s : Result Line Why) (e f : _) → Line-read.Post κ a r e → Line-read.Post κ a s f → r ≡ s
one_line κ a r s e f p q = p ∙ sym q
