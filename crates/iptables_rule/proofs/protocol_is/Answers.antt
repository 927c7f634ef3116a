-- `protocol_is` meets its contract: the word is the first that `-p` is given, if there is one. Assumes nothing.
use mathlib.Core.Path.{refl, ◌∙◌, ap}
use mathlib.Core.Bool.{not}
use borrow.Author.Tests.{eq-eqb}
use Rattle.lines.specs.Text.{text}
use Rattle.iptables.specs.Options.{protocol_is}
use Rattle.iptables_words.proofs.Same.{same_is}
use Rattle.iptables_rule.proofs.Finding.{not_given, given_first}
use Rattle.iptables_rule.proofs.protocol_is.Goals as goal

pub returns-then-found-ne0 : goal.returns-then-found-ne0
unfolding protocol_is text
returns-then-found-ne0 c =
    let found = c.option-found.ensures in
    rw ((given_first found c.if-found-ne0.true).1, protocol_is, ← c.word_of.ensures) (c.eq.ensures ∙ same_is _ _)

pub returns-else-found-ne0 : goal.returns-else-found-ne0
unfolding protocol_is text
returns-else-found-ne0 c = ap not (eq-eqb _ _ c.if-found-ne0.false) ∙ rw (not_given c.option-found.ensures c.if-found-ne0.false, protocol_is) refl
