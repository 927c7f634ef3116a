-- `are_counters` meets its contract: a bracket is missing, or what is between them is asked. Assumes nothing.
use mathlib.Core.Path.{sym, ◌∙◌}
use borrow.Author.Tests.{eq-eqb, ne_eqb}
use Rattle.deployment.specs.Bytes.{part}
use Rattle.iptables_lines.proofs.Names.{too_short, not_opened, not_closed, in_brackets}
use Rattle.iptables_lines.proofs.are_counters.Goals as goal
use Rattle.iptables_lines.proofs.are_counters.Goals.{then-size-lt2-via-then-size-lt2, then-size-lt2-via-else-size-lt2+then-word-ne-OPENING, then-size-lt2-via-else-size-lt2+else-word-ne-OPENING+then-word-size-ne-CLOSING}

pub returns : goal.returns
unfolding part
returns c =
    c.two_numbers.ensures
    ∙ sym (in_brackets c.args.word.now c.if-size-lt2.false (eq-eqb _ _ c.if-word-ne-OPENING.false) (eq-eqb _ _ c.if-word-size-ne-CLOSING.false))

pub returns-then-size-lt2 : goal.returns-then-size-lt2
returns-then-size-lt2 c =
    let word = c.args.word.now in
    elim c.then-size-lt2.branch [
      | then-size-lt2-via-then-size-lt2 w ↦ sym (too_short word w.if-size-lt2.true)
      | then-size-lt2-via-else-size-lt2+then-word-ne-OPENING w ↦
          sym (not_opened word w.if-size-lt2.false (ne_eqb _ _ w.if-word-ne-OPENING.true))
      | then-size-lt2-via-else-size-lt2+else-word-ne-OPENING+then-word-size-ne-CLOSING w ↦
          sym (not_closed word w.if-size-lt2.false (eq-eqb _ _ w.if-word-ne-OPENING.false) (ne_eqb _ _ w.if-word-size-ne-CLOSING.true))
    ]
