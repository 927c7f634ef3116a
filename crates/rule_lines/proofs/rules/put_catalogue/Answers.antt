-- `put_catalogue` meets its contract: the head with how many rules are shown, then their lines. Assumes nothing.
use Rattle.catalogue.proofs.Rules.{first_count}
use Rattle.lines.specs.Text.{text, named}
use Rattle.rule_lines.specs.Text.{catalogue_text}
use Rattle.rule_lines.proofs.Joined.{puts_joined}
use Rattle.rule_lines.proofs.rules.put_catalogue.Goals as goal

pub returns : goal.returns
unfolding text named catalogue_text
returns c =
    let file = c.args.file.now in
    let rules = c.shown-rules.result in
    rw (← c.shown-rules.ensures.1, first_count 3 rules file c.shown-rules.ensures.0)
    (puts_joined (named "rules" rules) (text "\n") c.put_head-next.ensures c.put_rules.ensures)
