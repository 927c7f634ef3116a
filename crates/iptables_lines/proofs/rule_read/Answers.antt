-- `rule_read` meets its contract: the rule's record, or why the line is turned away. Assumes nothing.
use borrow.Author.Rules.{rules}
use mathlib.Core.Path.{◌≡◌, ◌∙◌}
use Rattle.std.specs.Prelude.{Err}
use Rattle.iptables_rule.specs.Found.{words_from}
use Rattle.iptables_lines.proofs.Lines.{rule_line, no_rule_line}
use Rattle.iptables_lines.proofs.rule_read.Goals as goal

pub returns : goal.returns
returns c = let args = c.args in rule_line (words_from args.at args.line.now) _ c.in_ok-bytes.ensures

pub returns-in_err-bytes : goal.returns-in_err-bytes
returns-in_err-bytes c =
    let args = c.args in
    let away : c.from_residual.result ≡ Err c.in_err-bytes.field-0.0 = search rules in
    away ∙ no_rule_line (words_from args.at args.line.now) _ c.in_err-bytes.ensures
