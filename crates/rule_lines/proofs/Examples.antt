-- The worked texts are those of the definitions: antt computes both sides. Assumes nothing.
use mathlib.Core.Path.{refl}
use Rattle.deployment.specs.Bytes.{bytes_of}
use Rattle.lines.specs.Text.{text, digits, decimal}
use Rattle.rule_lines.specs.Text.{dots, value_text, range_text, action_text, end_text, ends_text, rule_text}
use Rattle.rule_lines.specs.Examples.{range, web, RuleShown, RangesShown}

pub rule_shown : RuleShown
unfolding range web bytes_of text digits decimal dots value_text range_text action_text end_text ends_text rule_text
rule_shown = refl

pub ranges_shown : RangesShown
unfolding range bytes_of text digits decimal dots value_text range_text
ranges_shown = (refl, refl, refl, refl, refl)
