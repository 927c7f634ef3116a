-- The worked texts are those of the definitions: antt computes both sides. Assumes nothing.
use mathlib.Core.Path.{refl}
use Rattle.policy.specs.Command.{coded}
use Rattle.deployment.specs.Bytes.{bytes_of}
use Rattle.lines.specs.Text.{text, digits, decimal, spaced, spaced_all, named, move_words, words_of, second_text, command_text, line_text, lines_text}
use Rattle.rule_lines.specs.Text.{dots, value_text, range_text, action_text, end_text, ends_text, rule_text, rules_text, catalogue_text}
use Rattle.rule_lines.specs.Examples.{range, web, high_ports, rest}
use Rattle.showing.specs.Text.{numbers_text, list_text, policies_text, default_text, keep_text, script_text, show_text}
use Rattle.showing.specs.Examples.{with_both, appended, empty, no_command}
use Rattle.showing.specs.Examples.{WithBothShown, AppendedShown, EmptyShown, NoCommandShown}

pub with_both_shown : WithBothShown
unfolding range web high_ports rest with_both coded bytes_of text digits decimal spaced spaced_all named move_words words_of second_text command_text line_text lines_text
    dots value_text range_text action_text end_text ends_text rule_text rules_text catalogue_text numbers_text list_text policies_text default_text keep_text script_text show_text
with_both_shown = refl

pub appended_shown : AppendedShown
unfolding range rest appended coded bytes_of text digits decimal spaced spaced_all named move_words words_of second_text command_text line_text lines_text
    dots value_text range_text action_text end_text ends_text rule_text rules_text catalogue_text numbers_text list_text policies_text default_text keep_text script_text show_text
appended_shown = refl

pub empty_shown : EmptyShown
unfolding empty text digits decimal spaced named rules_text catalogue_text numbers_text list_text policies_text default_text keep_text script_text show_text
empty_shown = refl

pub no_command_shown : NoCommandShown
unfolding no_command text digits decimal spaced named lines_text rules_text catalogue_text numbers_text list_text policies_text default_text keep_text script_text show_text
no_command_shown = refl
