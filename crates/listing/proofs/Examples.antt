-- The text that document 01 prints for its first example is that of the definitions: antt computes both sides. Assumes nothing.
use mathlib.Core.Path.{refl}
use Rattle.policy.specs.Lists.{all, pick, mem, contains, before, after, without, missing, same}
use Rattle.policy.specs.Command.{coded, rule_at, lifted, placed, moved}
use Rattle.policy.specs.AppendDelete.{kept_run, plan_one}
use Rattle.policy.specs.InsertDeleteMove.{own_choice, kept_two, inserted, reached, move_up, already, raised, left, take_one}
use Rattle.policy.specs.InsertDeleteMove.{take_all, first_stage, ahead, take_waiting, second_stage, plan_two}
use Rattle.plans.specs.Plans.{made_one_of, made_one, made_two_of, made_two}
use Rattle.lines.specs.Text.{text, digits, decimal, spaced, named, move_words, words_of, second_text, command_text, line_text, lines_text, head_text, block_text}
use Rattle.listing.specs.Text.{plans, plan_block, blocks_text, plan_text}
use Rattle.listing.specs.Examples.{first_example, FirstExamplePrinted}

pub first_example_printed : FirstExamplePrinted
unfolding first_example all pick mem contains before after without missing same coded rule_at lifted placed moved kept_run plan_one
    own_choice kept_two inserted reached move_up already raised left take_one take_all first_stage ahead take_waiting second_stage plan_two
    made_one_of made_one made_two_of made_two text digits decimal spaced named move_words words_of second_text command_text line_text lines_text head_text
    block_text plans plan_block blocks_text plan_text
first_example_printed default = refl
