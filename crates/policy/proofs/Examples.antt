-- Every case marked P in document 01 holds: antt computes both sides. Assumes nothing.
use mathlib.Core.Path.{refl}
use Rattle.policy.specs.Lists.{all, pick, mem, contains, before, after, without, missing, same}
use Rattle.policy.specs.Rule.{lies, matches, hits, says}
use Rattle.policy.specs.Policy.{decide_from, decide, same_action, matching}
use Rattle.policy.specs.Command.{rule_at, lifted, placed, moved, needs, within, step, coded}
use Rattle.policy.specs.Replay.{replay_from, replay, lists}
use Rattle.policy.specs.AppendDelete.{kept_run, plan_one}
use Rattle.policy.specs.InsertDeleteMove.{own_choice, kept_two, inserted, reached, move_up, already, raised, left, take_one}
use Rattle.policy.specs.InsertDeleteMove.{take_all, first_stage, ahead, take_waiting, second_stage, plan_two}
use Rattle.policy.specs.Judge.{supported_by, supported, full, first_failing, first_unsupported, first_unordered, judged}
use Rattle.policy.specs.Judge.{verdict, verdict_numbers}
use Rattle.policy.specs.Cases.{size, same_coded, same_script, has_made, has_failed, holds, failing, port_zero, tunnel, cases, Examples}

pub examples : Examples
unfolding cases failing holds size same_coded same_script has_made has_failed same_action port_zero tunnel
    all pick mem contains before after without missing same hits says matches lies decide decide_from matching
    step needs within rule_at lifted placed moved coded replay replay_from lists kept_run plan_one
    own_choice kept_two inserted reached move_up already raised left take_one take_all first_stage ahead take_waiting second_stage plan_two
    supported_by supported full first_failing first_unsupported first_unordered judged verdict verdict_numbers
examples any = refl
