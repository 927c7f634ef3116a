-- 01, "Examples on each side": the text that `planlist` and `judgelist` print, line by line. Assumes nothing.
use Rattle.std.specs.Prelude.{ℕ, List, [], ◌∷◌, ◌++◌, length}
use Rattle.policy.specs.Judge.{verdict}
use Rattle.deployment.specs.Contents.{Contents}
use Rattle.deployment.specs.File.{accepted, refused, read_file, read_to_judge}
use Rattle.replay.specs.Answers.{commands_of}
use Rattle.plans.specs.Plans.{Made, made_one, made_two}
use Rattle.lines.specs.Text.{block_text, refused_text, verdict_text}

-- the plans of a file's contents
unfoldable pub plans : Contents → List Made
plans c = made_one c ∷ made_two c ∷ []

-- "The head gives the type, both lengths, rules kept, commands."
unfoldable pub plan_block : Contents → Made → List ℕ
plan_block c plan =
    block_text plan.script.type (length c.initial) (length c.target) plan.kept plan.script.commands

-- a block for each plan
unfoldable pub blocks_text : Contents → List Made → List ℕ
blocks_text c [] = []
blocks_text c (plan ∷ others) = plan_block c plan ++ blocks_text c others

unfoldable pub plan_text : Contents → List ℕ
plan_text c = blocks_text c (plans c)

-- what each program prints for the bytes of its standard input
unfoldable pub plan_printed : List ℕ → List ℕ
plan_printed file = elim (read_file file) [ accepted c ↦ plan_text c | refused r ↦ refused_text r ]

unfoldable pub judge_printed : List ℕ → List ℕ
judge_printed file =
    elim (read_to_judge file) [
      | accepted c ↦ verdict_text (verdict (length c.catalogue) c.initial c.target (commands_of c.script))
      | refused r ↦ refused_text r
    ]
