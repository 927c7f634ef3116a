-- What a customer buys of the texts: none is longer than the place that the programs lend, so no program is turned away for room. Each claim
-- is a statement; proofs/Claims.antt has, for each, a proof of the same name in small letters with hyphens. Assumes nothing.
use Rattle.std.specs.Prelude.{ℕ, ◌≤◌, List, length}
use Rattle.lines.specs.Printing.{IsFile}
use Rattle.listing.specs.Text.{plan_printed, judge_printed}
use Rattle.listing.specs.Printing.{most_text}

abbrev pub PlanTextFits : Type 0
PlanTextFits = (file : List ℕ) → IsFile file → length (plan_printed file) ≤ most_text

abbrev pub JudgeTextFits : Type 0
JudgeTextFits = (file : List ℕ) → IsFile file → length (judge_printed file) ≤ most_text
