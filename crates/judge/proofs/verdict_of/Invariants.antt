use mathlib.Core.Path.{◌≡◌}
use lib.ListN.{drop}
use Rattle.policy.specs.Judge.{verdict}
use Rattle.deployment.specs.Values.{numbers_of, script_of}
use Rattle.running.specs.Running.{view}
use Rattle.replay.specs.Stepping.{Sound}
use Rattle.replay.specs.Answers.{commands_of}
use Rattle.judge.proofs.Verdicts.{rest}
use Rattle.judge.proofs.verdict_of.Given as goal

abbrev pub invariant-loop-k : goal.invariant-loop-k
invariant-loop-k l =
    Sound l.size (view l.state.list) l.state.places.of
    × (verdict l.size (numbers_of l.initial') (numbers_of l.target) (commands_of (script_of l.script))
    ≡ rest (numbers_of l.initial') (numbers_of l.target) l.size l.found l.k (view l.state.list) (drop l.k (commands_of (script_of l.script))))
