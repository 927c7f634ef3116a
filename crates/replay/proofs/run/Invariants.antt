use mathlib.Core.Path.{◌≡◌}
use lib.ListN.{drop}
use Rattle.policy.specs.Replay.{replay_from, replay}
use Rattle.deployment.specs.Values.{script_of}
use Rattle.running.specs.Running.{view}
use Rattle.replay.specs.Stepping.{Sound}
use Rattle.replay.specs.Answers.{commands_of}
use Rattle.replay.proofs.run.Given as goal

abbrev pub invariant-loop-k : goal.invariant-loop-k
invariant-loop-k l =
    Sound l.size (view l.state.list) l.state.places.of
    × (replay l.size (view l.initial.state.list) (commands_of (script_of l.script)) ≡ replay_from l.size l.k (view l.state.list) (drop l.k (commands_of (script_of l.script))))
