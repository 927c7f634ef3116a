use Prim.Native.Nat.{ℕ}
use mathlib.Core.List.{List}
use Rattle.policy.specs.Claims.{Admitted}
use Rattle.running.specs.Running.{view}
use Rattle.places.specs.Places.{Says}
use Rattle.second_stage.proofs.SecondStage.{Pass}
use Rattle.second_stage.proofs.stage_two.Given as goal

abbrev pub invariant-loop-at : goal.invariant-loop-at
invariant-loop-at l =
    (target : List ℕ) → Admitted 1024 target → Says l.to target → Pass target l.settled (view l.initial.list) l.initial.field l.initial.sent l.list l.sent l.field l.at
