use Prim.Native.Nat.{ℕ}
use mathlib.Core.Path.{◌≡◌}
use mathlib.Core.List.{List}
use Rattle.policy.proofs.Front.{Given}
use Rattle.running.specs.Running.{view}
use Rattle.places.specs.Places.{Says}
use Rattle.first_stage.proofs.FirstStage.{Turn}
use Rattle.first_stage.proofs.stage_one.Given as goal

abbrev pub invariant-loop-r : goal.invariant-loop-r
invariant-loop-r l =
    (initial kept : List ℕ) → view l.initial.stage.list ≡ initial → Says l.of initial → Says l.kept_of kept
    → Given 1024 initial l.r-items kept → Turn initial l.r-items kept l.initial.field l.stage l.field l.r-index
