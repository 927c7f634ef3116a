use Prim.Native.Nat.{ℕ, ◌≤◌}
use mathlib.Core.Path.{◌≡◌}
use mathlib.Core.List.{List}
use lib.ListN.{length}
use Rattle.policy.specs.Properties.{Distinct}
use Rattle.places.specs.Places.{Says}
use Rattle.insert_delete_move.proofs.OwnChoice.{Chosen}
use Rattle.insert_delete_move.proofs.own_choice.Given as goal

abbrev pub invariant-loop-r : goal.invariant-loop-r
invariant-loop-r l =
    (length l.kept ≡ 1024)
    × (l.count ≤ l.r-index)
    × ((initial : List ℕ) → Says l.of initial → Distinct initial → Chosen initial l.r-items l.kept l.count l.last l.r-index)
