-- One step of the second stage of the planner for insert, delete and move, in the words of the policy crate's definition. Assumes nothing.
use Rattle.std.specs.Prelude.{ℕ, suc, ◌+◌, ◌≡◌, cond, List, [], ◌∷◌, ◌++◌, length}
use Rattle.policy.specs.Lists.{mem}
use Rattle.policy.specs.Policy.{most_rules}
use Rattle.policy.specs.Command.{placed}
use Rattle.policy.specs.InsertDeleteMove.{ahead}
use Rattle.policy.specs.declared.Command.{Command}
use Rattle.policy.specs.declared.Command.TheVariants.{DelPlace, Mov}
use Rattle.policy.specs.Claims.{Admitted}
use Rattle.running.specs.declared.Running.{Running}
use Rattle.running.specs.Running.{view}
use Rattle.places.specs.Places.{Says}
use Rattle.plans.specs.Sending.{Sent}

-- one waiting rule of the second stage, r at place i: the command for it, and the settled rules behind it then
unfoldable pub settling : List ℕ → ℕ → ℕ → List ℕ → Command
settling target i r done = cond (mem r target) (Mov i (i + ahead target r done)) (DelPlace i)

unfoldable pub settled_done : List ℕ → ℕ → List ℕ → List ℕ
settled_done target r done = cond (mem r target) (placed (suc (ahead target r done)) r done) done

-- what is done for it, whatever the target is whose places are given: the list that follows, and what is put into the field
abbrev pub Lowered : List ℕ → Running → ℕ → ℕ → ℕ → List ℕ → Running → List ℕ → Type 0
Lowered to list i r sent field next written =
    (target u done : List ℕ) → Admitted most_rules target → Says to target → view list ≡ u ++ (r ∷ done) → i ≡ suc (length u)
    → (view next ≡ u ++ settled_done target r done) × Sent field sent (settling target i r done ∷ []) written
