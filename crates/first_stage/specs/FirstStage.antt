-- What the planner for insert, delete and move holds in the first stage, in the words of the policy crate's definition: between its steps, and what
-- it leaves at the end. Assumes nothing.
use Rattle.std.specs.Prelude.{ℕ, ◌+◌, ◌<◌, ◌≡◌, Bool, true, false, cond, not, List, [], ◌∷◌, ◌++◌, map, length, get_or}
use Rattle.policy.specs.Lists.{mem}
use Rattle.policy.specs.Properties.{In}
use Rattle.policy.specs.Policy.{most_rules}
use Rattle.policy.specs.InsertDeleteMove.{Standing, settled, waiting, rule_of, Halves, Taken, inserted, reached, raised, left, first_stage}
use Rattle.running.specs.Running.{view}
use Rattle.plans.specs.Sending.{Sent}
use Rattle.plans.specs.Marked.{Marked}
use Rattle.first_stage.specs.declared.Stage.{Stage}

-- the settled rules of a front
unfoldable pub settled_in : List Standing → List ℕ
settled_in [] = []
settled_in (settled r ∷ front) = r ∷ settled_in front
settled_in (waiting r ∷ front) = settled_in front

-- the running list in the first stage as the planner holds it
pub record Stands (stage : Stage) (h : Halves) : Type 0 where
  pub is : view stage.list ≡ map rule_of h.front ++ h.rest
  pub counted : stage.front ≡ length h.front
  pub slots : length stage.settled ≡ most_rules
  pub marks : Marked stage.settled (settled_in h.front)

-- one rule of the target, by the four cases in their order: whether it is in the initial policy, and whether it is kept
unfoldable pub takes : Bool → Bool → Halves → ℕ → Taken
takes old keep h r =
    cond (not old) (inserted h r)
    (cond keep (reached h r)
    (cond (mem r h.rest) (raised h r)
    (left h)))

-- what is done for one rule of the target: the stage that follows, and what is put into the field
pub record Did (stage : Stage) (field : List ℕ) (one : Taken) (next : Stage) (written : List ℕ) : Type 0 where
  pub stands : Stands next one.next
  pub counted : next.sent ≡ stage.sent + length one.sent
  pub sent : Sent field stage.sent one.sent written

-- that is so for every list as the planner holds it, where a kept rule stands in the rest
abbrev pub Took : Stage → ℕ → Bool → Bool → List ℕ → Stage → List ℕ → Type 0
Took stage r old keep field next written =
    (h : Halves) → Stands stage h → (keep ≡ true → In r h.rest) → Did stage field (takes old keep h r) next written

-- the list as the second stage takes it: each rule with its mark
unfoldable pub standing_by : List Bool → ℕ → Standing
standing_by marks r = cond (get_or marks r false) (settled r) (waiting r)

unfoldable pub front_of : Stage → List Standing
front_of stage = map (standing_by stage.settled) (view stage.list)

-- what the first stage leaves, and what it puts into the field
pub record FirstStage (initial target kept field : List ℕ) (stage : Stage) (written : List ℕ) : Type 0 where
  pub front : front_of stage ≡ (first_stage initial kept target).next.front
  pub inside : (r : ℕ) → In r (view stage.list) → r < most_rules
  pub counted : stage.sent ≡ length (first_stage initial kept target).sent
  pub sent : Sent field 0 (first_stage initial kept target).sent written
