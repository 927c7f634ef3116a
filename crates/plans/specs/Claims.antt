-- What a customer buys of the planners, about the definitions of their answers for accepted contents: what stands in the lent place is a
-- script that reads back, with all that the theory says of it. Each claim is a statement; proofs/Claims.antt has, for each, a proof of the
-- same name in small letters with hyphens, and crate `entries` says it of each entry. Assumes nothing.
use Rattle.std.specs.Prelude.{Result, Ok, Err, ℕ, ◌+◌, ◌*◌, ◌≤◌, ◌≡◌, ◌⊎◌, ◌↔◌, true, List, [], ◌∷◌, length, drop}
use Rattle.std.proofs.Math.Option.{some}
use Rattle.policy.specs.Lists.{common}
use Rattle.policy.specs.Policy.{Matching}
use Rattle.policy.specs.Command.{of_type}
use Rattle.policy.specs.Replay.{policies}
use Rattle.policy.specs.AppendDelete.{kept_run, plan_one}
use Rattle.policy.specs.InsertDeleteMove.{kept_two, plan_two, moves_in_place}
use Rattle.policy.specs.Judge.{verdict, verdict_numbers}
use Rattle.policy.specs.Properties.{Leads}
use Rattle.policy.specs.Claims.{KeepsTheDefault, ChangesOnce, change_point}
use Rattle.policy.specs.declared.Command.{Command}
use Rattle.deployment.specs.Bytes.{number, part}
use Rattle.deployment.specs.Values.{script_of}
use Rattle.deployment.specs.Contents.{Contents, initial_policy, target_policy}
use Rattle.deployment.specs.File.{script_tag, head_bytes}
use Rattle.deployment.specs.Properties.{Valid}
use Rattle.deployment.specs.Checked.{refusal_numbers}
use Rattle.deployment.specs.declared.Refusal.{Refusal}
use Rattle.plans.specs.Sending.{field_width}
use Rattle.plans.specs.Plans.{script_field, made_one, made_two, planned_numbers, placed_plan}
use Rattle.plans.specs.declared.Plan.{Plan}

-- a script field at the front of a place: tag 05, the length, and a value that reads back as these commands, as many as the answer counts;
-- "the rest keep theirs"
pub record Holds (type : ℕ) (commands : List Command) (plan : Plan) (before after : List ℕ) : Type 0 where
  pub tag : number (part 0 1 after) ≡ script_tag
  pub size : head_bytes + number (part 1 2 after) ≡ plan.bytes
  pub reads : script_of (part head_bytes (number (part 1 2 after)) after) ≡ some (record { type = type; commands = commands })
  pub counted : plan.commands ≡ length commands
  pub rest : drop plan.bytes after ≡ drop plan.bytes before

-- a plan of one type, by its commands and how many rules it keeps: these commands stand in the place, and lead from the initial policy to
-- the target
pub record HoldsPlan (type : ℕ) (commands : List Command) (kept : ℕ) (c : Contents) (plan : Plan) (before after : List ℕ) : Type 0 where
  pub written : Holds type commands plan before after
  pub keeps : plan.kept ≡ kept
  pub reaches : Leads (length c.catalogue) c.initial commands c.target

-- "Script for append and delete": no script of its kind is shorter, the judge gives it 31 or 32, and no flow to which both policies give their
-- default is ever given the other action
pub record HoldsOne (c : Contents) (plan : Plan) (before after : List ℕ) : Type 0 where
  pub holds : HoldsPlan 1 (plan_one c.initial c.target) (length (kept_run c.initial c.target)) c plan before after
  pub count : plan.commands + 2 * plan.kept ≡ length c.initial + length c.target
  pub fewest : (other : List Command) → of_type 1 other ≡ true → Leads (length c.catalogue) c.initial other c.target
      → plan.commands ≤ length other
  pub judged : (verdict_numbers (verdict (length c.catalogue) c.initial c.target (plan_one c.initial c.target)) ≡ 31 ∷ [])
      ⊎ (verdict_numbers (verdict (length c.catalogue) c.initial c.target (plan_one c.initial c.target)) ≡ 32 ∷ [])
  pub spared : KeepsTheDefault (length c.catalogue) (initial_policy c) (target_policy c) (plan_one c.initial c.target)

abbrev pub OneHolds : Type 0
OneHolds =
    (c : Contents) (place : List ℕ) (plan : Plan) → Valid c → (placed_plan (made_one c) place).answer ≡ Ok plan
    → HoldsOne c plan place (placed_plan (made_one c) place).place

-- "Script for insert, delete and move": the judge gives it 32, and each flow has one point of change
pub record HoldsTwo (c : Contents) (plan : Plan) (before after : List ℕ) : Type 0 where
  pub holds : HoldsPlan 2 (plan_two c.initial c.target c.keep) (length (kept_two c.initial c.target c.keep)) c plan before after
  pub count : plan.commands + (moves_in_place c.initial c.target c.keep + (length (common c.initial c.target) + plan.kept))
      ≡ length c.initial + length c.target
  pub judged : verdict_numbers (verdict (length c.catalogue) c.initial c.target (plan_two c.initial c.target c.keep)) ≡ 32 ∷ []
  pub once : (m : Matching)
      → ChangesOnce m (length c.catalogue) (initial_policy c) (target_policy c) (plan_two c.initial c.target c.keep)
      (change_point m (target_policy c) (policies (length c.catalogue) (initial_policy c) (plan_two c.initial c.target c.keep)))

abbrev pub TwoHolds : Type 0
TwoHolds =
    (c : Contents) (place : List ℕ) (plan : Plan) → Valid c → (placed_plan (made_two c) place).answer ≡ Ok plan
    → HoldsTwo c plan place (placed_plan (made_two c) place).place

-- The numbers of an answer tell its refusal.
abbrev pub PlannedNumbersSay : Type 0
PlannedNumbersSay = (answer : Result Plan Refusal) (refusal : Refusal) → (planned_numbers answer ≡ refusal_numbers refusal) ↔ (answer ≡ Err refusal)

-- A place of 5,124 bytes has room for every plan of either type.
abbrev pub enough_bytes : ℕ
enough_bytes = field_width

abbrev pub RoomForEvery : Type 0
RoomForEvery =
    (c : Contents) → Valid c
    → (length (script_field (made_one c)) ≤ enough_bytes) × (length (script_field (made_two c)) ≤ enough_bytes)
