-- What a customer buys: demands 2 and 3 about the definitions, sentence by sentence. Each claim is a statement; proofs/ has, for
-- each, a proof of the same name in small letters with hyphens. A flow enters only through a `Matching`: any match of rules and the flow, any
-- actions of the rules. What is said of flows is said of policies, under either default; what commands, plans and verdicts are is said of
-- their lists, and no default has a part in it. Assumes nothing.
use Rattle.std.specs.Prelude.{ℕ, suc, ◌+◌, ◌*◌, ◌≤◌, ◌<◌, ◌≡◌, Bool, true, false, cond, ◌⊎◌, ◌↔◌, ◌≢◌, length, get_or}
use mathlib.Core.List.{List, [], ◌∷◌, ◌++◌, Memᴰ, Sublistᴰ}
use Rattle.std.proofs.Math.Option.{Option, none, some}
use Rattle.policy.specs.Lists.{common}
use Rattle.policy.specs.Policy.{Matching, Policy, decide, decided, same_action, most_rules, most_listed}
use Rattle.policy.specs.Command.{of_type, fault_number}
use Rattle.policy.specs.Replay.{ended, replay, lists, policies}
use Rattle.policy.specs.AppendDelete.{kept_run, plan_one}
use Rattle.policy.specs.InsertDeleteMove.{kept_two, plan_two, moves_in_place}
use Rattle.policy.specs.Judge.{verdict, verdict_numbers}
use Rattle.policy.specs.Properties.{Precedes, Untouched, Allows, ScriptType}
use Rattle.policy.specs.Properties.{In, Distinct, Supported, Ordered, Full, Fails, Leads, After, Runs, OneDefault, StandsAt}
use Rattle.policy.specs.declared.Action.{Action}
use Rattle.policy.specs.declared.Action.TheVariants.{Deny, Permit}
use Rattle.policy.specs.declared.Command.{Command}
use Rattle.policy.specs.declared.Command.TheVariants.{App, DelRule, Ins, DelPlace, Mov}
use Rattle.policy.specs.declared.Decision.{Decision}
use Rattle.policy.specs.declared.Fault.{Fault}
use Rattle.policy.specs.declared.Verdict.{Verdict}

-- the list of a policy that the reader accepts: its numbers are inside the catalogue (8), and no rule is named twice (9)
pub record Admitted (size : ℕ) (l : List ℕ) : Type 0 where
  pub inside : (r : ℕ) → In r l → r < size
  pub distinct : Distinct l

-- a keep list that the reader accepts occurs in order in both policies (10); an absent one asks for the planner's own choice
abbrev pub Keepable : List ℕ → List ℕ → Option (List ℕ) → Type 0
Keepable initial target none = Unit {0}
Keepable initial target (some keep) = Sublistᴰ keep initial × Sublistᴰ keep target

-- two policies and a keep list that the reader accepts
pub record Accepted (size : ℕ) (initial target : List ℕ) (keep : Option (List ℕ)) : Type 0 where
  pub first : Admitted size initial
  pub last : Admitted size target
  pub keepable : Keepable initial target keep

-- "go through the target in order and keep each common rule that stands in the initial policy after the last one kept": a rule of
-- the target is kept exactly when it is in the initial policy and every rule kept before it stands before it there
pub record OwnChoice (initial target chosen : List ℕ) : Type 0 where
  pub in_order : Sublistᴰ chosen target
  pub each : (r : ℕ) → In r target
      → In r chosen ↔ (In r initial × ((x : ℕ) → In x chosen → Precedes x r target → Precedes x r initial))

-- "Kept: the keep list .. If absent: .."
abbrev pub ToKeep : List ℕ → List ℕ → Option (List ℕ) → List ℕ → Type 0
ToKeep initial target none kept = OwnChoice initial target kept
ToKeep initial target (some keep) kept = kept ≡ keep

-- Decisions. "A flow is decided by the first rule that matches": the rule at the place matches, and no earlier one does ..
pub record FirstMatch (m : Matching) (l : List ℕ) (place rule : ℕ) : Type 0 where
  pub stands : StandsAt l place rule
  pub matches : m.hit rule ≡ true
  pub first : (before r : ℕ) → before < place → StandsAt l before r → m.hit r ≡ false

-- .. "if none does"
abbrev pub NoMatch : Matching → List ℕ → Type 0
NoMatch m l = (r : ℕ) → In r l → m.hit r ≡ false

-- "The answer is the action and the place of that rule, places counted from 1, or place 0 for the default."
abbrev pub Answers : Matching → Policy → Decision → Type 0
Answers m p d =
    ((rule : ℕ) × FirstMatch m p.list d.place rule × (d.action ≡ m.action rule))
    ⊎ (NoMatch m p.list × (d.place ≡ 0) × (d.action ≡ p.default))

-- A decision is the one answer that these words allow.
abbrev pub DecisionIsFirstMatch : Type 0
DecisionIsFirstMatch = (m : Matching) (p : Policy) (d : Decision) → (decide m p ≡ d) ↔ Answers m p d

-- Its place is 0 exactly when no rule matches.
abbrev pub PlaceZeroIsDefault : Type 0
PlaceZeroIsDefault = (m : Matching) (p : Policy) → ((decide m p).place ≡ 0) ↔ NoMatch m p.list

-- three policies under one default: the initial one, the target and one between
abbrev pub Between : Policy → Policy → Policy → Type 0
Between initial target p = OneDefault initial target × OneDefault p initial

-- A policy whose list is ordered and full decides every flow as the initial policy or as the target does.
abbrev pub OrderedAndFullDecidesAsOne : Type 0
OrderedAndFullDecidesAsOne =
    (m : Matching) (initial target p : Policy) → Between initial target p
    → Distinct p.list → Ordered initial.list target.list p.list → Full initial.list target.list p.list
    → (decided m p ≡ decided m initial) ⊎ (decided m p ≡ decided m target)

-- A policy whose list is ordered gives the default to every flow to which both policies give it: under default deny it permits no flow
-- that both deny, under default permit it denies no flow that both permit.
abbrev pub OrderedKeepsTheDefault : Type 0
OrderedKeepsTheDefault =
    (m : Matching) (initial target p : Policy) → Between initial target p → Distinct p.list → Ordered initial.list target.list p.list
    → decided m initial ≡ p.default → decided m target ≡ p.default → decided m p ≡ p.default

-- Replay. A script replays to a list exactly when each command in turn makes of the list what document 01 says of it ..
abbrev pub ReplayIsLeads : Type 0
ReplayIsLeads =
    (size : ℕ) (initial l : List ℕ) (script : List Command) → (replay size initial script ≡ ended l) ↔ Leads size initial script l

-- .. and the lists on the way are, in order, those after 0, 1, 2 .. commands: there is no other, and none is left out ..
abbrev pub ListsAreAfter : Type 0
ListsAreAfter =
    (size : ℕ) (initial : List ℕ) (script : List Command) (k : ℕ) (l : List ℕ)
    → After size initial script k l → (k < length (lists size initial script)) × (get_or (lists size initial script) k [] ≡ l)

abbrev pub EachListIsAfter : Type 0
EachListIsAfter =
    (size : ℕ) (initial : List ℕ) (script : List Command) (k : ℕ)
    → k < length (lists size initial script) → After size initial script k (get_or (lists size initial script) k [])

-- the first so many commands pass, and no more: there is a list after them, and none after the next one
pub record Passes (size : ℕ) (initial : List ℕ) (script : List Command) (commands : ℕ) : Type 0 where
  pub last : List ℕ
  pub after : After size initial script commands last
  pub no_more : (l : List ℕ) → ¬ After size initial script (suc commands) l

-- .. "the initial one (step 0) and the one after each command": one list more than commands that pass.
abbrev pub ListsAreOneMore : Type 0
ListsAreOneMore =
    (size : ℕ) (initial : List ℕ) (script : List Command) (commands : ℕ)
    → Passes size initial script commands ↔ (length (lists size initial script) ≡ suc commands)

-- Numbers. Verdicts and faults are promised by document 01's numbers and their values, and no two answers share them: what is said of the
-- numbers is said of the answer.
abbrev pub FaultNumbersDiffer : Type 0
FaultNumbersDiffer = (f g : Fault) → fault_number f ≡ fault_number g → f ≡ g

abbrev pub VerdictNumbersDiffer : Type 0
VerdictNumbersDiffer = (v w : Verdict) → verdict_numbers v ≡ verdict_numbers w → v ≡ w

-- Verdicts 20 to 23: the first command that fails, its number and its step.
pub record BreaksAt (size : ℕ) (initial : List ℕ) (script : List Command) (number at : ℕ) : Type 0 where
  pub passed : List Command
  pub failing : Command
  pub others : List Command
  pub running : List ℕ
  pub is : script ≡ passed ++ (failing ∷ others)
  pub counted : at ≡ suc (length passed)
  pub leads : Leads size initial passed running
  pub fails : Fails size running failing number

abbrev pub VerdictBroken : Type 0
VerdictBroken =
    (size : ℕ) (initial target : List ℕ) (script : List Command) (number at : ℕ) → number < 24
    → (verdict_numbers (verdict size initial target script) ≡ number ∷ at ∷ []) ↔ BreaksAt size initial script number at

-- Verdict 24: all commands pass, and the last list isn't the target.
abbrev pub VerdictElsewhere : Type 0
VerdictElsewhere =
    (size : ℕ) (initial target : List ℕ) (script : List Command) (n : ℕ)
    → (verdict_numbers (verdict size initial target script) ≡ 24 ∷ n ∷ [])
    ↔ ((l : List ℕ) × (n ≡ length script) × Leads size initial script l × (l ≢ target))

-- Verdict 30: the replay reaches the target; the step is the first list that isn't ordered, the place its first unsupported one.
pub record FirstUnsupported (initial target l : List ℕ) (place : ℕ) : Type 0 where
  pub rule : ℕ
  pub stands : StandsAt l place rule
  pub unsupported : ¬ Supported initial target l rule
  pub first : (before r : ℕ) → before < place → StandsAt l before r → Supported initial target l r

pub record FirstUnordered (size : ℕ) (initial target : List ℕ) (script : List Command) (at place : ℕ) : Type 0 where
  pub running : List ℕ
  pub after : After size initial script at running
  pub unsupported : FirstUnsupported initial target running place
  pub first : (k : ℕ) (l : List ℕ) → k < at → After size initial script k l → Ordered initial target l

abbrev pub VerdictUnordered : Type 0
VerdictUnordered =
    (size : ℕ) (initial target : List ℕ) (script : List Command) (at place : ℕ) → Distinct initial → Distinct target
    → (verdict_numbers (verdict size initial target script) ≡ 30 ∷ at ∷ place ∷ [])
    ↔ (Leads size initial script target × FirstUnordered size initial target script at place)

-- every list on the way is ordered
abbrev pub AllOrdered : ℕ → List ℕ → List ℕ → List Command → Type 0
AllOrdered size initial target script = (k : ℕ) (l : List ℕ) → After size initial script k l → Ordered initial target l

-- Verdict 31: the replay reaches the target, all lists are ordered, some list isn't full.
abbrev pub VerdictNotFull : Type 0
VerdictNotFull =
    (size : ℕ) (initial target : List ℕ) (script : List Command) → Distinct initial → Distinct target
    → (verdict_numbers (verdict size initial target script) ≡ 31 ∷ [])
    ↔ (Leads size initial script target
    × AllOrdered size initial target script
    × ((k : ℕ) × (l : List ℕ) × After size initial script k l × ¬ Full initial target l))

-- Verdict 32: the replay reaches the target, and all lists are ordered and full.
abbrev pub VerdictSafe : Type 0
VerdictSafe =
    (size : ℕ) (initial target : List ℕ) (script : List Command) → Distinct initial → Distinct target
    → (verdict_numbers (verdict size initial target script) ≡ 32 ∷ [])
    ↔ (Leads size initial script target
    × AllOrdered size initial target script
    × ((k : ℕ) (l : List ℕ) → After size initial script k l → Full initial target l))

-- A safe script: every policy on its way decides every flow as one of the two policies does.
abbrev pub DecidesAsOne : ℕ → Policy → Policy → List Command → Type 0
DecidesAsOne size initial target script =
    (m : Matching) (k : ℕ) (p : Policy) → Runs size initial script k p → (decided m p ≡ decided m initial) ⊎ (decided m p ≡ decided m target)

abbrev pub SafeDecidesAsOne : Type 0
SafeDecidesAsOne =
    (size : ℕ) (initial target : Policy) (script : List Command) → OneDefault initial target → Distinct initial.list → Distinct target.list
    → verdict_numbers (verdict size initial.list target.list script) ≡ 32 ∷ [] → DecidesAsOne size initial target script

-- no flow to which both policies give one action is ever given the other
abbrev pub Never : Action → Action → ℕ → Policy → Policy → List Command → Type 0
Never both ever size initial target script =
    (m : Matching) → decided m initial ≡ both → decided m target ≡ both
    → (k : ℕ) (p : Policy) → Runs size initial script k p → ¬ (decided m p ≡ ever)

-- 01: "no flow that both policies deny is ever permitted"; 02, L1: with default permit, "no flow that both policies permit is ever denied"
pub record KeepsTheDefault (size : ℕ) (initial target : Policy) (script : List Command) : Type 0 where
  pub deny : initial.default ≡ Deny → Never Deny Permit size initial target script
  pub permit : initial.default ≡ Permit → Never Permit Deny size initial target script

abbrev pub NotFullKeepsTheDefault : Type 0
NotFullKeepsTheDefault =
    (size : ℕ) (initial target : Policy) (script : List Command) → OneDefault initial target → Distinct initial.list → Distinct target.list
    → verdict_numbers (verdict size initial.list target.list script) ≡ 31 ∷ [] → KeepsTheDefault size initial target script

-- "type byte 1 or 2"; "Type 1: .. `app r`, .. `del r`. Type 2: .. `ins i r`, .. `del i`, .. `mov i j`": the script types, and which of them
-- allows which command
pub record TypeAllows (type : ℕ) : Type 0 where
  pub types : ScriptType type ↔ ((type ≡ 1) ⊎ (type ≡ 2))
  pub app : (r : ℕ) → Allows type (App r) ↔ (type ≡ 1)
  pub del_rule : (r : ℕ) → Allows type (DelRule r) ↔ (type ≡ 1)
  pub ins : (i r : ℕ) → Allows type (Ins i r) ↔ (type ≡ 2)
  pub del_place : (i : ℕ) → Allows type (DelPlace i) ↔ (type ≡ 2)
  pub mov : (i j : ℕ) → Allows type (Mov i j) ↔ (type ≡ 2)

abbrev pub ScriptTypes : Type 0
ScriptTypes = (type : ℕ) → TypeAllows type

-- Append and delete. What is kept is a front part of the target, occurs in order in the initial policy, and is the longest that does.
abbrev pub KeptRunIsLongest : Type 0
KeptRunIsLongest =
    (initial target : List ℕ)
    → ((rest : List ℕ) × (target ≡ kept_run initial target ++ rest))
    × Sublistᴰ (kept_run initial target) initial
    × ((run rest : List ℕ) → target ≡ run ++ rest → Sublistᴰ run initial → length run ≤ length (kept_run initial target))

-- The script is of type 1, replays without a refusal and ends at the target.
abbrev pub PlanOneReaches : Type 0
PlanOneReaches =
    (size : ℕ) (initial target : List ℕ) → Admitted size initial → Admitted size target
    → (of_type 1 (plan_one initial target) ≡ true) × Leads size initial (plan_one initial target) target

-- "The count is initial + target − 2 × kept"
abbrev pub PlanOneCount : Type 0
PlanOneCount =
    (initial target : List ℕ) → Distinct initial
    → length (plan_one initial target) + 2 * length (kept_run initial target) ≡ length initial + length target

-- No command deletes or appends a rule that is kept.
abbrev pub PlanOneSparesKept : Type 0
PlanOneSparesKept =
    (size : ℕ) (initial target : List ℕ) → Admitted size initial → Admitted size target
    → Untouched size initial (plan_one initial target) (kept_run initial target)

-- "no type 1 sequence in which every command succeeds and whose last list is the target is shorter"
abbrev pub PlanOneFewest : Type 0
PlanOneFewest =
    (size : ℕ) (initial target : List ℕ) (script : List Command) → Distinct initial
    → of_type 1 script ≡ true → Leads size initial script target → length (plan_one initial target) ≤ length script

-- "every script of the type 1 planner gets 31 or 32"
abbrev pub PlanOneVerdict : Type 0
PlanOneVerdict =
    (size : ℕ) (initial target : List ℕ) → Admitted size initial → Admitted size target
    → (verdict_numbers (verdict size initial target (plan_one initial target)) ≡ 31 ∷ [])
    ⊎ (verdict_numbers (verdict size initial target (plan_one initial target)) ≡ 32 ∷ [])

-- On its way, under default deny, it permits no flow that both policies deny, and under default permit it denies none that both permit.
abbrev pub PlanOneKeepsTheDefault : Type 0
PlanOneKeepsTheDefault =
    (size : ℕ) (initial target : Policy) → OneDefault initial target → Admitted size initial.list → Admitted size target.list
    → KeepsTheDefault size initial target (plan_one initial.list target.list)

-- Insert, delete and move. The script is of type 2, replays without a refusal and ends at the target.
abbrev pub PlanTwoReaches : Type 0
PlanTwoReaches =
    (size : ℕ) (initial target : List ℕ) (keep : Option (List ℕ)) → Accepted size initial target keep
    → (of_type 2 (plan_two initial target keep) ≡ true) × Leads size initial (plan_two initial target keep) target

-- "The count is initial + target − common − kept, less the moves found already in place."
abbrev pub PlanTwoCount : Type 0
PlanTwoCount =
    (size : ℕ) (initial target : List ℕ) (keep : Option (List ℕ)) → Accepted size initial target keep
    → length (plan_two initial target keep)
    + (moves_in_place initial target keep + (length (common initial target) + length (kept_two initial target keep)))
    ≡ length initial + length target

-- What it keeps is the keep list, or its own choice where there is none ..
abbrev pub KeptAsAsked : Type 0
KeptAsAsked =
    (size : ℕ) (initial target : List ℕ) (keep : Option (List ℕ)) → Accepted size initial target keep
    → ToKeep initial target keep (kept_two initial target keep)

-- .. and no command inserts, deletes or moves a rule of that.
abbrev pub PlanTwoSparesKept : Type 0
PlanTwoSparesKept =
    (size : ℕ) (initial target : List ℕ) (keep : Option (List ℕ)) → Accepted size initial target keep
    → (kept : List ℕ) → ToKeep initial target keep kept → Untouched size initial (plan_two initial target keep) kept

-- It never sends a move that changes nothing.
abbrev pub PlanTwoMoves : Type 0
PlanTwoMoves =
    (size : ℕ) (initial target : List ℕ) (keep : Option (List ℕ)) → Accepted size initial target keep
    → (i j : ℕ) → Memᴰ (Mov i j) (plan_two initial target keep) → i ≢ j

-- "Every script of the type 2 planner gets 32"
abbrev pub PlanTwoVerdict : Type 0
PlanTwoVerdict =
    (size : ℕ) (initial target : List ℕ) (keep : Option (List ℕ)) → Accepted size initial target keep
    → verdict_numbers (verdict size initial target (plan_two initial target keep)) ≡ 32 ∷ []

-- the first policy on the way, counted from 0, that decides the flow as the target does
unfoldable pub change_point : Matching → Policy → List Policy → ℕ
change_point m target [] = 0
change_point m target (p ∷ way) = cond (same_action (decided m p) (decided m target)) 0 (suc (change_point m target way))

-- Demand 3, for either default: "each flow has a point in the script before which every list decides it as the initial list does, and from
-- which every list decides it as the target does". The point, a number of commands, is the first policy that decides as the target; it is 0
-- where the two policies agree.
pub record ChangesOnce (m : Matching) (size : ℕ) (initial target : Policy) (script : List Command) (point : ℕ) : Type 0 where
  pub within : point ≤ length script
  pub before : (k : ℕ) (p : Policy) → k < point → Runs size initial script k p → decided m p ≡ decided m initial
  pub from : (k : ℕ) (p : Policy) → point ≤ k → Runs size initial script k p → decided m p ≡ decided m target
  pub agreed : decided m initial ≡ decided m target → point ≡ 0

abbrev pub PlanTwoChangesOnce : Type 0
PlanTwoChangesOnce =
    (m : Matching) (size : ℕ) (initial target : Policy) (keep : Option (List ℕ)) → OneDefault initial target
    → Accepted size initial.list target.list keep
    → ChangesOnce m size initial target (plan_two initial.list target.list keep)
    (change_point m target (policies size initial (plan_two initial.list target.list keep)))

-- "I = T: no command of either type", whatever the keep list; "verdict 32"
abbrev pub NothingToDo : Type 0
NothingToDo =
    (size : ℕ) (initial : List ℕ) (keep : Option (List ℕ)) → Distinct initial
    → (plan_one initial initial ≡ [])
    × (plan_two initial initial keep ≡ [])
    × (verdict_numbers (verdict size initial initial []) ≡ 32 ∷ [])

-- Numbers. "A running list never exceeds 1,024, since its rules differ."
abbrev pub RunningListFits : Type 0
RunningListFits =
    (size : ℕ) (initial : List ℕ) (script : List Command) (k : ℕ) (l : List ℕ) → size ≤ most_rules → Admitted size initial
    → After size initial script k l → length l ≤ most_rules

-- A planned script of either type has at most 1,024 commands, and so fits a script field.
abbrev pub PlansFit : Type 0
PlansFit =
    (size : ℕ) (initial target : List ℕ) (keep : Option (List ℕ)) → Accepted size initial target keep
    → length initial ≤ most_listed → length target ≤ most_listed
    → (length (plan_one initial target) ≤ 1024) × (length (plan_two initial target keep) ≤ 1024)
