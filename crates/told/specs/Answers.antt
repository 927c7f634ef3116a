-- What a caller is told: a number and the values that belong to it, for each answer of the entries; and what the lent words hold then.
-- Assumes nothing.
use Rattle.std.specs.Prelude.{Result, Ok, Err, Option as CodeOption, Some, None, ℕ, ◌≡◌, List, [], ◌∷◌, ◌++◌, drop, get_or}
use Rattle.std.proofs.lemmas.List.Edits.{sets}
use Rattle.policy.specs.Judge.{verdict_numbers}
use Rattle.policy.specs.declared.Decision.{Decision}
use Rattle.policy.specs.declared.Verdict.{Verdict}
use Rattle.policy.specs.Command.{fault_number}
use Rattle.deployment.specs.Checked.{why_number}
use Rattle.deployment.specs.Values.{action_number}
use Rattle.deployment.specs.declared.Refusal.{Refusal}
use Rattle.deployment.specs.declared.Why.{Why}
use Rattle.plans.specs.declared.Plan.{Plan}
use Rattle.reader.specs.declared.Layout.{Layout}
use Rattle.reader.specs.declared.Span.{Span}
use Rattle.replay.specs.declared.Stop.TheVariants as stop
use Rattle.last_list.specs.Last.{Ran}

-- a number, 0 or one of document 01's, and the values that belong to it
pub record Told : Type 0 where
  pub number : ℕ
  pub values : List ℕ

abbrev pub told : ℕ → List ℕ → Told
told number values = record { number = number; values = values }

-- "Turned away": the number and the position
abbrev pub turned_told : Refusal → Told
turned_told refusal = told (why_number refusal.why) (refusal.at ∷ [])

-- whether a value is there, its start and its size; 0 for each of one that is absent
abbrev pub span_told : CodeOption Span → List ℕ
span_told None = 0 ∷ 0 ∷ 0 ∷ []
span_told (Some span) = 1 ∷ span.start ∷ span.size ∷ []

-- where the values of an accepted file stand
abbrev pub layout_told : Layout → Told
layout_told l =
    told 0
    (l.rules
    ∷ l.initial.start
    ∷ l.initial.size
    ∷ l.target.start
    ∷ l.target.size
    ∷ span_told l.default ++ span_told l.keep ++ span_told l.script)

abbrev pub read_told : Result Layout Refusal → Told
read_told (Ok layout) = layout_told layout
read_told (Err refusal) = turned_told refusal

-- "all at position 0"
abbrev pub checked_told : Result Unit Why → Told
checked_told (Ok done) = told 0 []
checked_told (Err why) = turned_told (record { why = why; at = 0 })

-- bytes written
abbrev pub written_told : Result ℕ Refusal → Told
written_told (Ok n) = told 0 (n ∷ [])
written_told (Err refusal) = turned_told refusal

-- "The answer is the action and the place": "0 deny, 1 permit"
abbrev pub decision_told : Decision → Told
decision_told d = told 0 (action_number d.action ∷ d.place ∷ [])

abbrev pub decided_told : Result Decision Refusal → Told
decided_told (Ok d) = decision_told d
decided_told (Err refusal) = turned_told refusal

-- bytes of the last list; or 20 to 23 and the step
abbrev pub ran_told : Ran → Told
ran_told (Ok n) = told 0 (n ∷ [])
ran_told (Err (stop.Broken fault step)) = told (fault_number fault) (step ∷ [])
ran_told (Err (stop.Turned refusal)) = turned_told refusal

-- rules kept, commands, bytes
abbrev pub planned_told : Result Plan Refusal → Told
planned_told (Ok plan) = told 0 (plan.kept ∷ plan.commands ∷ plan.bytes ∷ [])
planned_told (Err refusal) = turned_told refusal

-- the verdict's number, and its values
abbrev pub verdict_told : Verdict → Told
verdict_told v = told (get_or (verdict_numbers v) 0 0) (drop 1 (verdict_numbers v))

abbrev pub judged_told : Result Verdict Refusal → Told
judged_told (Ok v) = verdict_told v
judged_told (Err refusal) = turned_told refusal

-- The number that is returned, and every word of the lent answer: as many values as have room, the other words as they were.
pub record Tells (t : Told) (returned : ℕ) (before after : List ℕ) : Type 0 where
  pub number : returned ≡ t.number
  pub answer : after ≡ sets before 0 t.values
