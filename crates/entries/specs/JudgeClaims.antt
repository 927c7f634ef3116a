-- What a customer buys of the judge's entries: the table of verdicts, and what 32 and 31 say of flows, for a file and for field values. Each
-- claim is a statement about the whole answer; proofs/JudgeClaims.antt has, for each, a proof of the same name in small letters with hyphens.
-- Assumes nothing.
use Rattle.std.specs.Prelude.{Result, ℕ, ◌≤◌, ◌<◌, ◌≡◌, ◌↔◌, List, [], ◌∷◌, length}
use Rattle.std.proofs.Math.Option.{some}
use Rattle.policy.specs.Policy.{Policy}
use Rattle.policy.specs.Claims.{DecidesAsOne, KeepsTheDefault}
use Rattle.policy.specs.declared.Command.{Command}
use Rattle.deployment.specs.Checked.{refusal_numbers}
use Rattle.deployment.specs.Contents.{Contents, initial_policy, target_policy}
use Rattle.deployment.specs.File.{Reading, accepted, refused, needs_script, read_to_judge}
use Rattle.deployment.specs.FieldValues.{FieldValues, read_values}
use Rattle.deployment.specs.Properties.{AreBytes}
use Rattle.deployment.specs.Claims.{AreValues}
use Rattle.deployment.specs.declared.Refusal.{Refusal}
use Rattle.replay.specs.Answers.{commands_of}
use Rattle.judge.specs.Answers.{judged_numbers}
use Rattle.judge.specs.Claims.{Row}
use Rattle.policy.specs.declared.Verdict.{Verdict}
use Rattle.entries.specs.Answers.{judged_reading}

-- what is accepted has a property of its count of rules, its two policies and its commands
abbrev pub Accepts : (ℕ → Policy → Policy → List Command → Type 0) → Reading → Type 0
Accepts P reading = (c : Contents) × (reading ≡ accepted c) × P (length c.catalogue) (initial_policy c) (target_policy c) (commands_of c.script)

-- of what is read of a file, of field values, and of those with a script among them
abbrev pub OfEach : (Reading → Type 0) → Type 0
OfEach P =
    ((file : List ℕ) → AreBytes file → P (read_to_judge file))
    × ((v : FieldValues) → AreValues v → P (read_values v))
    × ((v : FieldValues) → AreValues v → P (needs_script 0 (read_values v)))

-- Where a script is given, there is nothing more to turn away: what is judged is what is read.
abbrev pub ScriptGiven : Type 0
ScriptGiven = (v : FieldValues) (script : List ℕ) → v.script ≡ some script → needs_script 0 (read_values v) ≡ read_values v

-- Numbers from 20 to 49 are verdicts: one is the answer, with its values, exactly when its row of the table says so.
abbrev pub ByTable : Result Verdict Refusal → Reading → Type 0
ByTable answer reading =
    (number : ℕ) (values : List ℕ) → 20 ≤ number → number < 50
    → (judged_numbers answer ≡ number ∷ values) ↔ Accepts (λ size i t script. Row size i.list t.list script (number ∷ values)) reading

abbrev pub VerdictByTable : Type 0
VerdictByTable = OfEach (λ reading. ByTable (judged_reading reading) reading)

-- The others are refusals: one is the answer exactly when what is read is turned away with it.
abbrev pub AsRead : Result Verdict Refusal → Reading → Type 0
AsRead answer reading = (refusal : Refusal) → (judged_numbers answer ≡ refusal_numbers refusal) ↔ (reading ≡ refused refusal)

abbrev pub TurnedAsRead : Type 0
TurnedAsRead = OfEach (λ reading. AsRead (judged_reading reading) reading)

-- Demand 2: after 32, each flow is always decided as one of the two policies decides it.
abbrev pub AfterSafe : Result Verdict Refusal → Reading → Type 0
AfterSafe answer reading = judged_numbers answer ≡ 32 ∷ [] → Accepts DecidesAsOne reading

abbrev pub SafeForFlows : Type 0
SafeForFlows = OfEach (λ reading. AfterSafe (judged_reading reading) reading)

-- Demand 2: after 31, "no flow that both policies deny is ever permitted"; with default permit, "no flow that both policies permit is ever
-- denied".
abbrev pub AfterNotFull : Result Verdict Refusal → Reading → Type 0
AfterNotFull answer reading = judged_numbers answer ≡ 31 ∷ [] → Accepts KeepsTheDefault reading

abbrev pub NotFullForFlows : Type 0
NotFullForFlows = OfEach (λ reading. AfterNotFull (judged_reading reading) reading)
