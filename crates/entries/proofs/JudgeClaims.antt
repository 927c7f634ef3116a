-- The claims about the judge's answers. The idea: what is read is valid, so its policies name no rule twice, and the claims about verdicts
-- apply. A number from 20 to 49 is a verdict's, any other a refusal's. Assumes nothing.
use Prim.Native.Nat.{ℕ, ◌≤◌, ◌<◌}
use native.Mathlib.Omega.{arith}
use mathlib.Core.Path.{◌≡◌, refl, ap}
use mathlib.Core.List.{List, [], ◌∷◌}
use mathlib.Core.Option.{some}
use lib.ListN.{length, get_or}
use Rattle.policy.specs.Judge.{verdict, verdict_numbers}
use Rattle.policy.specs.Policy.{Policy}
use Rattle.policy.specs.Properties.{Distinct, OneDefault}
use Rattle.policy.specs.Claims.{DecidesAsOne, KeepsTheDefault}
use Rattle.policy.specs.declared.Command.{Command}
use Rattle.policy.proofs.Plans.{safe_decides_as_one, not_full_keeps_the_default}
use Rattle.deployment.specs.Checked.{Checked, good, bad, refusal_numbers}
use Rattle.deployment.specs.Values.{script_fits}
use Rattle.deployment.specs.Contents.{Contents, initial_policy, target_policy, script_read}
use Rattle.deployment.specs.File.{Reading, accepted, refused, needs_script, read_to_judge}
use Rattle.deployment.specs.Properties.{There, Valid}
use Rattle.deployment.specs.declared.Why.{Why}
use Rattle.deployment.proofs.Numbers.{why_apart, refusal_numbers_differ}
use Rattle.deployment.specs.FieldValues.{
  FieldValues,
  catalogue_value,
  policy_value,
  default_value,
  keep_value,
  script_value,
  values_read,
  at_zero,
  read_values,
}
use Rattle.deployment.proofs.Tests.{Each, each_then, tested}
use Rattle.deployment.proofs.Values.{by_option}
use Rattle.deployment.proofs.Reader.{written_again}
use Rattle.deployment.proofs.FieldValues.{values_written_again}
use Rattle.reader.proofs.ToJudge.{scripted}
use Rattle.replay.specs.Answers.{commands_of}
use Rattle.judge.specs.Answers.{judged_numbers}
use Rattle.judge.specs.Claims.{Row}
use Rattle.judge.proofs.Claims.{verdict_no_refusal, verdict_by_row}
use Rattle.entries.specs.Answers.{judged_reading, judged_contents}
use Rattle.entries.proofs.Given.{turned_to_judge, script_asked}
use Rattle.entries.proofs.Claims.{any}
use Rattle.entries.specs.JudgeClaims.{Accepts, OfEach, ScriptGiven, ByTable, AsRead, AfterSafe, AfterNotFull}
use Rattle.entries.specs.JudgeClaims.{VerdictByTable, TurnedAsRead, SafeForFlows, NotFullForFlows}

-- a property that a verdict's numbers give to two policies under one default whose rules differ is one of what is accepted, for the answer
module _ (P : ℕ → Policy → Policy → List Command → Type 0) (number : ℕ) (values : List ℕ) (large : 20 ≤ number) (small : number < 50)
    (gives : (size : ℕ) (initial target : Policy) (script : List Command) → OneDefault initial target
    → Distinct initial.list → Distinct target.list
    → verdict_numbers (verdict size initial.list target.list script) ≡ number ∷ values → P size initial target script) where
  answered : (reading : Reading) → ((c : Contents) → reading ≡ accepted c → Valid c)
      → judged_numbers (judged_reading reading) ≡ number ∷ values → Accepts P reading
  unfolding judged_reading judged_contents judged_numbers refusal_numbers
  answered (refused refusal) valid e =
      let is = ap (λ (numbers : List ℕ). get_or numbers 0 0) e in
      absurd (omega (arith, is, why_apart refusal.why (omega (arith, is))))
  answered (accepted c) valid e =
      let right = valid c refl in (
        c,
        refl,
        gives (length c.catalogue) (initial_policy c) (target_policy c) (commands_of c.script) refl right.initial.sound.distinct
            right.target.sound.distinct e,
      )

-- the answer to what is accepted has its verdict's numbers
answers : (numbers : List ℕ) (reading : Reading) (c : Contents) → reading ≡ accepted c
    → verdict_numbers (verdict (length c.catalogue) c.initial c.target (commands_of c.script)) ≡ numbers
    → judged_numbers (judged_reading reading) ≡ numbers
unfolding judged_reading judged_contents judged_numbers
answers numbers reading c read e = rw (read, e)

-- what is accepted to be judged is accepted
accepted_before : (size : ℕ) (reading : Reading) (c : Contents) → needs_script size reading ≡ accepted c → reading ≡ accepted c
unfolding needs_script
accepted_before size (refused refusal) c e = absurd (cc)
accepted_before size (accepted d) c e =
    by_option d.script
    (λ lacks. absurd (cc (rw lacks at e)))
    (λ s has. let same : d ≡ c = cc (rw has at e) in ap accepted same)

-- field values that pass with a script have one in their contents
a_script : (value : List ℕ) → Each There (λ why. Unit {0}) (script_value (some value))
unfolding script_value
a_script value =
    tested (Each There (λ why. Unit {0})) (script_fits (length value)) (λ odd. tt) λ fits.
    each_then (λ script. Unit {0}) There (λ why. Unit {0}) (script_read value) _ (any (script_read value)) (λ script whatever. tt)

has_script : (v : FieldValues) (script : List ℕ) → v.script ≡ some script → Each (λ c. There c.script) (λ why. Unit {0}) (values_read v)
unfolding values_read
has_script v script is =
    let P : Contents → Type 0 = λ c. There c.script in
    let W : Why → Type 0 = λ why. Unit {0} in
    each_then (λ a. Unit {0}) P W (catalogue_value v.rules) _ (any (catalogue_value v.rules)) λ catalogue whatever.
    each_then (λ a. Unit {0}) P W (policy_value (length catalogue) v.initial) _ (any (policy_value (length catalogue) v.initial)) λ initial whatever.
    each_then (λ a. Unit {0}) P W (policy_value (length catalogue) v.target) _ (any (policy_value (length catalogue) v.target)) λ target whatever.
    each_then (λ a. Unit {0}) P W (default_value v.default) _ (any (default_value v.default)) λ default whatever.
    each_then (λ a. Unit {0}) P W (keep_value initial target v.keep) _ (any (keep_value initial target v.keep)) λ keep whatever.
    each_then There P W (script_value v.script) _ (rw is (a_script script)) λ s there. there

pub script_given : ScriptGiven
unfolding read_values at_zero
script_given v script is = go (values_read v) (has_script v script is)
  where
    go : (read : Checked Contents) → Each (λ c. There c.script) (λ why. Unit {0}) read → needs_script 0 (at_zero read) ≡ at_zero read
    go (good c) there = by_option c.script (λ lacks. absurd (rw lacks at there)) (λ s has. script_asked 0 c s has)
    go (bad why) there = turned_to_judge 0 (refused (record { why = why; at = 0 })) refl

-- What is read is valid, of a file and of field values.
of_each : (P : Reading → Type 0) → ((reading : Reading) → ((c : Contents) → reading ≡ accepted c → Valid c) → P reading) → OfEach P
of_each P holds = (
  λ file bytes. holds (read_to_judge file) (λ c read. (written_again file c bytes (scripted file c read).0).0),
  λ v are. holds _ (λ c read. (values_written_again v c are read).0),
  λ v are. holds _ (λ c read. (values_written_again v c are (accepted_before 0 (read_values v) c read)).0),
)

pub verdict_by_table : VerdictByTable
verdict_by_table =
    of_each (λ reading. ByTable (judged_reading reading) reading) (λ reading valid number values large small. (
      answered (λ size i t script. Row size i.list t.list script (number ∷ values)) number values large small
          (λ size i t script one first last. (verdict_by_row size i.list t.list script first last (number ∷ values)).0) reading valid,
      λ (c, read, row).
          let right = valid c read in
          answers (number ∷ values) reading c read
          ((verdict_by_row (length c.catalogue) c.initial c.target (commands_of c.script) right.initial.sound.distinct right.target.sound.distinct
          (number ∷ values)).1 row),
    ))

turned_as : (reading : Reading) → AsRead (judged_reading reading) reading
unfolding judged_reading judged_contents judged_numbers
turned_as (accepted c) refusal = (
  λ e. absurd (verdict_no_refusal (verdict (length c.catalogue) c.initial c.target (commands_of c.script)) refusal e),
  λ e. absurd (let z : ◌≡◌ {A = ℕ} 0 1 = cc in omega arith),
)
turned_as (refused r) refusal = (
  λ e. ap refused (refusal_numbers_differ r refusal e),
  λ e. let same : r ≡ refusal = cc in ap refusal_numbers same,
)

pub turned_as_read : TurnedAsRead
turned_as_read = of_each (λ reading. AsRead (judged_reading reading) reading) (λ reading valid. turned_as reading)

pub safe_for_flows : SafeForFlows
safe_for_flows =
    of_each (λ reading. AfterSafe (judged_reading reading) reading) (answered DecidesAsOne 32 [] (omega arith) (omega arith) safe_decides_as_one)

pub not_full_for_flows : NotFullForFlows
not_full_for_flows =
    of_each (λ reading. AfterNotFull (judged_reading reading) reading) (answered KeepsTheDefault 31 [] (omega arith) (omega arith) not_full_keeps_the_default)
