-- The claims about many flows, over files and lists. The idea: what is accepted decides flows, and a place of an accepted policy fits two
-- bytes, so that a decision reads back. Assumes nothing.
use Prim.Native.Nat.{ℕ, ◌≤◌}
use native.Mathlib.Omega.{arith}
use mathlib.Core.Path.{◌≡◌, refl, ap}
use mathlib.Core.Bool.{Bool, true, false}
use mathlib.Core.List.{List}
use mathlib.Core.Option.{Option}
use lib.ListN.{length}
use Rattle.policy.specs.Policy.{Policy, most_listed, matching}
use Rattle.policy.specs.Rule.{Rule}
use Rattle.policy.specs.declared.Decision.{Decision}
use Rattle.policy.specs.declared.Flow.{Flow}
use Rattle.deployment.specs.Checked.{Checked, good, bad, ◌>>=◌}
use Rattle.deployment.specs.Values.{list_fits}
use Rattle.deployment.specs.Contents.{Contents, initial_policy, target_policy}
use Rattle.deployment.specs.File.{Reading, accepted, refused, read_file}
use Rattle.deployment.specs.FieldValues.{catalogue_value, policy_value, default_value}
use Rattle.deployment.specs.Properties.{AreBytes}
use Rattle.std.specs.Prelude.{Ok, Err}
use Rattle.deployment.proofs.Records.{numbers_length}
use Rattle.deployment.proofs.Tests.{says_list, Each, each_then, tested, policy_tested_lem}
use Rattle.deployment.proofs.Reader.{written_again}
use Rattle.flows.specs.Claims.{flow_at, decision_at, KeepsRest, Short}
use Rattle.decision.proofs.FirstMatch.{place_in_list}
use Rattle.flows.proofs.Claims.{not_both, flows_keep_rest, each_decided}
use Rattle.entries.specs.Answers.{
  decided_contents,
  decided_reading,
  policy_tested,
  deciding_values,
  decided_values,
  decided_at_zero,
  flows_reading,
  flows_at_zero,
}
use Rattle.entries.specs.Claims.{
  FileFlowsDecided,
  ValuesFlowsDecided,
  FileFlowsRefused,
  ValuesFlowsRefused,
  FileFlowsKeepRest,
  ValuesFlowsKeepRest,
}

pub file_flows_keep_rest : FileFlowsKeepRest
unfolding flows_reading
file_flows_keep_rest of-target file flows place = go (read_file file)
  where
    go : (reading : Reading) → KeepsRest place (flows_reading of-target flows reading place)
    go (accepted c) = flows_keep_rest (λ flow. decided_contents of-target flow c) flows place
    go (refused refusal) = (λ n e. not_both e, λ refusal e. refl)

pub values_flows_keep_rest : ValuesFlowsKeepRest
unfolding flows_at_zero
values_flows_keep_rest rules policy default flows place = go (deciding_values rules policy default)
  where
    go : (read : Checked (Flow → Decision)) → KeepsRest place (flows_at_zero read flows place)
    go (good decides) = flows_keep_rest decides flows place
    go (bad why) = (λ n e. not_both e, λ refusal e. refl)

-- What turns a single flow away.
pub file_flows_refused : FileFlowsRefused
unfolding decided_reading flows_reading
file_flows_refused of-target file flows place flow refusal e = go (read_file file) e
  where
    go : (reading : Reading) → decided_reading of-target flow reading ≡ Err refusal
        → (flows_reading of-target flows reading place).answer ≡ Err refusal
    go (accepted c) e = absurd (let z : ◌≡◌ {A = ℕ} 0 1 = cc in omega arith)
    go (refused other) e = let same : other ≡ refusal = cc in rw same

pub values_flows_refused : ValuesFlowsRefused
unfolding decided_values decided_at_zero flows_at_zero
values_flows_refused rules policy default flows place flow refusal e = go (deciding_values rules policy default) e
  where
    go : (read : Checked (Flow → Decision)) → decided_at_zero (◌>>=◌ read (λ decides. good (decides flow))) ≡ Err refusal
        → (flows_at_zero read flows place).answer ≡ Err refusal
    go (good decides) e = absurd (let z : ◌≡◌ {A = ℕ} 0 1 = cc in omega arith)
    go (bad why) e = let same : record { why = why; at = 0 } ≡ refusal = cc in ap Err same

-- Places have two bytes: a policy has at most 512 rules.
abbrev Passing : {A : Type 0} → (A → Type 0) → Checked A → Type 0
Passing P = Each P (λ why. Unit {0})

contents_short : (file : List ℕ) (c : Contents) (of-target : Bool) → AreBytes file → read_file file ≡ accepted c
    → Short (λ flow. decided_contents of-target flow c)
unfolding decided_contents
contents_short file c true bytes is flow =
    omega (arith, place_in_list (matching c.catalogue flow) (target_policy c), (written_again file c bytes is).0.target.few)
contents_short file c false bytes is flow =
    omega (arith, place_in_list (matching c.catalogue flow) (initial_policy c), (written_again file c bytes is).0.initial.few)

policy_short : (size : ℕ) (value : List ℕ) → Passing (λ policy. length policy ≤ most_listed) (policy_value size value)
unfolding policy_value
policy_short size value =
    let P = Passing (λ policy. length policy ≤ most_listed) in
    tested P (list_fits (length value)) (λ odd. tt) λ fits.
    let right = (says_list (length value)).0 fits in
    policy_tested_lem P size value (λ outside. tt) (λ inside twice. tt)
    (λ sound. omega (arith, numbers_length value, right.1, right.2))

pub any : {A : Type 0} (read : Checked A) → Passing (λ a. Unit {0}) read
any (good a) = tt
any (bad why) = tt

policy_tested_short : (rules value : List ℕ) (default : Option (List ℕ))
    → Passing (λ passed. length passed.1.list ≤ most_listed) (policy_tested rules value default)
unfolding policy_tested
policy_tested_short rules value default =
    let P : List Rule × Policy → Type 0 = λ passed. length passed.1.list ≤ most_listed in
    each_then (λ catalogue. Unit {0}) P (λ why. Unit {0}) (catalogue_value rules) _ (any (catalogue_value rules))
    λ catalogue whatever.
    each_then (λ list. length list ≤ most_listed) P (λ why. Unit {0}) (policy_value (length catalogue) value) _
    (policy_short (length catalogue) value)
    λ list few.
    each_then (λ action. Unit {0}) P (λ why. Unit {0}) (default_value default) _ (any (default_value default))
    λ action whatever. few

values_short : (rules value : List ℕ) (default : Option (List ℕ)) → Passing Short (deciding_values rules value default)
unfolding deciding_values
values_short rules value default =
    each_then (λ passed. length passed.1.list ≤ most_listed) Short (λ why. Unit {0}) (policy_tested rules value default) _
    (policy_tested_short rules value default)
    λ passed few flow. omega (arith, place_in_list (matching passed.0 flow) passed.1)

pub file_flows_decided : FileFlowsDecided
unfolding decided_reading flows_reading
file_flows_decided of-target file flows place n k bytes e inside = go (read_file file) refl e
  where
    go : (reading : Reading) → read_file file ≡ reading → (flows_reading of-target flows reading place).answer ≡ Ok n
        → decided_reading of-target (flow_at k flows) reading ≡ Ok (decision_at k (flows_reading of-target flows reading place).place)
    go (accepted c) is e =
        ap Ok
        (each_decided flows place n k inside (λ flow. decided_contents of-target flow c) (contents_short file c of-target bytes is) e)
    go (refused refusal) is e = not_both e

pub values_flows_decided : ValuesFlowsDecided
unfolding decided_values decided_at_zero flows_at_zero
values_flows_decided rules policy default flows place n k e inside =
    go (deciding_values rules policy default) (values_short rules policy default) e
  where
    go : (read : Checked (Flow → Decision)) → Passing Short read → (flows_at_zero read flows place).answer ≡ Ok n
        → decided_at_zero (◌>>=◌ read (λ decides. good (decides (flow_at k flows))))
        ≡ Ok (decision_at k (flows_at_zero read flows place).place)
    go (good decides) short e = ap Ok (each_decided flows place n k inside decides short e)
    go (bad why) short e = not_both e
