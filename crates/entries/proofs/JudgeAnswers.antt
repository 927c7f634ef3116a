-- `files::judge` and `lists::judge` themselves, by their contracts as the checker reads them: any two answers that one allows are equal, and each
-- claim about the answer to what is read holds of the answer that is given. Assumes nothing.
use mathlib.Core.Path.{◌≡◌, sym, ◌∙◌, subst}
use Rattle.deployment.specs.File.{needs_script, read_to_judge}
use Rattle.deployment.specs.FieldValues.{read_values}
use Rattle.deployment.specs.Properties.{AreBytes}
use Rattle.deployment.specs.Claims.{AreValues}
use Rattle.std.specs.Prelude.{Result}
use Rattle.policy.specs.declared.Verdict.{Verdict}
use Rattle.deployment.specs.declared.Refusal.{Refusal}
use Rattle.entries.specs.JudgeClaims.{ByTable, AsRead, AfterSafe, AfterNotFull}
use Rattle.entries.proofs.JudgeClaims.{verdict_by_table, turned_as_read, safe_for_flows, not_full_for_flows}
use Rattle.entries.proofs.files.judge.Reads as judge-file
use Rattle.entries.proofs.lists.judge.Reads as judge-values

pub one_file : (κ : _) (a : _) (r s : Result Verdict Refusal) (e f : _) → judge-file.Post κ a r e → judge-file.Post κ a s f → r ≡ s
one_file κ a r s e f p q = p ∙ sym q

pub one_values : (κ : _) (a : _) (r s : Result Verdict Refusal) (e f : _) → judge-values.Post κ a r e → judge-values.Post κ a s f → r ≡ s
one_values κ a r s e f p q = p ∙ sym q

-- the answer to a file: the table, refusals, and what 32 and 31 say of flows
pub file_judged_by_table : (κ : _) (a : _) (r : Result Verdict Refusal) (e : _) → judge-file.Post κ a r e → AreBytes a.0.now
    → ByTable r (read_to_judge a.0.now)
file_judged_by_table κ a r e p bytes =
    subst (λ (x : Result Verdict Refusal). ByTable x (read_to_judge a.0.now)) (sym p) (verdict_by_table.0 a.0.now bytes)

pub file_turned_as_read : (κ : _) (a : _) (r : Result Verdict Refusal) (e : _) → judge-file.Post κ a r e → AreBytes a.0.now
    → AsRead r (read_to_judge a.0.now)
file_turned_as_read κ a r e p bytes =
    subst (λ (x : Result Verdict Refusal). AsRead x (read_to_judge a.0.now)) (sym p) (turned_as_read.0 a.0.now bytes)

pub file_safe_for_flows : (κ : _) (a : _) (r : Result Verdict Refusal) (e : _) → judge-file.Post κ a r e → AreBytes a.0.now
    → AfterSafe r (read_to_judge a.0.now)
file_safe_for_flows κ a r e p bytes =
    subst (λ (x : Result Verdict Refusal). AfterSafe x (read_to_judge a.0.now)) (sym p) (safe_for_flows.0 a.0.now bytes)

pub file_not_full_for_flows : (κ : _) (a : _) (r : Result Verdict Refusal) (e : _) → judge-file.Post κ a r e → AreBytes a.0.now
    → AfterNotFull r (read_to_judge a.0.now)
file_not_full_for_flows κ a r e p bytes =
    subst (λ (x : Result Verdict Refusal). AfterNotFull x (read_to_judge a.0.now)) (sym p) (not_full_for_flows.0 a.0.now bytes)

-- the answer to field values, likewise
pub values_judged_by_table : (κ : _) (a : _) (r : Result Verdict Refusal) (e : _) → judge-values.Post κ a r e → AreValues a.0.now
    → ByTable r (needs_script 0 (read_values a.0.now))
values_judged_by_table κ a r e p are =
    subst (λ (x : Result Verdict Refusal). ByTable x (needs_script 0 (read_values a.0.now))) (sym p) (verdict_by_table.2 a.0.now are)

pub values_turned_as_read : (κ : _) (a : _) (r : Result Verdict Refusal) (e : _) → judge-values.Post κ a r e → AreValues a.0.now
    → AsRead r (needs_script 0 (read_values a.0.now))
values_turned_as_read κ a r e p are =
    subst (λ (x : Result Verdict Refusal). AsRead x (needs_script 0 (read_values a.0.now))) (sym p) (turned_as_read.2 a.0.now are)

pub values_safe_for_flows : (κ : _) (a : _) (r : Result Verdict Refusal) (e : _) → judge-values.Post κ a r e → AreValues a.0.now
    → AfterSafe r (needs_script 0 (read_values a.0.now))
values_safe_for_flows κ a r e p are =
    subst (λ (x : Result Verdict Refusal). AfterSafe x (needs_script 0 (read_values a.0.now))) (sym p) (safe_for_flows.2 a.0.now are)

pub values_not_full_for_flows : (κ : _) (a : _) (r : Result Verdict Refusal) (e : _) → judge-values.Post κ a r e → AreValues a.0.now
    → AfterNotFull r (needs_script 0 (read_values a.0.now))
values_not_full_for_flows κ a r e p are =
    subst (λ (x : Result Verdict Refusal). AfterNotFull x (needs_script 0 (read_values a.0.now))) (sym p) (not_full_for_flows.2 a.0.now are)
