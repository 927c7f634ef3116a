-- The claims about verdicts. The idea: the policies name no rule twice, so the claims about `verdict` apply, row by row. A number from 20 on
-- and below 50 is a verdict's, every other a refusal's. Assumes nothing.
use Prim.Native.Nat.{ℕ}
use native.Mathlib.Omega.{arith}
use mathlib.Core.Path.{◌≡◌, refl, sym, ap, subst}
use mathlib.Core.List.{List}
use lib.ListN.{length, get_or}
use Rattle.policy.specs.Judge.{verdict, verdict_numbers}
use Rattle.policy.specs.Command.{fault_number}
use Rattle.policy.specs.Properties.{Distinct}
use Rattle.policy.specs.declared.Command.{Command}
use Rattle.policy.specs.declared.Verdict.{Verdict}
use Rattle.policy.specs.declared.Verdict.TheVariants.{Broken, Elsewhere, Unordered, NotFull, Safe}
use Rattle.policy.proofs.Numbers.{verdict_numbers_differ, fault_below, verdict_from, verdict_below}
use Rattle.policy.proofs.Commands.{fails_below}
use Rattle.policy.proofs.Judge.{verdict_broken, verdict_elsewhere, verdict_unordered, verdict_not_full, verdict_safe}
use Rattle.deployment.specs.Checked.{refusal_numbers}
use Rattle.deployment.proofs.Numbers.{why_apart, refusal_numbers_differ}
use Rattle.judge.specs.Answers.{judged_numbers}
use Rattle.judge.specs.Claims.{Row, breaks, elsewhere, unordered, not_full, safe}
use Rattle.judge.specs.Claims.{JudgedNumbersDiffer, VerdictByRow, VerdictNoRefusal}
use Rattle.std.specs.Prelude.{Ok, Err}

-- The answers are told apart: no verdict has a refusal's number.
pub verdict_no_refusal : VerdictNoRefusal
unfolding refusal_numbers
verdict_no_refusal v refusal e =
    let same = ap (λ (numbers : List ℕ). get_or numbers 0 0) e in
    omega (arith, verdict_below v, same, why_apart refusal.why (omega (arith, verdict_from v, same)))

pub judged_numbers_differ : JudgedNumbersDiffer
unfolding judged_numbers
judged_numbers_differ (Ok v) (Ok w) e = ap Ok (verdict_numbers_differ v w e)
judged_numbers_differ (Ok v) (Err s) e = absurd (verdict_no_refusal v s e)
judged_numbers_differ (Err r) (Ok w) e = absurd (verdict_no_refusal w r (sym e))
judged_numbers_differ (Err r) (Err s) e = ap Err (refusal_numbers_differ r s e)

-- A verdict's numbers and their row.
module _ (size : ℕ) (initial target : List ℕ) (script : List Command) (first : Distinct initial) (last : Distinct target) where
  verdict_row : (v : Verdict) → verdict size initial target script ≡ v → Row size initial target script (verdict_numbers v)
  unfolding verdict_numbers
  verdict_row (Broken fault at) e =
      breaks (fault_number fault) at ((verdict_broken size initial target script (fault_number fault) at (fault_below fault)).0 (ap verdict_numbers e))
  verdict_row (Elsewhere n) e =
      let (l, counted, leads, other) = (verdict_elsewhere size initial target script n).0 (ap verdict_numbers e) in
      rw counted (elsewhere l leads other)
  verdict_row (Unordered at place) e =
      let (leads, found) = (verdict_unordered size initial target script at place first last).0 (ap verdict_numbers e) in
      unordered at place leads found
  verdict_row NotFull e =
      let (leads, o, (k, l, after, lacking)) = (verdict_not_full size initial target script first last).0 (ap verdict_numbers e) in
      not_full leads o k l after lacking
  verdict_row Safe e =
      let (leads, o, f) = (verdict_safe size initial target script first last).0 (ap verdict_numbers e) in safe leads o f

  row_verdict : (numbers : List ℕ) → Row size initial target script numbers → verdict_numbers (verdict size initial target script) ≡ numbers
  row_verdict numbers (breaks number at b) =
      (verdict_broken size initial target script number at (fails_below size b.running b.failing number b.fails)).1 b
  row_verdict numbers (elsewhere l leads other) = (verdict_elsewhere size initial target script (length script)).1 (l, refl, leads, other)
  row_verdict numbers (unordered at place leads found) = (verdict_unordered size initial target script at place first last).1 (leads, found)
  row_verdict numbers (not_full leads o k l after lacking) =
      (verdict_not_full size initial target script first last).1 (leads, o, (k, l, after, lacking))
  row_verdict numbers (safe leads o f) = (verdict_safe size initial target script first last).1 (leads, o, f)

pub verdict_by_row : VerdictByRow
verdict_by_row size initial target script first last numbers = (
  λ e. subst (Row size initial target script) e (verdict_row size initial target script first last (verdict size initial target script) refl),
  row_verdict size initial target script first last numbers,
)
