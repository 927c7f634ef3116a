-- No text is longer than the longest one. The idea: a refusal's position is inside the file, a verdict's step is one of the script's commands
-- and its place one of a running list, so all numbers have at most twenty digits; plans have at most 1,024 lines each. Assumes nothing.
use Prim.Native.Nat.{ℕ, ◌^◌, ◌≤◌, ◌<◌}
use native.Mathlib.Omega.{arith}
use mathlib.Core.Path.{◌≡◌, refl, ap}
use mathlib.Core.List.{List, [], ◌∷◌}
use mathlib.Core.Option.{Option, none, some}
use lib.ListN.{length, length-append}
use Rattle.policy.specs.Command.{fault_number}
use Rattle.policy.specs.Judge.{verdict, verdict_numbers}
use Rattle.policy.specs.declared.Verdict.{Verdict}
use Rattle.policy.specs.declared.Verdict.TheVariants.{Broken, Elsewhere, Unordered, NotFull, Safe}
use Rattle.policy.proofs.Numbers.{fault_below}
use Rattle.policy.proofs.Judge.{verdict_broken, verdict_elsewhere, verdict_unordered}
use Rattle.policy.proofs.Replay.{running_list_fits}
use Rattle.deployment.specs.Values.{Script}
use Rattle.deployment.specs.Contents.{Contents}
use Rattle.deployment.specs.File.{Reading, accepted, refused, read_file, needs_script, read_to_judge}
use Rattle.deployment.specs.Properties.{IfThere, Scripted, Valid}
use Rattle.deployment.specs.declared.Refusal.{Refusal}
use Rattle.deployment.specs.declared.Why.TheVariants.{NoScript}
use Rattle.deployment.proofs.Values.{by_option, none_some}
use Rattle.deployment.proofs.Reader.{written_again}
use Rattle.replay.specs.Answers.{commands_of}
use Rattle.lines.specs.Text.{spaced_all}
use Rattle.lines.proofs.Lengths.{one_more, none_yet, refused_short, verdict_short, position_inside}
use Rattle.listing.specs.Text.{plan_printed, judge_printed}
use Rattle.listing.specs.Printing.{most_text}
use Rattle.listing.specs.Claims.{PlanTextFits, JudgeTextFits}
use Rattle.listing.proofs.PlanTexts.{plans_short, printed_plans, printed_refusal}

pub plan_text_fits : PlanTextFits
plan_text_fits file (bytes, short) = go (read_file file) refl
  where
    go : (reading : Reading) → read_file file ≡ reading → length (plan_printed file) ≤ most_text
    go (accepted c) e = rw (printed_plans file c e) (plans_short c (written_again file c bytes e).0)
    go (refused r) e =
        rw (printed_refusal file r e) (omega (arith, refused_short r (omega (arith, position_inside file r bytes e))))

-- The numbers of a verdict.
script_few : (script : Option Script) → IfThere Scripted script → length (commands_of script) ≤ 2048
unfolding commands_of
script_few none right = omega arith
script_few (some script) right = right.few

module _ (c : Contents) (valid : Valid c) where
  numbers_short : (v : Verdict) → verdict (length c.catalogue) c.initial c.target (commands_of c.script) ≡ v
      → length (spaced_all (verdict_numbers v)) ≤ 63
  unfolding verdict_numbers
  numbers_short (Broken fault at) e =
      let breaks = (verdict_broken (length c.catalogue) c.initial c.target (commands_of c.script) (fault_number fault) at (fault_below fault)).0 (ap verdict_numbers e) in
      let inside : at < 2 ^ 64 =
      omega (
        arith,
        breaks.counted,
        ap length breaks.is,
        length-append breaks.passed (breaks.failing ∷ breaks.others),
        script_few c.script valid.script,
      ) in
      omega (arith, one_more (fault_number fault) (at ∷ []) 21 (omega (arith, fault_below fault)) (one_more at [] 0 inside none_yet))
  numbers_short (Elsewhere n) e =
      let ends = (verdict_elsewhere (length c.catalogue) c.initial c.target (commands_of c.script) n).0 (ap verdict_numbers e) in
      let inside : n < 2 ^ 64 = omega (arith, ends.1, script_few c.script valid.script) in
      omega (arith, one_more 24 (n ∷ []) 21 (omega arith) (one_more n [] 0 inside none_yet))
  numbers_short (Unordered at place) e =
      let size = length c.catalogue in
      let script = commands_of c.script in
      let first = valid.initial.sound in
      let found = ((verdict_unordered size c.initial c.target script at place first.distinct valid.target.sound.distinct).0 (ap verdict_numbers e)).1 in
      let step : at < 2 ^ 64 = omega (arith, found.after.reached, script_few c.script valid.script) in
      let stands = found.unsupported.stands in
      let inside : place < 2 ^ 64 =
      omega (
        arith,
        stands.counted,
        ap length stands.is,
        length-append stands.left (found.unsupported.rule ∷ stands.right),
        running_list_fits size c.initial script at found.running valid.catalogue.few first found.after,
      ) in
      one_more 30 (at ∷ place ∷ []) 42 (omega arith) (one_more at (place ∷ []) 21 step (one_more place [] 0 inside none_yet))
  numbers_short NotFull e = omega (arith, one_more 31 [] 0 (omega arith) none_yet)
  numbers_short Safe e = omega (arith, one_more 32 [] 0 (omega arith) none_yet)

-- The text of what is read to be judged.
judged_refusal : (file : List ℕ) (r : Refusal) → r.at < 2 ^ 64 → read_to_judge file ≡ refused r → length (judge_printed file) ≤ most_text
unfolding judge_printed
judged_refusal file r h e = rw (e, judge_printed) (omega (arith, refused_short r h))

judged_contents_lem : (file : List ℕ) (c : Contents) → Valid c → read_to_judge file ≡ accepted c → length (judge_printed file) ≤ most_text
unfolding judge_printed
judged_contents_lem file c valid e = rw (e, judge_printed) (omega (arith, verdict_short _ (numbers_short c valid _ refl)))

script_asked : (size : ℕ) (c : Contents) (script : Option Script) (s : Script) → script ≡ some s
    → elim script [ some s ↦ accepted c | none ↦ refused (record { why = NoScript; at = size }) ] ≡ accepted c
script_asked size c none s is = none_some is
script_asked size c (some t) s is = refl

pub judge_text_fits : JudgeTextFits
unfolding read_to_judge needs_script
judge_text_fits file (bytes, short) = go (read_file file) refl
  where
    go : (reading : Reading) → read_file file ≡ reading → length (judge_printed file) ≤ most_text
    go (refused r) e = judged_refusal file r (omega (arith, position_inside file r bytes e)) (rw (e, needs_script))
    go (accepted c) e =
        by_option c.script
        (λ lacks. judged_refusal file (record { why = NoScript; at = length file }) short (rw (e, needs_script, lacks)))
        (λ s has. judged_contents_lem file c (written_again file c bytes e).0 (rw (e, needs_script) (script_asked (length file) c c.script s has)))
