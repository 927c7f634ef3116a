-- The text of a verdict on a file: the verdict's line, or the refusal's. Assumes nothing.
use Prim.Native.Nat.{ℕ}
use native.Mathlib.Omega.{arith}
use mathlib.Core.Path.{◌≡◌, sym, ap}
use mathlib.Core.List.{List}
use lib.ListN.{length}
use Rattle.policy.specs.Judge.{verdict}
use Rattle.policy.specs.declared.Verdict.{Verdict}
use Rattle.deployment.specs.File.{Reading, accepted, refused, read_to_judge}
use Rattle.deployment.specs.declared.Refusal.{Refusal}
use Rattle.replay.specs.Answers.{commands_of}
use Rattle.entries.specs.Answers.{judged_contents, judged_reading}
use Rattle.std.specs.Prelude.{Ok, Err}
use Rattle.lines.specs.Text.{refused_text, verdict_text}
use Rattle.listing.specs.Text.{judge_printed}

pub printed_refusal : (file : List ℕ) (refusal : Refusal) → Err refusal ≡ judged_reading (read_to_judge file) → judge_printed file ≡ refused_text refusal
unfolding judge_printed judged_reading judged_contents
printed_refusal file refusal is = go (read_to_judge file) is
  where
    go : (reading : Reading) → Err refusal ≡ judged_reading reading
        → elim reading [
          | accepted c ↦ verdict_text (verdict (length c.catalogue) c.initial c.target (commands_of c.script))
          | refused r ↦ refused_text r
        ]
        ≡ refused_text refusal
    go (accepted c) e = absurd (let z : ◌≡◌ {A = ℕ} 0 1 = cc in omega arith)
    go (refused r) e = let same : refusal ≡ r = cc in ap refused_text (sym same)

pub printed_verdict : (file : List ℕ) (v : Verdict) → Ok v ≡ judged_reading (read_to_judge file) → judge_printed file ≡ verdict_text v
unfolding judge_printed judged_reading judged_contents
printed_verdict file v is = go (read_to_judge file) is
  where
    go : (reading : Reading) → Ok v ≡ judged_reading reading
        → elim reading [
          | accepted c ↦ verdict_text (verdict (length c.catalogue) c.initial c.target (commands_of c.script))
          | refused r ↦ refused_text r
        ]
        ≡ verdict_text v
    go (accepted c) e =
        let same : v ≡ verdict (length c.catalogue) c.initial c.target (commands_of c.script) = cc in ap verdict_text (sym same)
    go (refused r) e = absurd (let z : ◌≡◌ {A = ℕ} 0 1 = cc in omega arith)
