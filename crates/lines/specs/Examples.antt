-- 01, "Examples on each side": lines that document 01 prints. Assumes nothing.
use Rattle.std.specs.Prelude.{◌≡◌}
use Rattle.policy.specs.declared.Fault.TheVariants.{Place}
use Rattle.policy.specs.declared.Verdict.TheVariants.{Broken, Unordered, Safe}
use Rattle.deployment.specs.declared.Why.TheVariants.{NoTarget}
use Rattle.lines.specs.Text.{text, refused_text, verdict_text}

-- "as `refused 3 at 0`", "as `verdict 30 1 2`, `verdict 22 5` or `verdict 32`"
abbrev pub LinesPrinted : Type 0
LinesPrinted =
    (refused_text (record { why = NoTarget; at = 0 }) ≡ text "refused 3 at 0\n")
    × (verdict_text (Unordered 1 2) ≡ text "verdict 30 1 2\n")
    × (verdict_text (Broken Place 5) ≡ text "verdict 22 5\n")
    × (verdict_text Safe ≡ text "verdict 32\n")
