use Prim.Native.Nat.{ℕ}
use mathlib.Core.List.{List}
use lib.ListN.{take}
use Rattle.policy.specs.Rule.{Rule}
use Rattle.deployment.specs.Catalogue.{catalogue_of}
use Rattle.lines.proofs.Lines.{Lines}
use Rattle.rule_lines.specs.Text.{rules_text}
use Rattle.rule_lines.proofs.rules.put_rules.Given as goal

-- the rules that are shown
abbrev pub rules : (file : List ℕ) (count : ℕ) → List Rule
rules file count = take count (catalogue_of 3 file)

abbrev pub invariant-loop-k : goal.invariant-loop-k
invariant-loop-k l =
    Lines rules_text 0 (rules l.file l.count) (rules_text 0 (rules l.file l.count)) l.initial.place l.at l.place l.next l.k
