use Prim.Native.Nat.{ℕ, ◌/◌}
use mathlib.Core.Path.{◌≡◌}
use mathlib.Core.List.{List, ◌++◌}
use lib.ListN.{length}
use Rattle.deployment.specs.FieldValues.{Stored}
use Rattle.writer.specs.Answers.{rules_bytes}
use Rattle.writer.proofs.put_rules.Given as goal

abbrev pub invariant-loop-rule : goal.invariant-loop-rule
invariant-loop-rule l =
    let rest = l.rule-iterator.rest.now in
    (l.rule-iterator.size ≡ 27)
    × ((done : List ℕ) × Stored l.initial.place 0 done l.place l.at
    × (done ++ rules_bytes (length rest / 27) rest ≡ rules_bytes (length l.rules / 27) l.rules))
