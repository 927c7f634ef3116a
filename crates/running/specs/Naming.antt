-- How a list names the rules of a catalogue. Assumes nothing.
use Rattle.std.specs.Prelude.{ℕ, cond, List, ltb}
use Rattle.policy.specs.Lists.{all, differ}
use Rattle.running.specs.declared.Naming.{Naming}
use Rattle.running.specs.declared.Naming.TheVariants.{Outside, Twice, Once}

-- how a list names rules: 8 "a number outside the catalogue", then 9 "a rule twice"
unfoldable pub named : ℕ → List ℕ → Naming
named size l = cond (all (λ r. ltb r size) l) (cond (differ l) Once Twice) Outside
