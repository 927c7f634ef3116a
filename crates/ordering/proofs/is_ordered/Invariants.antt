use mathlib.Core.Path.{◌≡◌}
use lib.ListN.{drop}
use Rattle.policy.specs.Lists.{all}
use Rattle.policy.specs.Judge.{supported, ordered}
use Rattle.deployment.specs.Values.{numbers_of}
use Rattle.ordering.specs.Fronts.{stands, front}
use Rattle.ordering.proofs.is_ordered.Given as goal

abbrev pub invariant-loop-k : goal.invariant-loop-k
invariant-loop-k l =
    (l.a ≡ front (stands l.places l.k) (numbers_of l.initial'))
    × (l.b ≡ front (stands l.places l.k) (numbers_of l.target))
    × (ordered (numbers_of l.initial') (numbers_of l.target) l.list ≡ all (supported (numbers_of l.initial') (numbers_of l.target) l.list) (drop l.k l.list))
