-- `same_rule` meets its contract: equal actions, and the same bytes behind them. Assumes nothing.
use native.Mathlib.Omega.{arith}
use mathlib.Core.Path.{◌≡◌, ◌∙◌}
use Prim.Native.Nat.{ℕ, ◌<◌}
use mathlib.Core.List.{List}
use mathlib.Core.Bool.{Bool, ◌&&◌, beq}
use lib.Dec.{eqb}
use lib.ListN.{drop, get_or, length}
use borrow.Author.Tests.{not-true, not-false}
use Rattle.policy.specs.Lists.{same}
use Rattle.deployment.specs.Values.{rule_of, same_rule}
use Rattle.deployment.proofs.Bytes.{elements_are_bytes}
use Rattle.deployment.proofs.Records.{part_to_end}
use Rattle.catalogue.proofs.Rules.{same_rule_bytes}
use Rattle.catalogue.proofs.SideBySide.{same_pairs}
use Rattle.catalogue.proofs.rule.same_rule.Goals as goal

-- the test of the actions, and what is compared of the rules
actions : List ℕ → List ℕ → Bool
actions a b = beq (eqb (get_or a 0 0) 1) (eqb (get_or b 0 0) 1)

compared : (a b : List ℕ) → ((i : ℕ) → get_or a i 0 < 256) → ((i : ℕ) → get_or b i 0 < 256) → length a ≡ 27 → length b ≡ 27
    → same_rule (rule_of a) (rule_of b) ≡ (actions a b && same (drop 1 a) (drop 1 b))
unfolding actions
compared a b are_a are_b = same_rule_bytes a b (elements_are_bytes a are_a) (elements_are_bytes b are_b)

pub returns-then-a-b : goal.returns-then-a-b
unfolding actions
returns-then-a-b c =
    let args = c.args in
    rw (compared args.a.now args.b.now (λ i. omega (arith, c.type_inv.a i)) (λ i. omega (arith, c.type_inv.b i)) c.requires.0 c.requires.1, not-true (actions args.a.now args.b.now) c.if-a-b.true)

pub returns : goal.returns
unfolding actions
returns c =
    let args = c.args in
    rw (compared args.a.now args.b.now (λ i. omega (arith, c.type_inv.a i)) (λ i. omega (arith, c.type_inv.b i)) c.requires.0 c.requires.1, not-false (actions args.a.now args.b.now) c.if-a-b.false)
    ((rw (part_to_end 1 args.a.now, part_to_end 1 args.b.now) at c.eq.ensures) ∙ same_pairs (drop 1 args.a.now) (drop 1 args.b.now))
