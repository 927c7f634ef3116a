-- Words taken apart: what is said and what is heard differ from the command in the second number of a move, and in nothing else. Each law goes
-- command by command. Assumes nothing.
use Prim.Native.Nat.{ℕ, suc, ◌≤◌, ◌<◌}
use native.Mathlib.Omega.{arith}
use mathlib.Core.Path.{◌≡◌, refl}
use mathlib.Core.Bool.{cond}
use lib.Dec.{eqb, ltb}
use Rattle.policy.specs.Command.{coded}
use Rattle.policy.specs.declared.Command.{Command}
use Rattle.policy.specs.declared.Command.TheVariants.{App, DelRule, Ins, DelPlace, Mov}
use Rattle.policy.proofs.Tests.{by_test}
use Rattle.console.specs.Makers.{number_before, second_said, second_heard, said, heard}
use Rattle.console.specs.declared.Maker.{Maker}
use Rattle.console.specs.declared.Maker.TheVariants.{A, B}

-- Maker A's words are document 01's.
pub said_by_a : (c : Command) → said A c ≡ c
unfolding said second_said
said_by_a (App r) = refl
said_by_a (DelRule r) = refl
said_by_a (Ins i r) = refl
said_by_a (DelPlace i) = refl
said_by_a (Mov i j) = refl

pub heard_by_a : (k : Command) → heard A k ≡ k
unfolding heard second_heard
heard_by_a (App r) = refl
heard_by_a (DelRule r) = refl
heard_by_a (Ins i r) = refl
heard_by_a (DelPlace i) = refl
heard_by_a (Mov i b) = refl

-- The code and the first number stay; the second number changes in a move, whose code is 5.
pub said_code : (m : Maker) (c : Command) → (coded (said m c)).code ≡ (coded c).code
unfolding said coded
said_code m (App r) = refl
said_code m (DelRule r) = refl
said_code m (Ins i r) = refl
said_code m (DelPlace i) = refl
said_code m (Mov i j) = refl

pub said_one : (m : Maker) (c : Command) → (coded (said m c)).one ≡ (coded c).one
unfolding said coded
said_one m (App r) = refl
said_one m (DelRule r) = refl
said_one m (Ins i r) = refl
said_one m (DelPlace i) = refl
said_one m (Mov i j) = refl

pub coded_said : (m : Maker) (c : Command)
    → (coded (said m c)).two ≡ cond (eqb (coded c).code 5) (second_said m (coded c).one (coded c).two) (coded c).two
unfolding said coded
coded_said m (App r) = refl
coded_said m (DelRule r) = refl
coded_said m (Ins i r) = refl
coded_said m (DelPlace i) = refl
coded_said m (Mov i j) = refl

pub heard_code : (m : Maker) (k : Command) → (coded (heard m k)).code ≡ (coded k).code
unfolding heard coded
heard_code m (App r) = refl
heard_code m (DelRule r) = refl
heard_code m (Ins i r) = refl
heard_code m (DelPlace i) = refl
heard_code m (Mov i b) = refl

pub heard_one : (m : Maker) (k : Command) → (coded (heard m k)).one ≡ (coded k).one
unfolding heard coded
heard_one m (App r) = refl
heard_one m (DelRule r) = refl
heard_one m (Ins i r) = refl
heard_one m (DelPlace i) = refl
heard_one m (Mov i b) = refl

pub coded_heard : (m : Maker) (k : Command)
    → (coded (heard m k)).two ≡ cond (eqb (coded k).code 5) (second_heard m (coded k).one (coded k).two) (coded k).two
unfolding heard coded
coded_heard m (App r) = refl
coded_heard m (DelRule r) = refl
coded_heard m (Ins i r) = refl
coded_heard m (DelPlace i) = refl
coded_heard m (Mov i b) = refl

-- How large a second number is: B's is one more at most, A's is the command's.
before_small : (i j : ℕ) → number_before i j ≤ suc j
unfolding number_before
before_small i j = by_test (ltb i j) (λ t. rw t (omega arith)) (λ f. rw f (omega arith))

second_small : (m : Maker) (i j : ℕ) → second_said m i j ≤ suc j
unfolding second_said
second_small A i j = omega arith
second_small B i j = before_small i j

pub said_small : (m : Maker) (c : Command) → (coded c).two < 65536 → (coded (said m c)).two ≤ 65536
unfolding said coded
said_small m (App r) h = omega arith
said_small m (DelRule r) h = omega arith
said_small m (Ins i r) h = omega arith
said_small m (DelPlace i) h = omega arith
said_small m (Mov i j) h = omega (arith, second_small m i j)

pub said_small_by_a : (c : Command) → (coded c).two < 65536 → (coded (said A c)).two < 65536
said_small_by_a c h = rw (said_by_a c) h
