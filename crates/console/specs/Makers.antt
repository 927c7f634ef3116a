-- 02, L2: a command in the words of a maker. It is a `Command` too, its numbers counted as that maker counts them: B's `Mov i b` is
-- `move i before b`. Assumes nothing.
use Rattle.std.specs.Prelude.{ℕ, suc, ◌-◌, Bool, true, false, cond, eqb, ltb}
use Rattle.policy.specs.Command.{coded}
use Rattle.policy.specs.declared.Command.{Command}
use Rattle.policy.specs.declared.Command.TheVariants.{App, DelRule, Ins, DelPlace, Mov}
use Rattle.console.specs.declared.Maker.{Maker}
use Rattle.console.specs.declared.Maker.TheVariants.{A, B}
use Rattle.console.specs.declared.Worded.{Worded}

-- the maker that a caller names: B, if asked for, or else A
unfoldable pub maker_of : Bool → Maker
maker_of true = B
maker_of false = A

-- "So `mov i j` becomes b = j + 1 when j is above i, and b = j otherwise."
unfoldable pub number_before : ℕ → ℕ → ℕ
number_before i j = cond (ltb i j) (suc j) j

-- and back: "Reading maps b = i and b = i + 1 both to `mov i i`"
unfoldable pub place_for : ℕ → ℕ → ℕ
place_for i b = cond (ltb i b) (b - 1) b

-- the second number of a move, as a maker writes it and as it is read; "maker A (as in document 01)"
unfoldable pub second_said : Maker → ℕ → ℕ → ℕ
second_said A i j = j
second_said B i j = number_before i j

unfoldable pub second_heard : Maker → ℕ → ℕ → ℕ
second_heard A i b = b
second_heard B i b = place_for i b

-- "B differs in one": a command in the words of a maker ..
unfoldable pub said : Maker → Command → Command
said m (App r) = App r
said m (DelRule r) = DelRule r
said m (Ins i r) = Ins i r
said m (DelPlace i) = DelPlace i
said m (Mov i j) = Mov i (second_said m i j)

-- .. and the command that such words are read as
unfoldable pub heard : Maker → Command → Command
heard m (App r) = App r
heard m (DelRule r) = DelRule r
heard m (Ins i r) = Ins i r
heard m (DelPlace i) = DelPlace i
heard m (Mov i b) = Mov i (second_heard m i b)

-- "that is the one case in which text read and written again may differ": `move i before i + 1` comes back as `move i before i`
unfoldable pub second_again : Maker → ℕ → ℕ → ℕ
second_again A i b = b
second_again B i b = cond (eqb b (suc i)) i b

unfoldable pub again : Maker → Command → Command
again m (App r) = App r
again m (DelRule r) = DelRule r
again m (Ins i r) = Ins i r
again m (DelPlace i) = DelPlace i
again m (Mov i b) = Mov i (second_again m i b)

-- the code of a command in such words, and its numbers
unfoldable pub worded : Command → Worded
worded k = record { code = (coded k).code; one = (coded k).one; two = (coded k).two }
