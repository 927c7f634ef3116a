-- `allows` meets its contract: a row of the code is the row of the table. The codes of a row follow one another, so that a code stands in the
-- row by its bounds. Assumes nothing.
use Prim.Native.Nat.{ℕ, ◌≤◌, ◌<◌}
use native.Mathlib.Omega.{arith}
use mathlib.Core.Path.{◌≡◌}
use mathlib.Core.Bool.{true}
use borrow.Author.Tests.{eq-eqb, ne_eqb, eqb-false}
use lib.Dec.{eqb}
use Rattle.policy.specs.Lists.{mem}
use Rattle.policy.specs.Command.{codes_of}
use Rattle.policy.proofs.Tests.{by_test}
use Rattle.commands.proofs.allows.Goals as goal

in_first : (code : ℕ) → 1 ≤ code → code < 3 → true ≡ mem code (codes_of 1)
unfolding codes_of mem
in_first code low high =
    by_test (eqb 1 code) (λ t. rw t) (λ f. rw (f, eq-eqb 2 code (omega (arith, eqb-false 1 code f))))

in_second : (code : ℕ) → 3 ≤ code → code < 6 → true ≡ mem code (codes_of 2)
unfolding codes_of mem
in_second code low high =
    by_test (eqb 3 code) (λ t. rw t)
    (λ f. by_test (eqb 4 code) (λ t. rw (f, t))
    (λ g. rw (f, g, eq-eqb 5 code (omega (arith, eqb-false 3 code f, eqb-false 4 code g)))))

pub returns-in-1-code : goal.returns-in-1-code
returns-in-1-code c = rw c.in-1.is (in_first c.args.code (omega arith) (omega arith))

pub returns-in_default-code : goal.returns-in_default-code
unfolding codes_of mem
returns-in_default-code c =
    let code = c.args.code in
    rw c.in-1.is (simp (ne_eqb 1 code (λ e. omega arith), ne_eqb 2 code (λ e. omega arith)))

pub returns-in_default-code-3 : goal.returns-in_default-code-3
unfolding codes_of mem
returns-in_default-code-3 c =
    let code = c.args.code in
    rw c.in-1.is (simp (ne_eqb 1 code (λ e. omega arith), ne_eqb 2 code (λ e. omega arith)))

pub returns-in-3 : goal.returns-in-3
returns-in-3 c = rw c.in-2.is (in_second c.args.code (omega arith) (omega arith))

pub returns-in_default-code-2 : goal.returns-in_default-code-2
unfolding codes_of mem
returns-in_default-code-2 c =
    let code = c.args.code in
    rw c.in-2.is
    (simp (ne_eqb 3 code (λ e. omega arith), ne_eqb 4 code (λ e. omega arith), ne_eqb 5 code (λ e. omega arith)))

pub returns-in_default-code-2-2 : goal.returns-in_default-code-2-2
unfolding codes_of mem
returns-in_default-code-2-2 c =
    let code = c.args.code in
    rw c.in-2.is
    (simp (ne_eqb 3 code (λ e. omega arith), ne_eqb 4 code (λ e. omega arith), ne_eqb 5 code (λ e. omega arith)))

pub returns-in_default : goal.returns-in_default
unfolding codes_of mem
returns-in_default c = simp (ne_eqb c.args.kind 1 (λ e. omega arith), ne_eqb c.args.kind 2 (λ e. omega arith))
