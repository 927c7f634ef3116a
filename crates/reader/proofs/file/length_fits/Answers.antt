-- `length_fits` meets its contract: the length of a rule, of a script, of a default, or of a list, by the tag. Assumes nothing.
use native.Mathlib.Omega.{arith}
use mathlib.Core.Path.{◌∙◌}
use lib.Dec.{eqb}
use borrow.Author.Tests.{ne_eqb}
use Rattle.policy.proofs.Tests.{by_test}
use Rattle.deployment.specs.Values.{script_fits}
use Rattle.deployment.specs.File.{length_fits}
use Rattle.reader.proofs.file.length_fits.Goals as goal

pub returns-in-1 : goal.returns-in-1
unfolding length_fits
returns-in-1 c = rw c.in-1.is (by_test (eqb c.args.size 27) (λ t. rw t) (λ f. rw f))

pub returns-in-6 : goal.returns-in-6
unfolding length_fits
returns-in-6 c = rw c.in-6.is (by_test (eqb c.args.size 1) (λ t. rw t) (λ f. rw f))

pub returns-in-5 : goal.returns-in-5
unfolding length_fits
returns-in-5 c = c.script_fits.ensures ∙ rw c.in-5.is (by_test (script_fits c.args.size) (λ t. rw t) (λ f. rw f))

pub returns-in_default : goal.returns-in_default
unfolding length_fits
returns-in_default c =
    let tag = c.args.tag in
    c.list_fits.ensures ∙ rw (ne_eqb tag 1 (λ e. omega arith), ne_eqb tag 5 (λ e. omega arith), ne_eqb tag 6 (λ e. omega arith))
