-- `policy_checked` meets its contract: after the length, the answer is how the list names the catalogue's rules. Assumes nothing.
use Prim.Native.Nat.{min}
use mathlib.Core.Path.{◌≡◌, sym, ◌∙◌, ap}
use Rattle.running.specs.Running.{view}
use Rattle.running.specs.Naming.{named}
use Rattle.deployment.specs.FieldValues.{policy_value}
use Rattle.catalogue.specs.Answers.{checking}
use Rattle.values.proofs.Policies.{answer, policy_answer}
use Rattle.values.proofs.policy_checked.Goals as goal
use Rattle.values.proofs.policy_checked.Goals.{After-list_of}

pub returns-then-not-list_fits : goal.returns-then-not-list_fits
unfolding checking policy_value
returns-then-not-list_fits c = rw (sym c.list_fits.ensures ∙ c.if-not-list_fits.true)

-- the answer is how the list names rules
named_is : (c : After-list_of)
    → let a = c.args in
    checking (policy_value (min a.size 1024) a.value.now) ≡ answer (named (min a.size 1024) (view c.list_of.result))
named_is c =
    let a = c.args in
    policy_answer (min a.size 1024) a.value.now (sym c.list_fits.ensures ∙ c.if-not-list_fits.false)
    ∙ ap (λ l. answer (named (min a.size 1024) l)) (sym c.list_of.ensures)

pub returns-in-Outside : goal.returns-in-Outside
returns-in-Outside c = sym (named_is (goal.at.returns-in-Outside c).After-list_of ∙ ap answer (sym c.in-Outside.ensures))

pub returns-in-Twice : goal.returns-in-Twice
returns-in-Twice c = sym (named_is (goal.at.returns-in-Twice c).After-list_of ∙ ap answer (sym c.in-Twice.ensures))

pub returns-in-Once : goal.returns-in-Once
returns-in-Once c = sym (named_is (goal.at.returns-in-Once c).After-list_of ∙ ap answer (sym c.in-Once.ensures))
