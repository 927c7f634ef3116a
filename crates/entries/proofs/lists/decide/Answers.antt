-- `lists::decide` meets its contract: turned away as the tests say, or decided over what the bytes are read as. Assumes nothing.
use Rattle.std.proofs.lemmas.Result.{err_from_is_err_and}
use Rattle.entries.proofs.Decisions.{turned_values, decided_values_lem}
use Rattle.entries.proofs.lists.decide.Goals as goal

pub returns-in_err-tested : goal.returns-in_err-tested
returns-in_err-tested c =
    let a = c.args in
    let p = err_from_is_err_and c.from_residual.result c.from_residual.ensures.1 in
    rw (p.1, p.2) (turned_values a.rules.now a.policy.now a.default _ c.in_err-tested.ensures a.flow)

pub returns : goal.returns
returns c =
    let a = c.args in
    decided_values_lem a.rules.now a.policy.now a.default c.is_some.ensures c.default_of.ensures c.in_ok-tested.ensures a.flow
    c.decided.ensures
