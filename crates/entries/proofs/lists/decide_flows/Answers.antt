-- `lists::decide_flows` meets its contract: turned away as the tests say, or answered by what the bytes are read as. Assumes nothing.
use Rattle.std.proofs.lemmas.Result.{err_from_is_err_and}
use Rattle.entries.proofs.Decisions.{flows_of_turned_values, flows_of_values}
use Rattle.entries.proofs.lists.decide_flows.Goals as goal

pub returns-in_err-tested : goal.returns-in_err-tested
returns-in_err-tested c =
    let a = c.args in
    let p = err_from_is_err_and c.from_residual.result c.from_residual.ensures.1 in
    rw (p.1, p.2) (flows_of_turned_values a.rules.now a.policy.now a.default _ c.in_err-tested.ensures a.flows.now a.place.now)

pub returns : goal.returns
returns c =
    let a = c.args in
    flows_of_values a.rules.now a.policy.now a.default c.is_some.ensures c.default_of.ensures c.in_ok-tested.ensures a.flows.now
    a.place.now c.decide_into.ensures
