-- `replay_into` meets its contract, by how the replay ends: without a last list, or at one, which is written where there is room. Assumes nothing.
use borrow.Author.Rules.{rules}
use mathlib.Core.Path.{sym}
use Rattle.std.proofs.lemmas.Result.{err_from_is_err_and, MatchResult-weaker}
use Rattle.last_list.proofs.Endings.{stops_with, comes_to, mapped_ok}
use Rattle.last_list.proofs.replay_into.Goals as goal

pub returns-in_err-list : goal.returns-in_err-list
returns-in_err-list c =
    let a = c.args in
    let error = err_from_is_err_and c.from_residual.result c.from_residual.ensures.1 in
    rw (error.1, error.2)
    (stops_with a.size a.initial.now a.script.now a.place.now c.replay.result c.replay.ensures _
    (MatchResult-weaker c.replay.result c.in_err-list.ensures.cases (λ last e. sym e) (λ stop made. search rules)))

pub returns : goal.returns
returns c =
    let a = c.args in
    comes_to a.size a.initial.now a.script.now a.place.now c.replay.result c.replay.ensures _
    (mapped_ok c.replay.result _ c.in_ok-list.ensures.cases) c.put_list.ensures
