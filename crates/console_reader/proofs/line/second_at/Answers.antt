-- `second_at` meets its contract: a command of one number has no second one, and else it stands behind its word. Assumes nothing.
use Prim.Native.Nat.{◌+◌, ◌≤◌}
use mathlib.Core.Path.{sym, ◌∙◌}
use lib.ListN.{length}
use Rattle.deployment.specs.FieldValues.{lent}
use Rattle.console_reader.proofs.Standing.{fits}
use Rattle.console_reader.proofs.Numbers.{one_number, not_between, behind_between}
use borrow.Author.Rules.{rules}
use Rattle.console_reader.proofs.line.second_at.Goals as goal

pub returns : goal.returns
unfolding lent
returns c =
    let args = c.args in
    rw (c.in-Some.is, lent)
    (behind_between args.text.now args.at c.in-Some.word.now c.number_at.result (sym c.stands.ensures ∙ c.if-not-stands.false) c.number_at.ensures)

pub returns-then-not-stands : goal.returns-then-not-stands
unfolding lent
returns-then-not-stands c =
    let args = c.args in
    rw (c.in-Some.is, lent) (not_between args.text.now args.at c.in-Some.word.now (sym c.stands.ensures ∙ c.if-not-stands.true))

pub returns-in_default : goal.returns-in_default
unfolding lent
returns-in_default c = rw (c.in_default.is, lent) (one_number c.args.text.now c.args.at c.requires)

pub overflow_add-at : goal.overflow_add-at
overflow_add-at c =
    let args = c.args in
    let room : args.at + length c.in-Some.word.now ≤ length args.text.now =
    fits c.in-Some.word.now args.text.now args.at c.requires (sym c.stands.ensures ∙ c.if-not-stands.false) in
    search rules
