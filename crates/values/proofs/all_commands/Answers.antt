-- `all_commands` meets its contract: the commands from the k-th on say what all of them say. Assumes nothing.
use native.Mathlib.Omega.{arith}
use mathlib.Core.Path.{◌≡◌, refl, sym, ◌∙◌, ap}
use Rattle.std.specs.Prelude.{is_some, not}
use Rattle.deployment.specs.Commands.{command_at, decoded}
use Rattle.values.proofs.Scripts.{read_further, read_wrong, read_all}
use Rattle.values.proofs.all_commands.Goals as goal
use Rattle.values.proofs.all_commands.Goals.{After-is_none}

-- whether the k-th command is there
told : (c : After-is_none) → is_some (decoded (command_at c.args.value.now c.loop-k.k)) ≡ not c.is_none.result
told c = ap is_some (sym c.command_at.ensures) ∙ c.is_none.ensures

pub loop-k-init : goal.loop-k-init
loop-k-init c = refl

pub returns-then-is_none : goal.returns-then-is_none
returns-then-is_none c =
    let wrong = told (goal.at.returns-then-is_none c).After-is_none ∙ ap not c.if-is_none.true in
    sym (c.loop-k.invariant ∙ read_wrong c.args.value.now c.loop-k.k (omega arith) wrong)

pub loop-k-preserved : goal.loop-k-preserved
loop-k-preserved c =
    let right = told (goal.at.loop-k-preserved c).After-is_none ∙ ap not c.if-is_none.false in
    c.loop-k.invariant ∙ read_further c.args.value.now c.loop-k.k (omega arith) right

pub returns : goal.returns
returns c = sym (c.loop-k.invariant ∙ read_all c.args.value.now c.loop-k.k (omega arith))
