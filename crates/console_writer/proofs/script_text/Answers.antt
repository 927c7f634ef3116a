-- `script_text` meets its contract: a value that passes its tests is written, and one that fails is turned away at 0. Assumes nothing.
use native.Mathlib.Omega.{arith}
use mathlib.Core.Path.{◌≡◌}
use Rattle.deployment.specs.Properties.{AreBytes}
use Rattle.deployment.proofs.Bytes.{elements_are_bytes}
use Rattle.std.specs.Prelude.{Err}
use borrow.Author.Rules.{rules}
use Rattle.console_writer.proofs.Values.{value_turned, passed_fit, value_written}
use Rattle.console_writer.proofs.script_text.Goals as goal

pub returns : goal.returns
returns c =
    let a = c.args in
    let value = a.script.now in
    let bytes : AreBytes value = elements_are_bytes value (λ i. omega (arith, c.type_inv.script i)) in
    let passes = c.in_ok-script_checked.ensures in
    value_written value bytes passes a.maker a.place.now (c.write_text.ensures (passed_fit value bytes passes))

pub returns-in_err-script_checked : goal.returns-in_err-script_checked
returns-in_err-script_checked c =
    let a = c.args in
    let why = c.in_err-script_checked.field-0.0 in
    let handed : c.from_residual.result ≡ Err (record { why = why; at = 0 }) = search rules in
    rw handed (value_turned a.maker a.script.now a.place.now why c.in_err-script_checked.ensures)
