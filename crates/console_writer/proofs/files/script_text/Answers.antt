-- `files::script_text` meets its contract: the script at its place in an accepted file is that of the contents, and its text is written. Assumes
-- nothing.
use native.Mathlib.Omega.{arith}
use mathlib.Core.Path.{◌≡◌}
use Rattle.deployment.specs.Properties.{AreBytes}
use Rattle.deployment.proofs.Bytes.{elements_are_bytes}
use Rattle.std.specs.Prelude.{Err}
use borrow.Author.Rules.{rules}
use Rattle.console_writer.proofs.Values.{file_turned, file_fit, file_written}
use Rattle.console_writer.proofs.files.script_text.Goals as goal

pub returns : goal.returns
returns c =
    let a = c.args in
    let file = a.file.now in
    let layout = c.in_ok-layout.layout in
    let bytes : AreBytes file = elements_are_bytes file (λ i. omega (arith, c.type_inv.file i)) in
    let read = c.in_ok-layout.ensures in
    let own = c.value_or_empty.ensures in
    file_written file layout bytes read own a.maker a.place.now (c.write_text.ensures (file_fit file layout bytes read own))

pub returns-in_err-layout : goal.returns-in_err-layout
returns-in_err-layout c =
    let a = c.args in
    let refusal = c.in_err-layout.field-0.0 in
    let handed : c.from_residual.result ≡ Err refusal = search rules in
    rw handed (file_turned a.maker a.file.now a.place.now refusal c.in_err-layout.ensures)
