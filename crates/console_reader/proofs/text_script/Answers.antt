-- `text_script` meets its contract: by the type, then by what the first pass tells, which puts nothing anywhere. Assumes nothing.
use mathlib.Core.Path.{◌≡◌, sym, ◌∙◌}
use mathlib.Core.Bool.{true}
use borrow.Author.Rules.{rules}
use Rattle.std.specs.Prelude.{Err}
use Rattle.policy.specs.Policy.{most_commands}
use Rattle.policy.specs.Command.{is_type}
use Rattle.console_text.specs.Reading.{Understood, read_from}
use Rattle.console_reader.proofs.ScriptField.{pass_counted, pass_turned, no_type, of_type_lem, turned_text}
use Rattle.console_reader.proofs.text_script.Goals as goal
use Rattle.console_reader.proofs.text_script.Goals.{Else-not-is_type}

there : (c : Else-not-is_type) → is_type c.args.kind ≡ true
there c = sym c.is_type.ensures ∙ c.if-not-is_type.false

pub put_field-requires : goal.put_field-requires
put_field-requires c =
    let a = c.args in
    let read : Understood = read_from a.maker a.kind most_commands 1 a.text.now in
    pass_counted read c.put_commands.result _ _ c.put_commands.ensures c.in_ok-n.n c.in_ok-n.was

pub returns : goal.returns
returns c =
    let a = c.args in
    of_type_lem a.maker a.kind a.text.now a.place.now (there (goal.at.returns c).Else-not-is_type) c.put_field.ensures

-- 55, 56 and 4 by line
pub returns-in_err-n : goal.returns-in_err-n
returns-in_err-n c =
    let a = c.args in
    let read : Understood = read_from a.maker a.kind most_commands 1 a.text.now in
    let refusal = c.in_err-n.field-0.0 in
    let handed : c.from_residual.result ≡ Err refusal = search rules in
    rw handed
    (turned_text a.maker a.kind a.text.now a.place.now refusal (there (goal.at.returns-in_err-n c).Else-not-is_type)
    (pass_turned read c.put_commands.result _ _ c.put_commands.ensures refusal c.in_err-n.was))

-- 11
pub returns-then-not-is_type : goal.returns-then-not-is_type
returns-then-not-is_type c =
    let a = c.args in
    no_type a.maker a.kind a.text.now a.place.now (sym c.is_type.ensures ∙ c.if-not-is_type.true)
