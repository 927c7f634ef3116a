-- `is_type` meets its contract: a code that the type allows shows that there are scripts of it, and a type of the table allows the code of a
-- command. Assumes nothing.
use Prim.Native.Nat.{ℕ}
use mathlib.Core.Path.{◌≡◌, refl, sym, ◌∙◌}
use mathlib.Core.Bool.{true, false}
use mathlib.Core.Logic.{⊎_elim}
use Rattle.policy.specs.Lists.{mem}
use Rattle.policy.specs.Command.{codes_of, is_type}
use Rattle.policy.proofs.Tests.{by_test, never, falsely}
use Rattle.policy.proofs.Lists.{mem_in}
use Rattle.policy.proofs.Types.{is_type_lem, type_is, script_types}
use Rattle.commands.proofs.is_type.Goals as goal

by_code : (type code : ℕ) → mem code (codes_of type) ≡ true → is_type type ≡ true
by_code type code e = type_is type (code, mem_in code (codes_of type) e)

by_last_code : (type : ℕ) → mem 1 (codes_of type) ≡ false → mem 3 (codes_of type) ≡ false → mem 5 (codes_of type) ≡ is_type type
unfolding codes_of mem
by_last_code type no-app no-ins =
    by_test (is_type type)
    (λ t.
    ⊎_elim
    (λ e. let app : mem 1 (codes_of type) ≡ true = rw e refl in never app no-app)
    (λ e. let ins : mem 3 (codes_of type) ≡ true = rw e refl in never ins no-ins)
    ((script_types type).types.0 (is_type_lem type t)))
    (λ f. falsely (λ t. never (by_code type 5 t) f) ∙ sym f)

pub returns-then-allows : goal.returns-then-allows
returns-then-allows c = c.if-allows.true ∙ sym (by_code c.args.kind 1 (sym c.allows.ensures ∙ c.if-allows.true))

pub returns-then-allows-2 : goal.returns-then-allows-2
returns-then-allows-2 c =
    c.if-allows-2.true
    ∙ sym (by_code c.args.kind 2 (sym c.allows-else-allows.ensures ∙ c.if-allows-2.true))

pub returns-then-allows-3 : goal.returns-then-allows-3
returns-then-allows-3 c =
    c.if-allows-3.true
    ∙ sym (by_code c.args.kind 3 (sym c.allows-else-allows-2.ensures ∙ c.if-allows-3.true))

pub returns-then-allows-4 : goal.returns-then-allows-4
returns-then-allows-4 c =
    c.if-allows-4.true
    ∙ sym (by_code c.args.kind 4 (sym c.allows-else-allows-3.ensures ∙ c.if-allows-4.true))

pub returns-else-allows-4 : goal.returns-else-allows-4
returns-else-allows-4 c =
    c.allows-else-allows-4.ensures
    ∙ by_last_code c.args.kind (sym c.allows.ensures ∙ c.if-allows.false)
    (sym c.allows-else-allows-2.ensures ∙ c.if-allows-3.false)
