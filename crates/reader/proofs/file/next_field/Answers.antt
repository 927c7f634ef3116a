-- `next_field` meets its contract: the head, then the value, then its place, each as in the definitions. Assumes nothing.
use native.Mathlib.Omega.{arith}
use mathlib.Core.Path.{◌≡◌, ◌∙◌}
use lib.ListN.{drop}
use Rattle.std.proofs.Common.{rules, Err}
use Rattle.deployment.specs.Checked.{good}
use Rattle.deployment.specs.File.{Fields, field_read}
use Rattle.deployment.proofs.Bytes.{elements_are_bytes}
use Rattle.reader.specs.Steps.{Begun}
use Rattle.reader.proofs.Heads.{few_rules}
use Rattle.reader.proofs.Reading.{turned_at_head, turned_at_value, field_inside, cut_field, apart_field, passed_on}
use Rattle.reader.proofs.file.next_field.Goals as goal
use Rattle.reader.proofs.file.next_field.Goals.{After-value}

field : (c : After-value) (f : Fields) → Begun c.args.file.now c.args.progress f
    → field_read f (drop c.args.progress.at c.args.file.now)
    ≡ good (record { tag = c.in_ok-head.head.tag; value = c.value.result.now })
field c f begun =
    cut_field c.args.file.now c.args.progress f begun c.requires.0 c.in_ok-head.head.tag c.in_ok-head.head.size _
    (c.in_ok-head.ensures f begun) c.value.ensures

pub returns-in_err-head : goal.returns-in_err-head
returns-in_err-head c =
    let away : c.from_residual.result ≡ Err c.in_err-head.field-0.0 = search rules in
    λ f begun. away ∙ turned_at_head f _ _ (c.in_err-head.ensures f begun)

pub checked-requires : goal.checked-requires
checked-requires c =
    let begun = c.requires.1 in
    apart_field c.args.file.now c.args.progress begun.0 begun.1 c.requires.0 c.in_ok-head.head.tag c.in_ok-head.head.size _
    (c.in_ok-head.ensures begun.0 begun.1) c.value.ensures c.args.differing c.requires.2

pub returns-in_err-checked : goal.returns-in_err-checked
returns-in_err-checked c =
    let away : c.from_residual-in_err-checked.result ≡ Err c.in_err-checked.field-0.0 = search rules in
    λ f begun.
    let read = field (goal.at.returns-in_err-checked c).After-value f begun in
    away ∙ turned_at_value f _ _ read _ (c.in_err-checked.ensures f begun read)

pub placed-requires : goal.placed-requires
placed-requires c = few_rules c.args.file.now c.args.progress c.requires.1.0 c.requires.1.1

pub overflow_add-result : goal.overflow_add-result
overflow_add-result c =
    let begun = c.requires.1 in
    omega (
      arith,
      field_inside c.args.file.now c.args.progress begun.0 begun.1 c.requires.0 c.in_ok-head.head.tag c.in_ok-head.head.size
          (c.in_ok-head.ensures begun.0 begun.1),
    )

pub returns : goal.returns
returns c =
    λ f begun.
    passed_on c.args.file.now c.args.progress f begun c.requires.0
    (elements_are_bytes c.args.file.now (λ i. omega (arith, c.type_inv.file i))) c.in_ok-head.head.tag c.in_ok-head.head.size _ _
    (c.in_ok-head.ensures f begun) c.value.ensures
    (c.in_ok-checked.ensures f begun (field (goal.at.returns c).After-value f begun)) c.placed.ensures
