-- `write_into` meets its contract: a place that is too small is left as it was; else the fields are put one behind the other. Assumes
-- nothing.
use Prim.Native.Nat.{◌≤◌, ◌<◌}
use native.Mathlib.Omega.{arith}
use mathlib.Core.Path.{◌≡◌, sym, subst}
use lib.ListN.{length}
use Rattle.deployment.specs.FieldValues.{FieldValues, lent, Stored}
use Rattle.deployment.proofs.Storing.{stored_more, stored_room}
use Rattle.writer.specs.Answers.{lists_bytes, needed}
use Rattle.writer.proofs.Files.{length_lists, length_to_default, length_to_keep, too_small, all_put}
use Rattle.writer.proofs.write_into.Goals as goal
use Rattle.writer.proofs.write_into.Goals.{After-values}

-- the values, field by field, and there is room for all of them
abbrev values : After-values → FieldValues
values c =
    let inside = c.values.inside in
    record {
      rules = inside.rules.now;
      initial = inside.initial.now;
      target = inside.target.now;
      default = lent inside.default;
      keep = lent inside.keep;
      script = lent inside.script;
    }

room : (c : After-values) → (needed (values c) ≤ length c.args.place.now) × (needed (values c) < 65536)
room c =
    let same : values c ≡ c.args.values.now = c.values.view_is in
    subst (λ (v : FieldValues). (needed v ≤ length c.args.place.now) × (needed v < 65536)) (sym same)
    (omega (arith, c.bytes_needed-needed.ensures, c.if-place-needed.false), c.requires)

-- and the fields of the rules and of both policies are put
lists_put : (c : After-values)
    → let v = values c in
    Stored c.args.place.now 0 (lists_bytes v.rules v.initial v.target) c.put_lists-at.new.place c.put_lists-at.result
lists_put c =
    subst
    (λ (v : FieldValues). Stored c.args.place.now 0 (lists_bytes v.rules v.initial v.target) c.put_lists-at.new.place c.put_lists-at.result)
    (sym c.values.view_is) c.put_lists-at.ensures

pub returns-then-place-needed : goal.returns-then-place-needed
returns-then-place-needed c =
    too_small c.args.values.now c.args.place.now _ c.bytes_needed-needed.ensures c.if-place-needed.true

pub put_if-at-requires : goal.put_if-at-requires
put_if-at-requires c =
    let at = (goal.at.put_if-at-requires c).After-values in
    let v = values at in (
      stored_room (lists_put at) _ (omega (arith, length_lists v.rules v.initial v.target, (room at).0)),
      omega (arith, (room at).1),
    )

pub put_if-at-requires-2 : goal.put_if-at-requires-2
put_if-at-requires-2 c =
    let at = (goal.at.put_if-at-requires-2 c).After-values in (
      stored_room (stored_more (lists_put at) c.put_if-at.ensures) _ (omega (arith, length_to_default (values at), (room at).0)),
      omega (arith, (room at).1),
    )

pub put_if-at-requires-3 : goal.put_if-at-requires-3
put_if-at-requires-3 c =
    let at = (goal.at.put_if-at-requires-3 c).After-values in (
      stored_room (stored_more (stored_more (lists_put at) c.put_if-at.ensures) c.put_if-at-2.ensures) _
          (omega (arith, length_to_keep (values at), (room at).0)),
      omega (arith, (room at).1),
    )

pub returns : goal.returns
returns c =
    let at = (goal.at.returns c).After-values in
    let same : values at ≡ c.args.values.now = c.values.view_is in
    rw (← same)
    (all_put (values at) c.args.place.now (room at).0
    (stored_more (stored_more (stored_more (lists_put at) c.put_if-at.ensures) c.put_if-at-2.ensures) c.put_if-at-3.ensures))
