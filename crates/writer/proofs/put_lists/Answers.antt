-- `put_lists` meets its contract: the fields stand one behind the other, and there is room for each. Assumes nothing.
use Prim.Native.Nat.{◌/◌, ◌≤◌, ◌<◌}
use native.Mathlib.Omega.{arith}
use mathlib.Core.Path.{sym, subst}
use lib.ListN.{length, length-append}
use Rattle.deployment.proofs.ReadBack.{length_field}
use Rattle.deployment.proofs.Storing.{stored_more, stored_room}
use Rattle.deployment.specs.File.{initial_tag, field_bytes}
use Rattle.deployment.specs.FieldValues.{FieldValues}
use Rattle.writer.specs.Answers.{rules_bytes, lists_bytes, lists_needed}
use Rattle.writer.proofs.Pieces.{length_all_rules}
use Rattle.writer.proofs.put_lists.Goals as goal
use Rattle.writer.proofs.put_lists.Goals.{After-put_rules-at}

-- there is room for them
room : (c : After-put_rules-at)
    → let v = c.values.inside in
    (lists_needed (length v.rules.now) (length v.initial.now) (length v.target.now) ≤ length c.args.place.now)
    × (length v.initial.now < 65536) × (length v.target.now < 65536)
room c =
    subst
    (λ (v : FieldValues). (lists_needed (length v.rules) (length v.initial) (length v.target) ≤ length c.args.place.now)
    × (length v.initial < 65536) × (length v.target < 65536))
    (sym c.values.view_is) c.requires

pub put_field-at-requires : goal.put_field-at-requires
put_field-at-requires c =
    let fits = room (goal.at.put_field-at-requires c).After-put_rules-at in
    (stored_room c.put_rules-at.ensures _ (omega (arith, length_all_rules c.values.inside.rules.now, fits.0)), fits.1)

pub put_field-requires : goal.put_field-requires
put_field-requires c =
    let v = c.values.inside in
    let fits = room (goal.at.put_field-requires c).After-put_rules-at in (
      stored_room (stored_more c.put_rules-at.ensures c.put_field-at.ensures) _
          (omega (
            arith,
            length-append (rules_bytes (length v.rules.now / 27) v.rules.now) (field_bytes initial_tag v.initial.now),
            length_all_rules v.rules.now,
            length_field initial_tag v.initial.now,
            fits.0,
          )),
      fits.2,
    )

pub returns : goal.returns
unfolding lists_bytes
returns c = rw (← c.values.view_is) (stored_more (stored_more c.put_rules-at.ensures c.put_field-at.ensures) c.put_field.ensures)
