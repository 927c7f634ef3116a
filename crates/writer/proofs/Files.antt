-- The file of field values, put field by field: its length is the bytes needed, and the pieces one behind the other fill the first bytes of
-- the place. Assumes nothing.
use Prim.Native.Nat.{ℕ, ◌+◌, ◌/◌, ◌≤◌, ◌<◌}
use native.Mathlib.Omega.{arith}
use mathlib.Core.Path.{◌≡◌, refl, sym, ◌∙◌}
use mathlib.Core.List.{List, ◌++◌}
use lib.ListN.{length, length-append}
use Rattle.deployment.specs.File.{initial_tag, target_tag, default_tag, keep_tag, script_tag, field_bytes}
use Rattle.deployment.specs.FieldValues.{FieldValues, left_by, writing, Stored}
use Rattle.deployment.specs.declared.Why.TheVariants.{Room}
use Rattle.std.specs.Prelude.{Ok, Err}
use Rattle.deployment.proofs.Storing.{stored_fills}
use Rattle.deployment.proofs.Lent.{no_room, with_room}
use Rattle.deployment.proofs.ReadBack.{length_field}
use Rattle.writer.specs.Answers.{rules_bytes, field_if, bytes_if, lists_bytes, lists_needed, given_bytes, needed}
use Rattle.writer.proofs.Pieces.{length_if, length_all_rules}

module _ (rules initial target : List ℕ) where
  pub length_lists : length (lists_bytes rules initial target) ≡ lists_needed (length rules) (length initial) (length target)
  unfolding lists_bytes
  length_lists =
      omega (
        arith,
        length-append (rules_bytes (length rules / 27) rules ++ field_bytes initial_tag initial) (field_bytes target_tag target),
        length-append (rules_bytes (length rules / 27) rules) (field_bytes initial_tag initial),
        length_all_rules rules,
        length_field initial_tag initial,
        length_field target_tag target,
      )

-- .. with the default, and with the keep list behind it
module _ (v : FieldValues) where
  abbrev to_default : List ℕ
  to_default = lists_bytes v.rules v.initial v.target ++ field_if default_tag v.default

  pub length_to_default : length to_default ≡ lists_needed (length v.rules) (length v.initial) (length v.target) + bytes_if v.default
  length_to_default =
      omega (
        arith,
        length-append (lists_bytes v.rules v.initial v.target) (field_if default_tag v.default),
        length_lists v.rules v.initial v.target,
        length_if default_tag v.default,
      )

  pub length_to_keep : length (to_default ++ field_if keep_tag v.keep)
      ≡ lists_needed (length v.rules) (length v.initial) (length v.target) + bytes_if v.default + bytes_if v.keep
  length_to_keep = omega (arith, length-append to_default (field_if keep_tag v.keep), length_to_default, length_if keep_tag v.keep)

  pub length_given : length (given_bytes v) ≡ needed v
  unfolding given_bytes
  length_given =
      omega (
        arith,
        length-append (to_default ++ field_if keep_tag v.keep) (field_if script_tag v.script),
        length_to_keep,
        length_if script_tag v.script,
      )

  -- The two answers.
  pub too_small : (place : List ℕ) (n : ℕ) → n ≡ needed v → length place < n
      → left_by (Err (record { why = Room; at = n })) place ≡ writing (given_bytes v) place
  unfolding writing
  too_small place n is small = no_room Err (Ok (length (given_bytes v))) (given_bytes v) place n (length_given ∙ sym is) small

  pub all_put : (place : List ℕ) {now : List ℕ} {end : ℕ} → needed v ≤ length place
      → Stored place 0 (to_default ++ field_if keep_tag v.keep ++ field_if script_tag v.script) now end
      → left_by (Ok end) now ≡ writing (given_bytes v) place
  unfolding writing given_bytes
  all_put place room put =
      let ends : length (given_bytes v) ≡ _ = sym (put.end ∙ omega arith) in
      rw (sym ends)
      (with_room Err (Ok (length (given_bytes v))) (given_bytes v) place (length (given_bytes v)) refl (omega (arith, length_given))
      (stored_fills put (omega (arith, length_given))))
