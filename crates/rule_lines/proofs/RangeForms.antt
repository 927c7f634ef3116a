-- The three forms of a range's text, by the tests of the printer. Assumes nothing.
use Prim.Native.Nat.{ℕ, ◌+◌, ◌^◌}
use native.Mathlib.Omega.{arith}
use mathlib.Core.Path.{◌≡◌}
use mathlib.Core.Bool.{true, false, ◌&&◌}
use mathlib.Core.List.{◌++◌}
use borrow.Author.Tests.{eq-eqb, ne_eqb, eqb-true}
use lib.Dec.{eqb}
use Rattle.policy.specs.Rule.{Range}
use Rattle.policy.proofs.Tests.{and_both, both_and, falsely}
use Rattle.lines.specs.Text.{text}
use Rattle.rule_lines.specs.Text.{value_text, range_text}

module _ (width highest low high : ℕ) (top : highest + 1 ≡ 256 ^ width) where
  abbrev range : Range
  range = record { low = low; high = high }

  pub range_any : low ≡ 0 → high ≡ highest → range_text width range ≡ text "any"
  unfolding range_text
  range_any none all =
      let full : (eqb low 0 && eqb (high + 1) (256 ^ width)) ≡ true =
      both_and (eq-eqb low 0 none) (eq-eqb (high + 1) (256 ^ width) (omega (arith, top))) in
      rw full

  module _ (part : ¬ ((low ≡ 0) × (high ≡ highest))) where
    not_full : (eqb low 0 && eqb (high + 1) (256 ^ width)) ≡ false
    not_full =
        falsely
        (λ t.
        let both = and_both (eqb low 0) (eqb (high + 1) (256 ^ width)) t in
        part (eqb-true low 0 both.0, omega (arith, eqb-true (high + 1) (256 ^ width) both.1, top)))

    pub range_one : low ≡ high → range_text width range ≡ value_text width low
    unfolding range_text
    range_one same = rw (not_full, eq-eqb low high same)

    pub range_both : ¬ (low ≡ high) → range_text width range ≡ value_text width low ++ (text "-" ++ value_text width high)
    unfolding range_text
    range_both apart = rw (not_full, ne_eqb low high apart)
