-- `number_at` meets its contract: the text ends, no digit stands first, a 0 does, or another digit with those behind it. Assumes nothing.
use native.Mathlib.Omega.{arith}
use mathlib.Core.Path.{◌≡◌, sym, ◌∙◌}
use mathlib.Core.Bool.{true}
use lib.ListN.{get_or}
use Rattle.numerals.specs.Numerals.{is_digit}
use Rattle.numerals.proofs.Numerals.{is_digit_lem}
use Rattle.numerals.proofs.Numbers.{text_ends, no_digit, a_zero, digits_behind}
use borrow.Author.Rules.{rules}
use Rattle.numerals.proofs.number_at.Goals as goal
use Rattle.numerals.proofs.number_at.Goals.{Else-not-is_digit}

-- the first byte is a digit
digit : (c : Else-not-is_digit) → let args = c.args in is_digit (get_or args.text.now args.at 0) ≡ true
digit c = sym c.is_digit.ensures ∙ c.if-not-is_digit.false

pub returns : goal.returns
returns c =
    let args = c.args in
    digits_behind args.text.now args.at c.if-text-at.false c.digits_from.result (digit (goal.at.returns c).Else-not-is_digit)
    c.if-first-eq-ZERO.false c.digits_from.ensures

pub returns-then-first-eq-ZERO : goal.returns-then-first-eq-ZERO
returns-then-first-eq-ZERO c =
    let args = c.args in
    a_zero args.text.now args.at c.if-text-at.false c.if-first-eq-ZERO.true

pub returns-then-not-is_digit : goal.returns-then-not-is_digit
returns-then-not-is_digit c =
    let args = c.args in
    no_digit args.text.now args.at c.if-text-at.false (sym c.is_digit.ensures ∙ c.if-not-is_digit.true)

pub returns-then-text-at : goal.returns-then-text-at
returns-then-text-at c = let args = c.args in text_ends args.text.now args.at c.if-text-at.true

pub overflow_sub-first : goal.overflow_sub-first
overflow_sub-first c = (is_digit_lem _ (digit (goal.at.overflow_sub-first c).Else-not-is_digit)).0

pub overflow_cast-first : goal.overflow_cast-first
overflow_cast-first c = let bounds = is_digit_lem _ (digit (goal.at.overflow_cast-first c).Else-not-is_digit) in search rules

pub digits_from-requires : goal.digits_from-requires
digits_from-requires c =
    let bounds = is_digit_lem _ (digit (goal.at.digits_from-requires c).Else-not-is_digit) in (search rules, omega (arith, bounds.1))
