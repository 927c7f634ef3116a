-- `line_at` meets its contract: the name of the code's phrase, the numbers behind it and the line feed are looked for in this order. Assumes nothing.
use Prim.Native.Nat.{◌+◌, ◌≤◌}
use mathlib.Core.Path.{◌≡◌, sym, ◌∙◌}
use mathlib.Core.Bool.{true}
use lib.ListN.{length, drop}
use Rattle.deployment.specs.FieldValues.{lent}
use Rattle.numerals.specs.Numerals.{numeral_read}
use Rattle.numerals.proofs.Numbers.{Stands, found_is}
use Rattle.console_text.specs.Reading.{starts, second_read}
use Rattle.console_reader.specs.Found.{if_good}
use Rattle.console_reader.proofs.Standing.{fits}
use Rattle.console_reader.proofs.Lines.{not_named, no_first, no_second, not_ended, line_found}
use borrow.Author.Rules.{rules}
use Rattle.console_reader.proofs.line.line_at.Goals as goal
use Rattle.console_reader.proofs.line.line_at.Goals.{Else-not-stands, In_ok-one, In_ok-two}

-- the name stands, and behind it the numbers
named : (c : Else-not-stands) → starts c.phrase_of-phrase.result.name.now (drop c.args.at c.args.text.now) ≡ true
named c = sym c.stands.ensures ∙ c.if-not-stands.false

first : (c : In_ok-one)
    → let args = c.args in
    Stands args.text.now (numeral_read (drop (args.at + length c.phrase_of-phrase.result.name.now) args.text.now)) c.in_ok-one.one.value c.in_ok-one.one.end
first c = found_is _ _ _ (rw c.in_ok-one.was at c.number_at.ensures)

second : (c : In_ok-two)
    → Stands c.args.text.now (if_good (second_read (lent c.phrase_of-phrase.result.between) (drop c.in_ok-one.one.end c.args.text.now)))
    c.in_ok-two.two.value c.in_ok-two.two.end
second c = found_is _ _ _ (rw c.in_ok-two.was at c.second_at.ensures)

pub returns : goal.returns
returns c =
    let args = c.args in
    line_found args.text.now args.at args.maker args.code c.phrase_of-phrase.result c.phrase_of-phrase.ensures (named (goal.at.returns c).Else-not-stands)
    _ _ (first (goal.at.returns c).In_ok-one) _ _ (second (goal.at.returns c).In_ok-two) (sym c.stands-2.ensures ∙ c.if-not-stands-2.false)

pub returns-then-not-stands-2 : goal.returns-then-not-stands-2
returns-then-not-stands-2 c =
    let args = c.args in
    not_ended args.text.now args.at args.maker args.code c.phrase_of-phrase.result c.phrase_of-phrase.ensures (named (goal.at.returns-then-not-stands-2 c).Else-not-stands)
    _ _ (first (goal.at.returns-then-not-stands-2 c).In_ok-one) _ _ (second (goal.at.returns-then-not-stands-2 c).In_ok-two)
    (sym c.stands-2.ensures ∙ c.if-not-stands-2.true)

pub returns-in_err-two : goal.returns-in_err-two
returns-in_err-two c =
    let args = c.args in
    rw c.from_residual-in_err-two.ensures
    (no_second args.text.now args.at args.maker args.code c.phrase_of-phrase.result c.phrase_of-phrase.ensures (named (goal.at.returns-in_err-two c).Else-not-stands)
    _ _ (first (goal.at.returns-in_err-two c).In_ok-one) (rw c.in_err-two.was at c.second_at.ensures))

pub returns-in_err-one : goal.returns-in_err-one
returns-in_err-one c =
    let args = c.args in
    rw c.from_residual.ensures
    (no_first args.text.now args.at args.maker args.code c.phrase_of-phrase.result c.phrase_of-phrase.ensures (named (goal.at.returns-in_err-one c).Else-not-stands)
    (rw c.in_err-one.was at c.number_at.ensures))

pub returns-then-not-stands : goal.returns-then-not-stands
returns-then-not-stands c =
    let args = c.args in
    not_named args.text.now args.at args.maker args.code c.phrase_of-phrase.result c.phrase_of-phrase.ensures
    (sym c.stands.ensures ∙ c.if-not-stands.true)

pub second_at-requires : goal.second_at-requires
second_at-requires c = (first (goal.at.second_at-requires c).In_ok-one).inside

pub stands-requires-2 : goal.stands-requires-2
stands-requires-2 c = (second (goal.at.stands-requires-2 c).In_ok-two).inside

pub overflow_add-at : goal.overflow_add-at
overflow_add-at c =
    let args = c.args in
    let room : args.at + length c.phrase_of-phrase.result.name.now ≤ length args.text.now =
    fits c.phrase_of-phrase.result.name.now args.text.now args.at c.requires (named (goal.at.overflow_add-at c).Else-not-stands) in
    search rules
