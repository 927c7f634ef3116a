-- `phrase_of` meets its contract: each row is that of the table. Assumes nothing.
use Rattle.std.proofs.Common.{◌≡◌, ◌⊎◌, rules, refl, inl, inr, ⊎_elim, arith, ne_eqb}
use Rattle.deployment.specs.FieldValues.{lent}
use Rattle.lines.specs.Text.{text, words_of}
use Rattle.lines.specs.Printing.{words_in}
use Rattle.lines.proofs.phrases.phrase_of.Goals as goal

pub returns-in-1 : goal.returns-in-1
unfolding words_of text words_in lent
returns-in-1 c = rw c.in-1.is refl

pub returns-in-2 : goal.returns-in-2
unfolding words_of text words_in lent
returns-in-2 c = ⊎_elim (λ is. rw is refl) (λ is. rw is refl) c.in-2.is

pub returns-in-3 : goal.returns-in-3
unfolding words_of text words_in lent
returns-in-3 c = rw c.in-3.is refl

pub returns-in_default : goal.returns-in_default
unfolding words_of
returns-in_default c =
    let code = c.args.code in
    let not_two : code ≡ 2 → ⊥ = λ is. let either : (code ≡ 2) ⊎ (code ≡ 4) = inl is in search rules in
    let not_four : code ≡ 4 → ⊥ = λ is. let either : (code ≡ 2) ⊎ (code ≡ 4) = inr is in search rules in
    rw (ne_eqb code 1 (λ is. omega arith), ne_eqb code 2 not_two, ne_eqb code 4 not_four, ne_eqb code 3 (λ is. omega arith))
    c.move_phrase.ensures
