-- `number_in` meets its contract: the word is no number, one out of its bounds, or one within them. Assumes nothing.
use mathlib.Core.Path.{◌∙◌}
use mathlib.Core.Logic.{inl, inr, ⊎_elim}
use Rattle.iptables_words.proofs.Numbers.{no_number, out_of_bounds, in_bounds_lem}
use Rattle.iptables_words.proofs.number_in.Goals as goal

pub returns : goal.returns
returns c =
    let args = c.args in
    in_bounds_lem args.word.now args.low args.high _ c.requires c.in_ok-n.ensures c.if-n-low.false c.if-high-n.false

pub returns-then-n-low : goal.returns-then-n-low
returns-then-n-low c =
    let args = c.args in
    out_of_bounds args.word.now args.low args.high _ c.requires c.in_ok-n.ensures
    (⊎_elim (λ below. inl below) (λ above. inr above.1) c.then-n-low.either)

pub returns-in_err-n : goal.returns-in_err-n
returns-in_err-n c = let args = c.args in c.from_residual.ensures ∙ no_number args.word.now args.low args.high c.in_err-n.ensures
