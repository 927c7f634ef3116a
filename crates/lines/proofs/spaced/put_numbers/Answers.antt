-- `put_numbers` meets its contract. The loop's invariant: the numbers so far stand from the start on, and with those that are left they are
-- all. Assumes nothing.
use Rattle.std.proofs.Common.{get_or, refl, arith, drop-cons}
use Rattle.lines.specs.Text.{spaced, spaced_all}
use Rattle.lines.proofs.Lines.{following, no_lines, one_line, all_lines}
use Rattle.lines.proofs.Lengths.{all_short}
use Rattle.lines.proofs.spaced.put_numbers.Goals as goal

pub loop-n-init : goal.loop-n-init
loop-n-init c = let args = c.args in no_lines following 0 args.numbers.now args.place.now args.at

pub loop-n-preserved : goal.loop-n-preserved
unfolding spaced_all
loop-n-preserved c =
    let numbers = c.args.numbers.now in
    let k = c.loop-n.n-index in
    one_line following 0 numbers k c.loop-n.invariant (get_or numbers k 0) (spaced (get_or numbers k 0)) (drop-cons numbers k 0 (omega arith)) refl
    c.put_spaced-next.ensures

pub returns : goal.returns
unfolding spaced_all
returns c =
    let numbers = c.args.numbers.now in
    record {
      put = all_lines following 0 numbers c.loop-n.n-index c.loop-n.invariant (omega arith) refl;
      short = all_short numbers (λ i. omega (arith, c.type_inv.numbers i));
    }
