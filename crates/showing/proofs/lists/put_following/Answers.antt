-- `put_following` meets its contract. The loop's invariant: the numbers from the second to the k-th stand from the start on, and with those that are
-- left they are all. Assumes nothing.
use Prim.Native.Nat.{◌<◌}
use native.Mathlib.Omega.{arith}
use mathlib.Core.Path.{refl}
use lib.ListN.{length, get_or}
use lib.Seq.{drop-cons}
use Rattle.deployment.specs.Values.{numbers_of}
use Rattle.lines.specs.Text.{spaced, spaced_all}
use Rattle.lines.proofs.Lines.{following, one_line, all_lines}
use Rattle.showing.proofs.NumberLines.{none_following}
use Rattle.showing.proofs.lists.put_following.Goals as goal

pub loop-k-init : goal.loop-k-init
loop-k-init c = let args = c.args in none_following (numbers_of args.list.now) args.place.now args.at

pub loop-k-preserved : goal.loop-k-preserved
unfolding spaced_all
loop-k-preserved c =
    let numbers = numbers_of c.args.list.now in
    let k = c.loop-k.k in
    let inside : k < length numbers = omega (arith, c.listed-k-end.ensures, c.loop-k-test.true) in
    one_line following 0 numbers k c.loop-k.invariant (get_or numbers k 0) (spaced (get_or numbers k 0)) (drop-cons numbers k 0 inside) refl
    (rw (← c.number_at.ensures) c.put_spaced-next.ensures)

pub returns : goal.returns
unfolding spaced_all
returns c =
    let numbers = numbers_of c.args.list.now in
    all_lines following 0 numbers c.loop-k.k c.loop-k.invariant (omega (arith, c.listed-k-end.ensures, c.loop-k-test.false)) refl
