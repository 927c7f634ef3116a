-- `is_full` asks of each policy whether its front part by the whole list is the whole policy. Assumes nothing.
use mathlib.Core.Path.{sym, ◌∙◌, ap₂}
use lib.Dec.{eqb}
use lib.ListN.{length}
use borrow.Author.Tests.{eq-eqb, ne_eqb}
use Rattle.deployment.specs.Values.{numbers_of}
use Rattle.policy.proofs.Tests.{or_left}
use Rattle.ordering.specs.Fronts.{stands, front}
use Rattle.ordering.proofs.Support.{full_fronts}
use Rattle.ordering.proofs.is_full.Goals as goal

pub returns-then-front_part-listed : goal.returns-then-front_part-listed
returns-then-front_part-listed c =
    let l = c.args.list.now in
    let places = c.args.places.now in
    let initial = numbers_of c.args.initial.now in
    let target = numbers_of c.args.target.now in
    let whole = eq-eqb (front (stands places (length l)) initial) (length initial) (sym c.front_part.ensures ∙ c.if-front_part-listed.true ∙ c.listed.ensures) in
    sym (or_left (eqb (front (stands places (length l)) target) (length target)) whole) ∙ full_fronts initial target places l c.requires

pub returns : goal.returns
returns c =
    let l = c.args.list.now in
    let places = c.args.places.now in
    let initial = numbers_of c.args.initial.now in
    let target = numbers_of c.args.target.now in
    let n = front (stands places (length l)) initial in
    let part = ne_eqb n (length initial) (λ e. c.if-front_part-listed.false (c.front_part.ensures ∙ e ∙ sym c.listed.ensures)) in
    ap₂ eqb c.front_part-2.ensures c.listed-2.ensures
    ∙ rw part at (full_fronts initial target places l c.requires)
