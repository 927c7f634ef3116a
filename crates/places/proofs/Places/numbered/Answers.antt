-- `numbered` gives the array that the definition gives. The loop's invariant: numbering what is left of the list, from index k on, gives what
-- numbering it from the first index on gave. Assumes nothing.
use Prim.Native.Nat.{ℕ, suc, ◌+◌, ◌≤◌, ◌<◌}
use native.Mathlib.Omega.{arith}
use mathlib.Core.Path.{◌≡◌, refl, sym, ◌∙◌, ap}
use mathlib.Core.List.{List}
use lib.ListN.{length, take, drop, get_or, set, length-set}
use lib.Seq.{set_out}
use Rattle.places.specs.Places.{renumbered}
use Rattle.running.proofs.Edits.{view_count, view_fits}
use Rattle.places.proofs.Numbering.{numbers_one, numbers_none}
use Rattle.places.proofs.Places.numbered.Goals as goal
use Rattle.places.proofs.Places.numbered.Goals.{After-count-len, In-loop-k, Joined-at-lt-MOST_RULES, Start, then-at-lt-MOST_RULES, else-at-lt-MOST_RULES}

pub loop-k-init : goal.loop-k-init
loop-k-init c = (c.well_formed.0.1.1.0.1.0.1, refl)

-- a place of the list is a slot of the array
slots : (c : Start) → length c.args.list.rules ≡ 1024
slots c = c.well_formed.1.0.1.1.0.1.0.1

fits : (c : After-count-len) → c.count-len.result ≤ 1024
fits c = omega (arith, c.count-len.ensures, view_fits c.args.list, slots (goal.at.After-count-len c).Start)

below : (c : In-loop-k) → c.loop-k.k < 1024
below c = omega (arith, c.loop-k-test.true, fits (goal.at.In-loop-k c).After-count-len)

pub offset_bounds-rules-k : goal.offset_bounds-rules-k
offset_bounds-rules-k c =
    record { fits = omega (arith, c.loop-k-test.true, fits (goal.at.offset_bounds-rules-k c).After-count-len) }

pub bounds-rules-k : goal.bounds-rules-k
bounds-rules-k c = omega (arith, c.loop-k-test.true, fits (goal.at.bounds-rules-k c).After-count-len)

pub overflow_add-of : goal.overflow_add-of
overflow_add-of c = record { fits = omega (arith, below (goal.at.overflow_add-of c).In-loop-k) }

pub overflow_cast-of : goal.overflow_cast-of
overflow_cast-of c = record { fits = omega (arith, below (goal.at.overflow_cast-of c).In-loop-k) }

-- a number past the array's end changes nothing, as in the definition
stored : (c : Joined-at-lt-MOST_RULES) →
    c.if-at-lt-MOST_RULES.of
    ≡ set c.loop-k.of (get_or c.args.list.rules c.loop-k.k 0) (c.loop-k.k + 1)
stored c =
    elim c.if-at-lt-MOST_RULES.branch [
      | then-at-lt-MOST_RULES w ↦ w.of-is
      | else-at-lt-MOST_RULES w ↦ w.of-is ∙ sym (set_out c.loop-k.of _ _ (omega (arith, w.if-at-lt-MOST_RULES.false, c.loop-k.invariant.0)))
    ]

pub loop-k-preserved : goal.loop-k-preserved
loop-k-preserved c =
    let rules = c.args.list.rules in (
      ap length (stored c) ∙ length-set c.loop-k.of _ _ ∙ c.loop-k.invariant.0,
      ap (renumbered (suc (c.loop-k.k + 1)) (drop (c.loop-k.k + 1) (take c.count-len.result rules))) (stored c)
          ∙ numbers_one c.loop-k.k c.count-len.result rules c.loop-k.of c.loop-k-test.true (omega (arith, fits (goal.at.loop-k-preserved c).After-count-len, slots (goal.at.loop-k-preserved c).Start))
          ∙ c.loop-k.invariant.1,
    )

pub returns : goal.returns
returns c =
    let args = c.args in
    sym (numbers_none c.loop-k.k c.count-len.result args.list.rules c.loop-k.of c.loop-k-test.false)
    ∙ c.loop-k.invariant.1
    ∙ ap (λ (l : List ℕ). renumbered (suc args.from) (drop args.from l) args.self.of) (view_count args.list _ c.count-len.ensures)
