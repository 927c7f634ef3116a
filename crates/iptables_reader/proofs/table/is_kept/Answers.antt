-- `is_kept` meets its contract: the records from the k-th on say what the first `count` of them say. A record of another mark is another one.
-- Assumes nothing.
use mathlib.Core.Path.{◌≡◌, refl, sym, ◌∙◌}
use mathlib.Core.Bool.{Bool, true, false}
use lib.ListN.{get_or}
use Rattle.policy.specs.Lists.{same}
use Rattle.deployment.specs.Values.{rule_bytes}
use Rattle.iptables_words.proofs.Same.{same_is}
use Rattle.iptables_reader.specs.Kept.{rule_at}
use Rattle.iptables_reader.proofs.Keeping.{known_here, known_later, known_nowhere, other_mark}
use Rattle.iptables_reader.proofs.table.is_kept.Goals as goal
use Rattle.iptables_reader.proofs.table.is_kept.Goals.{At-loop-k, Joined-else-marks-k, else-marks-k-via-then-marks-k+else-eq, else-marks-k-via-else-marks-k}

-- whether the k-th record is the given one
abbrev is_it : At-loop-k → Bool
is_it c =
    let a = c.args in
    same (rule_bytes (rule_at a.listing.now (get_or a.starts.now c.loop-k.k 0))) a.bytes.now

pub loop-k-init : goal.loop-k-init
loop-k-init c = refl

-- it isn't, by its mark or by its bytes
other : (c : Joined-else-marks-k) → is_it (goal.at.Joined-else-marks-k c).At-loop-k ≡ false
other c =
    let a = c.args in
    elim c.else-marks-k.branch [
      | else-marks-k-via-then-marks-k+else-eq w ↦ rw (← w.record_at.ensures, ← w.as_slice.ensures, ← same_is) (sym w.if-eq.ensures)
      | else-marks-k-via-else-marks-k w ↦
          other_mark a.listing.now a.starts.now a.bytes.now a.count c.loop-k.k c.requires.1 c.loop-k-test.true
          a.marks.now c.requires.2 (λ e. w.if-marks-k.false (e ∙ sym c.mark_of-mark.ensures.0))
    ]

pub loop-k-preserved : goal.loop-k-preserved
loop-k-preserved c =
    let a = c.args in
    c.loop-k.invariant
    ∙ known_later a.listing.now a.starts.now a.bytes.now a.count c.loop-k.k c.requires.1 c.loop-k-test.true
    (other c)

pub returns-then-eq : goal.returns-then-eq
returns-then-eq c =
    let a = c.args in
    let is : is_it (goal.at.returns-then-eq c).At-loop-k ≡ true = rw (← c.record_at.ensures, ← c.as_slice.ensures, ← same_is) (sym c.if-eq.ensures) in
    sym (c.loop-k.invariant
    ∙ known_here a.listing.now a.starts.now a.bytes.now a.count c.loop-k.k c.requires.1
    c.loop-k-test.true is)

pub returns : goal.returns
returns c =
    let a = c.args in
    sym (c.loop-k.invariant
    ∙ known_nowhere a.listing.now a.starts.now a.bytes.now a.count c.loop-k.k c.requires.1 c.loop-k-test.false)
