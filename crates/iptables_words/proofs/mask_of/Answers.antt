-- `mask_of` meets its contract: nothing is behind the address, several pieces are, or one, which is the mask. Assumes nothing.
use Prim.Native.Nat.{◌+◌, ◌<◌}
use native.Mathlib.Omega.{arith}
use mathlib.Core.Path.{sym, ◌∙◌, ap}
use lib.ListN.{length}
use Rattle.deployment.proofs.Records.{part_to_end}
use Rattle.iptables_words.specs.Told.{number_told}
use Rattle.iptables_words.proofs.Addresses.{no_mask, many_masks, one_mask}
use borrow.Author.Rules.{rules}
use Rattle.iptables_words.proofs.mask_of.Goals as goal
use Rattle.iptables_words.proofs.mask_of.Goals.{Else-end-word}

inside : (c : Else-end-word) → c.args.end < length c.args.word.now
inside c = omega (arith, c.requires, c.if-end-word.false)

pub returns-then-end-word : goal.returns-then-end-word
returns-then-end-word c = let args = c.args in no_mask args.word.now args.end c.if-end-word.true

pub returns-then-cut-mask : goal.returns-then-cut-mask
returns-then-cut-mask c =
    let args = c.args in
    many_masks args.word.now args.end (inside (goal.at.returns-then-cut-mask c).Else-end-word) _ (part_to_end (args.end + 1) args.word.now) _ c.cut.ensures
    c.if-cut-mask.true

pub returns : goal.returns
returns c =
    let args = c.args in
    c.number_in.ensures
    ∙ ap number_told
    (sym (one_mask args.word.now args.end (inside (goal.at.returns c).Else-end-word) _ (part_to_end (args.end + 1) args.word.now) _ c.cut.ensures
    c.if-cut-mask.false))

pub overflow_add-mask : goal.overflow_add-mask
overflow_add-mask c = let fits = inside c in search rules

pub slice_bounds-mask-count : goal.slice_bounds-mask-count
slice_bounds-mask-count c = let fits = inside c in search rules

pub slice_bounds-mask-start : goal.slice_bounds-mask-start
slice_bounds-mask-start c = let fits = inside c in search rules
