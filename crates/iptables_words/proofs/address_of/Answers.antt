-- `address_of` meets its contract: the first piece isn't four numbers, the mask isn't read, or both make the range. Assumes nothing.
use Prim.Native.Nat.{◌+◌, ◌*◌, ◌-◌, ◌/◌, ◌^◌, ◌≤◌}
use mathlib.Core.Path.{sym, ◌∙◌}
use lib.Seq.{length-take-le}
use Rattle.iptables.specs.Words.{slash}
use Rattle.iptables_words.proofs.Pieces.{first_ends}
use Rattle.iptables_words.proofs.Addresses.{no_address, wrong_mask, mask_fits, address_range, range_fits}
use borrow.Author.Rules.{rules}
use Rattle.iptables_words.proofs.address_of.Goals as goal

pub returns-in_err-address : goal.returns-in_err-address
returns-in_err-address c =
    c.from_residual.ensures ∙ no_address c.args.word.now c.cut-end.result c.cut-end.ensures c.in_err-address.ensures

pub returns-in_err-n : goal.returns-in_err-n
returns-in_err-n c =
    c.from_residual-in_err-n.ensures
    ∙ wrong_mask c.args.word.now c.cut-end.result c.cut-end.ensures _ c.in_ok-address.ensures c.in_err-n.ensures

pub returns : goal.returns
returns c =
    address_range c.args.word.now c.cut-end.result c.cut-end.ensures _ c.in_ok-address.ensures _ c.in_ok-n.ensures _ c.hosts-size.ensures

pub hosts-size-requires : goal.hosts-size-requires
hosts-size-requires c = mask_fits c.args.word.now c.cut-end.result c.cut-end.ensures _ c.in_ok-address.ensures _ c.in_ok-n.ensures

pub mask_of-requires : goal.mask_of-requires
mask_of-requires c = first_ends slash c.args.word.now c.cut-end.result c.cut-end.ensures

pub slice_bounds-dotted-end : goal.slice_bounds-dotted-end
slice_bounds-dotted-end c =
    let args = c.args in
    sym (length-take-le c.cut-end.result args.word.now (first_ends slash args.word.now c.cut-end.result c.cut-end.ensures))

-- the range's high is an address
pub overflow_add-result : goal.overflow_add-result
overflow_add-result c =
    let size = c.hosts-size.result in
    let address = c.in_ok-address.address in
    let bound : address / size * size + (size - 1) ≤ 256 ^ 4 - 1 =
    range_fits c.args.word.now c.cut-end.result c.cut-end.ensures address c.in_ok-address.ensures _ c.in_ok-n.ensures size c.hosts-size.ensures in
    search rules
