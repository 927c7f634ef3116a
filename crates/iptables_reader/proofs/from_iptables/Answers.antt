-- `from_iptables` meets its contract: by what all lines have, the listing is turned away, or the file of what was found is written. Assumes nothing.
use Rattle.std.proofs.lemmas.Result.{err_from_is_err_and}
use Rattle.iptables_reader.proofs.Finishing.{listing_turned, listing_written}
use Rattle.iptables_reader.proofs.from_iptables.Goals as goal

pub written-requires : goal.written-requires
written-requires c =
    let (f, so_far, read) = c.in_ok-seen.ensures in
    (c.gather.new.marks, (f, so_far))

pub returns : goal.returns
returns c =
    let (f, so_far, read) = c.in_ok-seen.ensures in
    let a = c.args in
    listing_written a.listing.now a.place.now c.written.new.place f c.written.result read (c.written.ensures c.gather.new.marks f so_far)

-- a refusal
pub returns-in_err-seen : goal.returns-in_err-seen
returns-in_err-seen c =
    let a = c.args in
    let away = err_from_is_err_and c.from_residual.result c.from_residual.ensures.1 in
    rw (away.1, away.2) (listing_turned a.listing.now c.gather.new.marks c.gather.new.starts a.place.now _ c.in_err-seen.ensures)
