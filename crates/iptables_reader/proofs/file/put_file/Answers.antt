-- `put_file` meets its contract: the fields of the rules, both policies and the default stand one behind the other. Assumes nothing.
use Rattle.iptables_reader.proofs.Filing.{ListsPut, lists_put, denying_put, permitting_put}
use Rattle.iptables_reader.proofs.file.put_file.Goals as goal
use Rattle.iptables_reader.proofs.file.put_file.Goals.{After-put_numbers-2}

-- both policies stand behind the rules
lists : (c : After-put_numbers-2)
    → let a = c.args in
    ListsPut a.listing.now a.starts.now a.count a.place.now c.put_numbers-2.new.place
lists c =
    let a = c.args in
    lists_put a.listing.now a.starts.now a.count c.requires.0 c.put_rules.ensures c.put_numbers.ensures
    c.put_numbers-2.ensures

-- and the default behind them, where it permits
pub returns-then-permits : goal.returns-then-permits
returns-then-permits c =
    let a = c.args in
    rw c.if-permits.true
    (permitting_put a.listing.now a.starts.now a.count c.requires.0 (lists (goal.at.returns-then-permits c).After-put_numbers-2) c.store.ensures)

pub returns-else-permits : goal.returns-else-permits
returns-else-permits c =
    let a = c.args in
    rw c.if-permits.false (denying_put a.listing.now a.starts.now a.count c.requires.0 (lists (goal.at.returns-else-permits c).After-put_numbers-2))
