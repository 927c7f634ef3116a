-- `known_if` meets its contract: a rule that isn't suspect isn't compared. Assumes nothing.
use Rattle.catalogue.proofs.rule.known_if.Goals as goal

pub is_known-requires : goal.is_known-requires
is_known-requires c = c.requires

pub returns-then-suspect : goal.returns-then-suspect
returns-then-suspect c = rw c.if-suspect.true c.is_known.ensures
