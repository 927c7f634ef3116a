use Rattle.std.proofs.Common.{rules}
use Rattle.policy.specs.Rule.{action_number}
use Rattle.policy.proofs.U8FromAction.from.Goals as goal

pub returns-in-Deny : goal.returns-in-Deny
unfolding action_number
returns-in-Deny c = search rules

pub returns-in-Permit : goal.returns-in-Permit
unfolding action_number
returns-in-Permit c = search rules
