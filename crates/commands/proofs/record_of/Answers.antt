-- `record_of` meets its contract: each command by its code and its two numbers, as `coded` has them. Assumes nothing.
use Rattle.policy.specs.Command.{coded}
use Rattle.commands.proofs.record_of.Goals as goal

pub returns-in-App : goal.returns-in-App
unfolding coded
returns-in-App c = rw c.in-App.is c.five.ensures

pub returns-in-DelRule : goal.returns-in-DelRule
unfolding coded
returns-in-DelRule c = rw c.in-DelRule.is c.five-in-DelRule.ensures

pub returns-in-Ins : goal.returns-in-Ins
unfolding coded
returns-in-Ins c = rw c.in-Ins.is c.five-in-Ins.ensures

pub returns-in-DelPlace : goal.returns-in-DelPlace
unfolding coded
returns-in-DelPlace c = rw c.in-DelPlace.is c.five-in-DelPlace.ensures

pub returns-in-Mov : goal.returns-in-Mov
unfolding coded
returns-in-Mov c = rw c.in-Mov.is c.five-in-Mov.ensures
