-- `step` leaves what the definition says, each command by its own method. Assumes nothing.
use Rattle.replay.proofs.Replaying.step.Goals as goal

pub returns-in-App : goal.returns-in-App
returns-in-App c = rw c.in-App.is c.appended.ensures

pub returns-in-DelRule : goal.returns-in-DelRule
returns-in-DelRule c = rw c.in-DelRule.is c.rule_deleted.ensures

pub returns-in-Ins : goal.returns-in-Ins
returns-in-Ins c = rw c.in-Ins.is c.inserted.ensures

pub returns-in-DelPlace : goal.returns-in-DelPlace
returns-in-DelPlace c = rw c.in-DelPlace.is (c.place_deleted.ensures _)

pub returns-in-Mov : goal.returns-in-Mov
returns-in-Mov c = rw c.in-Mov.is (c.moved.ensures _)
