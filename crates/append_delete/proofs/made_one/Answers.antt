-- `made_one` meets its contract: the run that is kept is marked, the deletes and the appends are sent, and the head makes a field of them.
-- Assumes nothing.
use Rattle.append_delete.proofs.DeletesAppends.{kept_inside, plan_few, plan_placed}
use Rattle.append_delete.proofs.made_one.Goals as goal

pub marked-marks-requires : goal.marked-marks-requires
marked-marks-requires c = kept_inside _ _ c.kept_run-kept.result c.kept_run-kept.ensures

pub send_appends-commands-requires : goal.send_appends-commands-requires
send_appends-commands-requires c = (
  kept_inside _ _ c.kept_run-kept.result c.kept_run-kept.ensures,
  rw c.send_deletes-deleted.ensures.0
      (plan_few _ _ c.kept_run-kept.result c.kept_run-kept.ensures c.marked-marks.result c.requires.0.inside c.marked-marks.ensures
      c.requires.0.distinct c.requires.1 c.requires.2),
)

pub returns : goal.returns
returns c =
    plan_placed _ _ c.kept_run-kept.result c.kept_run-kept.ensures c.marked-marks.result c.requires.0.inside c.marked-marks.ensures
    c.send_deletes-deleted.result c.send_appends-commands.result c.send_deletes-deleted.ensures c.send_appends-commands.ensures c.close.ensures
