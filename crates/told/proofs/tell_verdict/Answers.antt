-- `tell_verdict` meets its contract: the number and the values of each verdict. Assumes nothing.
use mathlib.Core.Path.{refl, sym}
use Rattle.policy.specs.Judge.{verdict_numbers}
use Rattle.told.specs.Answers.{verdict_told}
use Rattle.told.proofs.Telling.{tells_of}
use Rattle.told.proofs.tell_verdict.Goals as goal

pub returns-in-Broken : goal.returns-in-Broken
unfolding verdict_numbers
returns-in-Broken c = tells_of verdict_told (sym c.in-Broken.is) c.tell_fault.ensures

pub returns-in-Elsewhere : goal.returns-in-Elsewhere
unfolding verdict_numbers
returns-in-Elsewhere c = tells_of verdict_told (sym c.in-Elsewhere.is) c.tell.ensures

pub returns-in-Unordered : goal.returns-in-Unordered
unfolding verdict_numbers
returns-in-Unordered c = tells_of verdict_told (sym c.in-Unordered.is) c.tell-in-Unordered.ensures

pub returns-in-NotFull : goal.returns-in-NotFull
unfolding verdict_numbers
returns-in-NotFull c = tells_of verdict_told (sym c.in-NotFull.is) (record { number = refl; answer = refl })

pub returns-in-Safe : goal.returns-in-Safe
unfolding verdict_numbers
returns-in-Safe c = tells_of verdict_told (sym c.in-Safe.is) (record { number = refl; answer = refl })
