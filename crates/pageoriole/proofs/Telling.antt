-- A C function leaves what the definitions say of the entry's answer: it is told, and the place holds what the entry left there. The law is over the
-- answer's type and its outcome, so it is the same for every entry that writes. Assumes nothing.
use Prim.Native.Nat.{ℕ}
use mathlib.Core.Path.{◌≡◌, ap}
use mathlib.Core.List.{List}
use Rattle.told.specs.Answers.{Tells}
use Rattle.told.proofs.Telling.{tells_of}
use Rattle.pageoriole.specs.Answers.{Outcome, Leaves}

pub leaves_of : {L : Type 0} (outcome : L → Outcome) {left wanted : L} {n : ℕ} {before after : List ℕ} → left ≡ wanted
    → Tells (outcome left).told n before after → Leaves (outcome wanted) n before after (outcome left).place
leaves_of {L} outcome is told =
    record {
      tells = tells_of (λ (l : L). (outcome l).told) is told;
      held = ap (λ (l : L). (outcome l).place) is;
    }
