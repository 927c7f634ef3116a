-- What is told of an answer is told of any equal one: of the case that it is, and of the answer that the definitions name. Assumes nothing.
use Prim.Native.Nat.{ℕ}
use mathlib.Core.Path.{◌≡◌, ap, subst}
use mathlib.Core.List.{List}
use Rattle.told.specs.Answers.{Told, Tells}

pub tells_of : {A : Type 0} (say : A → Told) {answer wanted : A} {n : ℕ} {before after : List ℕ} → answer ≡ wanted → Tells (say answer) n before after
    → Tells (say wanted) n before after
tells_of say {n} {before} {after} is told = subst (λ (t : Told). Tells t n before after) (ap say is) told
