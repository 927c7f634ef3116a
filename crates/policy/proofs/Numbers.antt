-- No two answers share their number and values: each can be found again from them. Assumes nothing.
use Prim.Native.Nat.{ℕ, ◌≤◌, ◌<◌}
use native.Mathlib.Omega.{arith}
use mathlib.Core.Path.{◌≡◌, refl, ap}
use mathlib.Core.Bool.{cond}
use mathlib.Core.List.{List, [], ◌∷◌}
use mathlib.Core.Option.{Option, none, some}
use lib.Dec.{eqb}
use lib.ListN.{get_or}
use Rattle.policy.specs.Command.{fault_number}
use Rattle.policy.specs.Judge.{verdict_numbers}
use Rattle.policy.specs.Claims.{FaultNumbersDiffer, VerdictNumbersDiffer}
use Rattle.policy.specs.declared.Fault.{Fault}
use Rattle.policy.specs.declared.Fault.TheVariants.{Present, Absent, Place, Number}
use Rattle.policy.specs.declared.Verdict.{Verdict}
use Rattle.policy.specs.declared.Verdict.TheVariants.{Broken, Elsewhere, Unordered, NotFull, Safe}

-- answers that can be found again from what is told of them are told apart
pub told_apart : {A B : Type 0} (told : A → B) (found : B → Option A) → ((a : A) → found (told a) ≡ some a)
    → (a b : A) → told a ≡ told b → a ≡ b
told_apart told found again a b e = cc (again a, again b, ap found e)

-- the first of some cases that has a number
unfoldable pub numbered : {A : Type 0} → (A → ℕ) → List A → ℕ → Option A
numbered number [] n = none
numbered number (a ∷ cases) n = cond (eqb (number a) n) (some a) (numbered number cases n)

abbrev faults : List Fault
faults = Present ∷ Absent ∷ Place ∷ Number ∷ []

fault_again : (f : Fault) → numbered fault_number faults (fault_number f) ≡ some f
unfolding numbered
fault_again Present = refl
fault_again Absent = refl
fault_again Place = refl
fault_again Number = refl

pub fault_numbers_differ : FaultNumbersDiffer
fault_numbers_differ = told_apart fault_number (numbered fault_number faults) fault_again

-- faults are numbered below the other verdicts
pub fault_below : (f : Fault) → fault_number f < 24
fault_below Present = omega arith
fault_below Absent = omega arith
fault_below Place = omega arith
fault_below Number = omega arith

-- the verdicts that have given values
abbrev verdicts : ℕ → ℕ → List Verdict
verdicts at place =
    Broken Present at ∷ Broken Absent at ∷ Broken Place at ∷ Broken Number at
    ∷ Elsewhere at ∷ Unordered at place ∷ NotFull ∷ Safe ∷ []

abbrev verdict_found : List ℕ → Option Verdict
verdict_found numbers =
    numbered (λ v. get_or (verdict_numbers v) 0 0) (verdicts (get_or numbers 1 0) (get_or numbers 2 0)) (get_or numbers 0 0)

verdict_again : (v : Verdict) → verdict_found (verdict_numbers v) ≡ some v
unfolding numbered verdict_numbers
verdict_again (Broken Present at) = refl
verdict_again (Broken Absent at) = refl
verdict_again (Broken Place at) = refl
verdict_again (Broken Number at) = refl
verdict_again (Elsewhere commands) = refl
verdict_again (Unordered at place) = refl
verdict_again NotFull = refl
verdict_again Safe = refl

pub verdict_numbers_differ : VerdictNumbersDiffer
verdict_numbers_differ = told_apart verdict_numbers verdict_found verdict_again

-- verdicts are numbered from 20 on
pub verdict_from : (v : Verdict) → 20 ≤ get_or (verdict_numbers v) 0 0
unfolding verdict_numbers
verdict_from (Broken Present at) = omega arith
verdict_from (Broken Absent at) = omega arith
verdict_from (Broken Place at) = omega arith
verdict_from (Broken Number at) = omega arith
verdict_from (Elsewhere commands) = omega arith
verdict_from (Unordered at place) = omega arith
verdict_from NotFull = omega arith
verdict_from Safe = omega arith

-- and below 50
pub verdict_below : (v : Verdict) → get_or (verdict_numbers v) 0 0 < 50
unfolding verdict_numbers
verdict_below (Broken fault at) = omega (arith, fault_below fault)
verdict_below (Elsewhere commands) = omega arith
verdict_below (Unordered at place) = omega arith
verdict_below NotFull = omega arith
verdict_below Safe = omega arith
