-- No two refusals share their number and position: the case can be found again from the number. Assumes nothing.
use Prim.Native.Nat.{ℕ, ◌≤◌}
use native.Mathlib.Omega.{arith}
use mathlib.Core.Path.{◌≡◌, refl, sym, ◌∙◌, ap}
use mathlib.Core.Logic.{◌⊎◌, inl, inr, ⊎_elim, ◌↔◌}
use mathlib.Core.List.{List, [], ◌∷◌}
use mathlib.Core.Option.{some}
use lib.ListN.{length, get_or}
use Rattle.policy.proofs.Numbers.{told_apart, numbered}
use Rattle.deployment.specs.Checked.{why_number, refusal_numbers}
use Rattle.deployment.specs.File.{Reading, accepted, refused, reading_numbers}
use Rattle.deployment.specs.FieldValues.{written_numbers}
use Rattle.deployment.specs.Claims.{WhyNumbersDiffer, RefusalNumbersDiffer, ReadingNumbersSay, WrittenNumbersSay}
use Rattle.deployment.specs.declared.Refusal.{Refusal}
use Rattle.std.specs.Prelude.{Result, Ok, Err}
use Rattle.deployment.specs.declared.Why.{Why}
use Rattle.deployment.specs.declared.Why.TheVariants.{
  Cut,
  Tag,
  NoTarget,
  Length,
  Bounds,
  Equal,
  TooMany,
  Outside,
  Twice,
  Keep,
  Coding,
  NoScript,
  Room,
  Default,
  NoCommand,
  Beyond,
  NotRead,
  LowAbove,
}

abbrev whys : List Why
whys = Cut ∷ Tag ∷ NoTarget ∷ Length ∷ Bounds ∷ Equal ∷ TooMany
    ∷ Outside ∷ Twice ∷ Keep ∷ Coding ∷ NoScript ∷ Room ∷ Default ∷ NoCommand ∷ Beyond ∷ NotRead ∷ LowAbove ∷ []

why_again : (why : Why) → numbered why_number whys (why_number why) ≡ some why
unfolding numbered
why_again Cut = refl
why_again Tag = refl
why_again NoTarget = refl
why_again Length = refl
why_again Bounds = refl
why_again Equal = refl
why_again TooMany = refl
why_again Outside = refl
why_again Twice = refl
why_again Keep = refl
why_again Coding = refl
why_again NoScript = refl
why_again Room = refl
why_again Default = refl
why_again NoCommand = refl
why_again Beyond = refl
why_again NotRead = refl
why_again LowAbove = refl

pub why_numbers_differ : WhyNumbersDiffer
why_numbers_differ = told_apart why_number (numbered why_number whys) why_again

-- below those of commands and verdicts, or above them
pub why_numbers : (why : Why) → (why_number why ≤ 13) ⊎ ((50 ≤ why_number why) × (why_number why ≤ 58))
why_numbers Cut = inl (omega arith)
why_numbers Tag = inl (omega arith)
why_numbers NoTarget = inl (omega arith)
why_numbers Length = inl (omega arith)
why_numbers Bounds = inl (omega arith)
why_numbers Equal = inl (omega arith)
why_numbers TooMany = inl (omega arith)
why_numbers Outside = inl (omega arith)
why_numbers Twice = inl (omega arith)
why_numbers Keep = inl (omega arith)
why_numbers Coding = inl (omega arith)
why_numbers NoScript = inl (omega arith)
why_numbers Room = inl (omega arith)
why_numbers Default = inr (omega arith, omega arith)
why_numbers NoCommand = inr (omega arith, omega arith)
why_numbers Beyond = inr (omega arith, omega arith)
why_numbers NotRead = inr (omega arith, omega arith)
why_numbers LowAbove = inr (omega arith, omega arith)

pub why_small : (why : Why) → why_number why ≤ 58
why_small why = ⊎_elim (λ low. omega arith) (λ is. is.1) (why_numbers why)

-- no refusal has a number between: those are of commands and verdicts
pub why_apart : (why : Why) → 20 ≤ why_number why → 50 ≤ why_number why
why_apart why large = ⊎_elim (λ low. omega arith) (λ is. is.0) (why_numbers why)

-- a number and a position
pub both_same : {n m p q : ℕ} → ◌≡◌ {A = List ℕ} (n ∷ p ∷ []) (m ∷ q ∷ []) → (n ≡ m) × (p ≡ q)
both_same e = (ap (λ (l : List ℕ). get_or l 0 0) e, ap (λ (l : List ℕ). get_or l 1 0) e)

pub refusal_numbers_differ : RefusalNumbersDiffer
unfolding refusal_numbers
refusal_numbers_differ r s e =
    let same = both_same e in
    let why = why_numbers_differ r.why s.why same.0 in
    λ j. record { why = why j; at = same.1 j }

-- An answer that is a refusal, or has no numbers, has the numbers of a refusal exactly when it is that refusal.
pub numbers_say : {A : Type 0} (numbers : A → List ℕ) (turned : Refusal → A) → ((r : Refusal) → numbers (turned r) ≡ refusal_numbers r)
    → ((a : A) → (numbers a ≡ []) ⊎ ((r : Refusal) × (a ≡ turned r)))
    → (a : A) (r : Refusal) → (numbers a ≡ refusal_numbers r) ↔ (a ≡ turned r)
unfolding refusal_numbers
numbers_say numbers turned told cases a r = (
  λ e. ⊎_elim (λ none. absurd (omega (arith, ap length (sym none ∙ e))))
      (λ is. is.1 ∙ ap turned (refusal_numbers_differ is.0 r (sym (ap numbers is.1 ∙ told is.0) ∙ e))) (cases a),
  λ e. ap numbers e ∙ told r,
)

pub reading_numbers_say : ReadingNumbersSay
unfolding reading_numbers
reading_numbers_say = numbers_say reading_numbers refused (λ r. refl) cases
  where
    cases : (reading : Reading) → (reading_numbers reading ≡ []) ⊎ ((r : Refusal) × (reading ≡ refused r))
    cases (accepted c) = inl refl
    cases (refused r) = inr (r, refl)

pub written_numbers_say : WrittenNumbersSay
unfolding written_numbers
written_numbers_say = numbers_say written_numbers Err (λ r. refl) cases
  where
    cases : (answer : Result ℕ Refusal) → (written_numbers answer ≡ []) ⊎ ((r : Refusal) × (answer ≡ Err r))
    cases (Ok n) = inl refl
    cases (Err r) = inr (r, refl)
