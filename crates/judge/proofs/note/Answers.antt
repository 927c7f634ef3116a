-- `note` follows the definition: an unordered list stays; else the list's first unsupported place, else whether it is full. Assumes nothing.
use Prim.Native.Nat.{ℕ}
use mathlib.Core.Path.{◌≡◌, refl, sym, ◌∙◌}
use mathlib.Core.List.{List}
use Rattle.policy.specs.declared.Verdict.{Verdict}
use Rattle.policy.specs.declared.Verdict.TheVariants.{Broken, Elsewhere, Unordered, NotFull, Safe}
use Rattle.deployment.specs.Values.{numbers_of}
use Rattle.judge.specs.SoFar.{looked_at, noted}
use Rattle.judge.proofs.Verdicts.{looked_unordered, looked_lacking, looked_full}
use Rattle.judge.proofs.note.Goals as goal

-- the other verdicts
looks : (initial target : List ℕ) (v : Verdict) (at : ℕ) (l : List ℕ) → ((step place : ℕ) → v ≡ Unordered step place → ⊥)
    → looked_at initial target v at l ≡ noted initial target v at l
unfolding noted
looks initial target (Broken fault step) at l h = refl
looks initial target (Elsewhere commands) at l h = refl
looks initial target (Unordered step place) at l h = absurd (h step place refl)
looks initial target NotFull at l h = refl
looks initial target Safe at l h = refl

pub returns-in-Unordered : goal.returns-in-Unordered
unfolding noted
returns-in-Unordered c = rw c.in-Unordered.is

pub first_unsupported-place-requires : goal.first_unsupported-place-requires
first_unsupported-place-requires c = (c.requires, sym c.is_ordered.ensures ∙ c.if-not-is_ordered.true)

pub returns-then-not-is_ordered : goal.returns-then-not-is_ordered
returns-then-not-is_ordered c =
    let a = c.args in
    let initial = numbers_of a.initial.now in
    let target = numbers_of a.target.now in
    looked_unordered initial target a.found a.at a.list.now c.first_unsupported-place.result c.first_unsupported-place.ensures
    ∙ looks initial target a.found a.at a.list.now c.in_default.not-Unordered

pub returns-then-not-is_full : goal.returns-then-not-is_full
returns-then-not-is_full c =
    let a = c.args in
    let initial = numbers_of a.initial.now in
    let target = numbers_of a.target.now in
    looked_lacking initial target a.found a.at a.list.now
    (sym c.is_ordered.ensures ∙ c.if-not-is_ordered.false) (sym c.is_full.ensures ∙ c.if-not-is_full.true)
    ∙ looks initial target a.found a.at a.list.now c.in_default.not-Unordered

pub returns : goal.returns
returns c =
    let a = c.args in
    let initial = numbers_of a.initial.now in
    let target = numbers_of a.target.now in
    looked_full initial target a.found a.at a.list.now
    (sym c.is_ordered.ensures ∙ c.if-not-is_ordered.false) (sym c.is_full.ensures ∙ c.if-not-is_full.false)
    ∙ looks initial target a.found a.at a.list.now c.in_default.not-Unordered
