-- Tests and what they say: a case split on a Bool, the connectives taken apart, and a choice of which one side is absurd.
-- Assumes nothing.
use mathlib.Core.Path.{◌≡◌, refl, sym, ◌∙◌}
use mathlib.Core.Bool.{Bool, true, false, not, ◌&&◌, ◌||◌, true≢false}
use mathlib.Core.Logic.{◌⊎◌, inl, inr}

-- a test passes or fails: each case gets the equation
pub by_test {ℓ} : {A : Type ℓ} (b : Bool) → (b ≡ true → A) → (b ≡ false → A) → A
by_test true pass fail = pass refl
by_test false pass fail = fail refl

pub never {ℓ} : {A : Type ℓ} {b : Bool} → b ≡ true → b ≡ false → A
never t f = absurd (true≢false (sym t ∙ f))

pub and_both : (a b : Bool) → (a && b) ≡ true → (a ≡ true) × (b ≡ true)
and_both true b e = (refl, e)
and_both false b e = never e refl

pub both_and : {a b : Bool} → a ≡ true → b ≡ true → (a && b) ≡ true
both_and {a} {b} e f = rw (e, f)

pub or_either : (a b : Bool) → (a || b) ≡ true → (a ≡ true) ⊎ (b ≡ true)
or_either true b e = inl refl
or_either false b e = inr e

pub or_left : {a : Bool} (b : Bool) → a ≡ true → (a || b) ≡ true
or_left {a} b e = rw e

pub or_right : (a : Bool) {b : Bool} → b ≡ true → (a || b) ≡ true
or_right true e = refl
or_right false e = e

pub either_or : {a b : Bool} → (a ≡ true) ⊎ (b ≡ true) → (a || b) ≡ true
either_or {a} {b} (inl e) = or_left b e
either_or {a} {b} (inr e) = or_right a e

pub or_neither : (a b : Bool) → (a || b) ≡ false → (a ≡ false) × (b ≡ false)
or_neither true b e = never refl e
or_neither false b e = (refl, e)

-- a test is false where its being true is absurd, and the other way round
pub falsely : {b : Bool} → (b ≡ true → ⊥) → b ≡ false
falsely {b} h = by_test b (λ t. absurd (h t)) (λ f. f)

pub truly : {b : Bool} → (b ≡ false → ⊥) → b ≡ true
truly {b} h = by_test b (λ t. t) (λ f. absurd (h f))

pub not_true : {b : Bool} → not b ≡ true → b ≡ false
not_true e = falsely (λ t. never e (rw t))

pub false_not : {b : Bool} → b ≡ false → not b ≡ true
false_not {b} e = rw e

-- a choice of two, of which the first is absurd, or the second
pub not_first {ℓ κ} : {A : Type ℓ} {B : Type κ} → (A → ⊥) → A ⊎ B → B
not_first n (inl a) = absurd (n a)
not_first n (inr b) = b

pub not_second {ℓ κ} : {A : Type ℓ} {B : Type κ} → (B → ⊥) → A ⊎ B → A
not_second n (inl a) = a
not_second n (inr b) = absurd (n b)

-- a test `!r` that code makes of an answer r, where it holds and where it doesn't
pub fails : {r b : Bool} → r ≡ b → not r ≡ true → b ≡ false
fails e t = sym e ∙ not_true t

pub passes : {r b : Bool} → r ≡ b → not r ≡ false → b ≡ true
passes {r} e f = sym e ∙ by_test r (λ t. t) (λ g. never (false_not g) f)
