-- An answer of two tests, of which the second is made only where the first doesn't decide; the first test's answer is known to be a. Assumes nothing.
use mathlib.Core.Path.{◌≡◌, refl, sym, ◌∙◌}
use mathlib.Core.Bool.{Bool, true, false, ◌&&◌, ◌||◌}

module _ {first a r : Bool} (told : first ≡ a) where
  pub or_first : (b : Bool) → first ≡ true → r ≡ first → r ≡ (a || b)
  or_first b t e = e ∙ t ∙ rw (sym told ∙ t) refl

  pub or_second : {b : Bool} → first ≡ false → r ≡ b → r ≡ (a || b)
  or_second f e = e ∙ rw (sym told ∙ f) refl

  pub and_first : (b : Bool) → first ≡ false → r ≡ first → r ≡ (a && b)
  and_first b f e = e ∙ f ∙ rw (sym told ∙ f) refl

  pub and_second : {b : Bool} → first ≡ true → r ≡ b → r ≡ (a && b)
  and_second t e = e ∙ rw (sym told ∙ t) refl
