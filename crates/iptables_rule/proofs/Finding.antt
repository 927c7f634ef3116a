-- What is found of an option says its words: none, one or more, and the first of them; and so its range and its target. Assumes nothing.
use Prim.Native.Nat.{ℕ}
use native.Mathlib.Omega.{arith}
use mathlib.Core.Path.{◌≡◌, refl, sym, ap}
use mathlib.Core.Logic.{◌≢◌}
use mathlib.Core.List.{List, [], ◌∷◌}
use borrow.Author.Tests.{eq-eqb, ne_eqb}
use Rattle.policy.specs.Rule.{Range}
use Rattle.policy.specs.declared.Action.{Action}
use Rattle.deployment.specs.Checked.{Checked, good, bad}
use Rattle.deployment.specs.declared.Why.{Why}
use Rattle.deployment.specs.declared.Why.TheVariants.{NotRead}
use Rattle.iptables.specs.Words.{meant, full}
use Rattle.iptables.specs.Options.{at_most_once, target_given}
use Rattle.iptables.specs.declared.Kind.{Kind}
use Rattle.iptables_words.specs.Told.{bounds_of, range_told}
use Rattle.iptables_words.specs.declared.Bounds.{Bounds}
use Rattle.iptables_words.proofs.Pieces.{Several}
use Rattle.iptables_rule.specs.Found.{word_of, Looked, range_found, range_of, target_told}
use Rattle.iptables_rule.specs.declared.Found.{Found}
use Rattle.std.specs.Prelude.{Some, None}

-- The words, by how often the option is given.
module _ {line : List ℕ} {before : ℕ} {found : Found} where
  pub not_given : {words : List (List ℕ)} → Looked line words before found → found.times ≡ 0 → words ≡ []
  not_given {words = []} seen none = refl
  not_given {words = word ∷ words} seen none = absurd (omega (arith, seen.times, none))

  pub given_first : {words : List (List ℕ)} → Looked line words before found → found.times ≢ 0
      → (others : List (List ℕ)) × (words ≡ word_of found line ∷ others)
  given_first {words = []} seen some = absurd (some seen.times)
  given_first {words = word ∷ words} seen some = (words, ap (λ (w : List ℕ). w ∷ words) (sym (seen.word word words refl)))

  pub given_once : {words : List (List ℕ)} → Looked line words before found → found.times ≢ 0 → found.times ≢ 2
      → words ≡ word_of found line ∷ []
  given_once {words = []} seen some few = absurd (some seen.times)
  given_once {words = word ∷ []} seen some few = ap (λ (w : List ℕ). w ∷ []) (sym (seen.word word [] refl))
  given_once {words = word ∷ other ∷ words} seen some few = absurd (few (omega (arith, seen.times)))

  pub given_twice : {words : List (List ℕ)} → Looked line words before found → found.times ≡ 2 → Several words
  given_twice {words = []} seen twice = absurd (omega (arith, seen.times, twice))
  given_twice {words = word ∷ []} seen twice = absurd (omega (arith, seen.times, twice))
  given_twice {words = word ∷ other ∷ words} seen twice = record { first = word; second = other; others = words; is = refl }

  -- Its range.
  pub range_found_lem : (kind : Kind) {words : List (List ℕ)} → Looked line words before found
      → range_found kind found line ≡ at_most_once (meant kind) (full kind) words
  unfolding range_found at_most_once
  range_found_lem kind {words = []} seen = rw (eq-eqb found.times 0 seen.times) refl
  range_found_lem kind {words = word ∷ []} seen =
      let once : found.times ≡ 1 = seen.times in
      rw (ne_eqb found.times 0 (λ e. omega arith), ne_eqb found.times 2 (λ e. omega arith)) (ap (meant kind) (seen.word word [] refl))
  range_found_lem kind {words = word ∷ other ∷ words} seen =
      let twice : found.times ≡ 2 = omega (arith, seen.times) in
      rw (ne_eqb found.times 0 (λ e. omega arith), eq-eqb found.times 2 twice) refl

  -- Its target.
  pub no_target : {words : List (List ℕ)} → Looked line words before found → found.times ≢ 1 → target_given words ≡ bad NotRead
  unfolding target_given
  no_target {words = []} seen other = refl
  no_target {words = word ∷ []} seen other = absurd (other seen.times)
  no_target {words = word ∷ next ∷ words} seen other = refl

-- What is told of a range, or of none; and what that says.
pub range_is : (read : Checked Range) (b : Bounds) → Some b ≡ range_told read → read ≡ good (range_of b)
unfolding range_told
range_is (good range) b e = let same : b ≡ bounds_of range = cc in rw same refl
range_is (bad why) b e = absurd (cc)

pub range_not : (read : Checked Range) → None ≡ range_told read → (why : Why) × (read ≡ bad why)
unfolding range_told
range_not (good range) e = absurd (cc)
range_not (bad why) e = (why, refl)

-- What is told of a target.
pub target_is : (read : Checked Action) (action : Action) → Some action ≡ target_told read → read ≡ good action
unfolding target_told
target_is (good other) action e = let same : other ≡ action = cc in ap good same
target_is (bad why) action e = absurd (cc)

pub target_not : (read : Checked Action) → None ≡ target_told read → (action : Action) → read ≢ good action
unfolding target_told
target_not read e action is =
    let told : None ≡ Some action = rw is at e in
    absurd (cc)
