-- The lists on the way of a script: each has a property, and the two lists of each command are in a relation. `Forward` holds the
-- three facts about one or two rules from which each flow's single change follows. Assumes nothing.
use Prim.Native.Nat.{ℕ}
use mathlib.Core.Path.{◌≡◌}
use mathlib.Core.Logic.{inl}
use mathlib.Core.List.{List, [], ◌∷◌, ◌++◌}
use Rattle.policy.specs.Properties.{In, Distinct, Precedes, Ordered, Full, Makes, Leads}
use Rattle.policy.specs.declared.Command.{Command}

-- rule b leads rule a: it is in the list, and before a if a is there too
abbrev Lead : ℕ → ℕ → List ℕ → Type 0
Lead b a l = In b l × (In a l → Precedes b a l)

-- a rule of each policy, such that a flow may hit a first in the initial policy and b first in the target
pub record Rivals (initial target : List ℕ) (a b : ℕ) : Type 0 where
  pub old : In a initial
  pub new : In b target
  pub initially : In b initial → Precedes a b initial
  pub finally : In a target → Precedes b a target

-- what one command may do to the lists before and after it
pub record Forward (initial target l m : List ℕ) : Type 0 where
  pub stays : (r : ℕ) → In r target → ¬ In r initial → In r l → In r m
  pub gone : (r : ℕ) → In r initial → ¬ In r target → In r m → In r l
  pub led : (a b : ℕ) → Rivals initial target a b → Lead b a l → Lead b a m

-- a list that the judge does not turn away with verdict 30
pub record Orderly (initial target l : List ℕ) : Type 0 where
  pub distinct : Distinct l
  pub ordered : Ordered initial target l

-- a list that the judge passes
pub record Sound (initial target l : List ℕ) : Type 0 where
  pub distinct : Distinct l
  pub ordered : Ordered initial target l
  pub full : Full initial target l

-- the initial policy is such a list
pub initial_sound : (initial target : List ℕ) → Distinct initial → Sound initial target initial
initial_sound initial target d =
    record { distinct = d; ordered = λ r h. inl (record { named = h; led = λ x p. p }); full = inl (λ r h. h) }

-- a script whose commands pass, whose lists have property P, and whose commands are in relation E
abbrev pub Steps : (List ℕ → Type 0) → (List ℕ → List ℕ → Type 0) → ℕ → List ℕ → List Command → List ℕ → Type 0
Steps P E size l [] n = P l × (l ≡ n)
Steps P E size l (c ∷ script) n = P l × ((m : List ℕ) × Makes size l c m × E l m × Steps P E size m script n)

module _ (P : List ℕ → Type 0) (E : List ℕ → List ℕ → Type 0) (size : ℕ) where
  pub steps_first : (l n : List ℕ) (script : List Command) → Steps P E size l script n → P l
  steps_first l n [] (p, e) = p
  steps_first l n (c ∷ script) (p, others) = p

  pub steps_leads : (l n : List ℕ) (script : List Command) → Steps P E size l script n → Leads size l script n
  steps_leads l n [] (p, e) = e
  steps_leads l n (c ∷ script) (p, (m, made, e, rest)) = (m, made, steps_leads m n script rest)

  pub steps_append : (l m n : List ℕ) (first second : List Command)
      → Steps P E size l first m → Steps P E size m second n → Steps P E size l (first ++ second) n
  steps_append l m n [] second (p, e) t = rw e t
  steps_append l m n (c ∷ first) second (p, (x, made, e, rest)) t =
      (p, (x, made, e, steps_append x m n first second rest t))
