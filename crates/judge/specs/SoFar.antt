-- The verdict so far: what the lists up to a step say. Assumes nothing.
use Rattle.std.specs.Prelude.{ℕ, cond, List}
use Rattle.std.proofs.Math.Option.{none, some}
use Rattle.policy.specs.Judge.{full, first_unsupported}
use Rattle.policy.specs.declared.Verdict.{Verdict}
use Rattle.policy.specs.declared.Verdict.TheVariants.{Broken, Elsewhere, Unordered, NotFull, Safe}

-- one more list, the one after the given step, where all lists before it are ordered
unfoldable pub looked_at : List ℕ → List ℕ → Verdict → ℕ → List ℕ → Verdict
looked_at initial target v at l =
    elim (first_unsupported initial target l) [ some place ↦ Unordered at place | none ↦ cond (full initial target l) v NotFull ]

-- "the first such step": once a list isn't ordered, the later ones don't count
unfoldable pub noted : List ℕ → List ℕ → Verdict → ℕ → List ℕ → Verdict
noted initial target (Unordered step place) at l = Unordered step place
noted initial target (Broken fault step) at l = looked_at initial target (Broken fault step) at l
noted initial target (Elsewhere commands) at l = looked_at initial target (Elsewhere commands) at l
noted initial target NotFull at l = looked_at initial target NotFull at l
noted initial target Safe at l = looked_at initial target Safe at l
