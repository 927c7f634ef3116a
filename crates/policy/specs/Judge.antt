-- 01, "The ordering rule and the judge". Assumes nothing.
use Rattle.std.specs.Prelude.{ℕ, suc, Bool, cond, ◌&&◌, ◌||◌, List, [], ◌∷◌, length}
use Rattle.std.proofs.Math.Option.{Option, none, some}
use Rattle.policy.specs.Lists.{all, mem, contains, before, same}
use Rattle.policy.specs.Command.{fault_number}
use Rattle.policy.specs.Replay.{Replayed, ended, broken, replay, lists}
use Rattle.policy.specs.declared.Command.{Command}
use Rattle.policy.specs.declared.Verdict.{Verdict}
use Rattle.policy.specs.declared.Verdict.TheVariants.{Broken, Elsewhere, Unordered, NotFull, Safe}

-- "it is in the initial policy and every rule before it there stands before r in the running list", of one of the two policies
unfoldable pub supported_by : List ℕ → List ℕ → ℕ → Bool
supported_by policy running r = mem r policy && contains (before r running) (before r policy)

-- "A rule r in a running list is supported if .., or the same with the target in place of the initial policy."
unfoldable pub supported : List ℕ → List ℕ → List ℕ → ℕ → Bool
supported initial target running r = supported_by initial running r || supported_by target running r

-- "A running list is ordered if all its rules are supported"
unfoldable pub ordered : List ℕ → List ℕ → List ℕ → Bool
ordered initial target running = all (supported initial target running) running

-- "and full if it contains all of the initial policy or all of the target"
unfoldable pub full : List ℕ → List ℕ → List ℕ → Bool
full initial target running = contains running initial || contains running target

-- the first place, counted from the given one, whose rule fails the test
unfoldable pub first_failing : (ℕ → Bool) → ℕ → List ℕ → Option ℕ
first_failing test place [] = none
first_failing test place (r ∷ l) = cond (test r) (first_failing test (suc place) l) (some place)

-- "its first unsupported place"
unfoldable pub first_unsupported : List ℕ → List ℕ → List ℕ → Option ℕ
first_unsupported initial target running = first_failing (supported initial target running) 1 running

-- "the first such step and its first unsupported place", steps counted from the given one
unfoldable pub first_unordered : List ℕ → List ℕ → ℕ → List (List ℕ) → Option (ℕ × ℕ)
first_unordered initial target at [] = none
first_unordered initial target at (l ∷ others) =
    elim (first_unsupported initial target l) [ none ↦ first_unordered initial target (suc at) others | some place ↦ some (at, place) ]

-- "30 .. some list isn't ordered", "31 all are ordered, some list isn't full", "32 safe: all are ordered and full"
unfoldable pub judged : List ℕ → List ℕ → List (List ℕ) → Verdict
judged initial target way =
    elim (first_unordered initial target 0 way) [
      | some found ↦ Unordered found.0 found.1
      | none ↦ cond (all (full initial target) way) Safe NotFull
    ]

-- "20 to 24: the replay breaks or ends elsewhere; the other rows need it to pass"; the first number is the catalogue's count of rules
unfoldable pub verdict : ℕ → List ℕ → List ℕ → List Command → Verdict
verdict size initial target script =
    elim (replay size initial script) [
      | broken fault at ↦ Broken fault at
      | ended last ↦ cond (same last target) (judged initial target (lists size initial script)) (Elsewhere (length script))
    ]

-- the number of each verdict, and its values
unfoldable pub verdict_numbers : Verdict → List ℕ
verdict_numbers (Broken fault at) = fault_number fault ∷ at ∷ []
verdict_numbers (Elsewhere commands) = 24 ∷ commands ∷ []
verdict_numbers (Unordered at place) = 30 ∷ at ∷ place ∷ []
verdict_numbers NotFull = 31 ∷ []
verdict_numbers Safe = 32 ∷ []
