-- What is seen of a listing so far against what was found by the definitions of `iptables`. Assumes nothing.
use Rattle.std.specs.Prelude.{Result, Ok, Err, ℕ, min, ◌≡◌, Bool, true, false, cond, List, [], ◌∷◌, length, eqb}
use Rattle.policy.specs.declared.Action.{Action}
use Rattle.policy.specs.declared.Action.TheVariants.{Deny, Permit}
use Rattle.deployment.specs.Checked.{Checked, good, bad}
use Rattle.deployment.specs.File.{file_of, refused}
use Rattle.deployment.specs.FieldValues.{at_zero, answered, left_by, left_alone, Writing, writing}
use Rattle.deployment.specs.declared.Refusal.{Refusal}
use Rattle.deployment.specs.declared.Why.{Why}
use Rattle.catalogue.specs.Answers.{checking}
use Rattle.iptables.specs.Listing.{Found, first_only, stepped, gathered, listing_read}
use Rattle.iptables_reader.specs.Kept.{line_at, Kept, action_if}
use Rattle.iptables_reader.specs.declared.Seen.{Seen}

-- one `:FORWARD` line more
unfoldable pub permitted : Action → Bool
permitted Deny = false
permitted Permit = true

unfoldable pub with_default : Seen → Action → Seen
with_default seen action =
    record {
      inside = seen.inside;
      defaults = cond (eqb seen.defaults 0) 1 2;
      permits = permitted action;
      rules = seen.rules;
    }

-- a line that has no rule and no default
unfoldable pub going_on : Seen → Bool → Seen
going_on seen inside = record { inside = inside; defaults = seen.defaults; permits = seen.permits; rules = seen.rules }

-- what is seen is what was found: the defaults counted to 2, the different rules to 1,025
pub record FoundAs (listing marks starts : List ℕ) (seen : Seen) (f : Found) : Type 0 where
  pub inside : seen.inside ≡ f.inside
  pub defaults : seen.defaults ≡ min 2 (length f.defaults)
  pub permits : (action : Action) → f.defaults ≡ action ∷ [] → action ≡ action_if seen.permits
  pub kept : Kept listing marks starts seen.rules (first_only [] f.rules)

abbrev pub SomeFound : List ℕ → List ℕ → List ℕ → Seen → Type 0
SomeFound listing marks starts seen = (f : Found) × FoundAs listing marks starts seen f

-- one line more, or why it is turned away
abbrev pub SteppedAs : List ℕ → List ℕ → List ℕ → Checked Found → Result Seen Why → Type 0
SteppedAs listing marks starts (good f) answer = (seen : Seen) × (answer ≡ Ok seen) × FoundAs listing marks starts seen f
SteppedAs listing marks starts (bad why) answer = answer ≡ Err why

abbrev pub Steps : List ℕ → ℕ → Seen → List ℕ → List ℕ → Result Seen Why → List ℕ → List ℕ → Type 0
Steps listing start seen marks starts answer marks-after starts-after =
    (f : Found) → FoundAs listing marks starts seen f → SteppedAs listing marks-after starts-after (stepped f (line_at start listing)) answer

-- all lines: what they have, by which the listing is read, or its refusal
abbrev pub GatheredAs : List ℕ → List ℕ → List ℕ → Result Seen Refusal → Type 0
GatheredAs listing marks starts (Ok seen) = (f : Found) × FoundAs listing marks starts seen f × (listing_read listing ≡ at_zero (gathered f))
GatheredAs listing marks starts (Err refusal) = listing_read listing ≡ refused refusal

-- the file of what was found
unfoldable pub written_for : Found → List ℕ → Writing
written_for f place = answered (λ c. writing (file_of c) place) (left_alone Err place) (at_zero (gathered f))

-- the tests at 0, and the file, of whatever was found
abbrev pub Finishes : Seen → Result Unit Why → Type 0
Finishes seen answer = (listing marks starts : List ℕ) (f : Found) → FoundAs listing marks starts seen f → answer ≡ checking (gathered f)

abbrev pub Writes : List ℕ → List ℕ → Seen → List ℕ → Result ℕ Refusal → List ℕ → Type 0
Writes listing starts seen before answer after =
    (marks : List ℕ) (f : Found) → FoundAs listing marks starts seen f → left_by answer after ≡ written_for f before
