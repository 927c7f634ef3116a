-- From what all lines have to the file. The idea: what is seen decides the tests at 0 as what was found does, since both count as far as the tests
-- ask; where they pass, the rules that are kept are those found, each at its first place, and their file is as long as is said. Assumes nothing.
use Prim.Native.Nat.{ℕ, min, ◌≤◌, ◌<◌}
use native.Mathlib.Omega.{arith}
use mathlib.Core.Path.{◌≡◌, refl, sym, ◌∙◌, ap}
use mathlib.Core.Bool.{Bool, true, false}
use mathlib.Core.Logic.{◌≢◌}
use mathlib.Core.List.{List, [], ◌∷◌, map}
use borrow.Author.Tests.{eqb-true, eqb-false, leb-true, leb-false, le-leb, lt-leb}
use lib.ListN.{length, take}
use lib.Seq.{sets}
use lib.Dec.{eqb, leb}
use Rattle.policy.specs.Policy.{most_rules, most_listed, same_action}
use Rattle.policy.specs.Rule.{Rule}
use Rattle.policy.specs.declared.Action.{Action}
use Rattle.policy.specs.declared.Action.TheVariants.{Permit}
use Rattle.policy.proofs.Tests.{by_test}
use Rattle.deployment.specs.Checked.{Checked, good, bad}
use Rattle.deployment.specs.Contents.{Contents}
use Rattle.deployment.specs.File.{file_of}
use Rattle.deployment.specs.FieldValues.{at_zero, left_by, left_alone, writing}
use Rattle.deployment.specs.declared.Refusal.{Refusal}
use Rattle.deployment.specs.declared.Why.{Why}
use Rattle.deployment.specs.declared.Why.TheVariants.{NotRead, TooMany, Length, Room}
use Rattle.std.specs.Prelude.{Result, Ok, Err}
use Rattle.deployment.proofs.Storing.{stored_fills}
use Rattle.deployment.proofs.Lent.{no_room, with_room, turned_away}
use Rattle.catalogue.specs.Answers.{checking}
use Rattle.values.proofs.Given.{failed}
use Rattle.iptables.specs.Listing.{Found, first_only, just_one, contents_of, gathered, listing_read}
use Rattle.iptables.specs.Answers.{file_of_listing}
use Rattle.iptables.proofs.Contents.{file_length}
use Rattle.iptables_reader.specs.Kept.{rule_at, action_if, bytes_needed}
use Rattle.iptables_reader.specs.Gathering.{FoundAs, GatheredAs, written_for}
use Rattle.iptables_reader.specs.declared.Seen.{Seen}

-- "just one `:FORWARD` line", counted to 2
not_just_one : (defaults : List Action) → min 2 (length defaults) ≢ 1 → just_one defaults ≡ bad NotRead
unfolding just_one
not_just_one [] other = refl
not_just_one (action ∷ []) other = absurd (other (omega arith))
not_just_one (action ∷ next ∷ defaults) other = refl

just_one_lem : (defaults : List Action) → min 2 (length defaults) ≡ 1 → (action : Action) × (defaults ≡ action ∷ [])
just_one_lem [] one = absurd (omega arith)
just_one_lem (action ∷ []) one = (action, refl)
just_one_lem (action ∷ next ∷ defaults) one = absurd (omega arith)

-- The file's length, by what is seen of the default.
permit_asked : (permits : Bool) → same_action (action_if permits) Permit ≡ permits
unfolding action_if same_action
permit_asked true = refl
permit_asked false = refl

length_file : (rules : List Rule) (permits : Bool) → length (file_of (contents_of rules (action_if permits))) ≡ bytes_needed (length rules) permits
unfolding bytes_needed
length_file rules permits = file_length rules (action_if permits) ∙ rw (permit_asked permits)

-- The tests at 0, by what is seen.
module _ {listing marks starts : List ℕ} {seen : Seen} {f : Found} (so_far : FoundAs listing marks starts seen f) where
  abbrev rules : List Rule
  rules = first_only [] f.rules

  -- 57
  pub finished_read : seen.defaults ≢ 1 → Err NotRead ≡ checking (gathered f)
  unfolding gathered checking
  finished_read other = rw (not_just_one f.defaults (λ e. other (so_far.defaults ∙ e)))

  module _ (one : seen.defaults ≡ 1) where
    abbrev alone : (action : Action) × (f.defaults ≡ action ∷ [])
    alone = just_one_lem f.defaults (sym so_far.defaults ∙ one)

    -- 7
    pub finished_many : most_rules < seen.rules → Err TooMany ≡ checking (gathered f)
    unfolding gathered checking just_one
    finished_many many = rw (alone.1, lt-leb (length rules) most_rules (so_far.kept.over many))

    module _ (fits : seen.rules ≤ most_rules) where
      counted : length rules ≡ seen.rules
      counted = sym (so_far.kept.exact fits)

      -- 4
      pub finished_long : most_listed < seen.rules → Err Length ≡ checking (gathered f)
      unfolding gathered checking just_one
      finished_long long =
          rw (alone.1, counted, le-leb seen.rules most_rules fits, lt-leb seen.rules most_listed long)

      -- none
      pub finished_good : seen.rules ≤ most_listed → gathered f ≡ good (contents_of rules (action_if seen.permits))
      unfolding gathered just_one
      finished_good few =
          rw (alone.1, counted, le-leb seen.rules most_rules fits, le-leb seen.rules most_listed few)
          (ap (λ (action : Action). good (contents_of rules action)) (so_far.permits alone.0 alone.1))

pub good_checked : {read : Checked Contents} {c : Contents} → read ≡ good c → Ok tt ≡ checking read
unfolding checking
good_checked e = rw e

-- All tests pass: so many rules, and the contents that they and the default make.
pub record Fits (listing starts : List ℕ) (seen : Seen) (f : Found) : Type 0 where
  pub few : seen.rules ≤ most_listed
  pub counted : length (map (rule_at listing) (take seen.rules starts)) ≡ seen.rules
  pub is : gathered f ≡ good (contents_of (map (rule_at listing) (take seen.rules starts)) (action_if seen.permits))

turned_not_good {ℓ} : {A : Type ℓ} {why : Why} {answer : Result (Unit {0}) Why} → Err why ≡ answer → Ok tt ≡ answer → A
turned_not_good e g = absurd (cc)

module _ {listing marks starts : List ℕ} {seen : Seen} {f : Found} (so_far : FoundAs listing marks starts seen f) where
  pub passed_fits : Ok tt ≡ checking (gathered f) → Fits listing starts seen f
  passed_fits good-is =
      by_test (eqb seen.defaults 1)
      (λ t. let one = eqb-true seen.defaults 1 t in
      by_test (leb seen.rules most_rules)
      (λ u. let fits = leb-true seen.rules most_rules u in
      by_test (leb seen.rules most_listed)
      (λ v.
      let few = leb-true seen.rules most_listed v in
      let same = so_far.kept.places fits in
      record {
        few = few;
        counted = ap length same ∙ sym (so_far.kept.exact fits);
        is = rw same (finished_good so_far one fits few);
      })
      (λ w. turned_not_good (finished_long so_far one fits (leb-false seen.rules most_listed w)) good-is))
      (λ w. turned_not_good (finished_many so_far one (leb-false seen.rules most_rules w)) good-is))
      (λ w. turned_not_good (finished_read so_far (eqb-false seen.defaults 1 w)) good-is)

-- What is left of a place for what was found: turned away at 0 ..
pub written_turned : (f : Found) (place : List ℕ) (why : Why) → Err why ≡ checking (gathered f)
    → left_by (Err (record { why = why; at = 0 })) place ≡ written_for f place
unfolding written_for at_zero
written_turned f place why e = rw (failed (gathered f) why e)

module _ {listing starts : List ℕ} {seen : Seen} {f : Found} (fit : Fits listing starts seen f) (place : List ℕ)
    {n : ℕ} (needed : n ≡ bytes_needed seen.rules seen.permits) where
  abbrev contents : Contents
  contents = contents_of (map (rule_at listing) (take seen.rules starts)) (action_if seen.permits)

  long : length (file_of contents) ≡ n
  long =
      length_file (map (rule_at listing) (take seen.rules starts)) seen.permits
      ∙ ap (λ (count : ℕ). bytes_needed count seen.permits) fit.counted
      ∙ sym needed

  -- .. for too little room ..
  pub written_small : length place < n → left_by (Err (record { why = Room; at = n })) place ≡ written_for f place
  unfolding written_for at_zero writing
  written_small small = rw fit.is (no_room Err (Ok (length (file_of contents))) (file_of contents) place n long small)

  -- .. or filled with the file
  pub written_file : n ≤ length place → {after : List ℕ} → after ≡ sets place 0 (file_of contents) → left_by (Ok n) after ≡ written_for f place
  unfolding written_for at_zero writing
  written_file room put =
      rw (fit.is, ← long)
      (with_room Err (Ok (length (file_of contents))) (file_of contents) place n long room
      (stored_fills (record { place = put; end = refl }) (omega (arith, long))))

-- The whole listing: its refusal, or the file of what was found.
pub listing_turned : (listing marks starts place : List ℕ) (refusal : Refusal) → GatheredAs listing marks starts (Err refusal)
    → left_by (Err refusal) place ≡ file_of_listing listing place
unfolding file_of_listing
listing_turned listing marks starts place refusal read =
    turned_away (λ c. writing (file_of c) place) (left_alone Err place) refusal read

pub listing_written : (listing place after : List ℕ) (f : Found) (answer : Result ℕ Refusal) → listing_read listing ≡ at_zero (gathered f)
    → left_by answer after ≡ written_for f place → left_by answer after ≡ file_of_listing listing place
unfolding file_of_listing written_for
listing_written listing place after f answer read left = rw read left
