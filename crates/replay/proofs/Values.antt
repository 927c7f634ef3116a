-- The values that a replay starts from: an accepted policy is the list that its value is read as, of differing rules of the catalogue; an
-- accepted script is readable. And what the replay answers, by how the tests of the two values end. Assumes nothing.
use Prim.Native.Nat.{ℕ, min}
use native.Mathlib.Omega.{arith}
use mathlib.Core.Path.{◌≡◌, ap, ap₂}
use mathlib.Core.List.{List}
use mathlib.Core.Option.{Option, some}
use lib.ListN.{length, take, replicate}
use lib.Seq.{take_all}
use Rattle.policy.specs.Claims.{Admitted}
use Rattle.policy.specs.Replay.{replay}
use Rattle.deployment.specs.Checked.{good}
use Rattle.deployment.specs.Values.{Script, numbers_of, script_of, list_fits, script_fits}
use Rattle.deployment.specs.Contents.{script_read}
use Rattle.deployment.specs.FieldValues.{policy_value, script_value}
use Rattle.deployment.specs.declared.Why.{Why}
use Rattle.deployment.proofs.Records.{numbers_length}
use Rattle.deployment.proofs.Tests.{Each, tested, says_list, policy_tested_lem, script_tested, each_then}
use Rattle.places.specs.Places.{renumbered}
use Rattle.places.proofs.Says.{says_numbered}
use Rattle.catalogue.specs.Answers.{checking}
use Rattle.std.specs.Prelude.{Ok, Err}
use Rattle.values.proofs.Given.{passed, failed}
use Rattle.replay.specs.Stepping.{Sound}
use Rattle.replay.specs.Answers.{outcome_of, commands_of, replayed, Readable}
use Rattle.replay.specs.declared.Stop.TheVariants.{Turned}

-- what an accepted value is
abbrev IsList : ℕ → List ℕ → List ℕ → Type 0
IsList size value policy = (take 1024 (numbers_of value) ≡ policy) × Admitted size policy

policy_list : (size : ℕ) (value : List ℕ) → Each (IsList size value) (λ why. Unit {0}) (policy_value size value)
unfolding policy_value
policy_list size value =
    let P = Each (IsList size value) (λ why. Unit {0}) in
    tested P (list_fits (length value)) (λ e. tt) λ fits.
    let short = (says_list (length value)).0 fits in
    policy_tested_lem P size value (λ outside. tt) (λ inside twice. tt) λ sound. (
      take_all 1024 (numbers_of value) (omega (arith, numbers_length value, short.1, short.2)),
      sound,
    )

abbrev IsRead : List ℕ → Option Script → Type 0
IsRead value read = Readable value × (commands_of (script_of value) ≡ commands_of read)

commands_read : (value : List ℕ) → Each (IsRead value) (λ why. Unit {0}) (script_value (some value))
unfolding script_value
commands_read value =
    let P = Each (IsRead value) (λ why. Unit {0}) in
    tested P (script_fits (length value)) (λ e. tt) λ fits.
    each_then (λ script. script_of value ≡ some script) (IsRead value) (λ why. Unit {0}) (script_read value) (λ script. good (some script))
    (script_tested (Each (λ script. script_of value ≡ some script) (λ why. Unit {0})) value (λ wrong. tt) (λ script read. read))
    (λ script read. ((script, read), ap commands_of read))

-- The answer: turned away at the policy, at the script, or replayed.
module _ (size : ℕ) (initial script : List ℕ) where
  pub turned_at_policy : (why : Why) → Err why ≡ checking (policy_value (min size 1024) initial) → Err (Turned why) ≡ replayed size initial script
  unfolding replayed
  turned_at_policy why e = rw (failed (policy_value (min size 1024) initial) why e, replayed)

  module _ (accepted : Ok tt ≡ checking (policy_value (min size 1024) initial)) where
    pub turned_at_script : (why : Why) → Err why ≡ checking (script_value (some script)) → Err (Turned why) ≡ replayed size initial script
    unfolding replayed
    turned_at_script why e =
        let (policy, is) = passed (policy_value (min size 1024) initial) accepted in
        rw (is, replayed) (rw (failed (script_value (some script)) why e))

    pub accepted_policy : Admitted (min size 1024) (take 1024 (numbers_of initial))
    accepted_policy =
        let (policy, is) = passed (policy_value (min size 1024) initial) accepted in
        let listed : IsList (min size 1024) initial policy = rw is at (policy_list (min size 1024) initial) in
        rw listed.0 listed.1

    module _ (read : Ok tt ≡ checking (script_value (some script))) where
      pub accepted_script : Readable script
      accepted_script =
          let (commands, is) = passed (script_value (some script)) read in
          let known : IsRead script commands = rw is at (commands_read script) in
          known.0

      pub runs : outcome_of (replay (min size 1024) (take 1024 (numbers_of initial)) (commands_of (script_of script))) ≡ replayed size initial script
      unfolding replayed
      runs =
          let (policy, is) = passed (policy_value (min size 1024) initial) accepted in
          let listed : IsList (min size 1024) initial policy = rw is at (policy_list (min size 1024) initial) in
          let (commands, of) = passed (script_value (some script)) read in
          let known : IsRead script commands = rw of at (commands_read script) in
          rw (is, replayed) (rw of (ap outcome_of (ap₂ (replay (min size 1024)) listed.0 known.1)))

-- the state that a replay starts from
pub starts_sound : (size : ℕ) {top : ℕ} {l m n places : List ℕ} → top ≡ min size 1024 → l ≡ m → m ≡ n → places ≡ renumbered 1 m (replicate 1024 0)
    → Admitted (min size 1024) n → Sound top l places
starts_sound size at is listed numbered policy =
    rw (at, numbered, is, listed) (record { small = omega arith; policy = policy; says = says_numbered _ policy.distinct })
