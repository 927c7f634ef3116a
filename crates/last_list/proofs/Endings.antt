-- How a replay over values ends, and what is left in the place: by the answer of the replay, which shows the last list or why there is none.
-- Assumes nothing.
use Prim.Native.Nat.{ℕ, min}
use native.Mathlib.Omega.{arith}
use mathlib.Core.Path.{◌≡◌, refl, ◌∙◌}
use mathlib.Core.List.{List}
use mathlib.Core.Option.{Option, some}
use Rattle.std.specs.Prelude.{Result, Ok, Err, MatchResult}
use Rattle.policy.specs.Replay.{Replayed, ended, broken}
use Rattle.deployment.specs.Checked.{Checked, good, bad}
use Rattle.deployment.specs.Values.{Script}
use Rattle.deployment.specs.FieldValues.{policy_value, script_value, left_by}
use Rattle.deployment.specs.declared.Refusal.{Refusal}
use Rattle.deployment.specs.declared.Why.{Why}
use Rattle.running.specs.declared.Running.{Running}
use Rattle.running.specs.Running.{view}
use Rattle.replay.specs.declared.Stop.{Stop}
use Rattle.replay.specs.declared.Stop.TheVariants.{Broken, Turned}
use Rattle.replay.specs.Answers.{Outcome, shown_by, outcome_of, replayed}
use Rattle.last_list.specs.Last.{Ran, at_zero, replay_left, replayed_over, replayed_at_zero}

-- what the replay shows of a run of tests and what comes of it
shown_of : Checked Replayed → Outcome
shown_of (good r) = outcome_of r
shown_of (bad why) = Err (Turned why)

shown_over : (size : ℕ) (initial script : List ℕ) → replayed size initial script ≡ shown_of (replayed_over (min size 1024) initial script)
unfolding replayed replayed_over shown_of
shown_over size initial script = by_policy (policy_value (min size 1024) initial) refl
  where
    by_script : (policy : List ℕ) (read : Checked (Option Script)) → policy_value (min size 1024) initial ≡ good policy
        → script_value (some script) ≡ read
        → replayed size initial script ≡ shown_of (replayed_over (min size 1024) initial script)
    by_script policy (good read) e f = rw (e, replayed, replayed_over) (rw (f, shown_of))
    by_script policy (bad why) e f = rw (e, replayed, replayed_over) (rw (f, shown_of))

    by_policy : (policy : Checked (List ℕ)) → policy_value (min size 1024) initial ≡ policy
        → replayed size initial script ≡ shown_of (replayed_over (min size 1024) initial script)
    by_policy (good policy) e = by_script policy (script_value (some script)) e refl
    by_policy (bad why) e = rw (e, replayed, replayed_over)

-- How it ends.
module _ (size : ℕ) (initial script place : List ℕ) (r : Result Running (Stop Why)) (shows : shown_by r ≡ replayed size initial script) where
  -- it has no last list: nothing is written
  pub stops : (stop : Stop Why) → r ≡ Err stop → left_by (Err (at_zero stop)) place ≡ replayed_at_zero (replayed_over (min size 1024) initial script) place
  unfolding shown_by shown_of outcome_of at_zero replay_left replayed_at_zero
  stops stop e = go (replayed_over (min size 1024) initial script) (rw e at (shows ∙ shown_over size initial script))
    where
      go : (x : Checked Replayed) → Err stop ≡ shown_of x → left_by (Err (at_zero stop)) place ≡ replayed_at_zero x place
      go (good (ended l)) f = absurd (let z : ◌≡◌ {A = ℕ} 0 1 = cc in omega arith)
      go (good (broken fault step)) f = let is : stop ≡ Broken fault step = cc in rw is
      go (bad why) f = let is : stop ≡ Turned why = cc in rw is

  -- the same, where the error is what `at_zero` makes of the replay's
  pub stops_with : (error : Stop Refusal) → MatchResult r (λ last. Ok last ≡ Err error) (λ stop. error ≡ at_zero stop)
      → left_by (Err error) place ≡ replayed_at_zero (replayed_over (min size 1024) initial script) place
  stops_with error made = go r refl made
    where
      go : (x : Result Running (Stop Why)) → r ≡ x → MatchResult x (λ last. Ok last ≡ Err error) (λ stop. error ≡ at_zero stop)
          → left_by (Err error) place ≡ replayed_at_zero (replayed_over (min size 1024) initial script) place
      go (Ok last) is clash = absurd (let z : ◌≡◌ {A = ℕ} 0 1 = cc in omega arith)
      go (Err stop) is e = rw e (stops stop is)

  -- it comes to its last list
  pub comes_to : (last : Running) → r ≡ Ok last → {answer : Ran} {now : List ℕ} → left_by answer now ≡ replay_left place (ended (view last))
      → left_by answer now ≡ replayed_at_zero (replayed_over (min size 1024) initial script) place
  unfolding shown_by shown_of outcome_of replayed_at_zero
  comes_to last e left = rw (go (replayed_over (min size 1024) initial script) (rw e at (shows ∙ shown_over size initial script))) left
    where
      go : (x : Checked Replayed) → shown_by (Ok last) ≡ shown_of x → x ≡ good (ended (view last))
      go (good (ended l)) f = let same : l ≡ view last = cc in rw same
      go (good (broken fault step)) f = absurd (let z : ◌≡◌ {A = ℕ} 0 1 = cc in omega arith)
      go (bad why) f = absurd (let z : ◌≡◌ {A = ℕ} 0 1 = cc in omega arith)

-- a last list is left as it is where only an error is made anew
pub mapped_ok : (r : Result Running (Stop Why)) (last : Running) → MatchResult r (λ x. ◌≡◌ {A = Result Running (Stop Refusal)} (Ok last) (Ok x)) (λ _. ⊥) → r ≡ Ok last
mapped_ok (Ok x) last e = let same : x ≡ last = cc in rw same
mapped_ok (Err stop) last none = absurd none
