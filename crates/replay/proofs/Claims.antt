-- The claims about the replay's answers. The idea: both values are accepted or one is turned away, the replay of what is accepted ends or breaks,
-- and each of these has numbers of its own shape: two, none or one. Assumes nothing.
use Prim.Native.Nat.{ℕ, min}
use native.Mathlib.Omega.{arith}
use mathlib.Core.Path.{◌≡◌, refl, sym, ◌∙◌, ap, subst}
use mathlib.Core.Logic.{inl, inr}
use mathlib.Core.List.{List, [], ◌∷◌}
use mathlib.Core.Option.{Option, some}
use lib.ListN.{length}
use Rattle.policy.specs.Command.{fault_number}
use Rattle.policy.specs.Replay.{Replayed, ended, broken, replay}
use Rattle.policy.proofs.Numbers.{fault_numbers_differ}
use Rattle.policy.proofs.Commands.{fails_with}
use Rattle.policy.proofs.Replay.{replay_is_leads, breaks_replays, replays_breaks}
use Rattle.running.specs.Claims.{ByNumber}
use Rattle.running.proofs.Claims.{given_by_number}
use Rattle.deployment.specs.Checked.{Checked, good, bad, why_number}
use Rattle.deployment.specs.Values.{Script}
use Rattle.deployment.specs.FieldValues.{policy_value, script_value}
use Rattle.deployment.specs.declared.Why.{Why}
use Rattle.deployment.proofs.Numbers.{why_numbers_differ}
use Rattle.replay.specs.Answers.{ending_numbers, outcome_of, commands_of, replayed}
use Rattle.replay.specs.Claims.{EndingNumbersDiffer, TurnsAway, Replays, ReplayedByNumber, StepByNumber}
use Rattle.replay.specs.Stepping.{step_left, settled}
use Rattle.std.specs.Prelude.{Ok, Err}
use Rattle.replay.specs.declared.Stop.TheVariants.{Broken, Turned}
use Rattle.replay.proofs.Steps.{step_shows}

pub ending_numbers_differ : EndingNumbersDiffer
unfolding ending_numbers
ending_numbers_differ (Ok a) (Ok b) e = refl
ending_numbers_differ (Ok last) (Err (Broken g n)) e = absurd (omega (arith, ap length e))
ending_numbers_differ (Ok last) (Err (Turned w)) e = absurd (omega (arith, ap length e))
ending_numbers_differ (Err (Broken f k)) (Ok last) e = absurd (omega (arith, ap length e))
ending_numbers_differ (Err (Broken f k)) (Err (Broken g n)) e =
    let why : f ≡ g = fault_numbers_differ f g (cc) in let at : k ≡ n = cc in rw (why, at)
ending_numbers_differ (Err (Broken f k)) (Err (Turned w)) e = absurd (omega (arith, ap length e))
ending_numbers_differ (Err (Turned v)) (Ok last) e = absurd (omega (arith, ap length e))
ending_numbers_differ (Err (Turned v)) (Err (Broken g n)) e = absurd (omega (arith, ap length e))
ending_numbers_differ (Err (Turned v)) (Err (Turned w)) e = rw (why_numbers_differ v w (cc))

module _ (size : ℕ) (initial script : List ℕ) where
  -- a value is turned away
  turned_replays : (why : Why) → TurnsAway size initial script why → Replays size initial script (Err (Turned why))
  unfolding ending_numbers
  turned_replays why away = record {
    breaks = λ n at. (
      λ e. absurd (omega (arith, ap length e)),
      λ (policy, read, first, second, b). absurd (clash policy read first second away),
    );
    leads = λ l. (
      λ e. absurd (let z : ◌≡◌ {A = ℕ} 0 1 = cc in omega arith),
      λ (policy, read, first, second, b). absurd (clash policy read first second away),
    );
    turned = λ n. (
      λ e. (why, cc, away),
      λ (other, is, again). rw (← is) (ap (λ (w : Why). why_number w ∷ []) (one away again)),
    );
  }
    where
      clash : (policy : List ℕ) (read : Option Script) → policy_value size initial ≡ good policy → script_value (some script) ≡ good read
          → TurnsAway size initial script why → ⊥
      clash policy read first second (inl e) = let z : ◌≡◌ {A = ℕ} 0 1 = cc in omega arith
      clash policy read first second (inr (p, good-policy, e)) = let z : ◌≡◌ {A = ℕ} 0 1 = cc in omega arith

      one : {other : Why} → TurnsAway size initial script why → TurnsAway size initial script other → why ≡ other
      one (inl e) (inl f) = cc
      one (inl e) (inr (p, good-policy, f)) = absurd (let z : ◌≡◌ {A = ℕ} 0 1 = cc in omega arith)
      one (inr (p, good-policy, e)) (inl f) = absurd (let z : ◌≡◌ {A = ℕ} 0 1 = cc in omega arith)
      one (inr (p, good-policy, e)) (inr (q, good-again, f)) = cc

  -- both values are accepted
  module _ (policy : List ℕ) (read : Option Script) (first : policy_value size initial ≡ good policy) (second : script_value (some script) ≡ good read) where
    never_turned : (why : Why) → TurnsAway size initial script why → ⊥
    never_turned why (inl e) = let z : ◌≡◌ {A = ℕ} 0 1 = cc in omega arith
    never_turned why (inr (p, good-policy, e)) = let z : ◌≡◌ {A = ℕ} 0 1 = cc in omega arith

    -- the values that are accepted are these
    accepted_replay : (other : List ℕ) (again : Option Script) → policy_value size initial ≡ good other → script_value (some script) ≡ good again
        → replay size other (commands_of again) ≡ replay size policy (commands_of read)
    accepted_replay other again e f =
        let same : other ≡ policy = cc in let alike : again ≡ read = cc in rw (same, alike)

    ran_replays : (r : Replayed) → replay size policy (commands_of read) ≡ r → Replays size initial script (outcome_of r)
    unfolding outcome_of ending_numbers
    ran_replays (ended last) e = record {
      breaks = λ n at. (
        λ f. absurd (omega (arith, ap length f)),
        λ (other, again, is, alike, b).
            let (fault, number, fails) = fails_with size b.running b.failing n b.fails in
            let breaks = breaks_replays size other (commands_of again) fault at (rw number b) in
            let ends = accepted_replay other again is alike ∙ e in
            let z : ◌≡◌ {A = ℕ} 0 1 = cc (breaks, ends) in
            absurd (omega arith),
      );
      leads = λ l. (
        λ is. (policy, read, first, second, (replay_is_leads size policy l (commands_of read)).0 (e ∙ ap ended (cc))),
        λ (other, again, is, alike, leads).
            ap Ok (cc (e, accepted_replay other again is alike, (replay_is_leads size other l (commands_of again)).1 leads)),
      );
      turned = λ n. (
        λ f. absurd (omega (arith, ap length f)),
        λ (why, is, away). absurd (never_turned why away),
      );
    }
    ran_replays (broken fault k) e = record {
      breaks = λ n at. (
        λ f. let number : fault_number fault ≡ n = cc in
            let same : k ≡ at = cc in
            (policy, read, first, second, rw same at (rw number at (replays_breaks size policy (commands_of read) fault k e))),
        λ (other, again, is, alike, b).
            let (with, number, fails) = fails_with size b.running b.failing n b.fails in
            let breaks = breaks_replays size other (commands_of again) with at (rw number b) in
            let whole = accepted_replay other again is alike ∙ e in
            let why : with ≡ fault = cc (breaks, whole) in
            let same : at ≡ k = cc (breaks, whole) in
            rw (← why, number, same),
      );
      leads = λ l. (
        λ f. absurd (let z : ◌≡◌ {A = ℕ} 0 1 = cc in omega arith),
        λ (other, again, is, alike, leads).
            let ends = (replay_is_leads size other l (commands_of again)).1 leads in
            let z : ◌≡◌ {A = ℕ} 0 1 = cc (ends, accepted_replay other again is alike, e) in
            absurd (omega arith),
      );
      turned = λ n. (
        λ f. absurd (omega (arith, ap length f)),
        λ (why, is, away). absurd (never_turned why away),
      );
    }

pub replayed_by_number : ReplayedByNumber
unfolding replayed
replayed_by_number size initial script = by_policy (policy_value (min size 1024) initial) refl
  where
    by_script : (policy : List ℕ) → policy_value (min size 1024) initial ≡ good policy
        → (s : Checked (Option Script)) → script_value (some script) ≡ s → Replays (min size 1024) initial script (replayed size initial script)
    by_script policy first (good read) second =
        rw (first, replayed, second) (ran_replays (min size 1024) initial script policy read first second (replay (min size 1024) policy (commands_of read)) refl)
    by_script policy first (bad why) second =
        rw (first, replayed, second) (turned_replays (min size 1024) initial script why (inr (policy, first, second)))

    by_policy : (p : Checked (List ℕ)) → policy_value (min size 1024) initial ≡ p
        → Replays (min size 1024) initial script (replayed size initial script)
    by_policy (good policy) first = by_script policy first (script_value (some script)) refl
    by_policy (bad why) first = rw (first, replayed) (turned_replays (min size 1024) initial script why (inl first))

pub step_by_number : StepByNumber
unfolding step_left settled
step_by_number size l places c sound =
    subst (ByNumber size l c) (sym (step_shows size l places sound c)) (given_by_number size l c)
