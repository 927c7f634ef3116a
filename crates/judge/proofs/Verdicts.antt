-- The verdict in one pass: the lists are looked at one after another while the commands are replayed, and the verdict so far is carried along.
-- What the whole script gets is, all the time, what the rest of it gets from the list and the verdict so far. Assumes nothing.
use Prim.Native.Nat.{ℕ, suc, ◌+◌, ◌≤◌, ◌<◌}
use native.Mathlib.Nat.{zero-add, add-zero, add-suc, suc-add}
use native.Mathlib.Numerals.{add-one}
use native.Mathlib.Omega.{arith}
use mathlib.Core.Path.{◌≡◌, refl, sym, ◌∙◌, ap}
use mathlib.Core.Bool.{Bool, true, false, cond}
use mathlib.Core.List.{List, [], ◌∷◌}
use mathlib.Core.Option.{Option, none, some}
use lib.ListN.{length, take, drop, replicate, drop_of_length-le}
use lib.Seq.{take_all}
use Rattle.policy.specs.Claims.{Admitted}
use Rattle.policy.specs.Policy.{most_rules}
use Rattle.policy.specs.Lists.{all, same}
use Rattle.policy.specs.Command.{passed, failed, step}
use Rattle.policy.specs.Replay.{Replayed, ended, broken, replay_from, replay, lists}
use Rattle.policy.specs.Judge.{ordered, full, first_unsupported, first_unordered, judged, verdict}
use Rattle.policy.specs.declared.Command.{Command}
use Rattle.policy.specs.declared.Fault.{Fault}
use Rattle.policy.specs.declared.Verdict.{Verdict}
use Rattle.policy.specs.declared.Verdict.TheVariants.{Broken, Elsewhere, Unordered, NotFull, Safe}
use Rattle.policy.proofs.Tests.{by_test}
use Rattle.policy.proofs.Counting.{inside_length}
use Rattle.policy.proofs.Judge.{ordered_found}
use Rattle.deployment.specs.Values.{script_of}
use Rattle.deployment.specs.Commands.{command_count, command_at, decoded}
use Rattle.std.specs.Prelude.{Some}
use Rattle.deployment.proofs.Values.{by_option}
use Rattle.places.specs.Places.{renumbered}
use Rattle.places.proofs.Says.{says_numbered}
use Rattle.values.proofs.Scripts.{decoded_is}
use Rattle.replay.specs.Stepping.{Sound}
use Rattle.replay.specs.Answers.{commands_of, Readable}
use Rattle.replay.proofs.Scripts.{script_count, command_next}
use Rattle.replay.proofs.Steps.{by_outcome}
use Rattle.ordering.specs.Fronts.{Judging}
use Rattle.judge.specs.SoFar.{looked_at, noted}

cond_same {ℓ} : {A : Type ℓ} (b : Bool) (a : A) → cond b a a ≡ a
cond_same true a = refl
cond_same false a = refl

by_replayed : {A : Type 0} (r : Replayed) → ((last : List ℕ) → r ≡ ended last → A) → ((fault : Fault) (at : ℕ) → r ≡ broken fault at → A) → A
by_replayed (ended last) ends breaks = ends last refl
by_replayed (broken fault at) ends breaks = breaks fault at refl

module _ (initial target : List ℕ) where
  -- One list: the answer of each of its tests.
  module _ (v : Verdict) (at : ℕ) (l : List ℕ) where
    pub looked_unordered : (place : ℕ) → first_unsupported initial target l ≡ some place → Unordered at place ≡ looked_at initial target v at l
    unfolding looked_at
    looked_unordered place e = rw (e, looked_at)

    module _ (o : ordered initial target l ≡ true) where
      pub looked_lacking : full initial target l ≡ false → NotFull ≡ looked_at initial target v at l
      unfolding looked_at
      looked_lacking f = rw (ordered_found initial target l o, looked_at, f)

      pub looked_full : full initial target l ≡ true → v ≡ looked_at initial target v at l
      unfolding looked_at
      looked_full t = rw (ordered_found initial target l o, looked_at, t)

  -- The lists of a way one after another, the first being the one after the given step.
  noted_all : Verdict → ℕ → List (List ℕ) → Verdict
  noted_all v at [] = v
  noted_all v at (l ∷ way) = noted_all (noted initial target v at l) (suc at) way

  unordered_stays : (s place at : ℕ) (way : List (List ℕ)) → noted_all (Unordered s place) at way ≡ Unordered s place
  unfolding noted_all noted
  unordered_stays s place at [] = refl
  unordered_stays s place at (l ∷ way) = unordered_stays s place (suc at) way

  -- the first list that isn't ordered, or what the others say
  found : Verdict → Option (ℕ × ℕ) → Verdict
  found v none = v
  found v (some at) = Unordered at.0 at.1

  noted_found : (v : Verdict) → ((at : ℕ) (l : List ℕ) → noted initial target v at l ≡ looked_at initial target v at l) → (at : ℕ) (way : List (List ℕ))
      → noted_all v at way ≡ found (cond (all (full initial target) way) v NotFull) (first_unordered initial target at way)
  unfolding noted_all noted looked_at found first_unordered all
  noted_found v looks at [] = refl
  noted_found v looks at (l ∷ way) =
      by_option (first_unsupported initial target l)
      (λ e. by_test (full initial target l)
      (λ t. rw (looks at l, e, t, looked_at, first_unordered) (noted_found v looks (suc at) way))
      (λ f. rw (looks at l, e, f, looked_at, first_unordered)
      (noted_found NotFull (λ _ _. refl) (suc at) way
      ∙ ap (λ (w : Verdict). found w (first_unordered initial target (suc at) way)) (cond_same (all (full initial target) way) NotFull))))
      (λ place e. rw (looks at l, e, looked_at, first_unordered) (unordered_stays at place (suc at) way))

  judged_noted : (way : List (List ℕ)) → judged initial target way ≡ noted_all Safe 0 way
  unfolding judged noted found
  judged_noted way =
      let noted_all = noted_found Safe (λ _ _. refl) 0 way in
      by_option (first_unordered initial target 0 way)
      (λ e. rw (e, judged) (sym (rw e at noted_all)))
      (λ at e. rw (e, judged) (sym (rw e at noted_all)))

  -- what the end of a replay makes of the lists' verdict and the number of commands
  at_end : Verdict → ℕ → Replayed → Verdict
  at_end v n (ended last) = cond (same last target) v (Elsewhere n)
  at_end v n (broken fault at) = Broken fault at

  -- The rest of a script, from the list after the given number of commands.
  module _ (size : ℕ) where
    pub rest : Verdict → ℕ → List ℕ → List Command → Verdict
    rest v done l [] = cond (same l target) v (Elsewhere done)
    rest v done l (c ∷ script) =
        elim (step size l c) [
          | passed m ↦ rest (noted initial target v (suc done) m) (suc done) m script
          | failed fault ↦ Broken fault (suc done)
        ]

    one_pass : (v : Verdict) (done : ℕ) (l : List ℕ) (script : List Command)
        → at_end (noted_all v done (lists size l script)) (done + length script) (replay_from size done l script)
        ≡ rest (noted initial target v done l) done l script
    unfolding at_end rest replay_from lists noted_all
    one_pass v done l [] = rw (add-zero done)
    one_pass v done l (c ∷ script) =
        by_outcome (step size l c)
        (λ m e. rw (e, replay_from, lists, rest, add-suc done (length script))
        (rw (suc-add done (length script)) at (one_pass (noted initial target v done l) (suc done) m script)))
        (λ fault e. rw (e, replay_from, lists, rest))

    pub verdict_rest : (script : List Command) → verdict size initial target script ≡ rest (noted initial target Safe 0 initial) 0 initial script
    unfolding verdict replay at_end
    verdict_rest script =
        let passes = one_pass Safe 0 initial script in
        by_replayed (replay_from size 0 initial script)
        (λ last e. rw (e, verdict, judged_noted (lists size initial script)) (rw (e, zero-add) at passes))
        (λ fault at e. rw (e, verdict) (rw e at passes))

-- The commands of a script value that is read, one by one.
module _ (initial target : List ℕ) (size : ℕ) (value : List ℕ) (readable : Readable value) where
  abbrev script : List Command
  script = commands_of (script_of value)

  module _ {whole : Verdict} (v : Verdict) (k : ℕ) (l : List ℕ) (left : whole ≡ rest initial target size v k l (drop k script)) where
    -- one more command, that passes or fails
    module _ (c : Command) (h : k < command_count value) (is : Some c ≡ decoded (command_at value k)) where
      next_command : whole ≡ rest initial target size v k l (c ∷ drop (suc k) script)
      next_command =
          let (d, at, others) = command_next value readable k h in
          let known : d ≡ c = cc (at, decoded_is (command_at value k) c is) in
          left ∙ ap (rest initial target size v k l) (others ∙ ap (λ (x : Command). x ∷ drop (suc k) script) known)

      pub passes_on : (m : List ℕ) → step size l c ≡ passed m
          → whole ≡ rest initial target size (noted initial target v (k + 1) m) (k + 1) m (drop (k + 1) script)
      unfolding rest
      passes_on m e = rw add-one (rw (e, rest) at next_command)

      pub breaks_off : (fault : Fault) → step size l c ≡ failed fault → Broken fault (k + 1) ≡ whole
      unfolding rest
      breaks_off fault e = rw add-one (sym (rw (e, rest) at next_command))

    -- no command is left
    pub comes_to : k ≤ command_count value → command_count value ≤ k → whole ≡ cond (same l target) v (Elsewhere (command_count value))
    unfolding rest
    comes_to h g =
        let at : k ≡ command_count value = omega arith in
        let none_left = drop_of_length-le script {i = k} (omega (arith, script_count value readable)) in
        rw (← at) (rw none_left at left)

-- What the tests of a list go by, in a replay over accepted policies.
pub judging : (size : ℕ) (initial target places l : List ℕ) → Admitted size initial → Admitted size target → Sound size l places
    → Judging initial target places l
judging size initial target places l first last sound = record {
  listed = record { says = sound.says; distinct = sound.policy.distinct };
  first = λ r h. omega (arith, first.inside r h, sound.small);
  last = λ r h. omega (arith, last.inside r h, sound.small);
}

-- the state that the judge starts from
pub starts : (size : ℕ) {l m policy places : List ℕ} → size ≤ most_rules → Admitted size policy → l ≡ m → m ≡ take 1024 policy
    → places ≡ renumbered 1 m (replicate 1024 0) → (l ≡ policy) × Sound size l places
starts size {policy} small known shown listed numbered =
    let whole : take 1024 policy ≡ policy = take_all 1024 policy (omega (arith, inside_length size policy known.distinct known.inside)) in (
      shown ∙ listed ∙ whole,
      rw (numbered, shown, listed, whole) (record { small = small; policy = known; says = says_numbered policy known.distinct }),
    )
