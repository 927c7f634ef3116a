-- A step on a sound state is the step of document 01, and leaves a sound state. The idea: the place that the array gives is 0 exactly where the
-- rule is absent, leads to the rule where it is there, and a list that lacks a rule of the catalogue has a free slot. Assumes nothing.
use Prim.Native.Nat.{ℕ, suc, min, ◌-◌, ◌<◌}
use native.Mathlib.Omega.{arith}
use mathlib.Core.Path.{◌≡◌, refl, sym, ◌∙◌, ap}
use mathlib.Core.Bool.{Bool, true, false, not, ◌&&◌}
use mathlib.Core.Logic.{⊎_elim}
use mathlib.Core.List.Memᴰ
use mathlib.Core.List.{List, [], ◌∷◌, ◌++◌}
use borrow.Author.Tests.{ltb-true, lt-ltb}
use lib.Dec.{eqb, ltb}
use lib.ListN.{length, drop, get_or}
use Rattle.policy.specs.Lists.{mem, without}
use Rattle.policy.specs.Policy.{most_rules}
use Rattle.policy.specs.Command.{Outcome, passed, failed, needs, within, step, lifted, placed, moved}
use Rattle.policy.specs.declared.Command.{Command}
use Rattle.policy.specs.declared.Command.TheVariants.{App, DelRule, Ins, DelPlace, Mov}
use Rattle.policy.specs.declared.Fault.{Fault}
use Rattle.policy.specs.declared.Fault.TheVariants.{Present, Absent, Place, Number}
use Rattle.policy.proofs.Tests.{by_test, and_both, not_true}
use Rattle.policy.proofs.Lists.{mem_in, not_mem}
use Rattle.policy.proofs.Commands.{passes_makes, makes_policy}
use Rattle.policy.proofs.Counting.{inside_length}
use Rattle.running.specs.Running.{Shown, view, given, roomy, appended, rule_deleted, inserted, place_deleted, relocated}
use Rattle.running.specs.Place.{place_in}
use Rattle.places.specs.Places.{renumbered, Says}
use Rattle.std.specs.Prelude.{Some, None}
use Rattle.running.proofs.Edits.{within_bounds}
use Rattle.running.proofs.Claims.{absent_test, takes_out}
use Rattle.running.proofs.Place.{place_within, place_rule, place_lifted}
use Rattle.places.proofs.Says.{says_appended_from, says_lifted_from, says_placed_from, says_moved_from}
use Rattle.replay.specs.Stepping.{step_shown, cleared, changed_from, places_after, StepLeft, settled, step_left, left_by, Sound}
use Rattle.replay.specs.declared.Stepped.{Stepped}

-- a test that passed on the way to a list, and what was left
needs_passed : (b : Bool) (fault : Fault) (rest : Outcome) (m : List ℕ) → needs b fault rest ≡ passed m → (b ≡ true) × (rest ≡ passed m)
unfolding needs
needs_passed true fault rest m e = (refl, e)
needs_passed false fault rest m e = let clash : ◌≡◌ {A = ℕ} 0 1 = cc in absurd (omega arith)

pub by_outcome : {A : Type 0} (o : Outcome) → ((m : List ℕ) → o ≡ passed m → A) → ((fault : Fault) → o ≡ failed fault → A) → A
by_outcome (passed m) pass fail = pass m refl
by_outcome (failed fault) pass fail = fail fault refl

module _ (size : ℕ) (l places : List ℕ) (sound : Sound size l places) where
  -- a rule of the catalogue has a slot in the array
  array_says : (r : ℕ) → r < size → get_or places r 0 ≡ place_in r l
  array_says r inside = sound.says.1 r (omega (arith, sound.small))

  -- a list that lacks a rule of the catalogue has a free slot
  has_room : (r : ℕ) (rest : Outcome) → r < size → mem r l ≡ false → roomy l rest ≡ rest
  unfolding roomy needs
  has_room r rest inside new =
      let longer = inside_length size (r ∷ l) (not_mem r l new, sound.policy.distinct)
      (λ x h. ⊎_elim (λ e. rw e inside) (λ t. sound.policy.inside x t) (Memᴰ.cases_cons h)) in
      rw (lt-ltb (length l) most_rules (omega (arith, longer, sound.small)))

  -- the tests that a rule of the catalogue meets: 20 for `app` and `ins`, 21 for `del r`
  adds : (r : ℕ) (m : List ℕ) → r < size
      → needs (eqb (get_or places r 0) 0) Present (roomy l (passed m)) ≡ needs (not (mem r l)) Present (passed m)
  unfolding needs
  adds r m inside =
      rw (array_says r inside, absent_test r l)
      (by_test (mem r l) (λ t. rw t) (λ f. rw f (has_room r (passed m) inside f)))

  takes_it_out : (r : ℕ) → r < size
      → needs (within (get_or places r 0) (length l)) Absent (passed (lifted (get_or places r 0) l)) ≡ needs (mem r l) Absent (passed (without r l))
  takes_it_out r inside = rw (array_says r inside) (takes_out r l)

  -- what a step shows
  pub step_shows : (c : Command) → step_shown size l places c ≡ given l (step size l c)
  unfolding step_shown step needs appended rule_deleted inserted place_deleted relocated
  step_shows (App r) = ap (given l) (by_test (ltb r size) (λ t. rw t (adds r (l ++ (r ∷ [])) (ltb-true r size t))) (λ f. rw f))
  step_shows (DelRule r) = ap (given l) (by_test (ltb r size) (λ t. rw t (takes_it_out r (ltb-true r size t))) (λ f. rw f))
  step_shows (Ins i r) =
      ap (given l)
      (by_test (ltb r size)
      (λ t. rw t (ap (needs (within i (suc (length l))) Place) (adds r (placed i r l) (ltb-true r size t))))
      (λ f. rw f))
  step_shows (DelPlace i) = refl
  step_shows (Mov i j) = refl

  -- the array that a command leaves is right for the list that it makes
  pub step_says : (c : Command) (m : List ℕ) → step size l c ≡ passed m
      → Says (renumbered (suc (changed_from l places c)) (drop (changed_from l places c) m) (cleared l places c)) m
  unfolding step changed_from cleared
  step_says (App r) m e =
      let (inside, new, is) = passes_makes size l (App r) m e in rw is (says_appended_from places l r sound.says new)
  step_says (DelRule r) m e =
      let (known, rest) = needs_passed (ltb r size) Number _ m e in
      let (there, made) = needs_passed (mem r l) Absent _ m rest in
      let at = mem_in r l there in
      let out : lifted (place_in r l) l ≡ m = place_lifted r l at ∙ cc in
      let bounds = place_within r l at in
      let right = says_lifted_from places l (place_in r l) bounds.0 bounds.1 sound.policy.distinct sound.says in
      rw (array_says r (ltb-true r size known), ← out) (rw (place_rule r l at) at right)
  step_says (Ins i r) m e =
      let (known, rest) = needs_passed (ltb r size) Number _ m e in
      let (fits, last) = needs_passed (within i (suc (length l))) Place _ m rest in
      let (new, made) = needs_passed (not (mem r l)) Present _ m last in
      let is : placed i r l ≡ m = cc in
      rw (← is) (says_placed_from places l i r (within_bounds i (suc (length l)) fits).1 (not_mem r l (not_true new)) sound.policy.distinct sound.says)
  step_says (DelPlace i) m e =
      let (fits, made) = needs_passed (within i (length l)) Place _ m e in
      let is : lifted i l ≡ m = cc in
      let bounds = within_bounds i (length l) fits in
      rw (← is) (says_lifted_from places l i bounds.0 bounds.1 sound.policy.distinct sound.says)
  step_says (Mov i j) m e =
      let (fits, made) = needs_passed (within i (length l) && within j (length l)) Place _ m e in
      let is : moved i j l ≡ m = cc in
      let both = and_both (within i (length l)) (within j (length l)) fits in
      let from = within_bounds i (length l) both.0 in
      let to = within_bounds j (length l) both.1 in
      rw (← is) (says_moved_from places l i j (min i j - 1) (omega arith) (omega arith) from.1 to.1 sound.policy.distinct sound.says)

  -- What a step left, by its refusal: a command that fails fails in document 01, one that passes makes the list that is shown, and the state is
  -- sound again.
  module _ (c : Command) (s : Stepped) (left : left_by s ≡ step_left size l places c) where
    shown_by_lem : (o : Outcome) → step size l c ≡ o → (left_by s).shown ≡ given l o
    unfolding step_left settled
    shown_by_lem o e = ap (λ (x : StepLeft). x.shown) left ∙ step_shows c ∙ ap (given l) e

    pub step_failed : (fault : Fault) → s.refusal ≡ Some fault → step size l c ≡ failed fault
    unfolding given left_by
    step_failed fault refused =
        by_outcome (step size l c)
        (λ m e. let clash : ◌≡◌ {A = ℕ} 0 1 = cc (ap (λ (x : Shown). x.refusal) (shown_by_lem (passed m) e)) in absurd (omega arith))
        (λ f e. e ∙ ap failed (cc (ap (λ (x : Shown). x.refusal) (shown_by_lem (failed f) e))))

    pub step_passed : s.refusal ≡ None → step size l c ≡ passed (view s.state.list)
    unfolding given left_by
    step_passed refused =
        by_outcome (step size l c)
        (λ m e. e ∙ ap passed (sym (ap (λ (x : Shown). x.list) (shown_by_lem (passed m) e))))
        (λ f e. let clash : ◌≡◌ {A = ℕ} 0 1 = cc (ap (λ (x : Shown). x.refusal) (shown_by_lem (failed f) e)) in absurd (omega arith))

    pub step_sound : s.refusal ≡ None → Sound size (view s.state.list) s.state.places.of
    unfolding left_by step_left settled places_after
    step_sound refused =
        let m = view s.state.list in
        let passes = step_passed refused in
        let list : m ≡ (step_shown size l places c).list = ap (λ (x : StepLeft). x.shown.list) left in
        let refusal : (step_shown size l places c).refusal ≡ None = sym (ap (λ (x : StepLeft). x.shown.refusal) left) ∙ refused in
        record {
          small = sound.small;
          policy = makes_policy size l c m (passes_makes size l c m passes) sound.policy;
          says = rw (ap (λ (x : StepLeft). x.places) left, refusal, ← list) (step_says c m passes);
        }
