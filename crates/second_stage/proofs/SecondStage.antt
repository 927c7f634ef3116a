-- The second stage, place by place from the last to the first. The list is what is left of the front, then the settled rules behind it; a rule
-- of the target stands after another exactly when its place is greater. Assumes nothing.
use Prim.Native.Nat.{ℕ, suc, ◌+◌, ◌*◌, ◌≤◌, ◌<◌}
use native.Mathlib.Numerals.{add-one}
use native.Mathlib.Omega.{arith}
use mathlib.Core.Path.{◌≡◌, refl, sym, ◌∙◌, ap, fun_ext}
use mathlib.Core.Bool.{Bool, true, false, cond}
use mathlib.Core.List.{List, [], ◌∷◌, ◌++◌, map, map-append, reverse, reverse-append, append_assoc, append-nil}
use borrow.Author.Tests.{ltb-true, ltb-false, le-ltb}
use lib.Dec.{ltb}
use lib.ListN.{length, take, drop, get_or, length-append, length-map, length-reverse, take-append-drop, get_or-eq_default, get_or-append}
use lib.Seq.{sets, take-suc, drop-append-add, append_snoc, length-take-le, get_or-take, take-length}
use Rattle.policy.specs.Lists.{mem, after}
use Rattle.policy.specs.Properties.{In}
use Rattle.policy.specs.Claims.{Admitted}
use Rattle.policy.specs.Command.{coded, lifted, moved}
use Rattle.policy.specs.InsertDeleteMove.{Standing, waiting, ahead, take_waiting, second_stage}
use Rattle.policy.specs.declared.Command.{Command}
use Rattle.policy.specs.declared.Command.TheVariants.{DelPlace, Mov}
use Rattle.policy.proofs.Tests.{by_test, truly}
use Rattle.policy.proofs.Lists.{mem_in, not_in}
use Rattle.policy.proofs.Commands.{lifted_at, placed_at, moved_at}
use Rattle.deployment.specs.Values.{coded_bytes}
use Rattle.running.specs.declared.Running.{Running}
use Rattle.running.specs.Running.{view}
use Rattle.running.specs.Place.{place_in}
use Rattle.places.specs.Places.{Says}
use Rattle.running.proofs.Place.{absent_place, place_present, place_zero}
use Rattle.plans.specs.Sending.{Sent}
use Rattle.first_stage.specs.Looking.{until}
use Rattle.first_stage.specs.FirstStage.{standing_by}
use Rattle.second_stage.specs.SecondStage.{settling, settled_done, Lowered}
use Rattle.plans.proofs.Sending.{none_sent, one_sent, sent_more}
use Rattle.first_stage.proofs.ByPlace.{drop_in, place_after, place_order}
use Rattle.first_stage.proofs.Looking.{until_fits}

-- How many of the settled rules come before the first one that follows r in the target: told by places.
ahead_until : (target : List ℕ) (r : ℕ) (done : List ℕ) → ahead target r done ≡ until (λ x. mem x (after r target)) done
unfolding ahead until
ahead_until target r [] = refl
ahead_until target r (x ∷ done) = ap (λ (n : ℕ). cond (mem x (after r target)) 0 (suc n)) (ahead_until target r done)

module _ (target places : List ℕ) (policy : Admitted 1024 target) (says : Says places target) (r : ℕ) (there : In r target) where
  later : after r target ≡ drop (place_in r target) target
  later = place_after 0 r target (omega (arith, place_present r target there))

  above_after : (x : ℕ) → ltb (place_in r target) (get_or places x 0) ≡ mem x (after r target)
  above_after x =
      by_test (ltb x 1024)
      (λ t. rw (says.1 x (ltb-true x 1024 t), later) (place_order (place_in r target) x target policy.distinct))
      (λ f. let large = ltb-false x 1024 f in
      let absent : mem x (after r target) ≡ false =
      not_in x (after r target) (λ h.
      let h' = policy.inside x (drop_in (place_in r target) x target (rw later at h)) in omega arith) in
      rw (get_or-eq_default places 0 {n = x} (omega (arith, says.0)), absent) (le-ltb (place_in r target) 0 (omega arith)))

  ahead_above : (done : List ℕ) → ahead target r done ≡ until (λ x. ltb (place_in r target) (get_or places x 0)) done
  ahead_above done =
      ahead_until target r done ∙ ap (λ (test : ℕ → Bool). until test done) (fun_ext (λ x. sym (above_after x)))

-- One waiting rule.
module _ (target places : List ℕ) (policy : Admitted 1024 target) (says : Says places target) (list next : Running) (r i sent : ℕ) (field written : List ℕ)
    (long : length field ≡ 5124) (room : sent < 1024) (small : r < 1024) (u done : List ℕ) (is : view list ≡ u ++ (r ∷ done)) (at : i ≡ suc (length u)) where
  -- "One that is not in the target is deleted."
  pub did_delete : get_or places r 0 ≡ 0 → view next ≡ lifted i (view list) → written ≡ sets field (4 + 5 * sent) (coded_bytes (coded (DelPlace i)))
      → (view next ≡ u ++ settled_done target r done) × Sent field sent (settling target i r done ∷ []) written
  unfolding settled_done settling
  did_delete none gone put =
      let absent : mem r target ≡ false = place_zero r target (sym (says.1 r small) ∙ none) in
      rw absent (gone ∙ lifted_at u r done at is, one_sent sent (DelPlace i) long room put)

  -- "Any other is moved to stand just before the first settled rule that follows it in the target, or to the end if there is none"
  pub did_lower : (place j : ℕ) → place ≡ get_or places r 0 → ¬ (place ≡ 0)
      → j ≡ i + until (λ x. ltb place (get_or places x 0)) (drop i (view list))
      → view next ≡ moved i j (view list) → written ≡ sets field (4 + 5 * sent) (coded_bytes (coded (Mov i j)))
      → (view next ≡ u ++ settled_done target r done) × Sent field sent (settling target i r done ∷ []) written
  unfolding settled_done settling
  did_lower place j is-place some is-j moves put =
      let is_at : place ≡ place_in r target = is-place ∙ says.1 r small in
      let present : mem r target ≡ true = truly (λ f. some (is_at ∙ absent_place r target f)) in
      let k = ahead target r done in
      let behind : drop i (view list) ≡ done = rw (at, is, ← add-one) (drop-append-add u (r ∷ done) 1) in
      let counted : k ≡ until (λ x. ltb (place_in r target) (get_or places x 0)) done = ahead_above target places policy says r (mem_in r target present) done in
      let to : j ≡ i + k = is-j ∙ (rw (behind, is_at, counted)) in
      let fits : k ≤ length done = rw counted (until_fits (λ x. ltb (place_in r target) (get_or places x 0)) done) in
      let first = take k done in
      let second = drop k done in
      let long_first : length first ≡ k = length-take-le k done fits in
      let parts : done ≡ first ++ second = sym (take-append-drop k done) in
      rw present (
        moves
            ∙ moved_at u r done (u ++ first) second at is
            (omega (arith, to, at, length-append u first))
            (ap (λ (l : List ℕ). u ++ l) parts ∙ sym (append_assoc u first second))
            ∙ append_assoc u first (r ∷ second)
            ∙ ap (λ (l : List ℕ). u ++ l) (sym (placed_at r first second (ap suc (sym long_first)) parts)),
        one_sent sent (Mov i (i + k)) long room (put ∙ ap (λ (n : ℕ). sets field (4 + 5 * sent) (coded_bytes (coded (Mov i n)))) to),
      )

-- The loop: the first i rules are left of the front, `done` stands behind them, and the rest of the second stage is still to be done.
pub record Pass (target : List ℕ) (marks : List Bool) (first old : List ℕ) (start : ℕ) (list : Running) (sent : ℕ) (field : List ℕ) (i : ℕ) : Type 0 where
  pub done : List ℕ
  pub commands : List Command
  pub is : view list ≡ take i first ++ done
  pub inside : i ≤ length first
  pub all : commands ++ take_waiting target (reverse (map (standing_by marks) (take i first))) done ≡ second_stage target (map (standing_by marks) first)
  pub counted : sent ≡ start + length commands
  pub sends : Sent old start commands field

pub pass_at : {target : List ℕ} {marks : List Bool} {first old : List ℕ} {start : ℕ} {list : Running} {sent : ℕ} {field : List ℕ} {i k : ℕ}
    → i ≡ k → Pass target marks first old start list sent field i → Pass target marks first old start list sent field k
pass_at e p = rw e at p

-- the front that is left, last place first
left_one : (marks : List Bool) (first : List ℕ) (i : ℕ) → i < length first
    → reverse (map (standing_by marks) (take (suc i) first)) ≡ standing_by marks (get_or first i 0) ∷ reverse (map (standing_by marks) (take i first))
left_one marks first i h =
    ap (λ (l : List ℕ). reverse (map (standing_by marks) l)) (take-suc first i 0 h)
    ∙ ap reverse (map-append (standing_by marks) (take i first) (get_or first i 0 ∷ []))
    ∙ reverse-append (map (standing_by marks) (take i first)) (standing_by marks (get_or first i 0) ∷ [])

-- a waiting rule's command, and what follows
two_waiting : (target : List ℕ) (r : ℕ) (left : List Standing) (done : List ℕ)
    → take_waiting target (waiting r ∷ left) done ≡ settling target (suc (length left)) r done ∷ take_waiting target left (settled_done target r done)
unfolding take_waiting settling settled_done
two_waiting target r left done = by_test (mem r target) (λ t. rw (t, take_waiting)) (λ f. rw (f, take_waiting))

module _ (target : List ℕ) (marks : List Bool) (first old : List ℕ) (start : ℕ) where
  pub pass_first : (list : Running) → view list ≡ first → length old ≡ 5124 → start ≤ 1024
      → Pass target marks first old start list start old (length first)
  unfolding second_stage
  pass_first list is long few =
      record {
        done = [];
        commands = [];
        is = is ∙ sym (take-length first) ∙ sym (append-nil (take (length first) first));
        inside = omega arith;
        all = rw (take-length first);
        counted = omega arith;
        sends = none_sent old start long few;
      }

  pub pass_fits : (list : Running) (sent : ℕ) (field : List ℕ) (i : ℕ) → Pass target marks first old start list sent field i → i ≤ length (view list)
  pass_fits list sent field i pass =
      omega (arith, ap length pass.is, length-append (take i first) pass.done, length-take-le i first pass.inside)

  module _ (list : Running) (sent : ℕ) (field : List ℕ) (i : ℕ) (pass : Pass target marks first old start list sent field (suc i)) where
    abbrev next_rule : ℕ
    next_rule = get_or first i 0

    abbrev left_of : List Standing
    left_of = reverse (map (standing_by marks) (take i first))

    -- the list around the rule at the last place of the front
    pub pass_cut : view list ≡ take i first ++ (next_rule ∷ pass.done)
    pass_cut =
        pass.is ∙ ap (λ (l : List ℕ). l ++ pass.done) (take-suc first i 0 (omega (arith, pass.inside)))
        ∙ append_snoc (take i first) next_rule pass.done

    pub pass_rule : get_or (view list) i 0 ≡ next_rule
    pass_rule =
        ap (λ (l : List ℕ). get_or l i 0) pass.is
        ∙ get_or-append (take (suc i) first) pass.done 0 i (omega (arith, length-take-le (suc i) first pass.inside))
        ∙ get_or-take (suc i) first i 0 (omega arith)

    -- a settled rule becomes the first of `done`
    pub pass_settled : get_or marks next_rule false ≡ true → Pass target marks first old start list sent field i
    unfolding take_waiting standing_by
    pass_settled marked =
        record {
          done = next_rule ∷ pass.done;
          commands = pass.commands;
          is = pass_cut;
          inside = omega (arith, pass.inside);
          all = rw (left_one marks first i (omega (arith, pass.inside)), marked) at pass.all;
          counted = pass.counted;
          sends = pass.sends;
        }

    module _ (unmarked : get_or marks next_rule false ≡ false) where
      tail : pass.commands ++ (settling target (suc (length left_of)) next_rule pass.done ∷ take_waiting target left_of (settled_done target next_rule pass.done))
          ≡ second_stage target (map (standing_by marks) first)
      unfolding standing_by
      tail =
          ap (λ (l : List Command). pass.commands ++ l)
          (sym (two_waiting target next_rule left_of pass.done))
          ∙ (rw (left_one marks first i (omega (arith, pass.inside)), unmarked) at pass.all)

      -- there is room for its command
      pub pass_room : start + length (second_stage target (map (standing_by marks) first)) ≤ 1024 → sent < 1024
      pass_room few =
          omega (
            arith,
            pass.counted,
            ap length tail,
            length-append pass.commands (settling target (suc (length left_of)) next_rule pass.done ∷ take_waiting target left_of (settled_done target next_rule pass.done)),
          )

      -- a waiting rule is settled
      pub pass_waiting : (to : List ℕ) (place r : ℕ) (next : Running) (written : List ℕ) → Admitted 1024 target → Says to target
          → place ≡ suc i → r ≡ next_rule → Lowered to list place r sent field next written
          → Pass target marks first old start next (sent + 1) written i
      pass_waiting to place r next written policy says at is-rule lowered =
          let done = pass.done in
          let c = settling target (suc i) next_rule done in
          let short : length (take i first) ≡ i = length-take-le i first (omega (arith, pass.inside)) in
          let counted : length left_of ≡ i =
          length-reverse (map (standing_by marks) (take i first)) ∙ length-map (take i first) (standing_by marks) ∙ short in
          let did : (view next ≡ take i first ++ settled_done target next_rule done) × Sent field sent (c ∷ []) written =
          (rw (at, is-rule) at lowered) target (take i first) done policy says pass_cut (ap suc (sym short)) in
          record {
            done = settled_done target next_rule done;
            commands = pass.commands ++ (c ∷ []);
            is = did.0;
            inside = omega (arith, pass.inside);
            all = append_snoc pass.commands c _ ∙ (rw counted at tail);
            counted = omega (arith, pass.counted, length-append pass.commands (c ∷ []));
            sends = sent_more sent pass.sends pass.counted did.1;
          }

  -- nothing is left of the front
  pub pass_last : (list : Running) (sent : ℕ) (field : List ℕ) → Pass target marks first old start list sent field 0
      → (sent ≡ start + length (second_stage target (map (standing_by marks) first)))
      × Sent old start (second_stage target (map (standing_by marks) first)) field
  unfolding take_waiting
  pass_last list sent field pass =
      let all : pass.commands ≡ second_stage target (map (standing_by marks) first) = sym (append-nil pass.commands) ∙ pass.all in
      (pass.counted ∙ ap (λ (l : List Command). start + length l) all, rw all at pass.sends)
