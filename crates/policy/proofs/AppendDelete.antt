-- The script for append and delete: what it keeps, where it leads, how many commands it has. The idea: a front part of a policy
-- that occurs in order in the running list is supported there. While the script deletes, the list is a front part of the initial
-- policy and then kept rules; while it appends, it is a front part of the target. Assumes nothing.
use Prim.Native.Nat.{ℕ, ◌≤◌, zero-le, suc-le-suc}
use native.Mathlib.Omega.{arith}
use mathlib.Core.Path.{◌≡◌, refl, sym, ◌∙◌, ap, subst}
use mathlib.Core.Bool.{true, not}
use mathlib.Core.Logic.{inl, inr, ⊎_elim}
use mathlib.Core.List.{List, [], ◌∷◌, ◌++◌, map, reverse, reverse_aux-eq, map-append, append-nil}
use mathlib.Core.List.{Memᴰ}
use mathlib.Core.List.Sublistᴰ as ListSublistᴰ
use mathlib.Core.List.{Sublistᴰ}
use borrow.Author.Tests.{eqb-true, eqb-false, eq-eqb}
use lib.Dec.{eqb}
use lib.ListN.{length, drop, length-append, length-map, length-reverse}
use lib.Seq.{append_snoc}
use Rattle.policy.specs.Lists.{pick, mem, common, missing}
use Rattle.policy.specs.Command.{coded, codes_of, allows, of_type}
use Rattle.policy.specs.AppendDelete.{kept_run, plan_one}
use Rattle.policy.specs.Properties.{In, Distinct, SupportedBy}
use Rattle.policy.specs.Claims.{Admitted, KeptRunIsLongest, PlanOneReaches, PlanOneCount, PlanOneSparesKept}
use Rattle.policy.specs.declared.Command.{Command}
use Rattle.policy.specs.declared.Command.TheVariants.{App, DelRule}
use Rattle.policy.proofs.Tests.{by_test, not_true}
use Rattle.policy.proofs.Lists.{mem_in, not_mem, reverse_in, all_append, all_map, in_middle}
use Rattle.policy.proofs.Order.{distinct_left, distinct_apart, not_earlier, sublist_distinct, sublist_precedes, sublist_tails}
use Rattle.policy.proofs.Order.{sublist_past}
use Rattle.policy.proofs.Counting.{pick_in, pick_sublist, pick_append, common_occurring, pick_count}
use Rattle.policy.proofs.Standing.{precedes_front}
use Rattle.policy.proofs.Way.{Orderly, Steps, steps_leads, steps_append}

-- What is kept: the longest front part of the target that occurs in order in the initial policy.
pub kept_run_longest : (initial target run rest : List ℕ) → target ≡ run ++ rest → Sublistᴰ run initial
    → length run ≤ length (kept_run initial target)
unfolding kept_run
kept_run_longest [] target [] rest e s = zero-le
kept_run_longest (x ∷ initial) target [] rest e s = zero-le
kept_run_longest [] target (y ∷ run) rest e s = elim s [ ]
kept_run_longest (x ∷ initial) [] (y ∷ run) rest e s = let clash : ◌≡◌ {A = ℕ} 0 1 = cc in omega arith
kept_run_longest (x ∷ initial) (r ∷ target) (y ∷ run) rest e s =
    let heads : r ≡ y = cc in
    let tails : target ≡ run ++ rest = cc in
    by_test (eqb x r)
    (λ t. rw (t, kept_run) (suc-le-suc (kept_run_longest initial target run rest tails (sublist_tails s))))
    (λ f. rw (f, kept_run) (kept_run_longest initial (r ∷ target) (y ∷ run) rest e
    (sublist_past (λ h. eqb-false x r f (sym h ∙ sym heads)) s)))

pub kept_run_front : (initial target : List ℕ) → target ≡ kept_run initial target ++ drop (length (kept_run initial target)) target
unfolding kept_run
kept_run_front [] target = refl
kept_run_front (x ∷ initial) [] = refl
kept_run_front (x ∷ initial) (r ∷ target) =
    by_test (eqb x r)
    (λ t. rw (t, kept_run) (ap (λ (l : List ℕ). r ∷ l) (kept_run_front initial target)))
    (λ f. rw (f, kept_run) (kept_run_front initial (r ∷ target)))

pub kept_run_occurs : (initial target : List ℕ) → Sublistᴰ (kept_run initial target) initial
unfolding kept_run
kept_run_occurs [] target = ListSublistᴰ.slnil
kept_run_occurs (x ∷ initial) [] = ListSublistᴰ.nil-sublist (x ∷ initial)
kept_run_occurs (x ∷ initial) (r ∷ target) =
    by_test (eqb x r)
    (λ t. rw (t, kept_run) (ListSublistᴰ.cons-cons (sym (eqb-true x r t)) (kept_run_occurs initial target)))
    (λ f. rw (f, kept_run) (ListSublistᴰ.cons (kept_run_occurs initial (r ∷ target))))

pub kept_run_is_longest : KeptRunIsLongest
kept_run_is_longest initial target = (
  (drop (length (kept_run initial target)) target, kept_run_front initial target),
  kept_run_occurs initial target,
  kept_run_longest initial target,
)

-- a policy is kept as a whole where it is the target too
pub kept_run_self : (l : List ℕ) → kept_run l l ≡ l
unfolding kept_run
kept_run_self [] = refl
kept_run_self (x ∷ l) = rw (eq-eqb x x refl, kept_run) (ap (λ (m : List ℕ). x ∷ m) (kept_run_self l))

-- a rule of a front part of a policy, where that part occurs in order in the running list
front_supported : (policy running u v : List ℕ) → policy ≡ u ++ v → Distinct policy → Sublistᴰ u running
    → (r : ℕ) → In r u → SupportedBy policy running r
front_supported policy running u v e d s r h = record {
  named = rw e (mathlib.Core.List.Memᴰ.append_left v h);
  led = λ x p. sublist_precedes x r s (precedes_front x r u v (rw e at d) h (rw e at p));
}

-- The lists on the way, whichever rules are kept: they are a front part of the target and occur in order in the initial policy.
module _ (size : ℕ) (initial target kept rest : List ℕ) (first : Admitted size initial) (last : Admitted size target)
    (front : target ≡ kept ++ rest) (occurs : Sublistᴰ kept initial) where
  abbrev Way : List ℕ → List Command → List ℕ → Type 0
  Way l script n = Steps (Orderly initial target) (λ l m. Unit {0}) size l script n

  -- while it deletes: a front part of the initial policy, and then the kept rules of the others
  deleting_orderly : (u v : List ℕ) → initial ≡ u ++ v → Orderly initial target (u ++ common v kept)
  unfolding common
  deleting_orderly u v e =
      let running : List ℕ = u ++ common v kept in
      let parts : common u kept ++ common v kept ≡ kept =
      sym (pick_append (λ r. mem r kept) u v) ∙ ap (λ (l : List ℕ). common l kept) (sym e)
      ∙ common_occurring occurs first.distinct in
      let kept_in : Sublistᴰ kept running =
      subst (λ (l : List ℕ). Sublistᴰ l running) parts
      (ListSublistᴰ.append (pick_sublist (λ r. mem r kept) u) (ListSublistᴰ.refl (common v kept))) in
      let front_in : Sublistᴰ u running =
      subst (λ (l : List ℕ). Sublistᴰ l running) (append-nil u)
      (ListSublistᴰ.append (ListSublistᴰ.refl u) (ListSublistᴰ.nil-sublist (common v kept))) in
      let running_in : Sublistᴰ running (u ++ v) = ListSublistᴰ.append (ListSublistᴰ.refl u) (pick_sublist (λ r. mem r kept) v) in
      record {
        distinct = sublist_distinct running_in (rw e at first.distinct);
        ordered = λ r h.
            ⊎_elim
            (λ t. inl (front_supported initial running u v e first.distinct front_in r t))
            (λ t. inr (front_supported target running kept rest front last.distinct kept_in r
            (mem_in r kept (pick_in (λ r. mem r kept) v r t).1)))
            (mathlib.Core.List.Memᴰ.append_cases u h);
      }

  deleting : (u v : List ℕ) → initial ≡ u ++ v → Way initial (map DelRule (reverse (missing v kept))) (u ++ common v kept)
  unfolding common missing pick
  deleting u [] e = (rw (← e) at (deleting_orderly u [] e), e)
  deleting u (x ∷ v) e =
      let left : List ℕ = common v kept in
      let script : List Command = map DelRule (reverse (missing v kept)) in
      let on : initial ≡ (u ++ (x ∷ [])) ++ v = e ∙ sym (append_snoc u x v) in
      let others : Way initial script ((u ++ (x ∷ [])) ++ left) = deleting (u ++ (x ∷ [])) v on in
      let at : (u ++ (x ∷ [])) ++ left ≡ u ++ (x ∷ left) = append_snoc u x left in
      let there : In x initial = rw e (in_middle x u v) in
      let once : ¬ In x u = not_earlier x u v (rw e at first.distinct) in
      by_test (mem x kept)
      (λ t. rw t (subst (λ (l : List ℕ). Way initial script l) at others))
      (λ f. let after : Orderly initial target (u ++ left) = rw f at (deleting_orderly u (x ∷ v) e) in
      let last_one : Way ((u ++ (x ∷ [])) ++ left) (DelRule x ∷ []) (u ++ left) =
      (deleting_orderly (u ++ (x ∷ [])) v on, (u ++ left, (u, left, first.inside x there, once, at, refl), tt, (after, refl))) in
      rw (f, reverse_aux-eq (missing v kept) (x ∷ []), map-append DelRule (reverse (missing v kept)) (x ∷ []))
      (steps_append (Orderly initial target) (λ l m. Unit {0}) size initial ((u ++ (x ∷ [])) ++ left) (u ++ left)
      script (DelRule x ∷ []) others last_one))

  -- while it appends: a front part of the target
  appending_orderly : (u v : List ℕ) → target ≡ u ++ v → Orderly initial target u
  appending_orderly u v e =
      record {
        distinct = distinct_left u v (rw e at last.distinct);
        ordered = λ r h. inr (front_supported target u u v e last.distinct (ListSublistᴰ.refl u) r h);
      }

  appending : (u v : List ℕ) → target ≡ u ++ v → Way u (map App v) target
  appending u [] e = (appending_orderly u [] e, sym (e ∙ append-nil u))
  appending u (r ∷ v) e =
      let there : In r target = rw e (in_middle r u v) in
      let new : ¬ In r u = not_earlier r u v (rw e at last.distinct) in
      let on : target ≡ (u ++ (r ∷ [])) ++ v = e ∙ sym (append_snoc u r v) in
      (appending_orderly u (r ∷ v) e, (u ++ (r ∷ []), (last.inside r there, new, refl), tt, appending (u ++ (r ∷ [])) v on))

  keeping_steps : Way initial (map DelRule (reverse (missing initial kept)) ++ map App rest) target
  keeping_steps =
      steps_append (Orderly initial target) (λ l m. Unit {0}) size initial kept target
      (map DelRule (reverse (missing initial kept))) (map App rest)
      (subst (λ (l : List ℕ). Way initial (map DelRule (reverse (missing initial kept))) l)
      (common_occurring occurs first.distinct) (deleting [] initial refl))
      (appending kept rest front)

pub plan_one_steps : (size : ℕ) (initial target : List ℕ) → Admitted size initial → Admitted size target
    → Steps (Orderly initial target) (λ l m. Unit {0}) size initial (plan_one initial target) target
unfolding plan_one
plan_one_steps size initial target first last =
    keeping_steps size initial target (kept_run initial target) (drop (length (kept_run initial target)) target)
    first last (kept_run_front initial target) (kept_run_occurs initial target)

-- "The count is initial + target − 2 × kept"
pub plan_one_count : PlanOneCount
unfolding plan_one missing common
plan_one_count initial target d =
    let kept : List ℕ = kept_run initial target in
    let out : List ℕ = missing initial kept in
    let new : List ℕ = drop (length kept) target in
    omega (
      arith,
      length-append (map DelRule (reverse out)) (map App new),
      length-map (reverse out) DelRule,
      length-reverse out,
      length-map new App,
      pick_count (λ r. mem r kept) initial,
      ap length (common_occurring (kept_run_occurs initial target) d),
      ap length (kept_run_front initial target) ∙ length-append kept new,
    )

-- The script is of type 1.
plan_one_type : (initial target : List ℕ) → of_type 1 (plan_one initial target) ≡ true
unfolding of_type plan_one allows coded codes_of mem
plan_one_type initial target =
    let out : List ℕ = reverse (missing initial (kept_run initial target)) in
    let new : List ℕ = drop (length (kept_run initial target)) target in
    all_append (allows 1) (map DelRule out) (map App new) (all_map (allows 1) DelRule out (λ r. refl))
    (all_map (allows 1) App new (λ r. refl))

pub plan_one_reaches : PlanOneReaches
plan_one_reaches size initial target first last = (
  plan_one_type initial target,
  steps_leads (Orderly initial target) (λ l m. Unit {0}) size initial target (plan_one initial target)
      (plan_one_steps size initial target first last),
)

-- The script deletes rules that are not among the kept, and appends those that stand behind them in the target.
pub plan_one_spares_kept : PlanOneSparesKept
unfolding plan_one missing
plan_one_spares_kept size initial target policy last first others c l r e leads touches h =
    let kept : List ℕ = kept_run initial target in
    let out : List ℕ = missing initial kept in
    let new : List ℕ = drop (length kept) target in
    let sent : Memᴰ c (plan_one initial target) = rw e (mathlib.Core.List.Memᴰ.append_right first (mathlib.Core.List.Memᴰ.head refl)) in
    ⊎_elim
    (λ t. let from = mathlib.Core.List.Memᴰ.of_map DelRule (reverse out) t in
    let is : r ≡ from.0 = rw (← from.2) at touches in
    not_mem r kept (not_true (rw (← is) at (pick_in (λ x. not (mem x kept)) initial from.0 (reverse_in from.0 out from.1)).1)) h)
    (λ t. let from = mathlib.Core.List.Memᴰ.of_map App new t in
    let is : r ≡ from.0 = rw (← from.2) at touches in
    distinct_apart kept new (rw (kept_run_front initial target) at last.distinct) r h (mathlib.Core.List.Memᴰ.cast is from.1))
    (mathlib.Core.List.Memᴰ.append_cases (map DelRule (reverse out)) sent)
