-- The second stage of the script for insert, delete and move. The running list is what is left of the front, then `done`; a rule
-- leaves the end of the front and goes into `done`, which follows the target's order. So rules of the front keep their support,
-- and rules of `done` have the target's. Assumes nothing.
use Prim.Native.Nat.{ℕ, suc, ◌+◌, ◌<◌}
use native.Mathlib.Omega.{arith}
use mathlib.Core.Path.{◌≡◌, refl, sym, ◌∙◌, ap}
use mathlib.Core.Logic.{inl, inr, ⊎_elim, ⊎_map}
use mathlib.Core.List.{List, [], ◌∷◌, ◌++◌, append_assoc}
use mathlib.Core.List.Memᴰ
use borrow.Author.Tests.{eqb-true, eqb-false}
use lib.Dec.{eqb}
use lib.ListN.{length, length-append}
use lib.Seq.{append_snoc}
use Rattle.policy.specs.Lists.{mem, after}
use Rattle.policy.specs.Command.{placed}
use Rattle.policy.specs.InsertDeleteMove.{Standing, settled, waiting, rule_of, ahead, take_waiting}
use Rattle.policy.specs.Properties.{In, Distinct, Within, Precedes, SupportedBy}
use Rattle.policy.specs.declared.Command.TheVariants.{DelPlace, Mov}
use Rattle.policy.proofs.Tests.{by_test, not_first, not_second}
use Rattle.policy.proofs.Lists.{mem_in, not_mem, in_some, in_around, around_cases}
use Rattle.policy.proofs.Order.{not_later, distinct_around, precedes_in_left, precedes_left, precedes_right}
use Rattle.policy.proofs.Order.{precedes_across, precedes_asym, precedes_trans, precedes_total, around_precedes}
use Rattle.policy.proofs.Order.{after_precedes, precedes_after, precedes_from}
use Rattle.policy.proofs.Standing.{Follows, follows_back, follows_around, same_order, precedes_front, precedes_behind}
use Rattle.policy.proofs.Standing.{lowered_in, lowered_back, lowered_distinct, precedes_lowered}
use Rattle.policy.proofs.Way.{Forward, Sound}
use Rattle.policy.proofs.Commands.{placed_at}
use Rattle.policy.proofs.Stages.{Leg, leg_none, leg_one, leg_append, lifts, standing, standing_in, standing_length, Passing}
use Rattle.policy.proofs.Stages.{waiting_count}

-- `done`, cut where a rule of the target goes into it: behind the rules that do not come after that one in the target
record Cut (target : List ℕ) (r : ℕ) (done : List ℕ) : Type 0 where
  first : List ℕ
  second : List ℕ
  is : done ≡ first ++ second
  counted : ahead target r done ≡ length first
  early : (x : ℕ) → In x first → ¬ Precedes r x target
  late : (x : ℕ) → In x second → Precedes r x target

cut : (target : List ℕ) (r : ℕ) (done : List ℕ) → Distinct target → Follows done target → Cut target r done
unfolding ahead
cut target r [] d f =
    record {
      first = [];
      second = [];
      is = refl;
      counted = refl;
      early = λ x h. absurd (Memᴰ.not-nil h);
      late = λ x h. absurd (Memᴰ.not-nil h);
    }
cut target r (y ∷ done) d f =
    by_test (mem y (after r target))
    (λ t. let follows = after_precedes r y target (mem_in y (after r target) t) in
    record {
      first = [];
      second = y ∷ done;
      is = refl;
      counted = rw t;
      early = λ x h. absurd (Memᴰ.not-nil h);
      late = λ x h.
          ⊎_elim (λ e. rw e follows) (λ k. precedes_trans r y x target d follows (f y x (inl (refl, k))))
          (Memᴰ.cases_cons h);
    })
    (λ t. let below = cut target r done d (λ a b p. f a b (inr p)) in
    record {
      first = y ∷ below.first;
      second = below.second;
      is = ap (λ (m : List ℕ). y ∷ m) below.is;
      counted = rw t (ap suc below.counted);
      early = λ x h p.
          ⊎_elim (λ e. not_mem y (after r target) t (precedes_after r y target (rw e at p))) (λ k. below.early x k p)
          (Memᴰ.cases_cons h);
      late = below.late;
    })

passing_sound : {initial target kept : List ℕ} {left : List Standing} {done l : List ℕ}
    → Passing initial target kept left done l → Sound initial target l
passing_sound p = record { distinct = p.distinct; ordered = p.ordered; full = inr p.whole }

module _ (size : ℕ) (initial target kept : List ℕ) (d : Distinct target) where
  opened : (x : Standing) (left : List Standing) (done l : List ℕ)
      → Passing initial target kept (x ∷ left) done l → l ≡ standing left ++ (rule_of x ∷ done)
  opened x left done l p = p.is ∙ append_snoc (standing left) (rule_of x) done

  -- a settled rule at the end of the front becomes the first of `done`: the list stays as it is
  pass_settled : (r : ℕ) (left : List Standing) (done l : List ℕ)
      → Passing initial target kept (settled r ∷ left) done l → Passing initial target kept left (r ∷ done) l
  unfolding rule_of
  pass_settled r left done l p =
      let at : l ≡ standing left ++ (r ∷ done) = opened (settled r) left done l p in
      let own = p.settles r (Memᴰ.head refl) in
      record {
        is = at;
        distinct = p.distinct;
        ordered = p.ordered;
        whole = p.whole;
        inside = λ x h. ⊎_elim (λ e. Memᴰ.cast e own.0) (λ k. p.inside x k) (Memᴰ.cases_cons h);
        follows = follows_around r [] done target (λ x h. absurd (Memᴰ.not-nil h))
            (λ x h. own.1 x (rw at (precedes_right r x (standing left) (r ∷ done) (inl (refl, h)))) (p.inside x h))
            p.follows;
        settles = λ s h. p.settles s (Memᴰ.tail h);
        waits = λ s h. p.waits s (Memᴰ.tail h);
        unkept = λ w h. p.unkept w (Memᴰ.tail h);
      }

  -- a waiting rule at the end of the front is deleted, or goes into `done`: what is left of the front stays as it is
  pass_waiting : (r : ℕ) (left : List Standing) (done now l : List ℕ) → Passing initial target kept (waiting r ∷ left) done l
      → Distinct (standing left ++ now)
      → Within now (r ∷ done) → ((x : ℕ) → In x target → In x (r ∷ done) → In x now)
      → Within now target → Follows now target
      → Passing initial target kept left now (standing left ++ now)
  unfolding rule_of
  pass_waiting r left done now l p distinct fewer enough inside follows =
      let u = standing left in
      let at : l ≡ u ++ (r ∷ done) = opened (waiting r) left done l p in
      let was : Distinct (u ++ (r ∷ done)) = rw at at p.distinct in
      let whole : Within target (u ++ now) =
      λ x h. ⊎_elim (λ k. Memᴰ.append_left now k) (λ k. Memᴰ.append_right u (enough x h k))
      (Memᴰ.append_cases u (rw at at (p.whole x h))) in
      let holds : (policy : List ℕ) (x : ℕ) → In x u → SupportedBy policy l x → SupportedBy policy (u ++ now) x =
      λ policy x h s. record {
        named = s.named;
        led = λ y q. precedes_left y x u now (precedes_front y x u (r ∷ done) was h (rw at at (s.led y q)));
      } in
      record {
        is = refl;
        distinct = distinct;
        ordered = λ x h.
            ⊎_elim
            (λ k. ⊎_map (holds initial x k) (holds target x k)
            (p.ordered x (rw at (Memᴰ.append_left (r ∷ done) k))))
            (λ k. inr (record {
              named = inside x k;
              led = λ y q.
                  ⊎_elim (λ i. precedes_across y x u now i k)
                  (λ i. precedes_right y x u now (follows_back y x now target follows d i k q))
                  (Memᴰ.append_cases u (whole y (precedes_in_left y x target q)));
            }))
            (Memᴰ.append_cases u h);
        whole = whole;
        inside = inside;
        follows = follows;
        settles = λ s h. (
          (p.settles s (Memᴰ.tail h)).0,
          λ x q. (p.settles s (Memᴰ.tail h)).1 x
              (rw at (precedes_behind s x u now (r ∷ done) distinct (standing_in (settled s) left h) (fewer x) q)),
        );
        waits = λ w h k.
            let was_waiting = p.waits w (Memᴰ.tail h) k in
            let s = was_waiting.0 in (
              s,
              precedes_behind w s u (r ∷ done) now was (standing_in (waiting w) left h)
                  (enough s (precedes_in_left s w target was_waiting.2)) (rw at at was_waiting.1),
              was_waiting.2,
            );
        unkept = λ w h. p.unkept w (Memᴰ.tail h);
      }

  -- a rule that is not in the target is taken out
  deleted_forward : (r : ℕ) (u v : List ℕ) → ¬ In r target → Distinct (u ++ (r ∷ v))
      → Forward initial target (u ++ (r ∷ v)) (u ++ v)
  deleted_forward r u v n distinct =
      let stays : (x : ℕ) → In x target → In x (u ++ (r ∷ v)) → In x (u ++ v) =
      λ x h k. not_first (λ e. n (Memᴰ.cast (sym e) h)) (around_cases r x u v k) in
      record {
        stays = λ x h old k. stays x h k;
        gone = λ x h new k. in_around r x u v k;
        led = λ a b rivals lead. (
          stays b rivals.new lead.0,
          λ h. around_precedes b a r u v (λ e. n (Memᴰ.cast (sym e) rivals.new))
              (λ e. (distinct_around r u v distinct).0 (Memᴰ.cast (sym e) h)) (lead.1 (in_around r a u v h)),
        );
      }

  -- a rule is moved down over rules that precede it in the target
  lowered_forward : (r : ℕ) (u x y : List ℕ) → Distinct (u ++ (r ∷ (x ++ y))) → ((z : ℕ) → In z x → Precedes z r target)
      → Forward initial target (u ++ (r ∷ (x ++ y))) (u ++ (x ++ (r ∷ y)))
  lowered_forward r u x y distinct over =
      record {
        stays = λ z h old k. lowered_in r z u x y k;
        gone = λ z h new k. lowered_back r z u x y k;
        led = λ a b rivals lead. (
          lowered_in r b u x y lead.0,
          λ h. let was = lead.1 (lowered_back r a u x y h) in
              by_test (eqb b r)
              (λ t. let e = eqb-true b r t in
              ⊎_elim
              (λ k. let before = over a k in
              absurd (precedes_asym a r target d before (rw e at (rivals.finally (precedes_in_left a r target before)))))
              (λ k. rw e (precedes_right r a u (x ++ (r ∷ y)) (precedes_right r a x (r ∷ y) (inl (refl, k)))))
              (Memᴰ.append_cases x (precedes_from r a u (x ++ y) distinct (rw e at was))))
              (λ f. precedes_lowered b a r u x y (λ e. eqb-false b r f e) was),
        );
      }

  -- "One that is not in the target is deleted."
  delete : (r : ℕ) (left : List Standing) (done l : List ℕ) → ¬ In r target → Passing initial target kept (waiting r ∷ left) done l
      → Passing initial target kept left done (standing left ++ done)
      × Leg size initial target kept l (DelPlace (suc (length left)) ∷ []) (standing left ++ done)
  unfolding rule_of
  delete r left done l n p =
      let u = standing left in
      let at : l ≡ u ++ (r ∷ done) = opened (waiting r) left done l p in
      let was : Distinct (u ++ (r ∷ done)) = rw at at p.distinct in
      let now : Passing initial target kept left done (u ++ done) =
      pass_waiting r left done done l p (distinct_around r u done was).1 (λ x h. Memᴰ.tail h)
      (λ x h k. not_first (λ e. n (Memᴰ.cast (sym e) h)) (Memᴰ.cases_cons k)) p.inside p.follows in (
        now,
        leg_one (DelPlace (suc (length left))) (passing_sound p) (passing_sound now)
            (u, r, done, ap suc (sym (standing_length left)), at, refl)
            (rw at (deleted_forward r u done n was)) tt
            (lifts u r done (ap suc (sym (standing_length left))) at (p.unkept r (Memᴰ.head refl))),
      )

  -- "Any other is moved to stand just before the first settled rule that follows it in the target, or to the end if there is
  -- none". It had a reason to wait, which now stands in `done` and precedes it in the target: so it does move.
  lower : (r : ℕ) (left : List Standing) (done now l : List ℕ) → In r target → Passing initial target kept (waiting r ∷ left) done l
      → now ≡ placed (suc (ahead target r done)) r done
      → Passing initial target kept left now (standing left ++ now)
      × Leg size initial target kept l (Mov (suc (length left)) (suc (length left) + ahead target r done) ∷ []) (standing left ++ now)
  unfolding rule_of
  lower r left done now l h p is =
      let u = standing left in
      let c = cut target r done d p.follows in
      let x = c.first in
      let y = c.second in
      let k = ahead target r done in
      let shape : now ≡ x ++ (r ∷ y) = is ∙ placed_at r x y (ap suc c.counted) c.is in
      let at : l ≡ u ++ (r ∷ (x ++ y)) = opened (waiting r) left done l p ∙ ap (λ (m : List ℕ). u ++ (r ∷ m)) c.is in
      let was : Distinct (u ++ (r ∷ (x ++ y))) = rw at at p.distinct in
      let inside : Within (x ++ y) target = λ z k. p.inside z (rw c.is k) in
      let over : (z : ℕ) → In z x → Precedes z r target =
      λ z k. not_second (c.early z k)
      (precedes_total z r target (inside z (Memᴰ.append_left y k)) h
      (λ e. not_later r u (x ++ y) was (Memᴰ.append_left y (Memᴰ.cast (sym e) k)))) in
      let then : Passing initial target kept left now (u ++ now) =
      rw shape (
      pass_waiting r left done (x ++ (r ∷ y)) l p
      (lowered_distinct r u x y was)
      (λ z k. rw c.is (lowered_back r z [] x y k)) (λ z g k. lowered_in r z [] x y (rw c.is at k))
      (λ z k. ⊎_elim (λ e. Memᴰ.cast e h) (λ i. inside z i) (around_cases r z x y k))
      (follows_around r x y target over c.late (rw c.is at p.follows))) in
      let reason = p.waits r (Memᴰ.head refl) h in
      let some : 0 < length x =
      in_some reason.0 x
      (not_second (λ i. precedes_asym r reason.0 target d (c.late reason.0 i) reason.2)
      (Memᴰ.append_cases x (precedes_from r reason.0 u (x ++ y) was (rw at at reason.1)))) in (
        then,
        leg_one (Mov (suc (length left)) (suc (length left) + k)) (passing_sound p) (passing_sound then) (
          u,
          r,
          x ++ y,
          u ++ x,
          y,
          ap suc (sym (standing_length left)),
          at,
          omega (arith, standing_length left, length-append u x, c.counted),
          sym (append_assoc u x y),
          ap (λ (m : List ℕ). u ++ m) shape ∙ sym (append_assoc u x (r ∷ y)),
        )
            (rw (at, shape) (lowered_forward r u x y was over))
            (omega (arith, c.counted))
            (lifts u r (x ++ y) (ap suc (sym (standing_length left))) at (p.unkept r (Memᴰ.head refl))),
      )

  pub take_waiting_lem : (left : List Standing) (done l : List ℕ)
      → Passing initial target kept left done l → Leg size initial target kept l (take_waiting target left done) target
  unfolding take_waiting
  take_waiting_lem [] done l p =
      let at : l ≡ done = p.is in
      leg_none (passing_sound p)
      (at ∙ same_order done target (rw at at p.distinct) d p.inside (λ x h. rw at at (p.whole x h)) p.follows)
  take_waiting_lem (settled r ∷ left) done l p = take_waiting_lem left (r ∷ done) l (pass_settled r left done l p)
  take_waiting_lem (waiting r ∷ left) done l p =
      by_test (mem r target)
      (λ t. let now = placed (suc (ahead target r done)) r done in
      let moved = lower r left done now l (mem_in r target t) p refl in
      rw (t, take_waiting) (leg_append moved.1 (take_waiting_lem left now (standing left ++ now) moved.0)))
      (λ f. let gone = delete r left done l (not_mem r target f) p in
      rw (f, take_waiting) (leg_append gone.1 (take_waiting_lem left done (standing left ++ done) gone.0)))

-- The second stage sends one command for each rule that waits.
pub take_waiting_count : (target : List ℕ) (left : List Standing) (done : List ℕ)
    → length (take_waiting target left done) ≡ waiting_count left
unfolding take_waiting waiting_count
take_waiting_count target [] done = refl
take_waiting_count target (settled r ∷ left) done = take_waiting_count target left (r ∷ done)
take_waiting_count target (waiting r ∷ left) done =
    by_test (mem r target)
    (λ t. rw (t, take_waiting) (ap suc (take_waiting_count target left (placed (suc (ahead target r done)) r done))))
    (λ f. rw (f, take_waiting) (ap suc (take_waiting_count target left done)))
