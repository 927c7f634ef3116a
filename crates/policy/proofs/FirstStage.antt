-- The first stage of the script for insert, delete and move: the four cases of one rule of the target, then all of them, then how
-- many commands they send. Each case is a way to join the front (Front.antt). Assumes nothing.
use Prim.Native.Nat.{ℕ, suc, ◌+◌}
use native.Mathlib.Omega.{arith}
use mathlib.Core.Path.{◌≡◌, refl, sym, ◌∙◌, ap}
use mathlib.Core.Bool.{not}
use mathlib.Core.Logic.{inl, inr, ⊎_elim}
use mathlib.Core.List.{List, [], ◌∷◌, ◌++◌, map, reverse, append-nil, append_assoc}
use mathlib.Core.List.Memᴰ
use lib.ListN.{length, length-append, length-map}
use lib.Seq.{append_snoc}
use Rattle.policy.specs.Lists.{pick, mem, before, after, without, common, missing}
use Rattle.policy.specs.InsertDeleteMove.{Standing, settled, waiting, rule_of, Halves, Taken, inserted, reached, move_up}
use Rattle.policy.specs.InsertDeleteMove.{already, raised, left, take_one, take_all, first_stage}
use Rattle.policy.specs.Properties.{In, Distinct, Within, Precedes}
use Rattle.policy.specs.declared.Command.TheVariants.{Ins, Mov}
use Rattle.policy.proofs.Tests.{by_test, not_second}
use Rattle.policy.proofs.Lists.{mem_in, not_mem, reverse_in, in_middle, before_after}
use Rattle.policy.proofs.Order.{distinct_right, distinct_apart, not_earlier}
use Rattle.policy.proofs.Order.{precedes_right, precedes_across}
use Rattle.policy.proofs.Order.{precedes_after, sublist_in, sublist_precedes}
use Rattle.policy.proofs.Counting.{pick_append, one_of, none_of}
use Rattle.policy.proofs.Standing.{follows_back, without_absent}
use Rattle.policy.proofs.Way.{Forward, Sound, initial_sound}
use Rattle.policy.proofs.Stages.{Leg, leg_none, leg_one, leg_append, lifts, standing_reverse}
use Rattle.policy.proofs.Stages.{Passing}
use Rattle.policy.proofs.Stages.{waiting_count, waiting_append, waiting_all}
use Rattle.policy.proofs.Front.{Given, Split, Halfway, split_sound, later, join_waiting, join_settled, raise_forward, halfway_raised}

-- one rule of the target, by the four cases
pub take_cases : (C : Taken → Type 0) (initial kept : List ℕ) (h : Halves) (r : ℕ)
    → (¬ In r initial → C (inserted h r))
    → (In r initial → In r kept → C (reached h r))
    → (In r initial → ¬ In r kept → In r h.rest → C (raised h r))
    → (In r initial → ¬ In r kept → ¬ In r h.rest → C (left h))
    → C (take_one initial kept h r)
unfolding take_one
take_cases C initial kept h r one two three four =
    by_test (mem r initial)
    (λ t. let old = mem_in r initial t in
    rw t (
    by_test (mem r kept)
    (λ k. rw k (two old (mem_in r kept k)))
    (λ f. let other = not_mem r kept f in
    rw f (
    by_test (mem r h.rest)
    (λ k. rw k (three old other (mem_in r h.rest k)))
    (λ g. rw g (four old other (not_mem r h.rest g)))))))
    (λ f. rw f (one (not_mem r initial f)))

-- Counting: the commands sent, the moves in place, the rules left to be settled and the rules kept are as many as the rules that
-- were to be settled and the new ones.
abbrev Counted : Taken → (leaves keeps was adds : ℕ) → Type 0
Counted one leaves keeps was adds = (length one.sent + one.in_place) + (leaves + keeps) ≡ was + adds

abbrev unsettled : Halves → ℕ
unsettled h = waiting_count h.front + length h.rest

move_up_count : (n : ℕ) (between : List ℕ) → length (move_up n between) + already between ≡ 1
unfolding move_up already
move_up_count n [] = refl
move_up_count n (x ∷ between) = refl

module _ (size : ℕ) (initial target kept : List ℕ) (given : Given size initial target kept) where
  -- what is to be shown of one rule of the target
  abbrev Took : (taken ts : List ℕ) (r : ℕ) (l : List ℕ) → Taken → Type 0
  Took taken ts r l one =
      (m : List ℕ) × Leg size initial target kept l one.sent m
      × Halfway initial target kept (taken ++ (r ∷ [])) ts one.next.front one.next.rest m

  -- "not in the initial policy: insert it right after the front; it joins, settled"
  insert : (taken ts : List ℕ) (r : ℕ) (h : Halves) (l : List ℕ)
      → Halfway initial target kept taken (r ∷ ts) h.front h.rest l → ¬ In r initial → Took taken ts r l (inserted h r)
  unfolding inserted
  insert taken ts r h l p new =
      let u = map rule_of h.front in
      let at : l ≡ u ++ h.rest = p.split.is in
      let absent : ¬ In r l = λ k. new (p.fresh r (Memᴰ.head refl) k) in
      let n : ¬ In r u = λ k. absent (rw at (Memᴰ.append_left h.rest k)) in
      let same : without r h.rest ≡ h.rest = without_absent r h.rest (λ k. absent (rw at (Memᴰ.append_right u k))) in
      let then = rw same at (halfway_raised size initial target kept given taken ts r h.front h.rest l n p) in
      let whole : Within initial (u ++ h.rest) = rw at at p.split.whole in (
        u ++ (r ∷ h.rest),
        leg_one (Ins (suc (length h.front)) r) (split_sound p.split) (split_sound then.split) (
          u,
          h.rest,
          given.new.inside r (rw p.split.taking (in_middle r taken ts)),
          absent,
          ap suc (sym (length-map h.front rule_of)),
          at,
          refl,
        )
            (rw at (rw same at (raise_forward size initial target kept given r u h.rest n whole p.trails)))
            tt
            (λ x e k. new (sublist_in given.kept_initial r (Memᴰ.cast (sym e) k))),
        then,
      )

  -- "move it right after the front, or send nothing if it stands there"
  move_up_leg : (n : ℕ) (r : ℕ) (u b a l : List ℕ) → n ≡ length u → l ≡ u ++ (b ++ (r ∷ a))
      → Sound initial target l → Sound initial target (u ++ (r ∷ (b ++ a))) → Forward initial target l (u ++ (r ∷ (b ++ a)))
      → ¬ In r kept
      → Leg size initial target kept l (move_up n b) (u ++ (r ∷ (b ++ a)))
  unfolding move_up
  move_up_leg n r u [] a l counted at was now forward other = leg_none was at
  move_up_leg n r u (x ∷ b) a l counted at was now forward other =
      leg_one (Mov (suc (n + length (x ∷ b))) (suc n)) was now (
        u ++ (x ∷ b),
        r,
        a,
        u,
        (x ∷ b) ++ a,
        omega (arith, length-append u (x ∷ b)),
        at ∙ sym (append_assoc u (x ∷ b) (r ∷ a)),
        ap suc counted,
        append_assoc u (x ∷ b) a,
        refl,
      )
      forward
      (omega arith)
      (lifts (u ++ (x ∷ b)) r a (omega (arith, length-append u (x ∷ b))) (at ∙ sym (append_assoc u (x ∷ b) (r ∷ a))) other)

  -- "common, not kept, not yet in the front: .. it joins, settled"
  move : (taken ts : List ℕ) (r : ℕ) (h : Halves) (l : List ℕ)
      → Halfway initial target kept taken (r ∷ ts) h.front h.rest l → ¬ In r kept → In r h.rest
      → Took taken ts r l (raised h r)
  unfolding raised without
  move taken ts r h l p other there =
      let u = map rule_of h.front in
      let b = before r h.rest in
      let a = after r h.rest in
      let at : l ≡ u ++ h.rest = p.split.is in
      let n : ¬ In r u = λ k. distinct_apart u h.rest (rw at at p.split.distinct) r k there in
      let then = halfway_raised size initial target kept given taken ts r h.front h.rest l n p in
      let whole : Within initial (u ++ h.rest) = rw at at p.split.whole in (
        u ++ (r ∷ (b ++ a)),
        move_up_leg (length h.front) r u b a l (sym (length-map h.front rule_of))
            (at ∙ ap (λ (m : List ℕ). u ++ m) (before_after r h.rest there))
            (split_sound p.split) (split_sound then.split) (rw at (raise_forward size initial target kept given r u h.rest n whole p.trails))
            other,
        then,
      )

  -- "kept: every rule between the front and it joins the front, waiting; it joins, settled". The kept rules stand in the rest in
  -- the target's order, so those still to come stand after it.
  reach : (taken ts : List ℕ) (r : ℕ) (h : Halves) (l : List ℕ)
      → Halfway initial target kept taken (r ∷ ts) h.front h.rest l → In r kept → Took taken ts r l (reached h r)
  unfolding reached
  reach taken ts r h l p k =
      let u = map rule_of h.front in
      let b = before r h.rest in
      let a = after r h.rest in
      let there : In r h.rest = p.split.pending r (Memᴰ.head refl) k in
      let shape : h.rest ≡ b ++ (r ∷ a) = before_after r h.rest there in
      let at : l ≡ u ++ (b ++ (r ∷ a)) = p.split.is ∙ ap (λ (m : List ℕ). u ++ m) shape in
      let was : Distinct (u ++ (b ++ (r ∷ a))) = rw at at p.split.distinct in
      let pending : (x : ℕ) → In x (r ∷ ts) → In x kept → In x (r ∷ a) =
      λ x i j.
      ⊎_elim (λ e. Memᴰ.head e)
      (λ t. Memᴰ.tail (precedes_after r x h.rest
      (follows_back r x h.rest initial p.trails given.old.distinct there (p.split.pending x i j)
      (sublist_precedes r x given.kept_initial
      (follows_back r x kept target (λ y z q. sublist_precedes y z given.kept_target q) given.new.distinct k j
      (rw p.split.taking (precedes_right r x taken (r ∷ ts) (inl (refl, t)))))))))
      (Memᴰ.cases_cons i) in
      let reasons : (w : ℕ) → In w b → In w target → (s : ℕ) × Precedes w s l × Precedes s w target =
      λ w i j. (
        r,
        rw at (precedes_right w r u (b ++ (r ∷ a)) (precedes_across w r b (r ∷ a) i (Memᴰ.head refl))),
        later size initial target kept given taken ts r w p.split.taking j
            (λ t. distinct_apart u (b ++ (r ∷ a)) was w (p.split.joined w t) (Memᴰ.append_left (r ∷ a) i))
            (λ e. not_earlier r b a (distinct_right u (b ++ (r ∷ a)) was) (Memᴰ.cast (sym e) i)),
      ) in
      let unkept : (w : ℕ) → In w b → ¬ In w kept =
      λ w i j. ⊎_elim
      (λ t. distinct_apart u (b ++ (r ∷ a)) was w (p.split.joined w t) (Memᴰ.append_left (r ∷ a) i))
      (λ t. distinct_apart b (r ∷ a) (distinct_right u (b ++ (r ∷ a)) was) w i (pending w t j))
      (Memᴰ.append_cases taken (rw p.split.taking at (sublist_in given.kept_target w j))) in
      let joined = join_waiting size initial target kept given taken (r ∷ ts) h.front b (r ∷ a) l (rw shape at p.split) pending reasons unkept in (
        l,
        leg_none (split_sound p.split) refl,
        record {
          split =
              rw (← append_assoc h.front (map waiting b) (settled r ∷ []))
              (join_settled size initial target kept given taken ts r (h.front ++ map waiting b) a l joined);
          trails = λ x y q. p.trails x y (rw shape (precedes_right x y b (r ∷ a) (inr q)));
          fresh = λ x i j. p.fresh x (Memᴰ.tail i) j;
        },
      )

  -- "already in the front: it waits"
  pass : (taken ts : List ℕ) (r : ℕ) (h : Halves) (l : List ℕ)
      → Halfway initial target kept taken (r ∷ ts) h.front h.rest l → In r initial → ¬ In r h.rest
      → Took taken ts r l (left h)
  unfolding left
  pass taken ts r h l p old n =
      let u = map rule_of h.front in
      let here : In r u =
      not_second n (Memᴰ.append_cases u (rw p.split.is at (p.split.whole r old))) in (
        l,
        leg_none (split_sound p.split) refl,
        record {
          split =
              record {
                taking = p.split.taking ∙ sym (append_snoc taken r ts);
                is = p.split.is;
                distinct = p.split.distinct;
                ordered = p.split.ordered;
                whole = p.split.whole;
                joined = λ x k.
                    ⊎_elim (λ i. p.split.joined x i) (λ i. Memᴰ.cast (Memᴰ.eq_of_singleton i) here)
                    (Memᴰ.append_cases taken k);
                pending = λ x k. p.split.pending x (Memᴰ.tail k);
                settles = λ s k. (Memᴰ.append_left (r ∷ []) (p.split.settles s k).0, (p.split.settles s k).1);
                waits = p.split.waits;
                unkept = p.split.unkept;
              };
          trails = p.trails;
          fresh = λ x i j. p.fresh x (Memᴰ.tail i) j;
        },
      )

  take_one_lem : (taken ts : List ℕ) (r : ℕ) (h : Halves) (l : List ℕ)
      → Halfway initial target kept taken (r ∷ ts) h.front h.rest l → Took taken ts r l (take_one initial kept h r)
  take_one_lem taken ts r h l p =
      take_cases (Took taken ts r l) initial kept h r
      (λ new. insert taken ts r h l p new)
      (λ old k. reach taken ts r h l p k)
      (λ old n k. move taken ts r h l p n k)
      (λ old n k. pass taken ts r h l p old k)

  -- "At the end all remaining rules join, waiting": none of them is in the target
  finish : (front : List Standing) (rest l : List ℕ)
      → Split initial target kept target [] front rest l → Passing initial target kept (reverse (front ++ map waiting rest)) [] l
  finish front rest l p =
      let was : Distinct (map rule_of front ++ rest) = rw p.is at p.distinct in
      let q =
      join_waiting size initial target kept given target [] front rest [] l (rw (append-nil rest) p) (λ x h. absurd (Memᴰ.not-nil h))
      (λ w h k. absurd (distinct_apart (map rule_of front) rest was w (p.joined w k) h))
      (λ w h k. distinct_apart (map rule_of front) rest was w (p.joined w (sublist_in given.kept_target w k)) h) in
      let all = front ++ map waiting rest in
      record {
        is = q.is ∙ ap (λ (m : List ℕ). m ++ []) (sym (standing_reverse all []));
        distinct = q.distinct;
        ordered = q.ordered;
        whole = λ x h. rw q.is (Memᴰ.append_left [] (q.joined x h));
        inside = λ x h. absurd (Memᴰ.not-nil h);
        follows = λ a b h. absurd h;
        settles = λ s h. q.settles s (reverse_in (settled s) all h);
        waits = λ w h. q.waits w (reverse_in (waiting w) all h);
        unkept = λ w h. q.unkept w (reverse_in (waiting w) all h);
      }

  take_all_lem : (ts taken : List ℕ) (h : Halves) (l : List ℕ) → Halfway initial target kept taken ts h.front h.rest l
      → (m : List ℕ) × Leg size initial target kept l (take_all initial kept h ts).sent m
      × Passing initial target kept (reverse (take_all initial kept h ts).next.front) [] m
  unfolding take_all
  take_all_lem [] taken h l p =
      let e : taken ≡ target = sym (p.split.taking ∙ append-nil taken) in
      (l, leg_none (split_sound p.split) refl, finish h.front h.rest l (rw e at p.split))
  take_all_lem (r ∷ ts) taken h l p =
      let one = take_one_lem taken ts r h l p in
      let others = take_all_lem ts (taken ++ (r ∷ [])) (take_one initial kept h r).next one.0 one.2 in
      (others.0, leg_append one.1 others.1, others.2)

  -- The number of commands, one rule of the target at a time.
  take_count : (taken ts : List ℕ) (r : ℕ) (h : Halves) (l : List ℕ)
      → Halfway initial target kept taken (r ∷ ts) h.front h.rest l
      → Counted (take_one initial kept h r) (unsettled (take_one initial kept h r).next) (length (common (r ∷ []) kept))
      (unsettled h) (length (missing (r ∷ []) initial))
  unfolding inserted reached raised left without waiting_count
  take_count taken ts r h l p =
      let keeps = length (common (r ∷ []) kept) in
      let adds = length (missing (r ∷ []) initial) in
      let b = before r h.rest in
      let a = after r h.rest in
      take_cases (λ (one : Taken). Counted one (unsettled one.next) keeps (unsettled h) adds) initial kept h r
      (λ new. let other : ¬ In r kept = λ k. new (sublist_in given.kept_initial r k) in
      omega (arith, (none_of r kept other).0, (none_of r initial new).1, waiting_append h.front (settled r ∷ [])))
      (λ old k. let there = before_after r h.rest (p.split.pending r (Memᴰ.head refl) k) in
      omega (
        arith,
        (one_of r kept k).0,
        (one_of r initial old).1,
        waiting_append h.front (map waiting b ++ (settled r ∷ [])),
        waiting_append (map waiting b) (settled r ∷ []),
        waiting_all b,
        ap length there ∙ length-append b (r ∷ a),
      ))
      (λ old n k. let there = before_after r h.rest k in
      omega (
        arith,
        (none_of r kept n).0,
        (one_of r initial old).1,
        waiting_append h.front (settled r ∷ []),
        move_up_count (length h.front) b,
        length-append b a,
        ap length there ∙ length-append b (r ∷ a),
      ))
      (λ old n k. omega (arith, (none_of r kept n).0, (one_of r initial old).1))

  take_all_count : (ts taken : List ℕ) (h : Halves) (l : List ℕ) → Halfway initial target kept taken ts h.front h.rest l
      → Counted (take_all initial kept h ts) (waiting_count (take_all initial kept h ts).next.front) (length (common ts kept))
      (unsettled h) (length (missing ts initial))
  unfolding take_all common missing pick
  take_all_count [] taken h l p = omega (arith, waiting_append h.front (map waiting h.rest), waiting_all h.rest)
  take_all_count (r ∷ ts) taken h l p =
      let one = take_one initial kept h r in
      let others = take_all initial kept one.next ts in
      let took = take_one_lem taken ts r h l p in
      omega (
        arith,
        take_count taken ts r h l p,
        take_all_count ts (taken ++ (r ∷ [])) one.next took.0 took.2,
        length-append one.sent others.sent,
        ap length (pick_append (λ x. mem x kept) (r ∷ []) ts) ∙ length-append (common (r ∷ []) kept) (common ts kept),
        ap length (pick_append (λ x. not (mem x initial)) (r ∷ []) ts)
            ∙ length-append (missing (r ∷ []) initial) (missing ts initial),
      )

  -- "The front of the running list starts empty."
  start : Halfway initial target kept [] target [] initial initial
  start =
      record {
        split =
            record {
              taking = refl;
              is = refl;
              distinct = given.old.distinct;
              ordered = (initial_sound initial target given.old.distinct).ordered;
              whole = λ x h. h;
              joined = λ x h. absurd (Memᴰ.not-nil h);
              pending = λ x h k. sublist_in given.kept_initial x k;
              settles = λ s h. absurd (Memᴰ.not-nil h);
              waits = λ w h. absurd (Memᴰ.not-nil h);
              unkept = λ w h. absurd (Memᴰ.not-nil h);
            };
        trails = λ a b q. q;
        fresh = λ x h k. k;
      }

  pub first_stage_lem :
      (m : List ℕ) × Leg size initial target kept initial (first_stage initial kept target).sent m
      × Passing initial target kept (reverse (first_stage initial kept target).next.front) [] m
  unfolding first_stage
  first_stage_lem = take_all_lem target [] (record { front = []; rest = initial }) initial start

  pub first_stage_count :
      (length (first_stage initial kept target).sent + (first_stage initial kept target).in_place)
      + (waiting_count (first_stage initial kept target).next.front + length (common target kept))
      ≡ length initial + length (missing target initial)
  unfolding first_stage waiting_count
  first_stage_count = omega (arith, take_all_count target [] (record { front = []; rest = initial }) initial start)
