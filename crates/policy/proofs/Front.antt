-- The front of the running list in the first stage, and how rules join it: the running list is the front, then the rest. A rule put
-- right behind the front, where the target's rules taken so far stand, has the target's support, and every other rule keeps the
-- support that it had. Assumes nothing.
use Prim.Native.Nat.{ℕ}
use native.Mathlib.Omega.{arith}
use mathlib.Core.Path.{◌≡◌, refl, sym, ◌∙◌, ap}
use mathlib.Core.Logic.{inl, inr, ⊎_elim, ⊎_map, ◌≢◌}
use mathlib.Core.List.{List, [], ◌∷◌, ◌++◌, map, map-append, append_assoc}
use mathlib.Core.List.Memᴰ
use mathlib.Core.List.{Memᴰ}
use mathlib.Core.List.{Sublistᴰ}
use borrow.Author.Tests.{eqb-true, eqb-false}
use lib.Dec.{eqb}
use lib.Seq.{append_snoc}
use Rattle.policy.specs.Lists.{without}
use Rattle.policy.specs.InsertDeleteMove.{Standing, settled, waiting, rule_of}
use Rattle.policy.specs.Properties.{In, Distinct, Within, Precedes, SupportedBy, Ordered}
use Rattle.policy.specs.Claims.{Admitted}
use Rattle.policy.proofs.Tests.{by_test, not_first, not_second}
use Rattle.policy.proofs.Lists.{in_middle}
use Rattle.policy.proofs.Order.{distinct_apart, not_later, precedes_in_left}
use Rattle.policy.proofs.Order.{precedes_in_right, precedes_right, precedes_across, precedes_cases, precedes_asym}
use Rattle.policy.proofs.Order.{precedes_to, precedes_from, sublist_precedes}
use Rattle.policy.proofs.Standing.{Follows, precedes_behind, without_sublist, raised_in}
use Rattle.policy.proofs.Standing.{raised_back, raised_distinct, precedes_raised}
use Rattle.policy.proofs.Way.{Forward, Sound}
use Rattle.policy.proofs.Stages.{rules_join, Settles, Waits}
use Rattle.policy.proofs.Stages.{Unkept}

-- two policies that the reader accepts, and rules to keep that occur in order in both
pub record Given (size : ℕ) (initial target kept : List ℕ) : Type 0 where
  pub old : Admitted size initial
  pub new : Admitted size target
  pub kept_initial : Sublistᴰ kept initial
  pub kept_target : Sublistᴰ kept target

pub settled_waiting : (s w : ℕ) → settled s ≡ waiting w → ⊥
settled_waiting s w e = let z : ◌≡◌ {A = ℕ} 0 1 = cc in omega arith

-- the running list in the first stage, split into the front and the rest: of the target, `taken` has been taken and `ts` has not
pub record Split (initial target kept taken ts : List ℕ) (front : List Standing) (rest l : List ℕ) : Type 0 where
  pub taking : target ≡ taken ++ ts
  pub is : l ≡ map rule_of front ++ rest
  pub distinct : Distinct l
  pub ordered : Ordered initial target l
  pub whole : Within initial l
  pub joined : Within taken (map rule_of front)
  pub pending : (x : ℕ) → In x ts → In x kept → In x rest
  pub settles : Settles taken target front l
  pub waits : Waits target front l
  pub unkept : Unkept kept front

-- the same between two rules of the target: the rest follows the initial policy, and a rule still to be inserted is not there
pub record Halfway (initial target kept taken ts : List ℕ) (front : List Standing) (rest l : List ℕ) : Type 0 where
  pub split : Split initial target kept taken ts front rest l
  pub trails : Follows rest initial
  pub fresh : (x : ℕ) → In x ts → In x l → In x initial

pub split_sound : {initial target kept taken ts : List ℕ} {front : List Standing} {rest l : List ℕ}
    → Split initial target kept taken ts front rest l → Sound initial target l
split_sound p = record { distinct = p.distinct; ordered = p.ordered; full = inl p.whole }

module _ (size : ℕ) (initial target kept : List ℕ) (given : Given size initial target kept) where
  -- a rule of the target that is not taken yet comes after the one that is next
  pub later : (taken ts : List ℕ) (r x : ℕ) → target ≡ taken ++ (r ∷ ts) → In x target → ¬ In x taken → x ≢ r → Precedes r x target
  later taken ts r x taking h n other =
      rw taking (precedes_right r x taken (r ∷ ts)
      (inl (refl, not_first other (Memᴰ.cases_cons (not_first n (Memᴰ.append_cases taken (rw taking at h)))))))

  -- the first rules of the rest join the front, waiting
  pub join_waiting : (taken ts : List ℕ) (front : List Standing) (b a l : List ℕ)
      → Split initial target kept taken ts front (b ++ a) l
      → ((x : ℕ) → In x ts → In x kept → In x a)
      → ((w : ℕ) → In w b → In w target → (s : ℕ) × Precedes w s l × Precedes s w target)
      → ((w : ℕ) → In w b → ¬ In w kept)
      → Split initial target kept taken ts (front ++ map waiting b) a l
  join_waiting taken ts front b a l p pending reasons unkept =
      record {
        taking = p.taking;
        is = p.is ∙ sym (append_assoc (map rule_of front) b a) ∙ ap (λ (m : List ℕ). m ++ a) (sym (rules_join front b));
        distinct = p.distinct;
        ordered = p.ordered;
        whole = p.whole;
        joined = λ x h. rw (rules_join front b) (Memᴰ.append_left b (p.joined x h));
        pending = pending;
        settles = λ s h.
            p.settles s (not_second
            (λ k. let from = Memᴰ.of_map waiting b k in settled_waiting s from.0 (sym from.2))
            (Memᴰ.append_cases front h));
        waits = λ w h.
            ⊎_elim (λ k. p.waits w k)
            (λ k. let from = Memᴰ.of_map waiting b k in
            let e : w ≡ from.0 = cc from.2 in
            reasons w (Memᴰ.cast e from.1))
            (Memᴰ.append_cases front h);
        unkept = λ w h.
            ⊎_elim (λ k. p.unkept w k)
            (λ k. let from = Memᴰ.of_map waiting b k in
            let e : w ≡ from.0 = cc from.2 in
            unkept w (Memᴰ.cast e from.1))
            (Memᴰ.append_cases front h);
      }

  -- the rule of the target that is next, once it stands first in the rest, joins the front, settled
  pub join_settled : (taken ts : List ℕ) (r : ℕ) (front : List Standing) (rest l : List ℕ)
      → Split initial target kept taken (r ∷ ts) front (r ∷ rest) l
      → Split initial target kept (taken ++ (r ∷ [])) ts (front ++ (settled r ∷ [])) rest l
  unfolding rule_of
  join_settled taken ts r front rest l p =
      let u = map rule_of front in
      let at : l ≡ u ++ (r ∷ rest) = p.is in
      let was : Distinct (u ++ (r ∷ rest)) = rw at at p.distinct in
      let rules : map rule_of (front ++ (settled r ∷ [])) ≡ u ++ (r ∷ []) = map-append rule_of front (settled r ∷ []) in
      let apart : Distinct (taken ++ (r ∷ ts)) = rw p.taking at given.new.distinct in
      let earlier : (w : ℕ) → Memᴰ (waiting w) (front ++ (settled r ∷ [])) → Memᴰ (waiting w) front =
      λ w h. not_second (λ k. settled_waiting r w (sym (Memᴰ.eq_of_singleton k))) (Memᴰ.append_cases front h) in
      record {
        taking = p.taking ∙ sym (append_snoc taken r ts);
        is = at ∙ sym (append_snoc u r rest) ∙ ap (λ (m : List ℕ). m ++ rest) (sym rules);
        distinct = p.distinct;
        ordered = p.ordered;
        whole = p.whole;
        joined = λ x h.
            rw rules (⊎_elim (λ k. Memᴰ.append_left (r ∷ []) (p.joined x k)) (λ k. Memᴰ.append_right u k)
            (Memᴰ.append_cases taken h));
        pending = λ x h k.
            not_first (λ e. not_later r taken ts apart (Memᴰ.cast (sym e) h))
            (Memᴰ.cases_cons (p.pending x (Memᴰ.tail h) k));
        settles = λ s h.
            ⊎_elim (λ k. (Memᴰ.append_left (r ∷ []) (p.settles s k).0, (p.settles s k).1))
            (λ k. let e : s ≡ r = cc (Memᴰ.eq_of_singleton k) in (
              Memᴰ.append_right taken (Memᴰ.head e),
              λ x q g.
                  let behind = precedes_from r x u rest was (rw (e, at) at q) in
                  rw e (later taken ts r x p.taking g
                  (λ i. distinct_apart u (r ∷ rest) was x (p.joined x i) (Memᴰ.tail behind))
                  (λ i. not_later r u rest was (Memᴰ.cast (sym i) behind))),
            ))
            (Memᴰ.append_cases front h);
        waits = λ w h. p.waits w (earlier w h);
        unkept = λ w h. p.unkept w (earlier w h);
      }

  -- the rule of the target that is next is put first in the rest, from a later place there or from outside
  raise : (taken ts : List ℕ) (r : ℕ) (front : List Standing) (rest l : List ℕ)
      → ¬ In r (map rule_of front)
      → Split initial target kept taken (r ∷ ts) front rest l
      → Split initial target kept taken (r ∷ ts) front (r ∷ without r rest) (map rule_of front ++ (r ∷ without r rest))
  unfolding rule_of
  raise taken ts r front rest l n p =
      let u = map rule_of front in
      let at : l ≡ u ++ rest = p.is in
      let v = without r rest in
      let m = u ++ (r ∷ v) in
      let was : Distinct (u ++ rest) = rw at at p.distinct in
      let now : Distinct m = raised_distinct r u rest n was in
      let apart : Distinct (taken ++ (r ∷ ts)) = rw p.taking at given.new.distinct in
      let stays : (policy : List ℕ) (x : ℕ) → x ≢ r → SupportedBy policy l x → SupportedBy policy m x =
      λ policy x other s. record { named = s.named; led = λ y q. precedes_raised y x r u rest other (rw at at (s.led y q)) } in
      let own : SupportedBy target m r =
      record {
        named = rw p.taking (in_middle r taken ts);
        led = λ y q.
            precedes_across y r u (r ∷ v) (p.joined y (precedes_to r y taken ts apart (rw p.taking at q)))
            (Memᴰ.head refl);
      } in
      record {
        taking = p.taking;
        is = refl;
        distinct = now;
        ordered = λ x h.
            by_test (eqb x r)
            (λ t. inr (rw (eqb-true x r t) own))
            (λ f. let other = eqb-false x r f in
            ⊎_map (stays initial x other) (stays target x other)
            (p.ordered x (rw at (raised_back r x u rest other h))));
        whole = λ x h. raised_in r x u rest (rw at at (p.whole x h));
        joined = p.joined;
        pending = λ x h k. raised_in r x [] rest (p.pending x h k);
        settles = λ s h. (
          (p.settles s h).0,
          λ x q g.
              by_test (eqb x r)
              (λ t. rw (eqb-true x r t, p.taking) (precedes_across s r taken (r ∷ ts) (p.settles s h).0 (Memᴰ.head refl)))
              (λ f. (p.settles s h).1 x
              (rw at (precedes_behind s x u (r ∷ v) rest now (Memᴰ.map rule_of h)
              (raised_back r x [] rest (eqb-false x r f)) q))
              g),
        );
        waits = λ w h k.
            let reason = p.waits w h k in (
              reason.0,
              precedes_behind w reason.0 u rest (r ∷ v) was (Memᴰ.map rule_of h) (raised_in r reason.0 [] rest)
                  (rw at at reason.1),
              reason.2,
            );
        unkept = p.unkept;
      }

  -- a rule moved up over rules of the rest passes none that comes after it in the initial policy
  pub raise_forward : (r : ℕ) (u rest : List ℕ) → ¬ In r u → Within initial (u ++ rest) → Follows rest initial
      → Forward initial target (u ++ rest) (u ++ (r ∷ without r rest))
  raise_forward r u rest n whole trails =
      record {
        stays = λ x h new k. raised_in r x u rest k;
        gone = λ x h old k. whole x h;
        led = λ a b rivals lead. (
          raised_in r b u rest lead.0,
          λ h. let was = lead.1 (whole a rivals.old) in
              by_test (eqb a r)
              (λ t. let e = eqb-true a r t in
              rw e (
              ⊎_elim (λ q. precedes_across b r u (r ∷ without r rest) q.0 (Memᴰ.head refl))
              (λ q. let early = trails b r q in
              absurd (precedes_asym b r initial given.old.distinct early
              (rw e at (rivals.initially (precedes_in_left b r initial early)))))
              (not_first (λ q. n (precedes_in_right b r u q)) (precedes_cases b r u rest (rw e at was)))))
              (λ f. precedes_raised b a r u rest (eqb-false a r f) was),
        );
      }

  -- so the next rule of the target joins the front, settled, wherever it comes from
  pub halfway_raised : (taken ts : List ℕ) (r : ℕ) (front : List Standing) (rest l : List ℕ)
      → ¬ In r (map rule_of front)
      → Halfway initial target kept taken (r ∷ ts) front rest l
      → Halfway initial target kept (taken ++ (r ∷ [])) ts (front ++ (settled r ∷ [])) (without r rest)
      (map rule_of front ++ (r ∷ without r rest))
  halfway_raised taken ts r front rest l n p =
      let u = map rule_of front in
      let apart : Distinct (taken ++ (r ∷ ts)) = rw p.split.taking at given.new.distinct in
      record {
        split =
            join_settled taken ts r front (without r rest) (u ++ (r ∷ without r rest))
            (raise taken ts r front rest l n p.split);
        trails = λ a b q. p.trails a b (sublist_precedes a b (without_sublist r rest) q);
        fresh = λ x h k.
            p.fresh x (Memᴰ.tail h)
            (rw p.split.is (raised_back r x u rest (λ e. not_later r taken ts apart (Memᴰ.cast (sym e) h)) k));
      }
