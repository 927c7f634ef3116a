-- Demand 3 from what a script's steps say, under either default: each flow changes once. No command leads from a list that agrees with the
-- target on a flow to one that agrees with the initial policy, unless the two decide alike: the rules by which they decide would have
-- changed their order, or the target's would have gone, or the initial policy's come. Assumes nothing.
use Prim.Native.Nat.{ℕ, suc, zero-le, suc-le-suc}
use native.Mathlib.Nat.{not-suc-le-zero}
use native.Mathlib.Omega.{arith}
use mathlib.Core.Path.{◌≡◌, refl, sym, ◌∙◌, ap}
use mathlib.Core.Bool.{false}
use mathlib.Core.Logic.{◌⊎◌, inl, inr, ⊎_elim, ⊎_map, ◌≢◌}
use mathlib.Core.List.{List, [], ◌∷◌}
use borrow.Author.Tests.{eqb-true, eqb-false}
use lib.Dec.{eqb}
use Rattle.policy.specs.Policy.{Matching, Policy, under, decided, same_action}
use Rattle.policy.specs.Replay.{lists, policies}
use Rattle.policy.specs.Properties.{Makes, Runs}
use Rattle.policy.specs.Claims.{change_point, ChangesOnce}
use Rattle.policy.specs.declared.Action.{Action}
use Rattle.policy.specs.declared.Command.{Command}
use Rattle.policy.proofs.Tests.{by_test, never, not_second}
use Rattle.policy.proofs.Way.{Rivals, Forward, Sound, Steps, steps_first}
use Rattle.policy.proofs.Commands.{makes_passes}
use Rattle.policy.proofs.Replay.{after_none, after_cases}
use Rattle.policy.proofs.Decisions.{FirstHit, Agrees, first_hit_decides, no_hit_decides, first_hit_precedes}
use Rattle.policy.proofs.Decisions.{same_action_eq, eq_same_action, agrees_decides, agrees_with_one}

-- what a list decides under a default
abbrev acts : Matching → Action → List ℕ → Action
acts m default l = decided m (under default l)

module _ (m : Matching) (default : Action) (initial target : List ℕ) where
  -- the rules by which the two policies decide, where they differ
  rivals : (a b : ℕ) → FirstHit m initial a → FirstHit m target b → a ≢ b → Rivals initial target a b
  rivals a b h k n =
      record {
        old = h.there;
        new = k.there;
        initially = first_hit_precedes m a b initial h k.hits n;
        finally = first_hit_precedes m b a target k h.hits (λ e. n (sym e));
      }

  alike : (policy l : List ℕ) → Agrees m policy l → acts m default l ≡ acts m default policy
  alike policy l = agrees_decides m (under default policy) (under default l) refl

  -- no command leads back from the target's rule to the initial policy's
  no_way_back : (l n : List ℕ)
      → Forward initial target l n → Agrees m target l → Agrees m initial n → acts m default initial ≡ acts m default target
  no_way_back l n f (inl b) (inl a) =
      by_test (eqb a.0 b.0)
      (λ t. first_hit_decides m default initial a.0 a.1
      ∙ ap m.action (eqb-true a.0 b.0 t)
      ∙ sym (first_hit_decides m default target b.0 b.1))
      (λ u. let apart : a.0 ≢ b.0 = eqb-false a.0 b.0 u in
      let ahead = first_hit_precedes m b.0 a.0 l b.2 a.1.hits (λ e. apart (sym e)) in
      let still = f.led a.0 b.0 (rivals a.0 b.0 a.1 b.1 apart) (b.2.there, ahead) in
      never b.1.hits (a.2.first b.0 (still.1 a.2.there)))
  no_way_back l n f (inl b) (inr none) =
      let still = f.stays b.0 b.1.there (λ h. never b.1.hits (none.0 b.0 h)) b.2.there in
      never b.1.hits (none.1 b.0 still)
  no_way_back l n f (inr none) (inl a) =
      let already = f.gone a.0 a.1.there (λ h. never a.1.hits (none.0 a.0 h)) a.2.there in
      never a.1.hits (none.1 a.0 already)
  no_way_back l n f (inr none) (inr both) = no_hit_decides m default initial both.0 ∙ sym (no_hit_decides m default target none.0)

  sound_agrees : (l : List ℕ) → Sound initial target l → Agrees m initial l ⊎ Agrees m target l
  sound_agrees l s = agrees_with_one m initial target l s.distinct s.ordered s.full

  -- a list after one that decides as the target decides so too
  forward_keeps : (l n : List ℕ) → Sound initial target l → Sound initial target n → Forward initial target l n
      → acts m default l ≡ acts m default target → acts m default n ≡ acts m default target
  forward_keeps l n sl sn f e =
      ⊎_elim
      (λ back. alike initial n back
      ∙ ⊎_elim (λ old. sym (alike initial l old) ∙ e) (λ new. no_way_back l n f new back) (sound_agrees l sl))
      (λ on. alike target n on)
      (sound_agrees n sn)

  -- a list that does not decide as the target decides as the initial policy
  not_yet : (l : List ℕ) → Sound initial target l → acts m default l ≢ acts m default target → acts m default l ≡ acts m default initial
  not_yet l s u =
      alike initial l (not_second (λ new. u (alike target l new)) (sound_agrees l s))

-- The policies of a script by its first command.
module _ (size : ℕ) (default : Action) where
  runs_none : (l : List ℕ) (p : Policy) (k : ℕ) → Runs size (under default l) [] k p → p ≡ under default l
  runs_none l p k h = rw (after_none size l p.list k h.edited, ← h.default)

  runs_cases : (l n : List ℕ) (p : Policy) (c : Command) (script : List Command) (k : ℕ)
      → Makes size l c n → Runs size (under default l) (c ∷ script) k p
      → ((k ≡ 0) × (p ≡ under default l)) ⊎ ((j : ℕ) × (k ≡ suc j) × Runs size (under default n) script j p)
  runs_cases l n p c script k made h =
      ⊎_map (λ z. (z.0, rw (z.1, ← h.default)))
      (λ j. (j.0, j.1, record { edited = j.2; default = h.default }))
      (after_cases size l n p.list c script k made h.edited)

module _ (m : Matching) (default : Action) (size : ℕ) (initial target : List ℕ) where
  -- the first policy of a script that decides as the target
  abbrev point_of : List ℕ → List Command → ℕ
  point_of l script = change_point m (under default target) (policies size (under default l) script)

  abbrev Changes : List ℕ → List Command → ℕ → Type 0
  Changes l script point = ChangesOnce m size (under default l) (under default target) script point

  -- The point of a script, by what its first list decides.
  point_now : (l : List ℕ) (script : List Command)
      → acts m default l ≡ acts m default target → point_of l script ≡ 0
  unfolding change_point policies lists
  point_now l [] e = rw (eq_same_action (acts m default l) (acts m default target) e)
  point_now l (c ∷ script) e = rw (eq_same_action (acts m default l) (acts m default target) e)

  point_later : (l n : List ℕ) (c : Command) (script : List Command)
      → Makes size l c n → same_action (acts m default l) (acts m default target) ≡ false
      → point_of l (c ∷ script) ≡ suc (point_of n script)
  unfolding change_point policies lists
  point_later l n c script made u = rw (u, makes_passes size l c n made)

  -- A command in front of a script that changes the flow once.
  changed_already : (l n : List ℕ) (c : Command) (script : List Command) (point : ℕ) → Makes size l c n
      → acts m default l ≡ acts m default target → acts m default n ≡ acts m default target
      → Changes n script point → Changes l (c ∷ script) 0
  changed_already l n c script point made e f once =
      record {
        within = zero-le;
        before = λ k x h. absurd (not-suc-le-zero h);
        from = λ k x h a. ⊎_elim (λ z. ap (decided m) z.1 ∙ e)
            (λ j. once.from j.0 x (rw (once.agreed f) zero-le) j.2) (runs_cases size default l n x c script k made a);
        agreed = λ e. refl;
      }

  changed_later : (l n : List ℕ) (c : Command) (script : List Command) (point : ℕ) → Makes size l c n
      → acts m default l ≢ acts m default target → (acts m default n ≢ acts m default target → acts m default n ≡ acts m default l)
      → Changes n script point → Changes l (c ∷ script) (suc point)
  changed_later l n c script point made differ like once =
      record {
        within = suc-le-suc once.within;
        before = λ k x h a. ⊎_elim (λ z. ap (decided m) z.1)
            (λ j. once.before j.0 x (omega (arith, j.1)) j.2 ∙ like (λ e. omega (arith, j.1, once.agreed e)))
            (runs_cases size default l n x c script k made a);
        from = λ k x h a. ⊎_elim (λ z. absurd (omega (arith, z.0)))
            (λ j. once.from j.0 x (omega (arith, j.1)) j.2) (runs_cases size default l n x c script k made a);
        agreed = λ e. absurd (differ e);
      }

  -- from every list on the way the flow changes once
  pub steps_change_once : (l : List ℕ) (script : List Command)
      → Steps (Sound initial target) (Forward initial target) size l script target
      → Changes l script (point_of l script)
  steps_change_once l [] s =
      let e : acts m default l ≡ acts m default target = ap (acts m default) s.1 in
      rw (point_now l [] e)
      record {
        within = zero-le;
        before = λ k x h. absurd (not-suc-le-zero h);
        from = λ k x h a. ap (decided m) (runs_none size default l x k a) ∙ e;
        agreed = λ e. refl;
      }
  steps_change_once l (c ∷ script) (sound, (n, made, forward, rest)) =
      let next = steps_first (Sound initial target) (Forward initial target) size n target script rest in
      let once = steps_change_once n script rest in
      by_test (same_action (acts m default l) (acts m default target))
      (λ t. let e = same_action_eq (acts m default l) (acts m default target) t in
      rw (point_now l (c ∷ script) e)
      (changed_already l n c script _ made e (forward_keeps m default initial target l n sound next forward e) once))
      (λ u. let differ : acts m default l ≢ acts m default target = λ e. never (eq_same_action _ _ e) u in
      rw (point_later l n c script made u)
      (changed_later l n c script _ made differ
      (λ later. not_yet m default initial target n next later ∙ sym (not_yet m default initial target l sound differ)) once))
