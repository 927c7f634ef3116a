-- What a policy on the way decides: as one of the two policies does. The first rule of an ordered list that hits is the first in
-- the policy that supports it: what stands before it there stands before it in the list. And a full list without a hit contains a
-- policy's list without one, and all are under one default. Assumes nothing.
use Prim.Native.Nat.{ℕ, suc}
use native.Mathlib.Omega.{arith}
use mathlib.Core.Path.{◌≡◌, refl, sym, ◌∙◌, ap}
use mathlib.Core.Bool.{true, false}
use mathlib.Core.Logic.{◌⊎◌, inl, inr, ⊎_elim, ⊎_map, ◌≢◌}
use mathlib.Core.List.Memᴰ
use mathlib.Core.List.{List, [], ◌∷◌}
use Rattle.policy.specs.Policy.{Matching, Policy, under, decide_from, decide, decided, same_action}
use Rattle.policy.specs.Properties.{In, Distinct, Within, Precedes, SupportedBy, Ordered, Full}
use Rattle.policy.specs.Claims.{NoMatch, OrderedAndFullDecidesAsOne, OrderedKeepsTheDefault}
use Rattle.policy.specs.declared.Action.{Action}
use Rattle.policy.specs.declared.Action.TheVariants.{Deny, Permit}
use Rattle.policy.proofs.Tests.{by_test, never, not_first, not_second}
use Rattle.policy.proofs.Order.{precedes_in_right, precedes_total}

-- Equal actions.
pub same_action_eq : (a b : Action) → same_action a b ≡ true → a ≡ b
unfolding same_action
same_action_eq Deny Deny e = refl
same_action_eq Deny Permit e = never e refl
same_action_eq Permit Deny e = never e refl
same_action_eq Permit Permit e = refl

pub eq_same_action : (a b : Action) → a ≡ b → same_action a b ≡ true
unfolding same_action
eq_same_action Deny Deny e = refl
eq_same_action Deny Permit e = cc
eq_same_action Permit Deny e = cc
eq_same_action Permit Permit e = refl

pub permit_not_deny : Permit ≢ Deny
permit_not_deny e = let clash : ◌≡◌ {A = ℕ} 0 1 = cc in omega arith

-- rule r is in the list and hits, and no rule before it does
pub record FirstHit (m : Matching) (l : List ℕ) (r : ℕ) : Type 0 where
  pub there : In r l
  pub hits : m.hit r ≡ true
  pub first : (x : ℕ) → Precedes x r l → m.hit x ≡ false

-- the list decides the flow by the rule that decides it in the policy, or neither has such a rule
abbrev pub Agrees : Matching → List ℕ → List ℕ → Type 0
Agrees m policy l = ((r : ℕ) × FirstHit m policy r × FirstHit m l r) ⊎ (NoMatch m policy × NoMatch m l)

module _ (m : Matching) where
  first_hit_tail : (x r : ℕ) (l : List ℕ) → m.hit x ≡ false → FirstHit m (x ∷ l) r → FirstHit m l r
  first_hit_tail x r l f h =
      record {
        there = not_first (λ e. never h.hits (ap m.hit e ∙ f)) (Memᴰ.cases_cons h.there);
        hits = h.hits;
        first = λ y p. h.first y (inr p);
      }

  first_hit_or_none : (l : List ℕ) → Distinct l → ((r : ℕ) × FirstHit m l r) ⊎ NoMatch m l
  first_hit_or_none [] d = inr (λ x h. absurd (Memᴰ.not-nil h))
  first_hit_or_none (x ∷ l) d =
      by_test (m.hit x)
      (λ t. inl (
        x,
        record {
          there = Memᴰ.head refl;
          hits = t;
          first = λ y p. absurd (d.0 (⊎_elim (λ h. h.1) (λ q. precedes_in_right y x l q) p));
        },
      ))
      (λ f. ⊎_elim
      (λ h. inl (
        h.0,
        record {
          there = Memᴰ.tail h.1.there;
          hits = h.1.hits;
          first = λ y p. ⊎_elim (λ k. ap m.hit (sym k.0) ∙ f) (λ q. h.1.first y q) p;
        },
      ))
      (λ n. inr (λ y k. ⊎_elim (λ e. ap m.hit e ∙ f) (λ t. n y t) (Memᴰ.cases_cons k)))
      (first_hit_or_none l d.1))

  -- the first hit stands before every other rule that hits
  pub first_hit_precedes : (a b : ℕ) (l : List ℕ) → FirstHit m l a → m.hit b ≡ true → a ≢ b → In b l → Precedes a b l
  first_hit_precedes a b l h t n k =
      not_second (λ p. never t (h.first b p)) (precedes_total a b l h.there k n)

  supported_agrees : (policy l : List ℕ) (r : ℕ) → FirstHit m l r → SupportedBy policy l r → Agrees m policy l
  supported_agrees policy l r h s =
      inl (r, record { there = s.named; hits = h.hits; first = λ x p. h.first x (s.led x p) }, h)

  within_agrees : (policy l : List ℕ) → NoMatch m l → Within policy l → Agrees m policy l
  within_agrees policy l n w = inr ((λ x h. n x (w x h)), n)

  ordered_agrees : (initial target l : List ℕ)
      → Distinct l → Ordered initial target l → (Agrees m initial l ⊎ Agrees m target l) ⊎ NoMatch m l
  ordered_agrees initial target l d o =
      ⊎_map
      (λ h. ⊎_map (supported_agrees initial l h.0 h.1) (supported_agrees target l h.0 h.1) (o h.0 h.1.there))
      (λ n. n)
      (first_hit_or_none l d)

  pub agrees_with_one : (initial target l : List ℕ)
      → Distinct l → Ordered initial target l → Full initial target l → Agrees m initial l ⊎ Agrees m target l
  agrees_with_one initial target l d o full =
      ⊎_elim (λ f. f)
      (λ n. ⊎_map (within_agrees initial l n) (within_agrees target l n) full)
      (ordered_agrees initial target l d o)

-- Lists under one default.
module _ (m : Matching) (default : Action) where
  -- Lists by their head. The place from which a list is counted has no part in the action.
  place_free : (p q : ℕ) (l : List ℕ) → (decide_from m default p l).action ≡ (decide_from m default q l).action
  unfolding decide_from
  place_free p q [] = refl
  place_free p q (x ∷ l) = by_test (m.hit x) (λ t. rw t) (λ f. rw f (place_free (suc p) (suc q) l))

  head_decides : (x : ℕ) (l : List ℕ) → m.hit x ≡ true → decided m (under default (x ∷ l)) ≡ m.action x
  unfolding decided decide decide_from
  head_decides x l t = rw (t, decided)

  head_passes : (x : ℕ) (l : List ℕ) → m.hit x ≡ false → decided m (under default (x ∷ l)) ≡ decided m (under default l)
  unfolding decided decide decide_from
  head_passes x l f = rw (f, decided) (place_free 2 1 l)

  -- The first hit of a list.
  pub first_hit_decides : (l : List ℕ) (r : ℕ) → FirstHit m l r → decided m (under default l) ≡ m.action r
  first_hit_decides [] r h = absurd (Memᴰ.not-nil h.there)
  first_hit_decides (x ∷ l) r h =
      by_test (m.hit x)
      (λ t. head_decides x l t
      ∙ ⊎_elim (λ e. ap m.action (sym e)) (λ k. never t (h.first x (inl (refl, k)))) (Memᴰ.cases_cons h.there))
      (λ f. head_passes x l f ∙ first_hit_decides l r (first_hit_tail m x r l f h))

  pub no_hit_decides : (l : List ℕ) → NoMatch m l → decided m (under default l) ≡ default
  unfolding decided decide decide_from
  no_hit_decides [] h = refl
  no_hit_decides (x ∷ l) h = head_passes x l (h x (Memᴰ.head refl)) ∙ no_hit_decides l (λ y k. h y (Memᴰ.tail k))

module _ (m : Matching) where
  -- A policy whose list agrees with another's, under the same default.
  pub agrees_decides : (policy p : Policy) → p.default ≡ policy.default → Agrees m policy.list p.list → decided m p ≡ decided m policy
  agrees_decides policy p same =
      ⊎_elim
      (λ h. first_hit_decides m p.default p.list h.0 h.2
      ∙ sym (first_hit_decides m policy.default policy.list h.0 h.1))
      (λ n. no_hit_decides m p.default p.list n.1
      ∙ same
      ∙ sym (no_hit_decides m policy.default policy.list n.0))

pub ordered_and_full_decides_as_one : OrderedAndFullDecidesAsOne
ordered_and_full_decides_as_one m initial target p (one, own) d o full =
    ⊎_map (agrees_decides m initial p own) (agrees_decides m target p (own ∙ one))
    (agrees_with_one m initial.list target.list p.list d o full)

pub ordered_keeps_the_default : OrderedKeepsTheDefault
ordered_keeps_the_default m initial target p (one, own) d o i t =
    ⊎_elim
    (⊎_elim (λ f. agrees_decides m initial p own f ∙ i) (λ f. agrees_decides m target p (own ∙ one) f ∙ t))
    (no_hit_decides m p.default p.list)
    (ordered_agrees m initial.list target.list p.list d o)
