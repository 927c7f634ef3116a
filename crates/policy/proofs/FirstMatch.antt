-- A decision: the rule that decides is the first that matches. The idea: a decision cuts the list around that rule, or finds no
-- such rule; and an answer that document 01 allows is determined by the policy. Assumes nothing.
use Prim.Native.Nat.{ℕ, suc, ◌+◌, ◌<◌}
use native.Mathlib.Nat.{not-suc-le-zero, le_of_suc-le-suc}
use native.Mathlib.Omega.{arith}
use mathlib.Core.Path.{◌≡◌, refl, sym, ◌∙◌, ap}
use mathlib.Core.Bool.{true}
use mathlib.Core.Logic.{◌⊎◌, inl, inr, ⊎_elim}
use mathlib.Core.List.Memᴰ
use mathlib.Core.List.{List, [], ◌∷◌, ◌++◌}
use borrow.Author.Tests.{ltb-true, ltb-false}
use lib.Dec.{ltb}
use lib.ListN.{length}
use Rattle.policy.specs.Policy.{Matching, Policy, decide_from, decide}
use Rattle.policy.specs.Properties.{In, StandsAt}
use Rattle.policy.specs.Claims.{FirstMatch, NoMatch, Answers, DecisionIsFirstMatch, PlaceZeroIsDefault}
use Rattle.policy.specs.declared.Action.{Action}
use Rattle.policy.specs.declared.Decision.{Decision}
use Rattle.policy.proofs.Tests.{by_test, never}
use Rattle.policy.proofs.Lists.{in_middle}
use Rattle.policy.proofs.Commands.{rule_at_lem}

-- a rule at one of the first places stands in the front part
earlier_in : (u w left right : List ℕ) (x : ℕ) → u ++ w ≡ left ++ (x ∷ right) → length left < length u → In x u
earlier_in [] w left right x e less = absurd (not-suc-le-zero less)
earlier_in (y ∷ u) w [] right x e less = let same : x ≡ y = cc in Memᴰ.head same
earlier_in (y ∷ u) w (z ∷ left) right x e less = Memᴰ.tail (earlier_in u w left right x (cc) (le_of_suc-le-suc less))

stands_one : {l : List ℕ} {place r x : ℕ} → StandsAt l place r → StandsAt l place x → r ≡ x
stands_one {l} {place} {r} {x} s t =
    sym (rule_at_lem s.left r s.right s.counted s.is) ∙ rule_at_lem t.left x t.right t.counted t.is

same_decision : (d e : Decision) → d.action ≡ e.action → d.place ≡ e.place → d ≡ e
same_decision d e a p =
    let given : Action → ℕ → Decision = λ action place. record { action = action; place = place } in
    ap (λ (x : Action). given x d.place) a ∙ ap (λ (n : ℕ). given e.action n) p

-- Lists under one default.
module _ (m : Matching) (default : Action) where
  -- the list cut around the first rule that matches, and what is decided by it
  record Cut (n : ℕ) (l : List ℕ) : Type 0 where
    front : List ℕ
    rule : ℕ
    back : List ℕ
    is : l ≡ front ++ (rule ∷ back)
    passed : NoMatch m front
    matches : m.hit rule ≡ true
    decides : decide_from m default (suc n) l ≡ record { action = m.action rule; place = suc (length front + n) }

  cut_or_none : (n : ℕ) (l : List ℕ)
      → Cut n l ⊎ (NoMatch m l × (decide_from m default (suc n) l ≡ record { action = default; place = 0 }))
  unfolding decide_from
  cut_or_none n [] = inr ((λ r h. absurd (Memᴰ.not-nil h)), refl)
  cut_or_none n (x ∷ l) =
      by_test (m.hit x)
      (λ t. inl (record {
        front = [];
        rule = x;
        back = l;
        is = refl;
        passed = λ r h. absurd (Memᴰ.not-nil h);
        matches = t;
        decides = rw t (same_decision _ _ refl (omega arith));
      }))
      (λ f. let pass : (rest : List ℕ) → NoMatch m rest → NoMatch m (x ∷ rest) =
      λ rest none r h. ⊎_elim (λ e. ap m.hit e ∙ f) (λ k. none r k) (Memᴰ.cases_cons h) in
      ⊎_elim
      (λ c. inl (record {
        front = x ∷ c.front;
        rule = c.rule;
        back = c.back;
        is = ap (λ (rest : List ℕ). x ∷ rest) c.is;
        passed = pass c.front c.passed;
        matches = c.matches;
        decides = rw f (c.decides ∙ same_decision _ _ refl (omega arith));
      }))
      (λ none. inr (pass l none.0, rw f none.1))
      (cut_or_none (suc n) l))

module _ (m : Matching) where
  -- the decision is an answer, and any two answers are the same
  decide_answers : (p : Policy) → Answers m p (decide m p)
  unfolding decide
  decide_answers p =
      ⊎_elim
      (λ c. rw c.decides (inl (
        c.rule,
        record {
          stands = record { left = c.front; right = c.back; is = c.is; counted = omega arith };
          matches = c.matches;
          first = λ before r less s.
              c.passed r (earlier_in c.front (c.rule ∷ c.back) s.left s.right r (sym c.is ∙ s.is)
              (omega (arith, less, s.counted)));
        },
        refl,
      )))
      (λ none. rw none.1 (inr (none.0, refl, refl)))
      (cut_or_none m p.default 0 p.list)

  match_in : (l : List ℕ) (place rule : ℕ) → FirstMatch m l place rule → In rule l
  match_in l place rule f = rw f.stands.is (in_middle rule f.stands.left f.stands.right)

  answers_same : (p : Policy) (d e : Decision) → Answers m p d → Answers m p e → d ≡ e
  answers_same p d e (inl (r, f, a)) (inl (x, g, b)) =
      by_test (ltb d.place e.place)
      (λ t. never f.matches (g.first d.place r (ltb-true d.place e.place t) f.stands))
      (λ n. by_test (ltb e.place d.place)
      (λ t. never g.matches (f.first e.place x (ltb-true e.place d.place t) g.stands))
      (λ k. let places : d.place ≡ e.place =
      omega (arith, ltb-false d.place e.place n, ltb-false e.place d.place k) in
      same_decision d e (a ∙ ap m.action (stands_one f.stands (rw (← places) at g.stands)) ∙ sym b) places))
  answers_same p d e (inl (r, f, a)) (inr (none, z, b)) = never f.matches (none r (match_in p.list d.place r f))
  answers_same p d e (inr (none, z, a)) (inl (r, f, b)) = never f.matches (none r (match_in p.list e.place r f))
  answers_same p d e (inr (none, y, a)) (inr (other, z, b)) = same_decision d e (a ∙ sym b) (y ∙ sym z)

pub decision_is_first_match : DecisionIsFirstMatch
decision_is_first_match m p d = (
  λ e. rw e at (decide_answers m p),
  answers_same m p (decide m p) d (decide_answers m p),
)

pub place_zero_is_default : PlaceZeroIsDefault
place_zero_is_default m p = (
  λ e. ⊎_elim
      (λ f. absurd (omega (arith, e, f.1.stands.counted)))
      (λ none. none.0)
      (decide_answers m p),
  λ none. ⊎_elim
      (λ f. never f.1.matches (none f.0 (match_in m p.list (decide m p).place f.0 f.1)))
      (λ other. other.1)
      (decide_answers m p),
)
