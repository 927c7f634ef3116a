-- A rule listed twice goes in at its first place, and no decision changes. The idea: the rules behind others decide as the others' default, so where
-- one of the others matches, nothing behind them counts, least of all that rule again. Assumes nothing.
use Prim.Native.Nat.{ℕ, suc, ◌+◌}
use native.Mathlib.Nat.{add-zero, zero-add}
use native.Mathlib.Omega.{arith}
use mathlib.Core.Path.{◌≡◌, refl, sym, ◌∙◌, ap}
use mathlib.Core.Bool.{true, cond}
use mathlib.Core.Logic.{◌⊎◌, inl, inr, ⊎_elim}
use mathlib.Core.List.Memᴰ
use mathlib.Core.List.{
  List,
  [],
  ◌∷◌,
  ◌++◌,
  append_assoc,
  append-nil,
  Memᴰ,
}
use lib.ListN.{length}
use Rattle.policy.specs.Policy.{Matching, under, decide_from, decide, decided, matching}
use Rattle.policy.specs.Rule.{Rule, matches, hits, says}
use Rattle.policy.specs.declared.Action.{Action}
use Rattle.policy.specs.declared.Flow.{Flow}
use Rattle.policy.proofs.Tests.{by_test, never}
use Rattle.deployment.specs.Values.{known}
use Rattle.deployment.specs.Properties.{Unlike}
use Rattle.deployment.proofs.Values.{known_in, in_known}
use Rattle.deployment.proofs.Fields.{unlike_snoc}
use Rattle.iptables.specs.Listing.{kept_with, first_only, numbers_from}
use Rattle.iptables.specs.Properties.{by_first}

-- One rule more at the end.
pub one_more_rule : (kept rules : List Rule) (r : Rule) → first_only kept (rules ++ (r ∷ [])) ≡ kept_with (first_only kept rules) r
unfolding first_only
one_more_rule kept [] r = refl
one_more_rule kept (x ∷ rules) r = one_more_rule (kept_with kept x) rules r

-- A rule that is there already, and one that is not.
with_rule_cases {ℓ} : (P : List Rule → Type ℓ) (kept : List Rule) (r : Rule) → (Memᴰ r kept → P kept)
    → (¬ Memᴰ r kept → P (kept ++ (r ∷ []))) → P (kept_with kept r)
unfolding kept_with
with_rule_cases P kept r there new =
    by_test (known r kept) (λ t. rw t (there (known_in r kept t))) (λ f. rw f (new (λ h. never (in_known r kept h) f)))

-- The rules that are left are unlike, and each of them was listed.
pub first_only_unlike : (kept rules : List Rule) → Unlike kept → Unlike (first_only kept rules)
unfolding first_only
first_only_unlike kept [] u = u
first_only_unlike kept (r ∷ rules) u =
    first_only_unlike (kept_with kept r) rules (with_rule_cases Unlike kept r (λ there. u) (unlike_snoc kept r u))

pub first_only_listed : (kept rules : List Rule) (x : Rule) → Memᴰ x (first_only kept rules) → Memᴰ x kept ⊎ Memᴰ x rules
unfolding first_only
first_only_listed kept [] x h = inl h
first_only_listed kept (r ∷ rules) x h =
    ⊎_elim
    (with_rule_cases (λ l. Memᴰ x l → Memᴰ x kept ⊎ Memᴰ x (r ∷ rules)) kept r (λ there t. inl t)
    (λ new t. ⊎_elim (λ k. inl k) (λ k. inr (Memᴰ.head (Memᴰ.eq_of_singleton k))) (Memᴰ.append_cases kept t)))
    (λ t. inr (Memᴰ.tail t))
    (first_only_listed (kept_with kept r) rules x h)

-- Decisions by the first rule that matches.
module _ (flow : Flow) where
  -- rules behind others decide as the others' default
  by_first_append : (l m : List Rule) (action : Action) → by_first (l ++ m) action flow ≡ by_first l (by_first m action flow) flow
  unfolding by_first
  by_first_append [] m action = refl
  by_first_append (r ∷ l) m action = ap (cond (matches r flow) r.action) (by_first_append l m action)

  -- where one of them matches, the default doesn't count
  some_matches : (l : List Rule) (r : Rule) (a b : Action) → Memᴰ r l → matches r flow ≡ true → by_first l a flow ≡ by_first l b flow
  unfolding by_first
  some_matches [] r a b h e = absurd (Memᴰ.not-nil h)
  some_matches (x ∷ l) r a b h e =
      ⊎_elim (λ same. let here : matches x flow ≡ true = ap (λ (y : Rule). matches y flow) (sym same) ∙ e in rw here)
      (λ t. ap (cond (matches x flow) x.action) (some_matches l r a b t e)) (Memᴰ.cases_cons h)

  -- a rule again, behind others with the same one
  again_alike : (kept rules : List Rule) (r : Rule) (action : Action) → Memᴰ r kept
      → by_first (kept ++ rules) action flow ≡ by_first (kept ++ (r ∷ rules)) action flow
  unfolding by_first
  again_alike kept rules r action h =
      by_first_append kept rules action
      ∙ by_test (matches r flow)
      (λ t. some_matches kept r (by_first rules action flow) (by_first (r ∷ rules) action flow) h t)
      (λ f. rw f)
      ∙ sym (by_first_append kept (r ∷ rules) action)

  first_only_alike : (kept rules : List Rule) (action : Action)
      → by_first (first_only kept rules) action flow ≡ by_first (kept ++ rules) action flow
  unfolding first_only
  first_only_alike kept [] action = rw append-nil
  first_only_alike kept (r ∷ rules) action =
      first_only_alike (kept_with kept r) rules action
      ∙ with_rule_cases (λ l. by_first (l ++ rules) action flow ≡ by_first (kept ++ (r ∷ rules)) action flow) kept r
      (again_alike kept rules r action) (λ new. rw append_assoc)

  -- a policy of all rules, in their order
  all_in_order : (m : Matching) (rules : List Rule) (action : Action) (first place : ℕ)
      → ((n : ℕ) → m.hit (first + n) ≡ hits rules flow n) → ((n : ℕ) → m.action (first + n) ≡ says rules n)
      → (decide_from m action place (numbers_from first (length rules))).action ≡ by_first rules action flow
  unfolding decide_from numbers_from by_first hits says
  all_in_order m [] action first place hit act = refl
  all_in_order m (r ∷ rules) action first place hit act =
      let here = rw add-zero at (hit 0) in
      let next : (n : ℕ) → suc first + n ≡ first + suc n = λ n. omega arith in
      by_test (matches r flow)
      (λ t. rw (here, t) (rw add-zero at (act 0)))
      (λ f. rw (here, f)
      (all_in_order m rules action (suc first) (suc place) (λ n. ap m.hit (next n) ∙ hit (suc n)) (λ n. ap m.action (next n) ∙ act (suc n))))

pub later_ones_never_decide : (rules : List Rule) (action : Action) (flow : Flow)
    → by_first (first_only [] rules) action flow ≡ by_first rules action flow
later_ones_never_decide rules action flow = first_only_alike flow [] rules action

pub decided_by_first : (rules : List Rule) (action : Action) (flow : Flow)
    → decided (matching rules flow) (under action (numbers_from 0 (length rules))) ≡ by_first rules action flow
unfolding decided decide matching
decided_by_first rules action flow = all_in_order flow (matching rules flow) rules action 0 1 (λ n. rw zero-add) (λ n. rw zero-add)
