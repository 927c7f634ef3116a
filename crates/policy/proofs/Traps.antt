-- The traps of document 01 hold of the definitions. The examples are computed. That counting j early is wrong: the rule lands
-- one place too high, where a list of differing rules has another rule. Assumes nothing.
use Prim.Native.Nat.{ℕ, zero, suc, ◌<◌}
use native.Mathlib.Nat.{le_of_suc-le-suc, not-suc-le-zero}
use native.Mathlib.Numerals.{sub-one}
use native.Mathlib.Omega.{arith}
use mathlib.Core.Path.{◌≡◌, refl, sym, ◌∙◌, ap}
use mathlib.Core.Bool.{true}
use mathlib.Core.Logic.{◌⊎◌, inl, inr, ⊎_elim, ◌≢◌}
use mathlib.Core.List.{List, [], ◌∷◌, ◌++◌}
use mathlib.Core.List.Memᴰ
use mathlib.Core.List.{Memᴰ}
use mathlib.Core.List.Sublistᴰ
use mathlib.Core.List.{Sublistᴰ}
use borrow.Author.Tests.{eqb-true, eqb-false, lt-ltb}
use lib.Dec.{eqb, ltb}
use lib.ListN.{length, take, drop, get_or, get_or-append, length-append, length-drop}
use lib.Seq.{get_or_at, get_or-take, length-take-le, split_at}
use Rattle.policy.specs.Lists.{all, pick, mem, contains, before, after, without, same}
use Rattle.policy.specs.Policy.{Matching, under, decide_from, decide, decided}
use Rattle.policy.specs.Command.{rule_at, lifted, placed, moved, needs, within, step}
use Rattle.policy.specs.Replay.{replay_from, replay, lists}
use Rattle.policy.specs.AppendDelete.{kept_run}
use Rattle.policy.specs.Judge.{supported_by, supported, full, first_failing, first_unsupported, first_unordered, judged}
use Rattle.policy.specs.Judge.{verdict, verdict_numbers}
use Rattle.policy.specs.Properties.{In, Precedes, After}
use Rattle.policy.specs.Scanning.{scan_to, add_where, add_rules, adding, clean_up, scanning}
use Rattle.policy.specs.Traps.{KeepsPairs, ConditionOne, ConditionTwo, hitting, permits, sixth, CommonAndPairsAreNotEnough}
use Rattle.policy.specs.Traps.{odd_permits, crossing, one_by_one, PairsLeaveHoles, ScanningTakesKeptOut, moved_early}
use Rattle.policy.specs.Traps.{CountingEarlyIsWrong, denies_but_one, EndsAreNotEnough, there_and_back, UnorderedMayBeSafe}
use Rattle.policy.specs.declared.Action.{Action}
use Rattle.policy.specs.declared.Command.{Command}
use Rattle.policy.proofs.Tests.{by_test, not_second}
use Rattle.policy.proofs.Lists.{place_in_lem}
use Rattle.policy.proofs.Order.{distinct_around, precedes_total, sublist_in, sublist_precedes}
use Rattle.policy.proofs.Decisions.{permit_not_deny}
use Rattle.policy.proofs.Replay.{replay_is_leads, lists_are_after, each_list_is_after}

-- every list on the way of a script, where the checker computes them
abbrev Each : (List ℕ → Type 0) → List (List ℕ) → Type 0
Each P [] = Unit {0}
Each P (l ∷ way) = P l × Each P way

each_in : (P : List ℕ → Type 0) (way : List (List ℕ)) → Each P way → (l : List ℕ) → Memᴰ l way → P l
each_in P [] all l h = absurd (Memᴰ.not-nil h)
each_in P (x ∷ way) all l h = ⊎_elim (λ e. rw e all.0) (λ k. each_in P way all.1 l k) (Memᴰ.cases_cons h)

each_after : (P : List ℕ → Type 0) (size : ℕ) (initial : List ℕ) (script : List Command) → Each P (lists size initial script)
    → (k : ℕ) (l : List ℕ) → After size initial script k l → P l
each_after P size initial script all k l h =
    let way = lists size initial script in
    let at = lists_are_after size initial script k l h in
    each_in P way all l (Memᴰ.cast (sym at.1) (place_in_lem [] way k at.0))

-- a list whose rules stand as in one of the policies meets condition (b): two rules that always stand in one order do so here
ordered_pairs : (initial target l : List ℕ) → ((a b : ℕ) → Precedes a b l → Precedes a b initial ⊎ Precedes a b target)
    → KeepsPairs initial target l
ordered_pairs initial target l order a b p n k h g =
    by_test (eqb a b)
    (λ t. let e = eqb-true a b t in
    absurd (⊎_elim (λ q. (rw e at n) (rw e at q)) (λ q. (rw e at k) (rw e at q)) p))
    (λ f. not_second (λ q. ⊎_elim n k (order b a q)) (precedes_total a b l h g (eqb-false a b f)))

-- so do the parts of either policy, and they have only their rules
of_initial : (initial target l : List ℕ) → Sublistᴰ l initial → ConditionTwo initial target l
of_initial initial target l s =
    ((λ r h. inl (sublist_in s r h)), ordered_pairs initial target l (λ a b p. inl (sublist_precedes a b s p)))

of_target : (initial target l : List ℕ) → Sublistᴰ l target → ConditionTwo initial target l
of_target initial target l s =
    ((λ r h. inr (sublist_in s r h)), ordered_pairs initial target l (λ a b p. inr (sublist_precedes a b s p)))

pub common_and_pairs_are_not_enough : CommonAndPairsAreNotEnough
unfolding replay replay_from lists step needs within lifted placed mem decided decide decide_from hitting permits
common_and_pairs_are_not_enough =
    let unlike : ◌≢◌ {A = ℕ} 0 1 = omega arith in
    let both : (l : List ℕ) → ConditionTwo (0 ∷ []) (1 ∷ []) l → ConditionOne (0 ∷ []) (1 ∷ []) l =
    λ l c. (
      c.0,
      λ r h k. absurd (unlike (sym (Memᴰ.eq_of_singleton h) ∙ Memᴰ.eq_of_singleton k)),
      c.1,
    ) in
    let between : After 8 (0 ∷ []) sixth 1 [] = each_list_is_after 8 (0 ∷ []) sixth 1 (omega arith) in (
      record {
        ends = (replay_is_leads 8 (0 ∷ []) (1 ∷ []) sixth).0 refl;
        throughout = each_after (ConditionOne (0 ∷ []) (1 ∷ [])) 8 (0 ∷ []) sixth (
          both (0 ∷ []) (of_initial (0 ∷ []) (1 ∷ []) (0 ∷ []) (Sublistᴰ.refl (0 ∷ []))),
          (
            both [] (of_initial (0 ∷ []) (1 ∷ []) [] (Sublistᴰ.nil-sublist (0 ∷ []))),
            (both (1 ∷ []) (of_target (0 ∷ []) (1 ∷ []) (1 ∷ []) (Sublistᴰ.refl (1 ∷ []))), tt),
          ),
        );
      },
      between,
      refl,
      refl,
      refl,
      λ safe. ⊎_elim permit_not_deny permit_not_deny (safe 1 [] between 0 refl),
    )

pub pairs_leave_holes : PairsLeaveHoles
unfolding replay replay_from lists step needs within lifted placed mem decided decide decide_from crossing odd_permits
pairs_leave_holes =
    let i : List ℕ = 0 ∷ 1 ∷ [] in
    let t : List ℕ = 2 ∷ 3 ∷ [] in
    let hole : After 8 i one_by_one 1 (1 ∷ []) = each_list_is_after 8 i one_by_one 1 (omega arith) in
    let empty : After 8 i one_by_one 2 [] = each_list_is_after 8 i one_by_one 2 (omega arith) in (
      record {
        ends = (replay_is_leads 8 i t one_by_one).0 refl;
        throughout = each_after (ConditionTwo i t) 8 i one_by_one (
          of_initial i t i (Sublistᴰ.refl i),
          (
            of_initial i t (1 ∷ []) (Sublistᴰ.cons (Sublistᴰ.refl (1 ∷ []))),
            (
              of_initial i t [] (Sublistᴰ.nil-sublist i),
              (
                of_target i t (2 ∷ []) (Sublistᴰ.cons-cons refl (Sublistᴰ.nil-sublist (3 ∷ []))),
                (of_target i t t (Sublistᴰ.refl t), tt),
              ),
            ),
          ),
        );
      },
      hole,
      refl,
      refl,
      refl,
      λ safe. ⊎_elim (λ e. permit_not_deny (sym e)) (λ e. permit_not_deny (sym e)) (safe 1 (1 ∷ []) hole 0 refl),
      λ safe. ⊎_elim permit_not_deny permit_not_deny (safe 2 [] empty 1 refl),
    )

pub scanning_takes_kept_out : ScanningTakesKeptOut
unfolding kept_run pick before after without scan_to add_where add_rules adding clean_up scanning
    replay replay_from step needs within mem
scanning_takes_kept_out = (
  refl,
  refl,
  (replay_is_leads 8 (0 ∷ 1 ∷ 2 ∷ 3 ∷ []) (0 ∷ 3 ∷ []) (scanning (0 ∷ 1 ∷ 2 ∷ 3 ∷ []) (1 ∷ 2 ∷ 0 ∷ 3 ∷ []))).0 refl,
)

-- a rule put in at two places that follow one another gives two lists, if it was in none
two_places : (x k : ℕ) (l : List ℕ) → ¬ In x l → k < length l
    → take k l ++ (x ∷ drop k l) ≢ take (suc k) l ++ (x ∷ drop (suc k) l)
two_places x k l n h e =
    let early : get_or (take k l ++ (x ∷ drop k l)) k 0 ≡ x =
    get_or_at (take k l) x (drop k l) 0 k (length-take-le k l (omega arith)) in
    let long : length (take (suc k) l) ≡ suc k = length-take-le (suc k) l h in
    let late : get_or (take (suc k) l ++ (x ∷ drop (suc k) l)) k 0 ≡ get_or l k 0 =
    get_or-append (take (suc k) l) (x ∷ drop (suc k) l) 0 k (omega arith) ∙ get_or-take (suc k) l k 0 (omega arith) in
    n (Memᴰ.cast (sym early ∙ ap (λ (m : List ℕ). get_or m k 0) e ∙ late) (place_in_lem 0 l k h))

pub counting_early_is_wrong : CountingEarlyIsWrong
unfolding moved_early moved placed lifted rule_at
counting_early_is_wrong zero j l d p q b = absurd (not-suc-le-zero p)
counting_early_is_wrong (suc i) zero l d p q b = absurd (not-suc-le-zero q)
counting_early_is_wrong (suc i) (suc zero) l d p q b = absurd (not-suc-le-zero (le_of_suc-le-suc q))
counting_early_is_wrong (suc i) (suc (suc j)) l d p q b =
    let at : l ≡ take i l ++ (get_or l i 0 ∷ drop (suc i) l) = split_at l i 0 (omega arith) in
    let gone = distinct_around (get_or l i 0) (take i l) (drop (suc i) l) (rw at at d) in
    let test : ltb (suc i) (suc (suc j)) ≡ true = lt-ltb (suc i) (suc (suc j)) q in
    let long : j < length (take i l ++ drop (suc i) l) =
    omega (arith, b, q, length-append (take i l) (drop (suc i) l), length-take-le i l (omega arith), length-drop (suc i) l) in
    rw (test, sub-one (suc i), sub-one (suc (suc j)), sub-one (suc j))
    (two_places (get_or l i 0) j (take i l ++ drop (suc i) l) gone.0 long)

pub ends_are_not_enough : EndsAreNotEnough
unfolding replay replay_from lists step needs within lifted placed mem decided decide decide_from hitting denies_but_one
ends_are_not_enough = (refl, refl, Memᴰ.tail (Memᴰ.head refl), refl)

-- the two rules in either order decide alike, where they say the same
swapped : (m : Matching) (default : Action) → m.action 0 ≡ m.action 1
    → decided m (under default (1 ∷ 0 ∷ [])) ≡ decided m (under default (0 ∷ 1 ∷ []))
unfolding decided decide decide_from
swapped m default e =
    by_test (m.hit 0)
    (λ t. by_test (m.hit 1) (λ s. rw (t, s, decided) (sym e)) (λ f. rw (t, f, decided)))
    (λ f. by_test (m.hit 1) (λ s. rw (f, s, decided)) (λ g. rw (f, g, decided)))

pub unordered_may_be_safe : UnorderedMayBeSafe
unfolding all mem contains before same replay replay_from lists step needs within rule_at lifted placed moved
    supported_by supported full first_failing first_unsupported first_unordered judged verdict verdict_numbers
unordered_may_be_safe = (
  refl,
  λ m default e.
      each_after (λ l. decided m (under default l) ≡ decided m (under default (0 ∷ 1 ∷ []))) 8 (0 ∷ 1 ∷ []) there_and_back
      (refl, (swapped m default e, (refl, tt))),
)
