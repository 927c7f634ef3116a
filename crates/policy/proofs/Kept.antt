-- What the script for insert, delete and move keeps: the keep list, or the planner's own choice. The idea of the own choice: what
-- it goes on with is the part of the initial policy after the last rule kept, so a rule is in that part exactly when all rules
-- kept so far stand before it. Assumes nothing.
use Prim.Native.Nat.{ℕ, zero, suc, ◌<◌}
use native.Mathlib.Nat.{not-suc-le-zero}
use native.Mathlib.Omega.{arith}
use mathlib.Core.Path.{◌≡◌, refl, sym, ◌∙◌, ap, subst}
use mathlib.Core.Logic.{◌↔◌, inl, inr, ⊎_elim}
use mathlib.Core.List.{List, [], ◌∷◌, ◌++◌, append_assoc}
use mathlib.Core.List.Memᴰ
use mathlib.Core.List.Sublistᴰ
use mathlib.Core.List.{Sublistᴰ}
use mathlib.Core.Option.{Option, none, some}
use lib.ListN.{length, length-append}
use Rattle.policy.specs.Lists.{mem, before, after}
use Rattle.policy.specs.InsertDeleteMove.{own_choice, kept_two}
use Rattle.policy.specs.Properties.{In, Distinct, Within, Precedes}
use Rattle.policy.specs.Claims.{Accepted, OwnChoice, ToKeep, KeptAsAsked}
use Rattle.policy.proofs.Tests.{by_test, not_first}
use Rattle.policy.proofs.Lists.{mem_in, not_mem, in_middle, before_after}
use Rattle.policy.proofs.Order.{distinct_right, precedes_in_right, precedes_right, after_precedes, precedes_after}
use Rattle.policy.proofs.Order.{precedes_to, sublist_in, sublist_after}
use Rattle.policy.proofs.Standing.{follows_back}

-- The own choice occurs in order in both policies.
own_initial : (left target : List ℕ) → Sublistᴰ (own_choice left target) left
unfolding own_choice
own_initial left [] = Sublistᴰ.nil-sublist left
own_initial left (r ∷ target) =
    by_test (mem r left)
    (λ t. rw (t, own_choice)
    (sublist_after r (own_choice (after r left) target) left (mem_in r left t) (own_initial (after r left) target)))
    (λ f. rw (f, own_choice) (own_initial left target))

own_target : (left target : List ℕ) → Sublistᴰ (own_choice left target) target
unfolding own_choice
own_target left [] = Sublistᴰ.slnil
own_target left (r ∷ target) =
    by_test (mem r left)
    (λ t. rw (t, own_choice) (Sublistᴰ.cons-cons refl (own_target (after r left) target)))
    (λ f. rw (f, own_choice) (Sublistᴰ.cons (own_target left target)))

-- It keeps each common rule that stands after those kept before.
abbrev Greedy : List ℕ → List ℕ → List ℕ → ℕ → Type 0
Greedy left target chosen r =
    In r chosen ↔ (In r left × ((x : ℕ) → In x chosen → Precedes x r target → Precedes x r left))

-- the next rule of the target is common, and is kept ..
greedy_kept : (left ts chosen : List ℕ) (t r : ℕ) → Distinct left → ¬ In t ts → In t left → Within chosen (after t left)
    → ((x : ℕ) → In x ts → Greedy (after t left) ts chosen x) → In r (t ∷ ts) → Greedy left (t ∷ ts) (t ∷ chosen) r
greedy_kept left ts chosen t r d once there sub others h =
    let past = after t left in
    let at : left ≡ before t left ++ (t ∷ past) = before_after t left there in
    let wider : (a b : ℕ) → Precedes a b past → Precedes a b left =
    λ a b p. rw at (precedes_right a b (before t left) (t ∷ past) (inr p)) in
    ⊎_elim
    (λ e. rw e (
      λ k. (there, λ x i p. absurd (once (⊎_elim (λ q. q.1) (λ q. Memᴰ.cast (sym e) (precedes_in_right x r ts q)) p))),
      λ k. Memᴰ.head refl,
    ))
    (λ later. let all = others r later in (
      λ k. let (inside, order) = all.0 (not_first (λ e. once (Memᴰ.cast (sym e) later)) (Memᴰ.cases_cons k)) in
          let led : Precedes t r left = after_precedes t r left inside in (
            precedes_in_right t r left led,
            λ x i p. ⊎_elim (λ e. rw e led)
                (λ j. ⊎_elim (λ q. rw (← q.0) led) (λ q. wider x r (order x j q)) p)
                (Memᴰ.cases_cons i),
          ),
      λ k. let inside : In r past = precedes_after t r left (k.1 t (Memᴰ.head refl) (inl (refl, later))) in
          Memᴰ.tail (all.1 (
            inside,
            λ x j q. follows_back x r past left wider d (sub x j) inside (k.1 x (Memᴰ.tail j) (inr q)),
          )),
    ))
    (Memᴰ.cases_cons h)

-- .. or it isn't common
greedy_passed : (left ts chosen : List ℕ) (t r : ℕ) → ¬ In t left → Within chosen left
    → ((x : ℕ) → In x ts → Greedy left ts chosen x) → In r (t ∷ ts) → Greedy left (t ∷ ts) chosen r
greedy_passed left ts chosen t r n sub others h =
    ⊎_elim
    (λ e. rw e ((λ k. absurd (n (sub t k))), (λ k. absurd (n k.0))))
    (λ later. let all = others r later in (
      λ k. let (inside, order) = all.0 k in (
        inside,
        λ x i p. ⊎_elim (λ q. absurd (n (Memᴰ.cast q.0 (sub x i)))) (λ q. order x i q) p,
      ),
      λ k. all.1 (k.0, λ x i q. k.1 x i (inr q)),
    ))
    (Memᴰ.cases_cons h)

own_each : (left target : List ℕ) → Distinct left → Distinct target → (r : ℕ) → In r target
    → Greedy left target (own_choice left target) r
unfolding own_choice
own_each left [] dl dt r h = absurd (Memᴰ.not-nil h)
own_each left (t ∷ ts) dl dt r h =
    by_test (mem t left)
    (λ y. let there = mem_in t left y in
    let past = after t left in
    let apart : Distinct past = (distinct_right (before t left) (t ∷ past) (rw (before_after t left there) at dl)).1 in
    rw (y, own_choice) (greedy_kept left ts (own_choice past ts) t r dl dt.0 there (sublist_in (own_initial past ts))
    (own_each past ts apart dt.1) h))
    (λ n. rw (n, own_choice) (greedy_passed left ts (own_choice left ts) t r (not_mem t left n) (sublist_in (own_initial left ts))
    (own_each left ts dl dt.1) h))

pub kept_as_asked : KeptAsAsked
unfolding kept_two
kept_as_asked size initial target none a =
    record {
      in_order = own_target initial target;
      each = own_each initial target a.first.distinct a.last.distinct;
    }
kept_as_asked size initial target (some keep) a = refl

-- So the rules kept occur in order in both policies.
pub kept_keepable : (size : ℕ) (initial target : List ℕ) (keep : Option (List ℕ)) → Accepted size initial target keep
    → Sublistᴰ (kept_two initial target keep) initial × Sublistᴰ (kept_two initial target keep) target
unfolding kept_two
kept_keepable size initial target none a = (own_initial initial target, own_target initial target)
kept_keepable size initial target (some keep) a =
    subst (λ (kept : List ℕ). Sublistᴰ kept initial × Sublistᴰ kept target) (sym (kept_as_asked size initial target (some keep) a))
    a.keepable

-- Two own choices have the same rules: the first rule that only one of them has would be in both.
own_one : (initial target chosen other : List ℕ) (n : ℕ) → Distinct target
    → OwnChoice initial target chosen → OwnChoice initial target other
    → (u v : List ℕ) (r : ℕ) → target ≡ u ++ (r ∷ v) → length u < n → In r chosen → In r other
own_one initial target chosen other zero d c o u v r at less h = absurd (not-suc-le-zero less)
own_one initial target chosen other (suc n) d c o u v r at less h =
    let there : In r target = rw at (in_middle r u v) in
    let (inside, order) = (c.each r there).0 h in
    (o.each r there).1 (
      inside,
      λ x i p. let b = before x u in
          let a = after x u in
          let cut : u ≡ b ++ (x ∷ a) = before_after x u (precedes_to r x u v (rw at at d) (rw at at p)) in
          let shape : target ≡ b ++ (x ∷ (a ++ (r ∷ v))) =
          at ∙ ap (λ (w : List ℕ). w ++ (r ∷ v)) cut ∙ append_assoc b (x ∷ a) (r ∷ v) in
          order x (own_one initial target other chosen n d o c b (a ++ (r ∷ v)) x shape
          (omega (arith, less, ap length cut, length-append b (x ∷ a))) i) p,
    )

pub to_keep_in : (size : ℕ) (initial target : List ℕ) (keep : Option (List ℕ)) → Accepted size initial target keep
    → (kept : List ℕ) → ToKeep initial target keep kept → Within kept (kept_two initial target keep)
to_keep_in size initial target none a kept own r h =
    let there = before_after r target (sublist_in own.in_order r h) in
    own_one initial target kept (kept_two initial target none) (suc (length (before r target))) a.last.distinct
    own (kept_as_asked size initial target none a) (before r target) (after r target) r there (omega arith) h
to_keep_in size initial target (some keep) a kept is r h =
    rw (kept_as_asked size initial target (some keep) a) (rw is at h)
