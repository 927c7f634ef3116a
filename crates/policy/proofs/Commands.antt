-- One command: its tests and list surgery against its sentence in document 01. The idea: a place of a list cuts it in two,
-- `l ≡ u ++ v`, and `take`, `drop` and `get_or` at that place give the two parts back. Assumes nothing.
use Prim.Native.Nat.{ℕ, suc, ◌-◌, ◌≤◌, ◌<◌}
use native.Mathlib.Numerals.{add-one, sub-one}
use native.Mathlib.Omega.{arith}
use mathlib.Core.Path.{◌≡◌, refl, sym, ◌∙◌, ap}
use mathlib.Core.Bool.{true, false}
use mathlib.Core.Logic.{◌⊎◌, inl, inr, ⊎_elim}
use mathlib.Core.List.Memᴰ
use mathlib.Core.List.{List, [], ◌∷◌, ◌++◌, append-nil}
use borrow.Author.Tests.{ltb-true, ltb-false, leb-true, leb-false, lt-ltb, le-ltb, le-leb}
use lib.Dec.{ltb, leb}
use lib.ListN.{length, take, drop, get_or, length-append, take-append-drop}
use lib.Seq.{length-take-le, split_at, take-append_seam, drop-append_seam, drop-append-add, get_or-append_seam}
use Rattle.policy.specs.Lists.{mem, before, after}
use Rattle.policy.specs.Command.{rule_at, lifted, placed, moved, passed, failed, needs, within, step, fault_number}
use Rattle.policy.specs.Properties.{In, Distinct, Outside, Off, OffRange, AlreadyThere, NotThere, Makes}
use Rattle.policy.specs.Properties.{Fails, outside, off_range, already_there, not_there}
use Rattle.policy.specs.Claims.{Admitted}
use Rattle.policy.specs.declared.Command.{Command}
use Rattle.policy.specs.declared.Command.TheVariants.{App, DelRule, Ins, DelPlace, Mov}
use Rattle.policy.specs.declared.Fault.{Fault}
use Rattle.policy.specs.declared.Fault.TheVariants.{Present, Absent, Place, Number}
use Rattle.policy.proofs.Tests.{by_test, never, and_both, both_and, falsely, truly}
use Rattle.policy.proofs.Lists.{mem_in, in_mem, not_mem, not_in, length_around, in_middle, in_around, around_cases}
use Rattle.policy.proofs.Lists.{before_after, not_before, without_at}
use Rattle.policy.proofs.Order.{distinct_around, around_distinct}
use Rattle.policy.proofs.Numbers.{fault_numbers_differ, fault_below}

-- A place in its range, and off it.
pub within_on : (i top : ℕ) → within i top ≡ true → (1 ≤ i) × (i ≤ top)
unfolding within
within_on i top e = let both = and_both (leb 1 i) (leb i top) e in (leb-true 1 i both.0, leb-true i top both.1)

pub on_within : (i top : ℕ) → 1 ≤ i → i ≤ top → within i top ≡ true
unfolding within
on_within i top low high = both_and (le-leb 1 i low) (le-leb i top high)

off_within : (i top : ℕ) → Off i top → within i top ≡ false
off_within i top off = falsely (λ t. let on = within_on i top t in ⊎_elim (λ e. omega arith) (λ h. omega arith) off)

within_off : (i top : ℕ) → within i top ≡ false → Off i top
within_off i top e =
    by_test (leb 1 i)
    (λ t. by_test (leb i top)
    (λ s. never (on_within i top (leb-true 1 i t) (leb-true i top s)) e)
    (λ f. inr (leb-false i top f)))
    (λ f. let h : i < 1 = leb-false 1 i f in inl (omega arith))

not_off : (i top : ℕ) → ¬ Off i top → within i top ≡ true
not_off i top h = truly (λ f. h (within_off i top f))

not_outside : (r size : ℕ) → ¬ (size ≤ r) → ltb r size ≡ true
not_outside r size h = truly (λ f. h (ltb-false r size f))

-- A place cuts the list around its rule, or between two rules.
pub cut_around : (i : ℕ) (l : List ℕ) → within i (length l) ≡ true
    → (u : List ℕ) × (x : ℕ) × (v : List ℕ) × (i ≡ suc (length u)) × (l ≡ u ++ (x ∷ v))
cut_around i l e =
    let on = within_on i (length l) e in
    let counted : i ≡ suc (length (take (i - 1) l)) = omega (arith, length-take-le (i - 1) l (omega arith)) in
    (take (i - 1) l, get_or l (i - 1) 0, drop (suc (i - 1)) l, counted, split_at l (i - 1) 0 (omega arith))

cut_between : (i : ℕ) (l : List ℕ) → within i (suc (length l)) ≡ true
    → (u : List ℕ) × (v : List ℕ) × (i ≡ suc (length u)) × (l ≡ u ++ v)
cut_between i l e =
    let on = within_on i (suc (length l)) e in
    let counted : i ≡ suc (length (take (i - 1) l)) = omega (arith, length-take-le (i - 1) l (omega arith)) in
    (take (i - 1) l, drop (i - 1) l, counted, sym (take-append-drop (i - 1) l))

on_around : {i : ℕ} (l u : List ℕ) (x : ℕ) (v : List ℕ) → i ≡ suc (length u) → l ≡ u ++ (x ∷ v) → within i (length l) ≡ true
on_around {i} l u x v at is = on_within i (length l) (omega arith) (omega (arith, ap length is, length-append u (x ∷ v)))

pub rule_at_lem : {i : ℕ} {l : List ℕ} (u : List ℕ) (x : ℕ) (v : List ℕ) → i ≡ suc (length u) → l ≡ u ++ (x ∷ v) → rule_at i l ≡ x
unfolding rule_at
rule_at_lem u x v at is = rw (at, is, sub-one (suc (length u))) (get_or-append_seam u x v 0)

pub lifted_at : {i : ℕ} {l : List ℕ} (u : List ℕ) (x : ℕ) (v : List ℕ) → i ≡ suc (length u) → l ≡ u ++ (x ∷ v) → lifted i l ≡ u ++ v
unfolding lifted
lifted_at u x v at is =
    rw (at, is, sub-one (suc (length u)), take-append_seam u (x ∷ v), ← add-one (length u), drop-append-add u (x ∷ v) 1)

pub placed_at : {i : ℕ} {l : List ℕ} (r : ℕ) (u v : List ℕ) → i ≡ suc (length u) → l ≡ u ++ v → placed i r l ≡ u ++ (r ∷ v)
unfolding placed
placed_at r u v at is = rw (at, is, sub-one (suc (length u)), take-append_seam u v, drop-append_seam u v)

pub moved_at : {i j : ℕ} {l : List ℕ} (u : List ℕ) (x : ℕ) (v p q : List ℕ) → i ≡ suc (length u) → l ≡ u ++ (x ∷ v)
    → j ≡ suc (length p) → u ++ v ≡ p ++ q → moved i j l ≡ p ++ (x ∷ q)
unfolding moved
moved_at u x v p q at is to again = rw (rule_at_lem u x v at is) (placed_at x p q to (lifted_at u x v at is ∙ again))

-- Every command makes a list or fails with a fault ..
pub makes_or_fails : (size : ℕ) (l : List ℕ) (c : Command)
    → ((m : List ℕ) × Makes size l c m) ⊎ ((fault : Fault) × Fails size l c (fault_number fault))
makes_or_fails size l (App r) =
    by_test (ltb r size)
    (λ t. let inside : r < size = ltb-true r size t in
    by_test (mem r l)
    (λ h. inr (Present, already_there (λ o. omega arith) (λ o. o) (mem_in r l h)))
    (λ n. inl (l ++ (r ∷ []), (inside, not_mem r l n, refl))))
    (λ f. inr (Number, outside (ltb-false r size f)))
makes_or_fails size l (DelRule r) =
    by_test (ltb r size)
    (λ t. let inside : r < size = ltb-true r size t in
    by_test (mem r l)
    (λ h. inl (before r l ++ after r l, (before r l, after r l, inside, not_before r l, before_after r l (mem_in r l h), refl)))
    (λ n. inr (Absent, not_there (λ o. omega arith) (λ o. o) (not_mem r l n))))
    (λ f. inr (Number, outside (ltb-false r size f)))
makes_or_fails size l (Ins i r) =
    by_test (ltb r size)
    (λ t. let inside : r < size = ltb-true r size t in
    by_test (within i (suc (length l)))
    (λ w. by_test (mem r l)
    (λ h. inr (Present, already_there (λ o. omega arith) (λ o. never w (off_within i (suc (length l)) o)) (mem_in r l h)))
    (λ n. let at = cut_between i l w in
    inl (at.0 ++ (r ∷ at.1), (at.0, at.1, inside, not_mem r l n, at.2, at.3, refl))))
    (λ f. inr (Place, off_range (λ o. omega arith) (within_off i (suc (length l)) f))))
    (λ f. inr (Number, outside (ltb-false r size f)))
makes_or_fails size l (DelPlace i) =
    by_test (within i (length l))
    (λ w. let at = cut_around i l w in
    inl (at.0 ++ at.2, (at.0, at.1, at.2, at.3, at.4, refl)))
    (λ f. inr (Place, off_range (λ o. o) (within_off i (length l) f)))
makes_or_fails size l (Mov i j) =
    by_test (within i (length l))
    (λ w. by_test (within j (length l))
    (λ y. let at = cut_around i l w in
    let longer : length l ≡ suc (length (at.0 ++ at.2)) = ap length at.4 ∙ length_around at.1 at.0 at.2 in
    let to = cut_between j (at.0 ++ at.2) (rw longer at y) in
    inl (to.0 ++ (at.1 ∷ to.1), (at.0, at.1, at.2, to.0, to.1, at.3, at.4, to.2, to.3, refl)))
    (λ f. inr (Place, off_range (λ o. o) (inr (within_off j (length l) f)))))
    (λ f. inr (Place, off_range (λ o. o) (inl (within_off i (length l) f))))

-- .. and the definition of a step agrees with both sentences.
pub makes_passes : (size : ℕ) (l : List ℕ) (c : Command) (m : List ℕ) → Makes size l c m → step size l c ≡ passed m
unfolding step needs
makes_passes size l (App r) m (inside, new, is) = rw (lt-ltb r size inside, not_in r l new, is)
makes_passes size l (DelRule r) m (u, v, inside, first, is, made) =
    let there : mem r l ≡ true = in_mem r l (rw is (in_middle r u v)) in
    rw (lt-ltb r size inside, there, is, without_at r u v first, made)
makes_passes size l (Ins i r) m (u, v, inside, new, at, is, made) =
    let on : within i (suc (length l)) ≡ true =
    on_within i (suc (length l)) (omega arith) (omega (arith, ap length is, length-append u v)) in
    rw (lt-ltb r size inside, on, not_in r l new, placed_at r u v at is, made)
makes_passes size l (DelPlace i) m (u, x, v, at, is, made) =
    rw (on_around l u x v at is, lifted_at u x v at is, made)
makes_passes size l (Mov i j) m (u, x, v, p, q, at, is, to, again, made) =
    let on : within j (length l) ≡ true =
    on_within j (length l) (omega arith) (omega (arith, ap length is, length_around x u v, ap length again, length-append p q)) in
    rw (on_around l u x v at is, on, moved_at u x v p q at is to again, made)

module _ (size : ℕ) (l : List ℕ) where
  outside_fails : (c : Command) → Outside size c → step size l c ≡ failed Number
  unfolding step needs
  outside_fails (App r) o = rw (le-ltb r size o)
  outside_fails (DelRule r) o = rw (le-ltb r size o)
  outside_fails (Ins i r) o = rw (le-ltb r size o)
  outside_fails (DelPlace i) o = absurd o
  outside_fails (Mov i j) o = absurd o

  off_range_fails : (c : Command) → ¬ Outside size c → OffRange l c → step size l c ≡ failed Place
  unfolding step needs
  off_range_fails (App r) n o = absurd o
  off_range_fails (DelRule r) n o = absurd o
  off_range_fails (Ins i r) n o = rw (not_outside r size n, off_within i (suc (length l)) o)
  off_range_fails (DelPlace i) n o = rw (off_within i (length l) o)
  off_range_fails (Mov i j) n o =
      ⊎_elim (λ first. rw (off_within i (length l) first))
      (λ second. by_test (within i (length l)) (λ t. rw (t, off_within j (length l) second)) (λ f. rw f))
      o

  already_there_fails : (c : Command) → ¬ Outside size c → ¬ OffRange l c → AlreadyThere l c → step size l c ≡ failed Present
  unfolding step needs
  already_there_fails (App r) n on there = rw (not_outside r size n, in_mem r l there)
  already_there_fails (DelRule r) n on there = absurd there
  already_there_fails (Ins i r) n on there = rw (not_outside r size n, not_off i (suc (length l)) on, in_mem r l there)
  already_there_fails (DelPlace i) n on there = absurd there
  already_there_fails (Mov i j) n on there = absurd there

  not_there_fails : (c : Command) → ¬ Outside size c → ¬ OffRange l c → NotThere l c → step size l c ≡ failed Absent
  unfolding step needs
  not_there_fails (App r) n on lacks = absurd lacks
  not_there_fails (DelRule r) n on lacks = rw (not_outside r size n, not_in r l lacks)
  not_there_fails (Ins i r) n on lacks = absurd lacks
  not_there_fails (DelPlace i) n on lacks = absurd lacks
  not_there_fails (Mov i j) n on lacks = absurd lacks

  -- the fault that a number stands for
  pub fails_with : (c : Command) (n : ℕ) → Fails size l c n → (fault : Fault) × (fault_number fault ≡ n) × (step size l c ≡ failed fault)
  fails_with c n (outside o) = (Number, refl, outside_fails c o)
  fails_with c n (off_range i o) = (Place, refl, off_range_fails c i o)
  fails_with c n (already_there i o there) = (Present, refl, already_there_fails c i o there)
  fails_with c n (not_there i o lacks) = (Absent, refl, not_there_fails c i o lacks)

  pub fails_below : (c : Command) (n : ℕ) → Fails size l c n → n < 24
  fails_below c n h = let (fault, is, fails) = fails_with c n h in rw is at (fault_below fault)

  pub fails_failed : (c : Command) (fault : Fault) → Fails size l c (fault_number fault) → step size l c ≡ failed fault
  fails_failed c fault h =
      let (with, is, fails) = fails_with c (fault_number fault) h in fails ∙ ap failed (fault_numbers_differ with fault is)

pub passes_makes : (size : ℕ) (l : List ℕ) (c : Command) (m : List ℕ) → step size l c ≡ passed m → Makes size l c m
passes_makes size l c m e =
    ⊎_elim
    (λ h. let same : h.0 ≡ m = cc (makes_passes size l c h.0 h.1) in rw same at h.1)
    (λ h. let clash : ◌≡◌ {A = ℕ} 0 1 = cc (fails_failed size l c h.0 h.1) in absurd (omega arith))
    (makes_or_fails size l c)

pub failed_fails : (size : ℕ) (l : List ℕ) (c : Command) (fault : Fault) → step size l c ≡ failed fault → Fails size l c (fault_number fault)
failed_fails size l c fault e =
    ⊎_elim
    (λ h. let clash : ◌≡◌ {A = ℕ} 0 1 = cc (makes_passes size l c h.0 h.1) in absurd (omega arith))
    (λ h. let same : h.0 ≡ fault = cc (fails_failed size l c h.0 h.1) in rw same at h.1)
    (makes_or_fails size l c)

pub makes_unique : (size : ℕ) (l : List ℕ) (c : Command) (m n : List ℕ) → Makes size l c m → Makes size l c n → m ≡ n
makes_unique size l c m n h k = cc (makes_passes size l c m h, makes_passes size l c n k)

-- What a command keeps: the rules go on being different and inside the catalogue.
pub makes_distinct : (size : ℕ) (l : List ℕ) (c : Command) (m : List ℕ) → Makes size l c m → Distinct l → Distinct m
makes_distinct size l (App r) m (inside, new, is) d = rw is (around_distinct r l [] (rw append-nil new) (rw append-nil d))
makes_distinct size l (DelRule r) m (u, v, inside, first, is, made) d = rw made (distinct_around r u v (rw is at d)).1
makes_distinct size l (Ins i r) m (u, v, inside, new, at, is, made) d =
    rw made (around_distinct r u v (rw is at new) (rw is at d))
makes_distinct size l (DelPlace i) m (u, x, v, at, is, made) d = rw made (distinct_around x u v (rw is at d)).1
makes_distinct size l (Mov i j) m (u, x, v, p, q, at, is, to, again, made) d =
    let out = distinct_around x u v (rw is at d) in
    rw made (around_distinct x p q (rw again at out.0) (rw again at out.1))

makes_inside : (size : ℕ) (l : List ℕ) (c : Command) (m : List ℕ) → Makes size l c m
    → ((r : ℕ) → In r l → r < size) → (r : ℕ) → In r m → r < size
makes_inside size l (App r) m (inside, new, is) all x h =
    ⊎_elim (λ e. rw e inside) (λ t. all x (rw append-nil at t)) (around_cases r x l [] (rw is at h))
makes_inside size l (DelRule r) m (u, v, inside, first, is, made) all x h = all x (rw is (in_around r x u v (rw made at h)))
makes_inside size l (Ins i r) m (u, v, inside, new, at, is, made) all x h =
    ⊎_elim (λ e. rw e inside) (λ t. all x (rw is t)) (around_cases r x u v (rw made at h))
makes_inside size l (DelPlace i) m (u, y, v, at, is, made) all x h = all x (rw is (in_around y x u v (rw made at h)))
makes_inside size l (Mov i j) m (u, y, v, p, q, at, is, to, again, made) all x h =
    ⊎_elim
    (λ e. all x (rw is (Memᴰ.cast e (in_middle y u v))))
    (λ t. all x (rw is (in_around y x u v (rw again t))))
    (around_cases y x p q (rw made at h))

pub makes_policy : (size : ℕ) (l : List ℕ) (c : Command) (m : List ℕ) → Makes size l c m → Admitted size l → Admitted size m
makes_policy size l c m made policy = record {
  inside = makes_inside size l c m made policy.inside;
  distinct = makes_distinct size l c m made policy.distinct;
}
