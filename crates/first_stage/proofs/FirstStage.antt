-- The first stage, rule by rule of the target. What is kept of the target still to be taken occurs in order in the rest; so a kept rule is there
-- when it is taken. At the end a rule of the front is settled exactly when it is marked, since the rules differ. Assumes nothing.
use Prim.Native.Nat.{ℕ, suc, ◌+◌, ◌≤◌, ◌<◌}
use native.Mathlib.Numerals.{add-one}
use native.Mathlib.Omega.{arith}
use mathlib.Core.Path.{◌≡◌, refl, sym, ◌∙◌, ap, subst}
use mathlib.Core.Bool.{Bool, true, false}
use mathlib.Core.Logic.{⊎_elim}
use mathlib.Core.List.Memᴰ
use mathlib.Core.List.{List, [], ◌∷◌, ◌++◌, map, reverse, append_assoc, append-nil, Memᴰ}
use mathlib.Core.List
use mathlib.Core.List.{Sublistᴰ}
use borrow.Author.Tests.{eqb-true, eqb-false}
use lib.Dec.{eqb}
use lib.ListN.{length, drop, get_or, length-append, length-map, drop_of_length-le}
use lib.Seq.{drop-cons}
use Rattle.policy.specs.Lists.{pick, mem, before, after, without, common}
use Rattle.policy.specs.Properties.{In, Distinct}
use Rattle.policy.specs.InsertDeleteMove.{Standing, settled, waiting, rule_of, Halves, Taken, inserted, reached, raised, left, move_up}
use Rattle.policy.specs.InsertDeleteMove.{take_one, take_all, first_stage}
use Rattle.policy.specs.declared.Command.{Command}
use Rattle.policy.proofs.Tests.{by_test, not_first}
use Rattle.policy.proofs.Lists.{mem_in, in_mem, not_in, before_after}
use Rattle.policy.proofs.Order.{sublist_in, sublist_tails, sublist_past}
use Rattle.policy.proofs.Counting.{pick_in, common_occurring}
use Rattle.policy.proofs.Front.{Given, settled_waiting}
use Rattle.policy.proofs.FirstStage.{take_cases, first_stage_lem}
use Rattle.policy.proofs.Stages.{rules_join, standing, standing_reverse}
use Rattle.running.specs.declared.Running.{Running}
use Rattle.running.specs.Running.{view}
use Rattle.deployment.proofs.Values.{map_back}
use Rattle.first_stage.specs.declared.Stage.{Stage}
use Rattle.plans.specs.Sending.{Sent}
use Rattle.plans.specs.Marked.{Marked}
use Rattle.first_stage.specs.FirstStage.{settled_in, Stands, takes, Did, Took, standing_by, front_of, FirstStage}
use Rattle.plans.proofs.Sending.{none_sent, sent_more}
use Rattle.first_stage.proofs.TakeOne.{settled_join}

-- What occurs in order behind a rule, and without one.
sublist_behind : (r : ℕ) (k l : List ℕ) → Sublistᴰ (r ∷ k) l → Sublistᴰ k (after r l)
unfolding after
sublist_behind r k [] s = elim s [ ]
sublist_behind r k (x ∷ l) s =
    by_test (eqb x r)
    (λ t. rw t (sublist_tails s))
    (λ f. rw f (sublist_behind r k l (sublist_past (λ e. eqb-false x r f (sym e)) s)))

sublist_without : (r : ℕ) {k l : List ℕ} → Sublistᴰ k l → ¬ In r k → Sublistᴰ k (without r l)
unfolding without before after
sublist_without r List.Sublistᴰ.slnil n = List.Sublistᴰ.slnil
sublist_without r (List.Sublistᴰ.cons {a = x} s) n =
    by_test (eqb x r) (λ t. rw t s) (λ f. rw f (List.Sublistᴰ.cons (sublist_without r s n)))
sublist_without r (List.Sublistᴰ.cons-cons {b = x} e s) n =
    by_test (eqb x r)
    (λ t. absurd (n (Memᴰ.head (sym (e ∙ eqb-true x r t)))))
    (λ f. rw f (List.Sublistᴰ.cons-cons e (sublist_without r s (λ h. n (Memᴰ.tail h)))))

common_kept : (r : ℕ) (l kept : List ℕ) → In r kept → common (r ∷ l) kept ≡ r ∷ common l kept
unfolding common pick
common_kept r l kept h = rw (in_mem r kept h)

common_other : (r : ℕ) (l kept : List ℕ) → ¬ In r kept → common (r ∷ l) kept ≡ common l kept
unfolding common pick
common_other r l kept n = rw (not_in r kept n)

common_in : (x : ℕ) (l kept : List ℕ) → In x (common l kept) → In x kept
unfolding common
common_in x l kept h = mem_in x kept (pick_in (λ r. mem r kept) l x h).1

-- One rule of the target: what is kept of the others occurs in the rest; the list grows by no more than one rule; no more than one command is sent.
record Goes (kept ts : List ℕ) (h : Halves) (one : Taken) : Type 0 where
  pending : Sublistᴰ (common ts kept) one.next.rest
  longer : length one.next.front + length one.next.rest ≤ suc (length h.front + length h.rest)
  few : length one.sent ≤ 1

move_few : (n : ℕ) (between : List ℕ) → length (move_up n between) ≤ 1
unfolding move_up
move_few n [] = omega arith
move_few n (x ∷ between) = omega arith

goes : (initial kept ts : List ℕ) (h : Halves) (r : ℕ) → ((x : ℕ) → In x kept → In x initial) → Sublistᴰ (common (r ∷ ts) kept) h.rest
    → Goes kept ts h (take_one initial kept h r)
unfolding inserted reached raised left without
goes initial kept ts h r inside s =
    let b = before r h.rest in
    let a = after r h.rest in
    let split : In r h.rest → length h.rest ≡ length b + suc (length a) =
    λ k. ap length (before_after r h.rest k) ∙ length-append b (r ∷ a) in
    take_cases (Goes kept ts h) initial kept h r
    (λ new. record {
      pending = rw (common_other r ts kept (λ k. new (inside r k))) at s;
      longer = omega (arith, length-append h.front (settled r ∷ []));
      few = omega arith;
    })
    (λ old k. let s' = rw (common_kept r ts kept k) at s in
    record {
      pending = sublist_behind r (common ts kept) h.rest s';
      longer =
          omega (
            arith,
            length-append h.front (map waiting b ++ (settled r ∷ [])),
            length-append (map waiting b) (settled r ∷ []),
            length-map b waiting,
            split (sublist_in s' r (Memᴰ.head refl)),
          );
      few = omega arith;
    })
    (λ old n k. record {
      pending =
          sublist_without r (rw (common_other r ts kept n) at s) (λ i. n (common_in r ts kept i));
      longer = omega (arith, length-append h.front (settled r ∷ []), length-append b a, split k);
      few = move_few (length h.front) b;
    })
    (λ old n k. record { pending = rw (common_other r ts kept n) at s; longer = omega arith; few = omega arith })

-- A rule is settled exactly when it is marked.
settled_listed : (r : ℕ) (front : List Standing) → Memᴰ (settled r) front → In r (settled_in front)
unfolding settled_in rule_of
settled_listed r [] h = absurd (Memᴰ.not-nil h)
settled_listed r (settled x ∷ front) h =
    ⊎_elim (λ e. Memᴰ.head (ap rule_of e)) (λ k. Memᴰ.tail (settled_listed r front k)) (Memᴰ.cases_cons h)
settled_listed r (waiting x ∷ front) h = settled_listed r front (not_first (settled_waiting r x) (Memᴰ.cases_cons h))

listed_settled : (r : ℕ) (front : List Standing) → In r (settled_in front) → Memᴰ (settled r) front
unfolding settled_in
listed_settled r [] h = absurd (Memᴰ.not-nil h)
listed_settled r (settled x ∷ front) h =
    ⊎_elim (λ e. Memᴰ.head (ap settled e)) (λ k. Memᴰ.tail (listed_settled r front k)) (Memᴰ.cases_cons h)
listed_settled r (waiting x ∷ front) h = Memᴰ.tail (listed_settled r front h)

-- rules that differ have one standing each
one_standing : (x y : Standing) (front : List Standing) → Distinct (map rule_of front) → Memᴰ x front → Memᴰ y front
    → rule_of x ≡ rule_of y → x ≡ y
one_standing x y [] d h k e = absurd (Memᴰ.not-nil h)
one_standing x y (z ∷ front) d h k e =
    ⊎_elim
    (λ f. ⊎_elim (λ g. f ∙ sym g) (λ t. absurd (d.0 (Memᴰ.cast (sym (ap rule_of f) ∙ e) (Memᴰ.map rule_of t)))) (Memᴰ.cases_cons k))
    (λ t. ⊎_elim (λ g. absurd (d.0 (Memᴰ.cast (sym (ap rule_of g) ∙ sym e) (Memᴰ.map rule_of t)))) (λ s. one_standing x y front d.1 t s e) (Memᴰ.cases_cons k))
    (Memᴰ.cases_cons h)

standing_marked : (marks : List Bool) (front : List Standing) → Marked marks (settled_in front) → Distinct (map rule_of front)
    → ((r : ℕ) → In r (map rule_of front) → r < 1024) → map (standing_by marks) (map rule_of front) ≡ front
unfolding standing_by rule_of
standing_marked marks front right d small = map_back rule_of (standing_by marks) front same
  where
    same : (x : Standing) → Memᴰ x front → standing_by marks (rule_of x) ≡ x
    same (settled r) h = rw (right r (small r (Memᴰ.map rule_of h)), in_mem r (settled_in front) (settled_listed r front h))
    same (waiting r) h =
        let absent : mem r (settled_in front) ≡ false =
        not_in r (settled_in front) (λ k. settled_waiting r r (one_standing (settled r) (waiting r) front d (listed_settled r front k) h refl)) in
        rw (right r (small r (Memᴰ.map rule_of h)), absent)

-- The front at the end of the first stage: its rules differ, and are those of the two policies.
module _ (initial target kept : List ℕ) (given : Given 1024 initial target kept) where
  abbrev last_front : List Standing
  last_front = (first_stage initial kept target).next.front

  last_rules : (m : List ℕ) × (m ≡ map rule_of last_front) × Distinct m × ((r : ℕ) → In r m → r < 1024)
  last_rules =
      let stage = first_stage_lem 1024 initial target kept given in
      let p = stage.2 in (
        stage.0,
        p.is ∙ append-nil (standing (reverse last_front)) ∙ standing_reverse last_front [],
        p.distinct,
        λ r h. ⊎_elim (λ s. given.old.inside r s.named) (λ s. given.new.inside r s.named) (p.ordered r h),
      )

  -- so it is what the marks say
  last_marked : (marks : List Bool) → Marked marks (settled_in last_front) → map (standing_by marks) (map rule_of last_front) ≡ last_front
  last_marked marks right =
      let rules = last_rules in
      standing_marked marks last_front right (subst Distinct rules.1 rules.2) (λ r h. rules.3 r (subst (In r) (sym rules.1) h))

-- The loop: so many rules of the target are taken, so many commands are sent, and the rest of the first stage is still to be done.
pub record Turn (initial target kept old : List ℕ) (stage : Stage) (field : List ℕ) (j : ℕ) : Type 0 where
  pub halves : Halves
  pub commands : List Command
  pub stands : Stands stage halves
  pub next : (take_all initial kept halves (drop j target)).next ≡ (first_stage initial kept target).next
  pub all : commands ++ (take_all initial kept halves (drop j target)).sent ≡ (first_stage initial kept target).sent
  pub counted : stage.sent ≡ length commands
  pub sent : Sent old 0 commands field
  pub few : length commands ≤ j
  pub longer : length halves.front + length halves.rest ≤ length initial + j
  pub pending : Sublistᴰ (common (drop j target) kept) halves.rest

module _ (initial target kept : List ℕ) (given : Given 1024 initial target kept) (old : List ℕ) where
  pub turn_first : (list : Running) (marks : List Bool) → view list ≡ initial → length marks ≡ 1024 → Marked marks [] → length old ≡ 5124
      → Turn initial target kept old (record { list = list; front = 0; settled = marks; sent = 0 }) old 0
  unfolding first_stage settled_in
  turn_first list marks is slots right long =
      record {
        halves = record { front = []; rest = initial };
        commands = [];
        stands = record { is = is; counted = refl; slots = slots; marks = right };
        next = refl;
        all = refl;
        counted = refl;
        sent = none_sent old 0 long (omega arith);
        few = omega arith;
        longer = omega arith;
        pending = rw (common_occurring given.kept_target given.new.distinct) given.kept_initial;
      }

  module _ (stage : Stage) (field : List ℕ) (j : ℕ) (turn : Turn initial target kept old stage field j) where
    -- how long the list is
    pub turn_length : (stage.front ≤ length (view stage.list)) × (length (view stage.list) ≤ length initial + j)
    turn_length =
        let h = turn.halves in
        let long : length (view stage.list) ≡ length h.front + length h.rest =
        ap length turn.stands.is ∙ length-append (map rule_of h.front) h.rest
        ∙ ap (λ (n : ℕ). n + length h.rest) (length-map h.front rule_of) in
        (omega (arith, turn.stands.counted), omega (arith, turn.longer))

    -- one rule more
    pub turn_more : (r : ℕ) (was keep : Bool) (next : Stage) (written : List ℕ) → j < length target → r ≡ get_or target j 0
        → was ≡ mem r initial → keep ≡ mem r kept → Took stage r was keep field next written → Turn initial target kept old next written (j + 1)
    unfolding takes take_one take_all
    turn_more r was keep next written more is-next is-common is-kept took =
        let ts = drop (j + 1) target in
        let h = turn.halves in
        let one = take_one initial kept h r in
        let at : drop j target ≡ r ∷ ts = rw (add-one, is-next) (drop-cons target j 0 more) in
        let pending : Sublistᴰ (common (r ∷ ts) kept) h.rest = rw at at turn.pending in
        let there : keep ≡ true → In r h.rest =
        λ k. sublist_in (rw (common_kept r ts kept (mem_in r kept (sym is-kept ∙ k))) at pending) r (Memᴰ.head refl) in
        let did : Did stage field one next written = rw (is-common, is-kept) at (took h turn.stands there) in
        let further = goes initial kept ts h r (sublist_in given.kept_initial) pending in
        record {
          halves = one.next;
          commands = turn.commands ++ one.sent;
          stands = did.stands;
          next = rw at at turn.next;
          all = append_assoc turn.commands one.sent _ ∙ (rw at at turn.all);
          counted = did.counted ∙ omega (arith, turn.counted, length-append turn.commands one.sent);
          sent = sent_more stage.sent turn.sent (omega (arith, turn.counted)) did.sent;
          few = omega (arith, turn.few, further.few, length-append turn.commands one.sent);
          longer = omega (arith, turn.longer, further.longer);
          pending = further.pending;
        }

    -- all rules are taken
    pub turn_last : length target ≤ j → FirstStage initial target kept old stage field
    unfolding take_all front_of
    turn_last end =
        let h = turn.halves in
        let none : drop j target ≡ [] = drop_of_length-le target {i = j} end in
        let front : h.front ++ map waiting h.rest ≡ (first_stage initial kept target).next.front =
        ap (λ (n : Halves). n.front) (rw none at turn.next) in
        let all : turn.commands ≡ (first_stage initial kept target).sent = sym (append-nil turn.commands) ∙ (rw none at turn.all) in
        let rules = last_rules initial target kept given in
        let shown : view stage.list ≡ map rule_of (first_stage initial kept target).next.front =
        turn.stands.is ∙ sym (rules_join h.front h.rest) ∙ ap (map rule_of) front in
        record {
          front =
              ap (map (standing_by stage.settled)) shown
              ∙ last_marked initial target kept given stage.settled (rw (← front, settled_join h.front h.rest) turn.stands.marks);
          inside = λ r k. rules.3 r (subst (In r) (shown ∙ sym rules.1) k);
          counted = turn.counted ∙ ap length all;
          sent = rw all at turn.sent;
        }
