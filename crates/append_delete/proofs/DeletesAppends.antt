-- The script for append and delete, loop by loop: the run that is kept, the marks, the deletes from the last rule to the first, the appends.
-- Each loop has laws for its start, its turns and its end. Assumes nothing.
use Prim.Native.Nat.{ℕ, zero, suc, ◌+◌, ◌*◌, ◌-◌, ◌≤◌, ◌<◌}
use native.Mathlib.Nat.{zero-add}
use native.Mathlib.Numerals.{add-one}
use native.Mathlib.Omega.{arith}
use mathlib.Core.Path.{◌≡◌, refl, sym, ◌∙◌, ap}
use mathlib.Core.Bool.{Bool, true, false, not}
use mathlib.Core.List.Memᴰ
use mathlib.Core.List.{List, [], ◌∷◌, ◌++◌, map, map-append, reverse, reverse-cons}
use borrow.Author.Tests.{eq-eqb, ne_eqb}
use lib.ListN.{length, get_or, set, take, drop, length-map, length-drop, length-append, drop_of_length-le}
use lib.Seq.{sets, take-suc, drop-cons, take_all, drop-append-le, length-take-le, take_at}
use Rattle.policy.specs.AppendDelete.{kept_run, plan_one}
use Rattle.policy.specs.Lists.{mem, missing, pick}
use Rattle.policy.specs.Properties.{In, Distinct}
use Rattle.policy.specs.Command.{coded}
use Rattle.policy.specs.declared.Command.TheVariants.{App, DelRule}
use Rattle.policy.proofs.AppendDelete.{kept_run_front, plan_one_count}
use Rattle.deployment.specs.Values.{coded_bytes}
use Rattle.plans.specs.Sending.{script_head, Sent}
use Rattle.plans.specs.Marked.{Marked}
use Rattle.append_delete.specs.DeletesAppends.{deletes, appends}
use Rattle.plans.specs.Plans.{made_one_of, plan_for, Placed}
use Rattle.plans.specs.declared.Plan.{Plan}
use Rattle.plans.proofs.Sending.{none_sent, put_sent, sent_more, placed}
use Rattle.plans.proofs.Marked.{marks_more, marks_past}

-- The run that is kept: k rules of it are found in the first i of the initial policy.
abbrev pub Found : List ℕ → List ℕ → ℕ → ℕ → Type 0
Found initial target k i = length (kept_run initial target) ≡ k + length (kept_run (drop i initial) (drop k target))

kept_nothing : (l : List ℕ) → kept_run l [] ≡ []
unfolding kept_run
kept_nothing [] = refl
kept_nothing (x ∷ l) = refl

kept_one : {x r : ℕ} (l m : List ℕ) → x ≡ r → kept_run (x ∷ l) (r ∷ m) ≡ r ∷ kept_run l m
unfolding kept_run
kept_one {x} {r} l m e = rw (eq-eqb x r e, kept_run)

kept_another : {x r : ℕ} (l m : List ℕ) → ¬ (x ≡ r) → kept_run (x ∷ l) (r ∷ m) ≡ kept_run l (r ∷ m)
unfolding kept_run
kept_another {x} {r} l m h = rw (ne_eqb x r h, kept_run)

module _ (initial target : List ℕ) where
  pub found_none : Found initial target 0 0
  found_none = sym (zero-add (length (kept_run initial target)))

  module _ (k i : ℕ) (found : Found initial target k i) where
    pub found_all : length initial ≤ i → k ≡ length (kept_run initial target)
    unfolding kept_run
    found_all end = omega (arith, rw (drop_of_length-le initial end) at found)

    module _ (more : i < length initial) where
      first : drop i initial ≡ get_or initial i 0 ∷ drop (i + 1) initial
      first = rw add-one (drop-cons initial i 0 more)

      pub found_one : k < length target → get_or initial i 0 ≡ get_or target k 0 → Found initial target (k + 1) (i + 1)
      found_one wanted same =
          let kept : kept_run (drop i initial) (drop k target) ≡ get_or target k 0 ∷ kept_run (drop (i + 1) initial) (drop (k + 1) target) =
          rw (first, drop-cons target k 0 wanted, add-one k) (kept_one (drop (i + 1) initial) (drop (suc k) target) same) in
          omega (arith, ap length kept)

      pub found_another : k < length target → ¬ (get_or initial i 0 ≡ get_or target k 0) → Found initial target k (i + 1)
      found_another wanted other =
          found ∙ (rw (first, drop-cons target k 0 wanted, kept_another (drop (i + 1) initial) (drop (suc k) target) other))

      pub found_enough : length target ≤ k → Found initial target k (i + 1)
      found_enough all = found ∙ (rw (drop_of_length-le target all, kept_nothing (drop i initial), kept_nothing (drop (i + 1) initial)))

-- Marks.
module _ (marks : List Bool) (l : List ℕ) (i : ℕ) (before : Marked marks (take i l)) (more : i < length l) where
  last : take (i + 1) l ≡ take i l ++ (get_or l i 0 ∷ [])
  last = rw add-one (take-suc l i 0 more)

  pub marks_one : length marks ≡ 1024 → get_or l i 0 < 1024 → Marked (set marks (get_or l i 0) true) (take (i + 1) l)
  marks_one long small = rw last (marks_more marks (take i l) (get_or l i 0) before long small)

  pub marks_out : 1024 ≤ get_or l i 0 → Marked marks (take (i + 1) l)
  marks_out large = rw last (marks_past marks (take i l) (get_or l i 0) before large)

-- The deletes: the last k rules are gone through, and n of them are not marked.
pub record Deleting (marks : List Bool) (l old field : List ℕ) (n i : ℕ) : Type 0 where
  pub passed : i ≤ length l
  pub few : n + i ≤ length l
  pub counted : n ≡ length (deletes marks (drop i l))
  pub sent : Sent old 0 (deletes marks (drop i l)) field

pub inside_at : (l : List ℕ) (i top : ℕ) → ((r : ℕ) → In r l → r < top) → i < length l → get_or l i 0 < top
inside_at (x ∷ l) zero top inside more = inside x (Memᴰ.head refl)
inside_at (x ∷ l) (suc i) top inside more = inside_at l i top (λ r h. inside r (Memᴰ.tail h)) (omega arith)
inside_at [] i top inside more = absurd (omega arith)

module _ (marks : List Bool) (x : ℕ) (l : List ℕ) where
  delete_one : get_or marks x false ≡ false → deletes marks (x ∷ l) ≡ deletes marks l ++ (DelRule x ∷ [])
  unfolding deletes pick
  delete_one free =
      let left = pick (λ r. not (get_or marks r false)) l in
      rw free (ap (map DelRule) (reverse-cons x left) ∙ map-append DelRule (reverse left) (x ∷ []))

  delete_none : get_or marks x false ≡ true → deletes marks (x ∷ l) ≡ deletes marks l
  unfolding deletes pick
  delete_none kept = rw kept

module _ (marks : List Bool) (l old : List ℕ) where
  pub deleting_none : length old ≡ 5124 → Deleting marks l old old 0 (length l)
  unfolding deletes pick
  deleting_none long =
      let end : drop (length l) l ≡ [] = drop_of_length-le l {i = length l} (omega arith) in
      record { passed = omega arith; few = omega arith; counted = rw end; sent = rw end (none_sent old 0 long (omega arith)) }

  module _ (field : List ℕ) (n i : ℕ) (before : Deleting marks l old field n (suc i)) where
    next : drop i l ≡ get_or l i 0 ∷ drop (suc i) l
    next = drop-cons l i 0 (omega (arith, before.passed))

    pub deleting_one : (now : List ℕ) → length l ≤ 1024 → get_or marks (get_or l i 0) false ≡ false
        → now ≡ sets field (4 + 5 * n) (coded_bytes (coded (DelRule (get_or l i 0))))
        → Deleting marks l old now (n + 1) i
    deleting_one now small free stored =
        let x = get_or l i 0 in
        let more_sent : deletes marks (drop i l) ≡ deletes marks (drop (suc i) l) ++ (DelRule x ∷ []) =
        ap (deletes marks) next ∙ delete_one marks x (drop (suc i) l) free in
        record {
          passed = omega (arith, before.passed);
          few = omega (arith, before.few);
          counted = omega (arith, before.counted, ap length more_sent, length-append (deletes marks (drop (suc i) l)) (DelRule x ∷ []));
          sent =
              rw more_sent
              (put_sent n (DelRule x) before.sent (omega (arith, before.counted)) (omega (arith, before.few)) stored);
        }

    pub deleting_next : get_or marks (get_or l i 0) false ≡ true → Deleting marks l old field n i
    deleting_next kept =
        let same : deletes marks (drop i l) ≡ deletes marks (drop (suc i) l) =
        ap (deletes marks) next ∙ delete_none marks (get_or l i 0) (drop (suc i) l) kept in
        record {
          passed = omega (arith, before.passed);
          few = omega (arith, before.few);
          counted = rw same before.counted;
          sent = rw same before.sent;
        }

  pub deleting_all : (field : List ℕ) (n : ℕ) → Deleting marks l old field n 0 → (n ≡ length (deletes marks l)) × Sent old 0 (deletes marks l) field
  deleting_all field n done = (done.counted, done.sent)

pub length_appends : (kept : ℕ) (target : List ℕ) → length (appends kept target) ≡ length target - kept
unfolding appends
length_appends kept target = length-map (drop kept target) App ∙ length-drop kept target

-- The appends: those of the rest before index j are sent, and n commands in all.
pub record Appending (target : List ℕ) (kept before : ℕ) (old field : List ℕ) (n j : ℕ) : Type 0 where
  pub from : kept ≤ j
  pub to : j ≤ length target
  pub counted : n ≡ before + (j - kept)
  pub sent : Sent old before (appends kept (take j target)) field

module _ (target : List ℕ) (kept before : ℕ) (old : List ℕ) where
  pub appending_none : kept ≤ length target → before ≤ 1024 → length old ≡ 5124 → Appending target kept before old old before kept
  unfolding appends
  appending_none inside few long =
      let none : drop kept (take kept target) ≡ [] = drop_of_length-le (take kept target) {i = kept} (omega (arith, length-take-le kept target inside)) in
      record { from = omega arith; to = inside; counted = omega arith; sent = rw none (none_sent old before long few) }

  module _ (field : List ℕ) (n j : ℕ) (so_far : Appending target kept before old field n j) where
    pub appending_one : (next : List ℕ) → j < length target → n < 1024 → next ≡ sets field (4 + 5 * n) (coded_bytes (coded (App (get_or target j 0))))
        → Appending target kept before old next (n + 1) (j + 1)
    unfolding appends
    appending_one next more room stored =
        let x = get_or target j 0 in
        let first = take j target in
        let long : length first ≡ j = length-take-le j target so_far.to in
        let one : drop kept (take (j + 1) target) ≡ drop kept first ++ (x ∷ []) =
        rw add-one (ap (drop kept) (take-suc target j 0 more) ∙ drop-append-le kept first (x ∷ []) (omega (arith, so_far.from))) in
        let more_sent : appends kept (take (j + 1) target) ≡ appends kept first ++ (App x ∷ []) =
        ap (map App) one ∙ map-append App (drop kept first) (x ∷ []) in
        let counted : length (appends kept first) ≡ j - kept = length-map (drop kept first) App ∙ length-drop kept first ∙ ap (λ (m : ℕ). m - kept) long in
        record {
          from = omega (arith, so_far.from);
          to = omega arith;
          counted = omega (arith, so_far.counted, so_far.from);
          sent = rw more_sent (put_sent n (App x) so_far.sent (omega (arith, so_far.counted)) room stored);
        }

    pub appending_all : length target ≤ j → (n ≡ before + length (appends kept target)) × Sent old before (appends kept target) field
    appending_all all =
        let whole : take j target ≡ target = take_all j target all in (
          omega (arith, so_far.counted, so_far.to, length_appends kept target),
          rw whole at so_far.sent,
        )

-- The whole script, where the rules of the run that is kept are marked.
pick_same : (f g : ℕ → Bool) (l : List ℕ) → ((r : ℕ) → In r l → f r ≡ g r) → pick f l ≡ pick g l
unfolding pick
pick_same f g [] same = refl
pick_same f g (x ∷ l) same = rw (same x (Memᴰ.head refl), pick_same f g l (λ r h. same r (Memᴰ.tail h)))

module _ (initial target : List ℕ) (kept : ℕ) (is : kept ≡ length (kept_run initial target)) where
  pub kept_inside : kept ≤ length target
  kept_inside =
      omega (
        arith,
        ap length (kept_run_front initial target)
            ∙ length-append (kept_run initial target) (drop (length (kept_run initial target)) target),
      )

  module _ (marks : List Bool) (small : (r : ℕ) → In r initial → r < 1024) (kept-marked : Marked marks (take kept target)) where
    pub plan_parts : plan_one initial target ≡ deletes marks initial ++ appends kept target
    unfolding plan_one missing deletes appends
    plan_parts =
        let run : take kept target ≡ kept_run initial target =
        ap (take kept) (kept_run_front initial target) ∙ take_at (kept_run initial target) _ kept (sym is) in
        let marked : pick (λ r. not (mem r (kept_run initial target))) initial ≡ pick (λ r. not (get_or marks r false)) initial =
        pick_same _ _ initial (λ r h. ap not (sym (kept-marked r (small r h) ∙ ap (mem r) run))) in
        rw (marked, is)

    pub plan_few : Distinct initial → length initial ≤ 512 → length target ≤ 512
        → length (deletes marks initial) + (length target - kept) ≤ 1024
    plan_few distinct few-first few-last =
        omega (
          arith,
          plan_one_count initial target distinct,
          ap length plan_parts ∙ length-append (deletes marks initial) (appends kept target),
          length_appends kept target,
        )

    -- deletes sent, appends sent behind them, and the head
    pub plan_placed : {old middle field next : List ℕ} {plan : Plan} (deleted commands : ℕ)
        → (deleted ≡ length (deletes marks initial)) × Sent old 0 (deletes marks initial) middle
        → (commands ≡ deleted + length (appends kept target)) × Sent middle deleted (appends kept target) field
        → (plan ≡ plan_for kept commands) × (next ≡ sets field 0 (script_head 1 commands))
        → Placed (made_one_of initial target) plan old next
    unfolding made_one_of
    plan_placed {old} {middle} {field} {next} {plan} deleted commands first second e =
        let all : Sent old 0 (plan_one initial target) field =
        rw plan_parts (sent_more deleted first.1 (omega (arith, first.0)) second.1) in
        let counted : commands ≡ length (plan_one initial target) =
        omega (
          arith,
          first.0,
          second.0,
          ap length plan_parts ∙ length-append (deletes marks initial) (appends kept target),
        ) in
        placed {next = next} {plan = plan} (made_one_of initial target) kept commands is counted all e
