-- Replay: a script leads to a list, or breaks at its first command that fails; the lists on its way are those after its first
-- commands. Each law goes by recursion on the script. Assumes nothing.
use Prim.Native.Nat.{ℕ, zero, suc, ◌+◌, ◌<◌, zero-le, suc-le-suc}
use native.Mathlib.Nat.{add-zero, zero-add, not-suc-le-zero, le_of_suc-le-suc}
use native.Mathlib.Omega.{arith}
use mathlib.Core.Path.{◌≡◌, refl, ◌∙◌, ap}
use mathlib.Core.Logic.{◌⊎◌, inl, inr, ⊎_elim}
use mathlib.Core.List.{List, [], ◌∷◌, ◌++◌, append-nil}
use borrow.Author.Tests.{ltb-true, ltb-false}
use lib.Dec.{ltb}
use lib.ListN.{length, take, get_or}
use Rattle.policy.specs.Command.{Outcome, passed, failed, step, fault_number}
use Rattle.policy.specs.Replay.{ended, broken, replay_from, replay, lists}
use Rattle.policy.specs.Properties.{Distinct, Makes, Leads, After}
use Rattle.policy.specs.Claims.{Admitted, ReplayIsLeads, ListsAreAfter, BreaksAt, RunningListFits}
use Rattle.policy.specs.Claims.{EachListIsAfter, ListsAreOneMore}
use Rattle.policy.specs.declared.Command.{Command}
use Rattle.policy.specs.declared.Fault.{Fault}
use Rattle.policy.proofs.Tests.{by_test}
use Rattle.policy.proofs.Counting.{inside_length}
use Rattle.policy.proofs.Way.{Steps}
use Rattle.policy.proofs.Commands.{passes_makes}
use Rattle.policy.proofs.Commands.{makes_or_fails, makes_passes, fails_failed, makes_unique, makes_distinct, makes_policy}

-- Where a script leads, or where it breaks: one of the two holds, and the definition of a replay answers what holds.
replays_past : (size done : ℕ) (l m : List ℕ) (first second : List Command) → Leads size l first m
    → replay_from size done l (first ++ second) ≡ replay_from size (length first + done) m second
unfolding replay_from
replays_past size done l m [] second e = rw (e, zero-add done)
replays_past size done l m (c ∷ first) second (x, made, rest) =
    rw (makes_passes size l c x made, replay_from)
    (replays_past size (suc done) x m first second rest ∙ ap (λ (n : ℕ). replay_from size n m second) (omega arith))

pub leads_replays : (size : ℕ) (l n : List ℕ) (script : List Command) → Leads size l script n → replay size l script ≡ ended n
unfolding replay replay_from
leads_replays size l n script h = rw append-nil at (replays_past size 0 l n script [] h)

pub breaks_replays : (size : ℕ) (l : List ℕ) (script : List Command) (fault : Fault) (at : ℕ)
    → BreaksAt size l script (fault_number fault) at → replay size l script ≡ broken fault at
unfolding replay replay_from
breaks_replays size l script fault at b =
    rw (
      b.is,
      replays_past size 0 l b.running b.passed (b.failing ∷ b.others) b.leads,
      fails_failed size b.running b.failing fault b.fails,
      replay_from,
      add-zero,
      b.counted,
    )

pub leads_or_breaks : (size : ℕ) (l : List ℕ) (script : List Command)
    → ((n : List ℕ) × Leads size l script n) ⊎ ((fault : Fault) × (at : ℕ) × BreaksAt size l script (fault_number fault) at)
leads_or_breaks size l [] = inl (l, refl)
leads_or_breaks size l (c ∷ script) =
    ⊎_elim
    (λ h. ⊎_elim
    (λ k. inl (k.0, (h.0, h.1, k.1)))
    (λ k. let b = k.2 in
    inr (
      k.0,
      suc k.1,
      record {
        passed = c ∷ b.passed;
        failing = b.failing;
        others = b.others;
        running = b.running;
        is = ap (λ (rest : List Command). c ∷ rest) b.is;
        counted = ap suc b.counted;
        leads = (h.0, h.1, b.leads);
        fails = b.fails;
      },
    ))
    (leads_or_breaks size h.0 script))
    (λ h. inr (
      h.0,
      1,
      record {
        passed = [];
        failing = c;
        others = script;
        running = l;
        is = refl;
        counted = refl;
        leads = refl;
        fails = h.1;
      },
    ))
    (makes_or_fails size l c)

pub replay_is_leads : ReplayIsLeads
replay_is_leads size initial l script = (
  λ e. ⊎_elim
      (λ h. let same : h.0 ≡ l = cc (leads_replays size initial h.0 script h.1) in rw same at h.1)
      (λ h. let clash : ◌≡◌ {A = ℕ} 0 1 = cc (breaks_replays size initial script h.0 h.1 h.2) in absurd (omega arith))
      (leads_or_breaks size initial script),
  leads_replays size initial l script,
)

pub replays_breaks : (size : ℕ) (l : List ℕ) (script : List Command) (fault : Fault) (at : ℕ)
    → replay size l script ≡ broken fault at → BreaksAt size l script (fault_number fault) at
replays_breaks size l script fault at e =
    ⊎_elim
    (λ h. let clash : ◌≡◌ {A = ℕ} 0 1 = cc (leads_replays size l h.0 script h.1) in absurd (omega arith))
    (λ h. let is = breaks_replays size l script h.0 h.1 h.2 in
    let why : h.0 ≡ fault = cc in
    let where_to : h.1 ≡ at = cc in
    rw where_to at (rw why at h.2))
    (leads_or_breaks size l script)

-- The lists on the way.
pub lists_are_after : ListsAreAfter
unfolding lists
lists_are_after size l [] zero m h = (omega arith, h.leads)
lists_are_after size l [] (suc k) m h = absurd (not-suc-le-zero h.reached)
lists_are_after size l (c ∷ script) zero m h = (omega arith, h.leads)
lists_are_after size l (c ∷ script) (suc k) m h =
    let (x, made, rest) = h.leads in
    let at = lists_are_after size x script k m (record { reached = le_of_suc-le-suc h.reached; leads = rest }) in
    rw (makes_passes size l c x made) (omega (arith, at.0), at.1)

by_outcome_lem {ℓ} : {A : Type ℓ} (o : Outcome) → ((m : List ℕ) → o ≡ passed m → A) → ((fault : Fault) → o ≡ failed fault → A) → A
by_outcome_lem (passed m) pass fail = pass m refl
by_outcome_lem (failed fault) pass fail = fail fault refl

pub each_list_is_after : EachListIsAfter
unfolding lists
each_list_is_after size l [] zero inside = record { reached = zero-le; leads = refl }
each_list_is_after size l [] (suc k) inside = absurd (not-suc-le-zero (le_of_suc-le-suc inside))
each_list_is_after size l (c ∷ script) zero inside = record { reached = zero-le; leads = refl }
each_list_is_after size l (c ∷ script) (suc k) inside =
    by_outcome_lem (step size l c)
    (λ m e. let later = each_list_is_after size m script k (le_of_suc-le-suc (rw e at inside)) in
    rw e record { reached = suc-le-suc later.reached; leads = (m, passes_makes size l c m e, later.leads) })
    (λ fault e. absurd (not-suc-le-zero (le_of_suc-le-suc (rw e at inside))))

pub lists_after : (size : ℕ) (l n : List ℕ) (script : List Command) → Leads size l script n
    → (k : ℕ) → k < length (lists size l script) → After size l script k (get_or (lists size l script) k [])
lists_after size l n script h = each_list_is_after size l script

pub lists_are_one_more : ListsAreOneMore
lists_are_one_more size l script commands =
    let way = lists size l script in (
      λ p. let least = (lists_are_after size l script commands p.last p.after).0 in
          by_test (ltb (suc commands) (length way))
          (λ t. absurd (p.no_more (get_or way (suc commands) [])
          (each_list_is_after size l script (suc commands) (ltb-true (suc commands) (length way) t))))
          (λ f. omega (arith, least, ltb-false (suc commands) (length way) f)),
      λ e. record {
        last = get_or way commands [];
        after = each_list_is_after size l script commands (omega (arith, e));
        no_more = λ m h. absurd (omega (arith, e, (lists_are_after size l script (suc commands) m h).0));
      },
    )

-- the list after some commands is the first one, or comes after the first command
pub after_none : (size : ℕ) (l x : List ℕ) (k : ℕ) → After size l [] k x → l ≡ x
after_none size l x zero h = h.leads
after_none size l x (suc k) h = h.leads

pub after_cases : (size : ℕ) (l m x : List ℕ) (c : Command) (script : List Command) (k : ℕ)
    → Makes size l c m → After size l (c ∷ script) k x
    → ((k ≡ 0) × (l ≡ x)) ⊎ ((j : ℕ) × (k ≡ suc j) × After size m script j x)
after_cases size l m x c script zero made h = inl (refl, h.leads)
after_cases size l m x c script (suc k) made h =
    let (y, makes, rest) = h.leads in
    let same : y ≡ m = makes_unique size l c y m makes made in
    inr (k, refl, record { reached = le_of_suc-le-suc h.reached; leads = rw same at rest })

pub steps_after : (P : List ℕ → Type 0) (E : List ℕ → List ℕ → Type 0) (size : ℕ) (l n : List ℕ) (script : List Command)
    → Steps P E size l script n → (k : ℕ) (m : List ℕ) → After size l script k m → P m
steps_after P E size l n [] s k m h = rw (after_none size l m k h) at s.0
steps_after P E size l n (c ∷ script) (p, (y, made, e, s)) k m h =
    ⊎_elim (λ z. rw z.1 at p) (λ j. steps_after P E size y n script s j.0 m j.2)
    (after_cases size l y m c script k made h)

-- What every command keeps, every list on the way has: so no list on the way is longer than the catalogue.
leads_keeps : (P : List ℕ → Type 0) (size : ℕ) → ((l : List ℕ) (c : Command) (m : List ℕ) → Makes size l c m → P l → P m)
    → (l n : List ℕ) (script : List Command) → Leads size l script n → P l → P n
leads_keeps P size keeps l n [] e p = rw e at p
leads_keeps P size keeps l n (c ∷ script) (m, made, rest) p = leads_keeps P size keeps m n script rest (keeps l c m made p)

pub after_distinct : (size : ℕ) (l m : List ℕ) (script : List Command) (k : ℕ) → After size l script k m → Distinct l → Distinct m
after_distinct size l m script k h d = leads_keeps Distinct size (makes_distinct size) l m (take k script) h.leads d

pub running_list_fits : RunningListFits
running_list_fits size initial script k l small policy after =
    let kept = leads_keeps (Admitted size) size (makes_policy size) initial l (take k script) after.leads policy in
    omega (arith, inside_length size l kept.distinct kept.inside)
