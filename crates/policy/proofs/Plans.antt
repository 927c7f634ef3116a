-- What verdicts say of flows, and which verdicts the plans get: the laws on decisions, on the judge and on the two scripts put
-- together. Where nothing is to be done, nothing is sent. Assumes nothing.
use Prim.Native.Nat.{ℕ}
use native.Mathlib.Omega.{arith}
use mathlib.Core.Path.{◌≡◌, refl, sym, ◌∙◌, ap}
use mathlib.Core.Logic.{◌≢◌}
use mathlib.Core.List.Memᴰ
use mathlib.Core.List.{List, [], ◌∷◌, ◌++◌, map, reverse, Memᴰ}
use mathlib.Core.Option.{Option}
use borrow.Author.Tests.{eq-eqb}
use lib.ListN.{length}
use lib.Seq.{append_snoc}
use Rattle.policy.specs.Lists.{mem, before, after, without}
use Rattle.policy.specs.Policy.{Matching, Policy, under, decided}
use Rattle.policy.specs.Replay.{policies}
use Rattle.policy.specs.AppendDelete.{plan_one}
use Rattle.policy.specs.InsertDeleteMove.{kept_two, Standing, settled, waiting, Halves, Taken, reached, move_up, raised}
use Rattle.policy.specs.InsertDeleteMove.{take_one, take_all, first_stage, take_waiting, second_stage, plan_two}
use Rattle.policy.specs.Judge.{verdict, verdict_numbers}
use Rattle.policy.specs.Properties.{In, Distinct, Within, After, Runs, OneDefault}
use Rattle.policy.specs.Claims.{Admitted, AllOrdered, SafeDecidesAsOne, Never, KeepsTheDefault, NotFullKeepsTheDefault}
use Rattle.policy.specs.Claims.{PlanOneVerdict, PlanOneKeepsTheDefault, PlanTwoVerdict, change_point, ChangesOnce}
use Rattle.policy.specs.Claims.{PlanTwoChangesOnce, NothingToDo, PlansFit}
use Rattle.policy.specs.declared.Action.{Action}
use Rattle.policy.specs.declared.Action.TheVariants.{Deny, Permit}
use Rattle.policy.specs.declared.Command.{Command}
use Rattle.policy.proofs.Tests.{by_test}
use Rattle.policy.proofs.Lists.{in_mem, length_nil, reverse_in}
use Rattle.policy.proofs.Way.{Forward, Orderly, Sound, initial_sound, Steps, steps_leads}
use Rattle.policy.proofs.Replay.{steps_after, after_distinct}
use Rattle.policy.proofs.Decisions.{permit_not_deny, ordered_and_full_decides_as_one, ordered_keeps_the_default}
use Rattle.policy.proofs.Judge.{verdict_not_full, verdict_safe, all_ordered_passes}
use Rattle.policy.proofs.Once.{steps_change_once}
use Rattle.policy.proofs.AppendDelete.{kept_run_self, plan_one_count, plan_one_steps, plan_one_reaches}
use Rattle.policy.proofs.Front.{settled_waiting}
use Rattle.policy.proofs.InsertDeleteMove.{plan_two_steps, plan_two_count}

pub safe_decides_as_one : SafeDecidesAsOne
safe_decides_as_one size initial target script one di dt safe m k p runs =
    let row = (verdict_safe size initial.list target.list script di dt).0 safe in
    ordered_and_full_decides_as_one m initial target p (one, runs.default)
    (after_distinct size initial.list p.list script k runs.edited di)
    (row.1 k p.list runs.edited) (row.2 k p.list runs.edited)

-- Where all lists are ordered, every policy on the way gives the default to each flow to which both policies give it; so none gives it
-- the other action.
module _ (size : ℕ) (initial target : Policy) (script : List Command) (one : OneDefault initial target) (di : Distinct initial.list)
    (ordered : AllOrdered size initial.list target.list script) where
  way_keeps_the_default : (m : Matching) → decided m initial ≡ initial.default → decided m target ≡ initial.default
      → (k : ℕ) (p : Policy) → Runs size initial script k p → decided m p ≡ initial.default
  way_keeps_the_default m i t k p runs =
      let own : p.default ≡ initial.default = runs.default in
      ordered_keeps_the_default m initial target p (one, own)
      (after_distinct size initial.list p.list script k runs.edited di)
      (ordered k p.list runs.edited) (i ∙ sym own) (t ∙ sym own)
      ∙ own

  never_the_other : (both ever : Action) → both ≢ ever → initial.default ≡ both → Never both ever size initial target script
  never_the_other both ever apart e m i t k p runs f =
      apart (sym e ∙ sym (way_keeps_the_default m (i ∙ sym e) (t ∙ sym e) k p runs) ∙ f)

  keeps_the_default : KeepsTheDefault size initial target script
  keeps_the_default =
      record {
        deny = never_the_other Deny Permit (λ e. permit_not_deny (sym e));
        permit = never_the_other Permit Deny permit_not_deny;
      }

pub not_full_keeps_the_default : NotFullKeepsTheDefault
not_full_keeps_the_default size initial target script one di dt not_full =
    keeps_the_default size initial target script one di
    ((verdict_not_full size initial.list target.list script di dt).0 not_full).1

-- The lists of the script for append and delete are ordered.
plan_one_ordered : (size : ℕ) (initial target : List ℕ) → Admitted size initial → Admitted size target
    → (k : ℕ) (l : List ℕ) → After size initial (plan_one initial target) k l → Orderly initial target l
plan_one_ordered size initial target first last =
    steps_after (Orderly initial target) (λ l m. Unit {0}) size initial target (plan_one initial target)
    (plan_one_steps size initial target first last)

pub plan_one_verdict : PlanOneVerdict
plan_one_verdict size initial target first last =
    all_ordered_passes size initial target (plan_one initial target) first.distinct last.distinct
    (plan_one_reaches size initial target first last).1
    (λ k l after. (plan_one_ordered size initial target first last k l after).ordered)

pub plan_one_keeps_the_default : PlanOneKeepsTheDefault
plan_one_keeps_the_default size initial target one first last =
    keeps_the_default size initial target (plan_one initial.list target.list) one first.distinct
    (λ k l after. (plan_one_ordered size initial.list target.list first last k l after).ordered)

-- The lists of the script for insert, delete and move are ordered and full.
sound_safe : (size : ℕ) (initial target : List ℕ) (script : List Command) → Distinct initial → Distinct target
    → Steps (Sound initial target) (Forward initial target) size initial script target
    → verdict_numbers (verdict size initial target script) ≡ 32 ∷ []
sound_safe size initial target script di dt steps =
    let sound = steps_after (Sound initial target) (Forward initial target) size initial target script steps in
    (verdict_safe size initial target script di dt).1 (
      steps_leads (Sound initial target) (Forward initial target) size initial target script steps,
      λ k l after. (sound k l after).ordered,
      λ k l after. (sound k l after).full,
    )

pub plan_two_verdict : PlanTwoVerdict
plan_two_verdict size initial target keep a =
    sound_safe size initial target (plan_two initial target keep) a.first.distinct a.last.distinct
    (plan_two_steps size initial target keep a)

-- what holds of a list under a default holds of the policy that has both
relist : (P : Policy → Type 0) (default : Action) (p : Policy) → default ≡ p.default → P (under default p.list) → P p
relist P default p e h = rw e at h

pub plan_two_changes_once : PlanTwoChangesOnce
plan_two_changes_once m size initial target keep one a =
    let script = plan_two initial.list target.list keep in
    relist (λ t. ChangesOnce m size initial t script (change_point m t (policies size initial script))) initial.default target one
    (steps_change_once m initial.default size initial.list target.list initial.list script
    (plan_two_steps size initial.list target.list keep a))

-- "I = T": type 1 keeps every rule, and the count leaves no command. In type 2 each rule of the target stands right after the
-- front when it is taken, kept or not; so it joins the front, settled, and nothing is sent.
plan_one_nothing : (initial : List ℕ) → Distinct initial → plan_one initial initial ≡ []
plan_one_nothing initial d =
    length_nil (plan_one initial initial) (omega (arith, plan_one_count initial initial d, ap length (kept_run_self initial)))

take_nothing : (initial kept : List ℕ) (front : List Standing) (r : ℕ) (rest : List ℕ) → In r initial
    → ((take_one initial kept (record { front = front; rest = r ∷ rest }) r).sent ≡ [])
    × ((take_one initial kept (record { front = front; rest = r ∷ rest }) r).next
    ≡ record { front = front ++ (settled r ∷ []); rest = rest })
unfolding take_one reached raised move_up mem before after without
take_nothing initial kept front r rest h =
    let here = eq-eqb r r refl in
    by_test (mem r kept)
    (λ t. rw (in_mem r initial h, t, here) (refl, refl))
    (λ f. rw (in_mem r initial h, f, here) (refl, refl))

take_all_nothing : (initial kept : List ℕ) (front : List Standing) (ts : List ℕ) → Within ts initial
    → ((take_all initial kept (record { front = front; rest = ts }) ts).sent ≡ [])
    × ((take_all initial kept (record { front = front; rest = ts }) ts).next.front ≡ front ++ map settled ts)
unfolding take_all
take_all_nothing initial kept front [] w = (refl, refl)
take_all_nothing initial kept front (r ∷ ts) w =
    let one = take_nothing initial kept front r ts (w r (Memᴰ.head refl)) in
    let others = take_all_nothing initial kept (front ++ (settled r ∷ [])) ts (λ x h. w x (Memᴰ.tail h)) in
    let then : Halves → Taken = λ h. take_all initial kept h ts in (
      rw one.0 (ap (λ (h : Halves). (then h).sent) one.1 ∙ others.0),
      ap (λ (h : Halves). (then h).next.front) one.1 ∙ others.1 ∙ append_snoc front (settled r) (map settled ts),
    )

take_waiting_nothing : (target : List ℕ) (front : List Standing) (done : List ℕ)
    → ((w : ℕ) → ¬ Memᴰ (waiting w) front) → take_waiting target front done ≡ []
unfolding take_waiting
take_waiting_nothing target [] done n = refl
take_waiting_nothing target (settled r ∷ front) done n =
    take_waiting_nothing target front (r ∷ done) (λ w h. n w (Memᴰ.tail h))
take_waiting_nothing target (waiting r ∷ front) done n = absurd (n r (Memᴰ.head refl))

plan_two_nothing : (initial : List ℕ) (keep : Option (List ℕ)) → plan_two initial initial keep ≡ []
unfolding plan_two first_stage second_stage
plan_two_nothing initial keep =
    let one = take_all_nothing initial (kept_two initial initial keep) [] initial (λ r h. h) in
    let settles = take_waiting_nothing initial (reverse (map settled initial)) []
    (λ w h. let from = Memᴰ.of_map settled initial (reverse_in (waiting w) (map settled initial) h) in
    settled_waiting from.0 w from.2) in
    rw (one.0, one.1) settles

pub nothing_to_do : NothingToDo
unfolding verdict_numbers
nothing_to_do size initial keep d = (
  plan_one_nothing initial d,
  plan_two_nothing initial keep,
  sound_safe size initial initial [] d d (initial_sound initial initial d, refl),
)

-- "A planned script .. never exceeds 1,024 commands"
pub plans_fit : PlansFit
plans_fit size initial target keep a fi ft = (
  omega (arith, plan_one_count initial target a.first.distinct),
  omega (arith, plan_two_count size initial target keep a),
)
