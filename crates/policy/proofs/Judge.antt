-- The judge: its tests against the properties, then the rows of its table. The idea: one of the rows always holds, and the
-- definition answers any row that holds, so it answers exactly that one. Assumes nothing.
use Prim.Native.Nat.{ℕ, zero, suc, ◌+◌, ◌<◌, suc-le-suc}
use native.Mathlib.Nat.{add-zero, zero-add, not-suc-le-zero, le_of_suc-le-suc}
use native.Mathlib.Omega.{arith}
use mathlib.Core.Path.{◌≡◌, refl, sym, ◌∙◌, ap, subst}
use mathlib.Core.Bool.{Bool, true, false}
use mathlib.Core.Logic.{◌⊎◌, inl, inr, ⊎_elim, ⊎_map, ◌↔◌, ◌≢◌}
use mathlib.Core.List.{List, [], ◌∷◌}
use mathlib.Core.Option.{none, some}
use lib.ListN.{length, take, drop, get_or, length-append}
use lib.Seq.{length-take-le, split_at, get_or-append_seam}
use Rattle.policy.specs.Lists.{all, mem, contains, before, same}
use Rattle.policy.specs.Command.{fault_number}
use Rattle.policy.specs.Replay.{lists}
use Rattle.policy.specs.Judge.{supported_by, supported, ordered, full, first_failing, first_unsupported, first_unordered}
use Rattle.policy.specs.Judge.{judged, verdict, verdict_numbers}
use Rattle.policy.specs.Properties.{In, Distinct, SupportedBy, Supported, Ordered, Full, Leads, After, StandsAt}
use Rattle.policy.specs.Claims.{BreaksAt, VerdictBroken, VerdictElsewhere, FirstUnsupported, FirstUnordered}
use Rattle.policy.specs.Claims.{VerdictUnordered, AllOrdered, VerdictNotFull, VerdictSafe}
use Rattle.policy.specs.declared.Command.{Command}
use Rattle.policy.specs.declared.Fault.{Fault}
use Rattle.policy.specs.declared.Verdict.{Verdict}
use Rattle.policy.specs.declared.Verdict.TheVariants.{Broken, Elsewhere, Unordered, NotFull, Safe}
use Rattle.policy.proofs.Tests.{by_test, never, and_both, both_and, or_either, either_or, falsely, not_first, not_second}
use Rattle.policy.proofs.Numbers.{verdict_numbers_differ}
use Rattle.policy.proofs.Lists.{mem_in, in_mem, place_in_lem, all_in, in_all, contains_within, within_contains, same_eq}
use Rattle.policy.proofs.Lists.{same_refl, in_middle}
use Rattle.policy.proofs.Order.{before_precedes, precedes_before}
use Rattle.policy.proofs.Commands.{fails_with}
use Rattle.policy.proofs.Replay.{leads_replays, breaks_replays, leads_or_breaks, lists_are_after, lists_after}
use Rattle.policy.proofs.Replay.{after_distinct}

-- The first element that fails a test, by its number from 0.
record FailsFirst {A : Type 0} (test : A → Bool) (d : A) (l : List A) (k : ℕ) : Type 0 where
  inside : k < length l
  fails : test (get_or l k d) ≡ false
  earlier : (j : ℕ) → j < k → test (get_or l j d) ≡ true

module _ {A : Type 0} (test : A → Bool) (d : A) where
  fails_later : (x : A) (l : List A) (k : ℕ) → test x ≡ true → FailsFirst test d l k → FailsFirst test d (x ∷ l) (suc k)
  fails_later x l k t h = record { inside = suc-le-suc h.inside; fails = h.fails; earlier = earlier }
    where
      earlier : (j : ℕ) → j < suc k → test (get_or (x ∷ l) j d) ≡ true
      earlier zero s = t
      earlier (suc j) s = h.earlier j (le_of_suc-le-suc s)

  later_fails : (x : A) (l : List A) (k : ℕ) → FailsFirst test d (x ∷ l) (suc k) → FailsFirst test d l k
  later_fails x l k h =
      record { inside = le_of_suc-le-suc h.inside; fails = h.fails; earlier = λ j s. h.earlier (suc j) (suc-le-suc s) }

  all_or_first : (l : List A) → (all test l ≡ true) ⊎ ((k : ℕ) × FailsFirst test d l k)
  unfolding all
  all_or_first [] = inl refl
  all_or_first (x ∷ l) =
      by_test (test x)
      (λ t. ⊎_elim (λ h. inl (both_and t h)) (λ h. inr (suc h.0, fails_later x l h.0 t h.1)) (all_or_first l))
      (λ f. inr (0, record { inside = omega arith; fails = f; earlier = λ j s. absurd (not-suc-le-zero s) }))

  at_all : (l : List A) → ((k : ℕ) → k < length l → test (get_or l k d) ≡ true) → all test l ≡ true
  at_all l h = not_second (λ f. never (h f.0 f.1.inside) f.1.fails) (all_or_first l)

-- The rule at a place, by its number from 0.
pub place_stands : (l : List ℕ) (k : ℕ) → k < length l → StandsAt l (suc k) (get_or l k 0)
place_stands l k h = record {
  left = take k l;
  right = drop (suc k) l;
  is = split_at l k 0 h;
  counted = ap suc (sym (length-take-le k l (omega arith)));
}

stands_place : {l : List ℕ} {place r : ℕ} (s : StandsAt l place r)
    → (length s.left < length l) × (get_or l (length s.left) 0 ≡ r)
stands_place {r} s = (
  omega (arith, ap length s.is, length-append s.left (r ∷ s.right)),
  rw s.is (get_or-append_seam s.left r s.right 0),
)

stands_in : {l : List ℕ} {place r : ℕ} → StandsAt l place r → In r l
stands_in {r} s = rw s.is (in_middle r s.left s.right)

-- The tests of one list, where no rule stands twice: what they find holds, and what holds they find.
supported_by_sound : (policy running : List ℕ) (r : ℕ) → Distinct policy → In r running
    → supported_by policy running r ≡ true → SupportedBy policy running r
unfolding supported_by
supported_by_sound policy running r d h e =
    let both = and_both (mem r policy) (contains (before r running) (before r policy)) e in
    let within = contains_within (before r running) (before r policy) both.1 in
    record {
      named = mem_in r policy both.0;
      led = λ x p. before_precedes x r running h (within x (precedes_before x r policy d p));
    }

supported_by_complete : (policy running : List ℕ) (r : ℕ) → Distinct running
    → SupportedBy policy running r → supported_by policy running r ≡ true
unfolding supported_by
supported_by_complete policy running r d s =
    both_and (in_mem r policy s.named)
    (within_contains (before r running) (before r policy)
    (λ x h. precedes_before x r running d (s.led x (before_precedes x r policy s.named h))))

full_sound : (initial target running : List ℕ) → full initial target running ≡ true → Full initial target running
unfolding full
full_sound initial target running e =
    ⊎_map (contains_within running initial) (contains_within running target)
    (or_either (contains running initial) (contains running target) e)

full_complete : (initial target running : List ℕ) → Full initial target running → full initial target running ≡ true
unfolding full
full_complete initial target running h =
    either_or (⊎_map (within_contains running initial) (within_contains running target) h)

module _ (initial target : List ℕ) (di : Distinct initial) (dt : Distinct target) (running : List ℕ) (d : Distinct running) where
  supported_sound : (r : ℕ) → In r running → supported initial target running r ≡ true → Supported initial target running r
  unfolding supported
  supported_sound r h e =
      ⊎_map (supported_by_sound initial running r di h) (supported_by_sound target running r dt h)
      (or_either (supported_by initial running r) (supported_by target running r) e)

  supported_complete : (r : ℕ) → Supported initial target running r → supported initial target running r ≡ true
  unfolding supported
  supported_complete r s =
      either_or (⊎_map (supported_by_complete initial running r d) (supported_by_complete target running r d) s)

  ordered_sound : ordered initial target running ≡ true → Ordered initial target running
  unfolding ordered
  ordered_sound e r h = supported_sound r h (all_in (supported initial target running) running e r h)

  ordered_complete : Ordered initial target running → ordered initial target running ≡ true
  unfolding ordered
  ordered_complete o = in_all (supported initial target running) running (λ r h. supported_complete r (o r h))

  unsupported_sound : (j : ℕ) → FailsFirst (supported initial target running) 0 running j
      → FirstUnsupported initial target running (suc j)
  unsupported_sound j h = record {
    rule = get_or running j 0;
    stands = place_stands running j h.inside;
    unsupported = λ s. never (supported_complete (get_or running j 0) s) h.fails;
    first = λ b r less s.
        supported_sound r (stands_in s)
        (rw (stands_place s).1 at (h.earlier (length s.left) (omega (arith, s.counted))));
  }

  unsupported_complete : (place : ℕ) → FirstUnsupported initial target running place
      → (j : ℕ) × (place ≡ suc j) × FailsFirst (supported initial target running) 0 running j
  unsupported_complete place u =
      let s = u.stands in
      let at = stands_place s in (
        length s.left,
        s.counted,
        record {
          inside = at.0;
          fails = falsely (λ t. u.unsupported (supported_sound u.rule (stands_in s) (rw at.1 at t)));
          earlier = λ j less.
              supported_complete (get_or running j 0)
              (u.first (suc j) (get_or running j 0) (omega (arith, s.counted)) (place_stands running j (omega (arith, at.0))));
        },
      )

-- The judge's two searches find the first that fails.
all_found : (test : ℕ → Bool) (from : ℕ) (l : List ℕ) → all test l ≡ true → first_failing test from l ≡ none
unfolding all first_failing
all_found test from [] e = refl
all_found test from (x ∷ l) e =
    let both = and_both (test x) (all test l) e in rw both.0 (all_found test (suc from) l both.1)

first_found : (test : ℕ → Bool) (from : ℕ) (l : List ℕ) (k : ℕ) → FailsFirst test 0 l k
    → first_failing test from l ≡ some (from + k)
unfolding first_failing
first_found test from [] k h = absurd (not-suc-le-zero h.inside)
first_found test from (x ∷ l) zero h = rw (h.fails, add-zero from)
first_found test from (x ∷ l) (suc k) h =
    rw (h.earlier 0 (omega arith)) (first_found test (suc from) l k (later_fails test 0 x l k h) ∙ ap some (omega arith))

module _ (initial target : List ℕ) where
  pub ordered_found : (l : List ℕ) → ordered initial target l ≡ true → first_unsupported initial target l ≡ none
  unfolding ordered first_unsupported
  ordered_found l e = all_found (supported initial target l) 1 l e

  unsupported_found : (l : List ℕ) (j : ℕ) → FailsFirst (supported initial target l) 0 l j
      → first_unsupported initial target l ≡ some (suc j)
  unfolding first_unsupported
  unsupported_found l j h = first_found (supported initial target l) 1 l j h ∙ ap some (omega arith)

  all_ordered_found : (from : ℕ) (way : List (List ℕ)) → all (ordered initial target) way ≡ true
      → first_unordered initial target from way ≡ none
  unfolding all first_unordered
  all_ordered_found from [] e = refl
  all_ordered_found from (l ∷ way) e =
      let both = and_both (ordered initial target l) (all (ordered initial target) way) e in
      rw (ordered_found l both.0, first_unordered) (all_ordered_found (suc from) way both.1)

  unordered_found : (from : ℕ) (way : List (List ℕ)) (k j : ℕ) → FailsFirst (ordered initial target) [] way k
      → FailsFirst (supported initial target (get_or way k [])) 0 (get_or way k []) j
      → first_unordered initial target from way ≡ some (from + k, suc j)
  unfolding first_unordered
  unordered_found from [] k j h u = absurd (not-suc-le-zero h.inside)
  unordered_found from (l ∷ way) zero j h u = rw (unsupported_found l j u, first_unordered, add-zero)
  unordered_found from (l ∷ way) (suc k) j h u =
      rw (ordered_found l (h.earlier 0 (omega arith)), first_unordered)
      (unordered_found (suc from) way k j (later_fails (ordered initial target) [] l way k h) u
      ∙ ap (λ (n : ℕ). some (n, suc j)) (omega arith))

-- The rows of the table, the last three with the tests.
module _ (size : ℕ) (initial target : List ℕ) (script : List Command) where
  abbrev way : List (List ℕ)
  way = lists size initial script

  abbrev Row : Verdict → Type 0
  Row (Broken fault at) = BreaksAt size initial script (fault_number fault) at
  Row (Elsewhere n) = (l : List ℕ) × (n ≡ length script) × Leads size initial script l × (l ≢ target)
  Row (Unordered at place) =
      Leads size initial script target
      × FailsFirst (ordered initial target) [] way at
      × ((j : ℕ) × (place ≡ suc j) × FailsFirst (supported initial target (get_or way at [])) 0 (get_or way at []) j)
  Row NotFull =
      Leads size initial script target × (all (ordered initial target) way ≡ true) × (all (full initial target) way ≡ false)
  Row Safe = Leads size initial script target × (all (ordered initial target) way ≡ true) × (all (full initial target) way ≡ true)

  judged_row : Leads size initial script target → (v : Verdict) × Row v
  unfolding ordered
  judged_row leads =
      ⊎_elim
      (λ o. by_test (all (full initial target) way) (λ f. (Safe, (leads, o, f))) (λ f. (NotFull, (leads, o, f))))
      (λ o. let l = get_or way o.0 [] in
      let u = not_first (λ e. never e o.1.fails) (all_or_first (supported initial target l) 0 l) in
      (Unordered o.0 (suc u.0), (leads, o.1, (u.0, refl, u.1))))
      (all_or_first (ordered initial target) [] way)

  some_row : (v : Verdict) × Row v
  some_row =
      ⊎_elim
      (λ h. by_test (same h.0 target)
      (λ t. judged_row (rw (same_eq h.0 target t) at h.1))
      (λ f. (Elsewhere (length script), (h.0, refl, h.1, λ e. never (rw e (same_refl target)) f))))
      (λ h. (Broken h.0 h.1, h.2))
      (leads_or_breaks size initial script)

  reaches_judged : Leads size initial script target → verdict size initial target script ≡ judged initial target way
  unfolding verdict
  reaches_judged leads = rw (leads_replays size initial target script leads, same_refl target, verdict)

  row_verdict : (v : Verdict) → Row v → verdict size initial target script ≡ v
  unfolding verdict judged
  row_verdict (Broken fault at) h = rw (breaks_replays size initial script fault at h, verdict)
  row_verdict (Elsewhere n) (l, counted, leads, other) =
      rw (leads_replays size initial l script leads, verdict, falsely (λ t. other (same_eq l target t)), counted)
  row_verdict (Unordered at place) (leads, first, (j, counted, u)) =
      reaches_judged leads ∙ rw (unordered_found initial target 0 way at j first u, judged, zero-add, counted)
  row_verdict NotFull (leads, o, f) = reaches_judged leads ∙ rw (all_ordered_found initial target 0 way o, f, judged)
  row_verdict Safe (leads, o, f) = reaches_judged leads ∙ rw (all_ordered_found initial target 0 way o, f, judged)

  verdict_row : (v : Verdict) → verdict size initial target script ≡ v → Row v
  verdict_row v e = subst (λ (w : Verdict). Row w) (sym (row_verdict some_row.0 some_row.1) ∙ e) some_row.1

  -- the lists on the way, by the tests and by the properties
  way_test : (test : List ℕ → Bool) → all test way ≡ true → (k : ℕ) (l : List ℕ) → After size initial script k l → test l ≡ true
  way_test test e k l h =
      let at = lists_are_after size initial script k l h in
      rw at.1 at (all_in test way e (get_or way k []) (place_in_lem [] way k at.0))

  test_way : (test : List ℕ → Bool) → Leads size initial script target
      → ((k : ℕ) (l : List ℕ) → After size initial script k l → test l ≡ true) → all test way ≡ true
  test_way test leads h =
      at_all test [] way (λ k less. h k (get_or way k []) (lists_after size initial target script leads k less))

  all_full_sound : all (full initial target) way ≡ true
      → (k : ℕ) (l : List ℕ) → After size initial script k l → Full initial target l
  all_full_sound e k l h = full_sound initial target l (way_test (full initial target) e k l h)

  not_full_sound : Leads size initial script target → all (full initial target) way ≡ false
      → (k : ℕ) × (l : List ℕ) × After size initial script k l × ¬ Full initial target l
  not_full_sound leads e =
      let (k, f) = not_first (λ t. never t e) (all_or_first (full initial target) [] way) in
      let l = get_or way k [] in
      let after = lists_after size initial target script leads k f.inside in
      (k, l, after, λ t. never (full_complete initial target l t) f.fails)

  module _ (di : Distinct initial) (dt : Distinct target) where
    after_sound : (k : ℕ) (l : List ℕ) → After size initial script k l
        → ordered initial target l ≡ true → Ordered initial target l
    after_sound k l h = ordered_sound initial target di dt l (after_distinct size initial l script k h di)

    after_complete : (k : ℕ) (l : List ℕ) → After size initial script k l
        → Ordered initial target l → ordered initial target l ≡ true
    after_complete k l h = ordered_complete initial target di dt l (after_distinct size initial l script k h di)

    all_ordered_sound : all (ordered initial target) way ≡ true → AllOrdered size initial target script
    all_ordered_sound e k l h = after_sound k l h (way_test (ordered initial target) e k l h)

    all_ordered_complete : Leads size initial script target → AllOrdered size initial target script
        → all (ordered initial target) way ≡ true
    all_ordered_complete leads o = test_way (ordered initial target) leads (λ k l h. after_complete k l h (o k l h))

    unordered_sound : (at place : ℕ) → Row (Unordered at place) → FirstUnordered size initial target script at place
    unordered_sound at place (leads, first, (j, counted, u)) =
        let l = get_or way at [] in
        let after : After size initial script at l = lists_after size initial target script leads at first.inside in
        let d : Distinct l = after_distinct size initial l script at after di in
        record {
          running = l;
          after = after;
          unsupported = rw counted (unsupported_sound initial target di dt l d j u);
          first = λ k m less h. after_sound k m h (rw (lists_are_after size initial script k m h).1 at (first.earlier k less));
        }

    unordered_complete : (at place : ℕ) → Leads size initial script target → FirstUnordered size initial target script at place
        → Row (Unordered at place)
    unordered_complete at place leads f =
        let l = f.running in
        let after = f.after in
        let u = f.unsupported in
        let (inside, is) = lists_are_after size initial script at l after in
        let d : Distinct l = after_distinct size initial l script at after di in (
          leads,
          record {
            inside = inside;
            fails = rw is (falsely (λ t. u.unsupported (after_sound at l after t u.rule (stands_in u.stands))));
            earlier = λ k less.
                let h = lists_after size initial target script leads k (omega arith) in
                after_complete k (get_or way k []) h (f.first k (get_or way k []) less h);
          },
          rw is (unsupported_complete initial target di dt l d place u),
        )

-- The verdicts by their cases.
module _ (size : ℕ) (initial target : List ℕ) (script : List Command) (di : Distinct initial) (dt : Distinct target) where
  unordered_case : (at place : ℕ) → (verdict size initial target script ≡ Unordered at place)
      ↔ (Leads size initial script target × FirstUnordered size initial target script at place)
  unordered_case at place = (
    λ e. let row = verdict_row size initial target script (Unordered at place) e in
        (row.0, unordered_sound size initial target script di dt at place row),
    λ (leads, first).
        row_verdict size initial target script (Unordered at place)
        (unordered_complete size initial target script di dt at place leads first),
  )

  not_full_case : (verdict size initial target script ≡ NotFull)
      ↔ (Leads size initial script target
      × AllOrdered size initial target script
      × ((k : ℕ) × (l : List ℕ) × After size initial script k l × ¬ Full initial target l))
  not_full_case = (
    λ e. let (leads, o, f) = verdict_row size initial target script NotFull e in
        (leads, all_ordered_sound size initial target script di dt o, not_full_sound size initial target script leads f),
    λ (leads, o, (k, l, h, lacking)).
        row_verdict size initial target script NotFull (
          leads,
          all_ordered_complete size initial target script di dt leads o,
          falsely (λ t. lacking (all_full_sound size initial target script t k l h)),
        ),
  )

  safe_case : (verdict size initial target script ≡ Safe)
      ↔ (Leads size initial script target
      × AllOrdered size initial target script
      × ((k : ℕ) (l : List ℕ) → After size initial script k l → Full initial target l))
  safe_case = (
    λ e. let (leads, o, f) = verdict_row size initial target script Safe e in
        (leads, all_ordered_sound size initial target script di dt o, all_full_sound size initial target script f),
    λ (leads, o, f).
        row_verdict size initial target script Safe (
          leads,
          all_ordered_complete size initial target script di dt leads o,
          test_way size initial target script (full initial target) leads (λ k l h. full_complete initial target l (f k l h)),
        ),
  )

-- The claims: the cases by their numbers.
by_number : {P : Type 0} (w v : Verdict) → (w ≡ v) ↔ P → (verdict_numbers w ≡ verdict_numbers v) ↔ P
by_number w v case = (λ e. case.0 (verdict_numbers_differ w v e), λ p. ap verdict_numbers (case.1 p))

-- a verdict whose number is below 24 and has one value is a replay that breaks
broken_number : (v : Verdict) (number at : ℕ) → number < 24 → verdict_numbers v ≡ number ∷ at ∷ []
    → (fault : Fault) × (fault_number fault ≡ number) × (v ≡ Broken fault at)
unfolding verdict_numbers
broken_number (Broken fault step) number at below e = (fault, cc, ap (Broken fault) (cc))
broken_number (Elsewhere n) number at below e = let first : ◌≡◌ {A = ℕ} 24 number = cc in absurd (omega arith)
broken_number (Unordered step place) number at below e = let first : ◌≡◌ {A = ℕ} 30 number = cc in absurd (omega arith)
broken_number NotFull number at below e = let first : ◌≡◌ {A = ℕ} 31 number = cc in absurd (omega arith)
broken_number Safe number at below e = let first : ◌≡◌ {A = ℕ} 32 number = cc in absurd (omega arith)

pub verdict_broken : VerdictBroken
unfolding verdict_numbers
verdict_broken size initial target script number at below = (
  λ e. let (fault, is, broken) = broken_number (verdict size initial target script) number at below e in
      rw is at (verdict_row size initial target script (Broken fault at) broken),
  λ b. let (fault, is, fails) = fails_with size b.running b.failing number b.fails in
      ap verdict_numbers (row_verdict size initial target script (Broken fault at) (rw is b)) ∙ rw is,
)

pub verdict_elsewhere : VerdictElsewhere
unfolding verdict_numbers
verdict_elsewhere size initial target script n =
    by_number (verdict size initial target script) (Elsewhere n)
    (verdict_row size initial target script (Elsewhere n), row_verdict size initial target script (Elsewhere n))

pub verdict_unordered : VerdictUnordered
unfolding verdict_numbers
verdict_unordered size initial target script at place di dt =
    by_number (verdict size initial target script) (Unordered at place) (unordered_case size initial target script di dt at place)

pub verdict_not_full : VerdictNotFull
unfolding verdict_numbers
verdict_not_full size initial target script di dt =
    by_number (verdict size initial target script) NotFull (not_full_case size initial target script di dt)

pub verdict_safe : VerdictSafe
unfolding verdict_numbers
verdict_safe size initial target script di dt =
    by_number (verdict size initial target script) Safe (safe_case size initial target script di dt)

-- a script of which only the order is known gets one of the last two verdicts
pub all_ordered_passes : (size : ℕ) (initial target : List ℕ) (script : List Command) → Distinct initial → Distinct target
    → Leads size initial script target → AllOrdered size initial target script
    → (verdict_numbers (verdict size initial target script) ≡ 31 ∷ []) ⊎ (verdict_numbers (verdict size initial target script) ≡ 32 ∷ [])
unfolding verdict_numbers
all_ordered_passes size initial target script di dt leads o =
    let found = all_ordered_complete size initial target script di dt leads o in
    by_test (all (full initial target) (lists size initial script))
    (λ t. inr (ap verdict_numbers (row_verdict size initial target script Safe (leads, found, t))))
    (λ f. inl (ap verdict_numbers (row_verdict size initial target script NotFull (leads, found, f))))
