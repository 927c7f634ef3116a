-- One rule of the target in the first stage: what the planner holds stands for the two halves of the definition, before and after.
-- The running list is the front, then the rest; a rule that joins settled is marked. Assumes nothing.
use Prim.Native.Nat.{ℕ, suc, ◌+◌, ◌*◌, ◌<◌}
use native.Mathlib.Omega.{arith}
use mathlib.Core.Path.{◌≡◌, refl, sym, ◌∙◌, ap, ap₂}
use mathlib.Core.Bool.{Bool, true, false}
use mathlib.Core.List.{List, [], ◌∷◌, ◌++◌, map, map-append, append_assoc, append-nil}
use lib.Dec.{eqb}
use lib.ListN.{length, drop, set, length-append, length-map, length-set}
use lib.Seq.{append_snoc, drop_at, sets}
use Rattle.policy.specs.Lists.{mem, before, after, without}
use Rattle.policy.specs.Properties.{In}
use Rattle.policy.specs.Command.{coded, placed, moved}
use Rattle.policy.specs.InsertDeleteMove.{Standing, settled, waiting, rule_of, Halves, inserted, reached, raised, left, move_up}
use Rattle.policy.specs.declared.Command.{Command}
use Rattle.policy.specs.declared.Command.TheVariants.{Ins, Mov}
use Rattle.policy.proofs.Tests.{by_test, truly, or_neither}
use Rattle.policy.proofs.Lists.{mem_in, not_in, length_nil, before_after}
use Rattle.policy.proofs.Commands.{placed_at, moved_at}
use Rattle.policy.proofs.Stages.{rules_join}
use Rattle.deployment.specs.Values.{coded_bytes}
use Rattle.running.specs.declared.Running.{Running}
use Rattle.running.specs.Running.{view}
use Rattle.first_stage.specs.declared.Stage.{Stage}
use Rattle.plans.specs.Sending.{Sent}
use Rattle.first_stage.specs.Looking.{until}
use Rattle.first_stage.specs.FirstStage.{settled_in, Stands, takes, Did}
use Rattle.plans.proofs.Sending.{none_sent, one_sent}
use Rattle.plans.proofs.Marked.{marks_more}

-- The settled rules of a front.
settled_append : (u v : List Standing) → settled_in (u ++ v) ≡ settled_in u ++ settled_in v
unfolding settled_in
settled_append [] v = refl
settled_append (settled r ∷ u) v = ap (λ (l : List ℕ). r ∷ l) (settled_append u v)
settled_append (waiting r ∷ u) v = settled_append u v

none_settled : (l : List ℕ) → settled_in (map waiting l) ≡ []
unfolding settled_in
none_settled [] = refl
none_settled (x ∷ l) = none_settled l

-- rules that join waiting are not among them
pub settled_join : (front : List Standing) (l : List ℕ) → settled_in (front ++ map waiting l) ≡ settled_in front
settled_join front l =
    settled_append front (map waiting l) ∙ ap (λ (m : List ℕ). settled_in front ++ m) (none_settled l) ∙ append-nil (settled_in front)

-- How many stand before a rule.
until_before : (r : ℕ) (l : List ℕ) → until (λ x. eqb x r) l ≡ length (before r l)
unfolding until before
until_before r [] = refl
until_before r (x ∷ l) = by_test (eqb x r) (λ t. rw t) (λ f. rw f (ap suc (until_before r l)))

before_all : (r : ℕ) (l : List ℕ) → mem r l ≡ false → before r l ≡ l
unfolding mem before
before_all r [] f = refl
before_all r (x ∷ l) f =
    let both = or_neither (eqb x r) (mem r l) f in
    rw both.0 (ap (λ (m : List ℕ). x ∷ m) (before_all r l both.1))

-- a move over some rules
move_over : (n : ℕ) (between : List ℕ) → ¬ (length between ≡ 0) → move_up n between ≡ Mov (suc (n + length between)) (suc n) ∷ []
unfolding move_up
move_over n [] some = absurd (some refl)
move_over n (x ∷ between) some = refl

-- A rule joins the front, settled, and those between join waiting.
stands_joined : (stage : Stage) (h : Halves) → Stands stage h
    → (list : Running) (front r sent : ℕ) (between rest : List ℕ) → r < 1024 → front ≡ stage.front + suc (length between)
    → view list ≡ map rule_of h.front ++ (between ++ (r ∷ rest))
    → Stands (record { list = list; front = front; settled = set stage.settled r true; sent = sent })
    (record { front = h.front ++ (map waiting between ++ (settled r ∷ [])); rest = rest })
unfolding rule_of settled_in
stands_joined stage h st list front r sent between rest small counted is =
    let joins : h.front ++ (map waiting between ++ (settled r ∷ [])) ≡ (h.front ++ map waiting between) ++ (settled r ∷ []) =
    sym (append_assoc h.front (map waiting between) (settled r ∷ [])) in
    let u = map rule_of h.front in
    let long : length (map waiting between) ≡ length between = length-map between waiting in
    record {
      is =
          is
          ∙ sym (append_assoc u between (r ∷ rest))
          ∙ sym (append_snoc (u ++ between) r rest)
          ∙ ap (λ (m : List ℕ). m ++ rest)
          (ap (λ (m : List ℕ). m ++ (r ∷ [])) (sym (rules_join h.front between))
          ∙ sym (map-append rule_of (h.front ++ map waiting between) (settled r ∷ []))
          ∙ ap (map rule_of) (sym joins));
      counted =
          omega (
            arith,
            counted,
            st.counted,
            long,
            length-append h.front (map waiting between ++ (settled r ∷ [])),
            length-append (map waiting between) (settled r ∷ []),
          );
      marks =
          rw (joins, settled_append (h.front ++ map waiting between) (settled r ∷ []), settled_join h.front between)
          (marks_more stage.settled (settled_in h.front) r st.marks st.slots small);
      slots = length-set stage.settled r true ∙ st.slots;
    }

-- One rule of the target, by the four cases.
module _ (stage : Stage) (h : Halves) (st : Stands stage h) (r : ℕ) (field : List ℕ) (long : length field ≡ 5124) (room : stage.sent < 1024) where
  counted : suc (length (map rule_of h.front)) ≡ stage.front + 1
  counted = omega (arith, st.counted, length-map h.front rule_of)

  -- the rule is looked for in the rest
  found : (at : ℕ) → at ≡ stage.front + until (λ x. eqb x r) (drop stage.front (view stage.list))
      → at ≡ stage.front + length (before r h.rest)
  found at e =
      let rest : drop stage.front (view stage.list) ≡ h.rest =
      ap (drop stage.front) st.is ∙ drop_at (map rule_of h.front) h.rest stage.front (omega (arith, counted)) in
      e ∙ ap (λ (n : ℕ). stage.front + n) (ap (until (λ x. eqb x r)) rest ∙ until_before r h.rest)

  cut : In r h.rest → view stage.list ≡ map rule_of h.front ++ (before r h.rest ++ (r ∷ after r h.rest))
  cut there = st.is ∙ ap (λ (l : List ℕ). map rule_of h.front ++ l) (before_after r h.rest there)

  none_put : (written : List ℕ) → written ≡ field → Sent field stage.sent [] written
  none_put written e = rw e (none_sent field stage.sent long (omega arith))

  one_put : (c d : Command) (written : List ℕ) → c ≡ d → written ≡ sets field (4 + 5 * stage.sent) (coded_bytes (coded c))
      → Sent field stage.sent (d ∷ []) written
  one_put c d written same e = rw same at (one_sent stage.sent c long room e)

  module _ (small : r < 1024) (old keep : Bool) (next : Stage) (written : List ℕ) where
    -- "not in the initial policy: insert it right after the front; it joins, settled"
    pub did_insert : (list : Running) → old ≡ false
        → view list ≡ placed (stage.front + 1) r (view stage.list)
        → next ≡ record { list = list; front = stage.front + 1; settled = set stage.settled r true; sent = stage.sent + 1 }
        → written ≡ sets field (4 + 5 * stage.sent) (coded_bytes (coded (Ins (stage.front + 1) r)))
        → Did stage field (takes old keep h r) next written
    unfolding takes inserted
    did_insert list new is made put =
        rw (new, made) (record {
          stands =
              stands_joined stage h st list (stage.front + 1) r (stage.sent + 1) [] h.rest small refl
              (is ∙ placed_at r (map rule_of h.front) h.rest (sym counted) st.is);
          counted = refl;
          sent =
              one_put (Ins (stage.front + 1) r) (Ins (suc (length h.front)) r) written
              (ap (λ (i : ℕ). Ins i r) (omega (arith, st.counted))) put;
        })

    module _ (common : old ≡ true) (at : ℕ) (is_at : at ≡ stage.front + until (λ x. eqb x r) (drop stage.front (view stage.list))) where
      -- "kept: every rule between the front and it joins the front, waiting; it joins, settled"
      pub did_reach : keep ≡ true → In r h.rest
          → next ≡ record { list = stage.list; front = at + 1; settled = set stage.settled r true; sent = stage.sent }
          → written ≡ field
          → Did stage field (takes old keep h r) next written
      unfolding takes reached
      did_reach kept there made same =
          rw (common, kept, made) (record {
            stands =
                stands_joined stage h st stage.list (at + 1) r stage.sent (before r h.rest) (after r h.rest) small
                (omega (arith, found at is_at)) (cut there);
            counted = omega arith;
            sent = none_put written same;
          })

      module _ (other : keep ≡ false) where
        -- "already in the front: it waits"
        pub did_pass : at ≡ length (view stage.list) → next ≡ stage → written ≡ field → Did stage field (takes old keep h r) next written
        unfolding takes left
        did_pass end made same =
            let absent : mem r h.rest ≡ false =
            not_in r h.rest (λ there.
            omega (
              arith,
              found at is_at,
              st.counted,
              ap length (cut there),
              length-append (map rule_of h.front) (before r h.rest ++ (r ∷ after r h.rest)),
              length-append (before r h.rest) (r ∷ after r h.rest),
              counted,
            )) in
            rw (common, other, absent, made) (record { stands = st; counted = omega arith; sent = none_put written same })

        module _ (early : ¬ (at ≡ length (view stage.list))) where
          present : mem r h.rest ≡ true
          present =
              truly (λ f. early (
              found at is_at
              ∙ omega (
                arith,
                counted,
                ap length (before_all r h.rest f),
                ap length st.is,
                length-append (map rule_of h.front) h.rest,
              )))

          -- "common, not kept, not yet in the front: .. send nothing if it stands there; it joins, settled"
          pub did_stay : at ≡ stage.front
              → next ≡ record { list = stage.list; front = stage.front + 1; settled = set stage.settled r true; sent = stage.sent }
              → written ≡ field
              → Did stage field (takes old keep h r) next written
          unfolding takes raised without move_up
          did_stay here made same =
              let none : before r h.rest ≡ [] = length_nil (before r h.rest) (omega (arith, found at is_at)) in
              rw (common, other, present, made, none) (record {
                stands =
                    stands_joined stage h st stage.list (stage.front + 1) r stage.sent [] (after r h.rest) small refl
                    (rw none at (cut (mem_in r h.rest present)));
                counted = omega arith;
                sent = none_put written same;
              })

          -- "move it right after the front .. it joins, settled"
          pub did_move : (list : Running) → ¬ (at ≡ stage.front)
              → view list ≡ moved (at + 1) (stage.front + 1) (view stage.list)
              → next ≡ record { list = list; front = stage.front + 1; settled = set stage.settled r true; sent = stage.sent + 1 }
              → written ≡ sets field (4 + 5 * stage.sent) (coded_bytes (coded (Mov (at + 1) (stage.front + 1))))
              → Did stage field (takes old keep h r) next written
          unfolding takes raised without
          did_move list away is made put =
              let u = map rule_of h.front in
              let b = before r h.rest in
              let a = after r h.rest in
              let sent = move_over (length h.front) b (λ e. away (found at is_at ∙ omega arith)) in
              rw (common, other, present, made, sent) (record {
                stands =
                    stands_joined stage h st list (stage.front + 1) r (stage.sent + 1) [] (b ++ a) small refl
                    (is ∙ moved_at (u ++ b) r a u (b ++ a)
                    (omega (arith, found at is_at, counted, length-append u b))
                    (cut (mem_in r h.rest present) ∙ sym (append_assoc u b (r ∷ a)))
                    (sym counted)
                    (append_assoc u b a));
                counted = refl;
                sent =
                    one_put (Mov (at + 1) (stage.front + 1)) (Mov (suc (length h.front + length b)) (suc (length h.front))) written
                    (ap₂ (λ (i j : ℕ). Mov i j) (omega (arith, found at is_at, st.counted)) (omega (arith, st.counted))) put;
              })
