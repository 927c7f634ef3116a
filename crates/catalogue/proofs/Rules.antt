-- Rules as bytes: when a range rises, when two rules are equal, and whether a rule is known to a catalogue. Two rules are equal where
-- their actions are and the bytes behind these, since numbers of one width have the same bytes only where they are equal.
-- Assumes nothing.
use Prim.Native.Nat.{ℕ, ◌+◌, ◌*◌, ◌≤◌, ◌<◌, min}
use native.Mathlib.Nat.{suc-mul, mul-le-mul_right, le-div_iff_mul-le, min-eq_left}
use native.Mathlib.Numerals.{add-one}
use native.Mathlib.Omega.{arith}
use mathlib.Core.Path.{◌≡◌, refl, sym, ◌∙◌, ap, ap₂}
use mathlib.Core.Bool.{Bool, true, false, cond, ◌&&◌, beq}
use mathlib.Core.List.{List, [], ◌∷◌}
use lib.Dec.{eqb, leb}
use lib.ListN.{length, take, drop, get_or, drop_of_length-le}
use borrow.Author.Tests.{leb-true, leb-false}
use lib.Seq.{take_all, length-take-le, drop-cons, get_or-take}
use Rattle.policy.specs.Lists.{same}
use Rattle.policy.specs.Policy.{same_action}
use Rattle.policy.specs.Rule.{Rule}
use Rattle.policy.specs.declared.Action.TheVariants.{Deny, Permit}
use Rattle.policy.proofs.Tests.{by_test, never, and_both, both_and}
use Rattle.policy.proofs.Lists.{same_eq, same_refl}
use Rattle.deployment.specs.Bytes.{number, part}
use Rattle.deployment.specs.Values.{rule_width, action_of, rule_of, range_at, rising, same_rule, known}
use Rattle.deployment.specs.Catalogue.{record_count, catalogue_of}
use Rattle.deployment.specs.Properties.{AreBytes}
use Rattle.deployment.proofs.Records.{part_elements, number_one, record_at, catalogue_length, rule_at_lem}
use Rattle.policy.proofs.Decisions.{same_action_eq, eq_same_action}
use Rattle.deployment.proofs.Values.{bound_bytes, bounds_written, same_rule_eq, same_rule_refl}

-- 5: the protocol has bounds of one byte each
pub rising_protocol : (rule : List ℕ) → 3 ≤ length rule → rising (range_at 1 1 rule) ≡ leb (get_or rule 1 0) (get_or rule 2 0)
unfolding rising range_at
rising_protocol rule fits =
    ap₂ leb (ap number (part_elements 1 0 rule (omega arith)) ∙ sym (number_one (get_or rule 1 0)))
    (ap number (part_elements 2 0 rule (omega arith)) ∙ sym (number_one (get_or rule 2 0)))

-- 6: equal rules.
agree : {p q : Bool} → (p ≡ true → q ≡ true) → (q ≡ true → p ≡ true) → p ≡ q
agree {p} {q} there back = by_test p (λ t. t ∙ sym (there t)) (λ f. by_test q (λ t. never (back t) f) (λ g. f ∙ sym g))

action_test : (p q : Bool) → same_action (cond p Permit Deny) (cond q Permit Deny) ≡ beq p q
unfolding same_action
action_test true true = refl
action_test true false = refl
action_test false true = refl
action_test false false = refl

same_action_lem : (x y : ℕ) → same_action (action_of x) (action_of y) ≡ beq (eqb x 1) (eqb y 1)
unfolding action_of
same_action_lem x y = action_test (eqb x 1) (eqb y 1)

-- a rule's action, and its ranges, which the bytes behind the action decide
rule_action : (x : ℕ) (l : List ℕ) → (rule_of (x ∷ l)).action ≡ action_of x
unfolding rule_of part
rule_action x l = ap action_of (sym (number_one x))

rule_of_action : (x y : ℕ) (l m : List ℕ) → action_of x ≡ action_of y → l ≡ m → rule_of (x ∷ l) ≡ rule_of (y ∷ m)
unfolding rule_of range_at part
rule_of_action x y l m act bounds =
    let acts : (rule_of (x ∷ l)).action ≡ (rule_of (y ∷ m)).action = rule_action x l ∙ act ∙ sym (rule_action y m) in
    λ i.
    record {
      action = acts i;
      protocol = range_at 1 1 (x ∷ bounds i);
      source = range_at 3 4 (x ∷ bounds i);
      source_port = range_at 11 2 (x ∷ bounds i);
      destination = range_at 15 4 (x ∷ bounds i);
      destination_port = range_at 23 2 (x ∷ bounds i);
    }

pub same_rule_bytes : (a b : List ℕ) → AreBytes a → AreBytes b → length a ≡ 27 → length b ≡ 27
    → same_rule (rule_of a) (rule_of b) ≡ (beq (eqb (get_or a 0 0) 1) (eqb (get_or b 0 0) 1) && same (drop 1 a) (drop 1 b))
same_rule_bytes [] b bytes-a bytes-b long-a long-b = absurd (omega arith)
same_rule_bytes (x ∷ l) [] bytes-a bytes-b long-a long-b = absurd (omega arith)
same_rule_bytes (x ∷ l) (y ∷ m) bytes-a bytes-b long-a long-b = agree there back
  where
    there : same_rule (rule_of (x ∷ l)) (rule_of (y ∷ m)) ≡ true → (beq (eqb x 1) (eqb y 1) && same l m) ≡ true
    there t =
        let equal : rule_of (x ∷ l) ≡ rule_of (y ∷ m) = same_rule_eq (rule_of (x ∷ l)) (rule_of (y ∷ m)) t in
        let bounds : l ≡ m =
        sym (bounds_written (x ∷ l) bytes-a long-a) ∙ ap bound_bytes equal ∙ bounds_written (y ∷ m) bytes-b long-b in
        let acts : action_of x ≡ action_of y = sym (rule_action x l) ∙ ap (λ (r : Rule). r.action) equal ∙ rule_action y m in
        both_and (sym (same_action_lem x y) ∙ rw acts (eq_same_action (action_of y) (action_of y) refl)) (rw bounds (same_refl m))

    back : (beq (eqb x 1) (eqb y 1) && same l m) ≡ true → same_rule (rule_of (x ∷ l)) (rule_of (y ∷ m)) ≡ true
    back t =
        let both = and_both (beq (eqb x 1) (eqb y 1)) (same l m) t in
        let act : action_of x ≡ action_of y = same_action_eq (action_of x) (action_of y) (same_action_lem x y ∙ both.0) in
        rw (rule_of_action x y l m act (same_eq l m both.1)) (same_rule_refl (rule_of (y ∷ m)))

-- A rule that a catalogue has, looked for from its first rule on.
module _ (rule : Rule) (catalogue : List Rule) (k : ℕ) where
  module _ (d : Rule) (inside : k < length catalogue) where
    pub known_here : same_rule (get_or catalogue k d) rule ≡ true → known rule (drop k catalogue) ≡ true
    unfolding known
    known_here t = rw (drop-cons catalogue k d inside, t)

    pub known_later : same_rule (get_or catalogue k d) rule ≡ false
        → known rule (drop k catalogue) ≡ known rule (drop (k + 1) catalogue)
    unfolding known
    known_later f = rw (drop-cons catalogue k d inside, f, add-one k)

  pub known_nowhere : length catalogue ≤ k → known rule (drop k catalogue) ≡ false
  unfolding known
  known_nowhere h = rw (drop_of_length-le catalogue h)

-- The first rules of a catalogue: as many bytes as so many records have, and all of them where there are fewer.
pub records_fit : (skip count : ℕ) (bytes : List ℕ) → count ≤ record_count skip bytes → count * (skip + rule_width) ≤ length bytes
unfolding record_count
records_fit skip count bytes h = (le-div_iff_mul-le {k = skip + rule_width} (omega arith)).0 h

pub first_records : (skip count : ℕ) (bytes : List ℕ)
    → take (min count (record_count skip bytes)) (catalogue_of skip bytes) ≡ take count (catalogue_of skip bytes)
first_records skip count bytes =
    let rules = catalogue_of skip bytes in
    by_test (leb count (record_count skip bytes))
    (λ t. rw (min-eq_left (leb-true count (record_count skip bytes) t)))
    (λ f.
    let all : length rules ≡ record_count skip bytes = catalogue_length skip bytes in
    let more = leb-false count (record_count skip bytes) f in
    take_all (min count (record_count skip bytes)) rules (omega arith) ∙ sym (take_all count rules (omega arith)))

module _ (skip count : ℕ) (bytes : List ℕ) (there : count * (skip + rule_width) ≤ length bytes) where
  enough : count ≤ record_count skip bytes
  unfolding record_count
  enough = (le-div_iff_mul-le {k = skip + rule_width} (omega arith)).1 there

  pub first_count : length (take count (catalogue_of skip bytes)) ≡ count
  first_count = length-take-le count (catalogue_of skip bytes) (omega (arith, enough, catalogue_length skip bytes))

  module _ (k : ℕ) (inside : k < count) where
    pub first_fits : k * (skip + rule_width) + skip + rule_width ≤ length bytes
    first_fits = omega (arith, suc-mul k (skip + rule_width), mul-le-mul_right (skip + rule_width) inside)

    pub first_at : get_or (take count (catalogue_of skip bytes)) k (rule_of (drop skip [])) ≡ rule_of (record_at skip k bytes)
    first_at =
        get_or-take count (catalogue_of skip bytes) k (rule_of (drop skip [])) inside
        ∙ rule_at_lem skip bytes k (omega (arith, enough))
