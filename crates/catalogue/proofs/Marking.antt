-- Marks: equal rules have equal marks, so a rule whose mark is new differs from all before it. The idea: equal rules have the same bytes
-- behind their actions, and a mark is made of these. Assumes nothing.
use Prim.Native.Nat.{ℕ, suc, ◌+◌, ◌*◌, ◌/◌, ◌%◌, ◌≤◌, ◌<◌}
use native.Mathlib.Numerals.{add-one}
use native.Mathlib.Omega.{arith}
use mathlib.Core.Path.{◌≡◌, refl, sym, ◌∙◌, ap, subst}
use mathlib.Core.Bool.{Bool, true, false, cond, ◌&&◌, beq}
use mathlib.Core.Logic.{⊎_elim}
use mathlib.Core.List.{List, [], ◌∷◌}
use lib.Dec.{eqb}
use lib.ListN.{length, take, drop, get_or, set, length-set, drop_of_length-le}
use lib.Seq.{drop-cons, get_or-set_same, get_or-set_other}
use borrow.Author.Tests.{eqb-true, eqb-false, eq-eqb}
use Rattle.policy.specs.Lists.{same}
use Rattle.policy.specs.Rule.{Rule}
use Rattle.policy.proofs.Tests.{by_test, never, and_both, falsely, or_left, or_right, or_either}
use Rattle.policy.proofs.Lists.{same_eq}
use Rattle.deployment.specs.Values.{rule_width, rule_of, same_rule, known}
use Rattle.deployment.specs.Catalogue.{catalogue_of}
use Rattle.deployment.specs.Properties.{AreBytes}
use Rattle.deployment.proofs.Bytes.{length_part, are_bytes_part}
use Rattle.deployment.proofs.Records.{record_at}
use Rattle.catalogue.specs.RuleMarks.{mixed_from, mark, may_hold, with_tag, Apart}
use Rattle.catalogue.proofs.Rules.{same_rule_bytes, first_count, first_fits, first_at}

-- A mark, byte by byte.
pub mixed_further : (n : ℕ) (bytes : List ℕ) (k : ℕ) → k < length bytes
    → mixed_from n (drop k bytes) ≡ mixed_from ((n + get_or bytes k 0) * 2654435761 % 4294967296) (drop (k + 1) bytes)
unfolding mixed_from
mixed_further n bytes k h = rw (drop-cons bytes k 0 h, add-one k)

-- what the action gives
abbrev pub first : List ℕ → ℕ
first rule = cond (eqb (get_or rule 0 0) 1) 1 0

pub first_small : (rule : List ℕ) → first rule ≤ 1
first_small rule = by_test (eqb (get_or rule 0 0) 1) (λ t. rw t (omega arith)) (λ f. rw f (omega arith))

pub mark_is : (n : ℕ) (rule : List ℕ) (k : ℕ) → mixed_from (first rule) (drop 1 rule) ≡ mixed_from n (drop k rule) → length rule ≤ k
    → n / 2048 ≡ mark rule
unfolding mark mixed_from
mark_is n rule k e h = ap (λ m. m / 2048) (sym (rw (drop_of_length-le rule h) at e))

-- A place in the table.
pub holds_new : (cell tag : ℕ) → may_hold (with_tag cell tag) tag ≡ true
unfolding may_hold with_tag
holds_new cell tag = by_test (eqb cell 0) (λ t. rw t (or_left (eqb tag 255) (eq-eqb tag tag refl))) (λ f. rw f (or_right (eqb 255 tag) refl))

pub holds_still : (cell tag other : ℕ) → 1 ≤ other → may_hold cell other ≡ true → may_hold (with_tag cell tag) other ≡ true
unfolding may_hold with_tag
holds_still cell tag other h e =
    by_test (eqb cell 0)
    (λ t.
    ⊎_elim (λ s. absurd (omega (arith, eqb-true cell 0 t, eqb-true cell other s)))
    (λ s. absurd (omega (arith, eqb-true cell 0 t, eqb-true cell 255 s)))
    (or_either (eqb cell other) (eqb cell 255) e))
    (λ f. rw f (or_right (eqb 255 other) refl))

-- A rule that none of a catalogue equals.
known_none : (rule d : Rule) (catalogue : List Rule)
    → ((j : ℕ) → j < length catalogue → same_rule (get_or catalogue j d) rule ≡ false)
    → known rule catalogue ≡ false
unfolding known
known_none rule d [] h = refl
known_none rule d (earlier ∷ catalogue) h =
    rw (h 0 (omega arith), known_none rule d catalogue (λ j k. h (suc j) (omega arith)))

not_last : (j k : ℕ) → j < k + 1 → ¬ (j ≡ k) → j < k
not_last j k h n = omega arith

-- the mark of record n, and the place and the tag of a mark
abbrev pub mark_at : ℕ → ℕ → List ℕ → ℕ
mark_at skip n bytes = mark (record_at skip n bytes)

abbrev pub holds_mark : List ℕ → ℕ → Bool
holds_mark cells m = may_hold (get_or cells (m / 256) 0) (m % 254 + 1)

-- the table has the marks of the first `count` rules
pub record Marked (skip count : ℕ) (bytes : List ℕ) (cells : List ℕ) : Type 0 where
  pub long : length cells ≡ 8192
  pub all : (j : ℕ) → j < count → holds_mark cells (mark_at skip j bytes) ≡ true

module _ (skip : ℕ) (bytes : List ℕ) (are : AreBytes bytes) (k : ℕ) (fits : suc k * (skip + rule_width) ≤ length bytes) where
  long : (j : ℕ) → j < suc k → length (record_at skip j bytes) ≡ 27
  long j h = length_part (j * (skip + rule_width) + skip) 27 bytes (first_fits skip (suc k) bytes fits j h)

  same_mark : (j : ℕ) → j < k → same_rule (rule_of (record_at skip j bytes)) (rule_of (record_at skip k bytes)) ≡ true
      → mark_at skip j bytes ≡ mark_at skip k bytes
  unfolding mark
  same_mark j h e =
      let a = record_at skip j bytes in
      let b = record_at skip k bytes in
      let bytes_of : (n : ℕ) → AreBytes (record_at skip n bytes) =
      λ n. are_bytes_part (n * (skip + rule_width) + skip) 27 bytes are in
      let both = and_both (beq (eqb (get_or a 0 0) 1) (eqb (get_or b 0 0) 1)) (same (drop 1 a) (drop 1 b))
      (sym (same_rule_bytes a b (bytes_of j) (bytes_of k) (long j (omega arith)) (long k (omega arith))) ∙ e) in
      marks (eqb (get_or a 0 0) 1) (eqb (get_or b 0 0) 1) both.0 (same_eq (drop 1 a) (drop 1 b) both.1)
    where
      marks : (p q : Bool) {l m : List ℕ} → beq p q ≡ true → l ≡ m
          → mixed_from (cond p 1 0) l / 2048 ≡ mixed_from (cond q 1 0) m / 2048
      marks true true t e = ap (λ l. mixed_from 1 l / 2048) e
      marks true false t e = never t refl
      marks false true t e = never t refl
      marks false false t e = ap (λ l. mixed_from 0 l / 2048) e

  -- a rule whose mark is new
  pub unmarked : (cells : List ℕ) → Marked skip k bytes cells → holds_mark cells (mark_at skip k bytes) ≡ false
      → known (rule_of (record_at skip k bytes)) (take k (catalogue_of skip bytes)) ≡ false
  unmarked cells m new =
      let there : k * (skip + rule_width) ≤ length bytes = omega (arith, first_fits skip (suc k) bytes fits k (omega arith)) in
      let d = rule_of (drop skip []) in
      known_none (rule_of (record_at skip k bytes)) d (take k (catalogue_of skip bytes))
      (λ j h.
      let below : j < k = omega (arith, first_count skip k bytes there) in
      rw (first_at skip k bytes there j below)
      (falsely (λ e. never (subst (λ (i : ℕ). holds_mark cells i ≡ true) (same_mark j below e) (m.all j below)) new)))

-- a rule that isn't found: it was compared, or it isn't suspect
pub unless_suspect : (suspect found : Bool) → (suspect && found) ≡ false → (suspect ≡ false → found ≡ false) → found ≡ false
unless_suspect true found e h = e
unless_suspect false found e h = h refl

-- At the start, and one rule more.
pub marked_none : (skip : ℕ) (bytes cells : List ℕ) → length cells ≡ 8192 → Marked skip 0 bytes cells
marked_none skip bytes cells long = record { long = long; all = λ j h. absurd (omega arith) }

-- the table after mark m has that mark, and those that it had
module _ (cells : List ℕ) (m : ℕ) (small : m / 256 < length cells) where
  abbrev after : List ℕ
  after = set cells (m / 256) (with_tag (get_or cells (m / 256) 0) (m % 254 + 1))

  here : get_or after (m / 256) 0 ≡ with_tag (get_or cells (m / 256) 0) (m % 254 + 1)
  here = get_or-set_same cells (m / 256) (with_tag (get_or cells (m / 256) 0) (m % 254 + 1)) 0 small

  has_new : holds_mark after m ≡ true
  has_new = ap (λ (cell : ℕ). may_hold cell (m % 254 + 1)) here ∙ holds_new (get_or cells (m / 256) 0) (m % 254 + 1)

  has_still : (n : ℕ) → holds_mark cells n ≡ true → holds_mark after n ≡ true
  has_still n h =
      by_test (eqb (n / 256) (m / 256))
      (λ t.
      let same_place = eqb-true (n / 256) (m / 256) t in
      ap (λ (i : ℕ). may_hold (get_or after i 0) (n % 254 + 1)) same_place
      ∙ ap (λ (cell : ℕ). may_hold cell (n % 254 + 1)) here
      ∙ holds_still (get_or cells (m / 256) 0) (m % 254 + 1) (n % 254 + 1) (omega arith)
      (subst (λ (i : ℕ). may_hold (get_or cells i 0) (n % 254 + 1) ≡ true) same_place h))
      (λ f.
      ap (λ (cell : ℕ). may_hold cell (n % 254 + 1))
      (get_or-set_other cells (m / 256) (n / 256) (with_tag (get_or cells (m / 256) 0) (m % 254 + 1)) 0 (eqb-false (n / 256) (m / 256) f))
      ∙ h)

pub marked_more : (skip k : ℕ) (bytes cells : List ℕ) (m : ℕ) → m ≡ mark_at skip k bytes → m < 2097152 → Marked skip k bytes cells
    → Marked skip (k + 1) bytes (set cells (m / 256) (with_tag (get_or cells (m / 256) 0) (m % 254 + 1)))
marked_more skip k bytes cells m is small before =
    record { long = length-set cells (m / 256) (with_tag (get_or cells (m / 256) 0) (m % 254 + 1)) ∙ before.long; all = all }
  where
    inside : m / 256 < length cells
    inside = omega (arith, before.long)

    all : (j : ℕ) → j < k + 1 → holds_mark (after cells m inside) (mark_at skip j bytes) ≡ true
    all j h =
        by_test (eqb j k)
        (λ t.
        subst (λ (n : ℕ). holds_mark (after cells m inside) n ≡ true)
        (is ∙ ap (λ (i : ℕ). mark_at skip i bytes) (sym (eqb-true j k t))) (has_new cells m inside))
        (λ f. has_still cells m inside (mark_at skip j bytes) (before.all j (not_last j k h (eqb-false j k f))))

pub apart_none : (skip : ℕ) (bytes : List ℕ) → Apart skip 0 bytes
unfolding Apart
apart_none skip bytes k h = absurd (omega arith)

pub apart_more : (skip k : ℕ) (bytes : List ℕ) → Apart skip k bytes
    → known (rule_of (record_at skip k bytes)) (take k (catalogue_of skip bytes)) ≡ false → Apart skip (k + 1) bytes
unfolding Apart
apart_more skip k bytes before new j h =
    by_test (eqb j k)
    (λ t. subst (λ (i : ℕ). known (rule_of (record_at skip i bytes)) (take i (catalogue_of skip bytes)) ≡ false) (sym (eqb-true j k t)) new)
    (λ f. before j (not_last j k h (eqb-false j k f)))
