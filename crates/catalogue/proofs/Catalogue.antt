-- The rules of a field value, read one after another: the k-th is read after the first k, and where it is good these and it are the
-- first k + 1. Assumes nothing.
use Prim.Native.Nat.{ℕ, ◌+◌, ◌*◌, ◌/◌, ◌≤◌, ◌<◌}
use native.Mathlib.Nat.{add-zero}
use native.Mathlib.Numerals.{add-one}
use native.Mathlib.Omega.{arith}
use mathlib.Core.Path.{◌≡◌, refl, sym, ◌∙◌, ap}
use mathlib.Core.Bool.{false, ◌&&◌}
use mathlib.Core.List.{List, [], ◌∷◌, ◌++◌}
use lib.ListN.{length, take, drop, drop_of_length-le}
use lib.Seq.{take-suc, drop-cons}
use lib.Dec.{leb, ltb}
use borrow.Author.Tests.{eq-eqb, ltb-true, ltb-false, le-leb, lt-leb}
use Rattle.policy.specs.Rule.{Rule}
use Rattle.policy.proofs.Tests.{by_test}
use Rattle.deployment.specs.Checked.{Checked, good, bad, ◌>>=◌}
use Rattle.deployment.specs.Bytes.{part, chunks}
use Rattle.deployment.specs.Values.{rule_width, rule_of, known}
use Rattle.deployment.specs.Catalogue.{record_count, catalogue_of}
use Rattle.deployment.specs.Contents.{rule_read}
use Rattle.deployment.specs.FieldValues.{rules_read}
use Rattle.deployment.specs.declared.Why.{Why}
use Rattle.deployment.proofs.Bytes.{length_part, length_chunks}
use Rattle.deployment.proofs.Records.{chunk_at, piece_fits, catalogue_length, rule_at_lem}
use Rattle.deployment.proofs.Tests.{rule_tested}
use Rattle.catalogue.specs.Answers.{checking, rule_value, compared_with}
use Rattle.std.specs.Prelude.{Result, Ok, Err}

not_good : {A : Type 0} {why : Why} → ◌≡◌ {A = Result (Unit {0}) Why} (Err why) (Ok tt) → A
not_good e = absurd (cc)

-- what comes after a test that turns away
turned_away : {A B : Type 0} (r : Checked A) (next : A → Checked B) (why : Why) → checking r ≡ Err why
    → checking (◌>>=◌ r next) ≡ Err why
unfolding checking
turned_away (good a) next why e = not_good (sym e)
turned_away (bad other) next why e = e

-- a rule of 27 bytes
rule_value_lem : (catalogue : List Rule) (value : List ℕ) → length value ≡ rule_width → rule_value catalogue value ≡ rule_read catalogue value
unfolding rule_value
rule_value_lem catalogue value long = rw (eq-eqb (length value) rule_width long)

good_rule : (catalogue : List Rule) (value : List ℕ) (next : Rule → Checked (List Rule))
    → checking (rule_read catalogue value) ≡ Ok tt
    → checking (◌>>=◌ (rule_read catalogue value) next) ≡ checking (next (rule_of value))
unfolding checking
good_rule catalogue value next =
    rule_tested (λ r. checking r ≡ Ok tt → checking (◌>>=◌ r next) ≡ checking (next (rule_of value))) catalogue value
    (λ w e. not_good e) (λ h w e. not_good e) (λ fits h e. refl)

-- A rule that is said to differ from the earlier ones, and does, is answered as if it had been compared with them.
pub nothing_missed : (count differing : ℕ) (catalogue : List Rule) (value : List ℕ)
    → (count < differing → known (rule_of value) (take count catalogue) ≡ false)
    → checking (rule_value (compared_with count differing catalogue) value) ≡ checking (rule_value (take count catalogue) value)
unfolding compared_with rule_value rule_read known
nothing_missed count differing catalogue value differs =
    by_test (ltb count differing)
    (λ t. rw (t, differs (ltb-true count differing t)))
    (λ f. rw f)

-- whether a rule is among those that it is compared with
pub compared_known : (count differing : ℕ) (catalogue : List Rule) (rule : Rule)
    → (leb differing count && known rule (take count catalogue)) ≡ known rule (compared_with count differing catalogue)
unfolding compared_with known
compared_known count differing catalogue rule =
    by_test (ltb count differing)
    (λ t. rw (t, lt-leb differing count (ltb-true count differing t)))
    (λ f. rw (f, le-leb differing count (ltb-false count differing f)))

-- the rules from the k-th on, read after the first k
abbrev pub read_on : ℕ → List ℕ → Checked (List Rule)
read_on k bytes = rules_read (take k (catalogue_of 0 bytes)) (drop k (chunks rule_width (length bytes / rule_width) bytes))

module _ (k : ℕ) (bytes : List ℕ) where
  module _ (inside : k < length bytes / rule_width) where
    pub piece_long : length (part (k * rule_width) rule_width bytes) ≡ rule_width
    piece_long = length_part (k * rule_width) rule_width bytes (piece_fits rule_width (length bytes) k inside)

    pieces_on : drop k (chunks rule_width (length bytes / rule_width) bytes)
        ≡ part (k * rule_width) rule_width bytes ∷ drop (k + 1) (chunks rule_width (length bytes / rule_width) bytes)
    pieces_on =
        let count = length bytes / rule_width in
        rw (
          drop-cons (chunks rule_width count bytes) k [] (omega (arith, length_chunks rule_width count bytes)),
          chunk_at rule_width count bytes k inside,
          add-one k,
        )

    rules_on : take (k + 1) (catalogue_of 0 bytes)
        ≡ take k (catalogue_of 0 bytes) ++ (rule_of (part (k * rule_width) rule_width bytes) ∷ [])
    unfolding record_count
    rules_on =
        rw (
          add-one k,
          take-suc (catalogue_of 0 bytes) k (rule_of (drop 0 [])) (omega (arith, catalogue_length 0 bytes)),
          rule_at_lem 0 bytes k inside,
          add-zero (k * rule_width),
        )

    tested : checking (rule_value (take k (catalogue_of 0 bytes)) (part (k * rule_width) rule_width bytes))
        ≡ checking (rule_read (take k (catalogue_of 0 bytes)) (part (k * rule_width) rule_width bytes))
    tested =
        ap (λ r. checking r) (rule_value_lem (take k (catalogue_of 0 bytes)) (part (k * rule_width) rule_width bytes) piece_long)

    pub read_further : checking (rule_value (take k (catalogue_of 0 bytes)) (part (k * rule_width) rule_width bytes)) ≡ Ok tt
        → checking (read_on k bytes) ≡ checking (read_on (k + 1) bytes)
    unfolding rules_read
    read_further e =
        rw (pieces_on, rules_on)
        (good_rule (take k (catalogue_of 0 bytes)) (part (k * rule_width) rule_width bytes)
        (λ rule.
        rules_read (take k (catalogue_of 0 bytes) ++ (rule ∷ [])) (drop (k + 1) (chunks rule_width (length bytes / rule_width) bytes)))
        (sym tested ∙ e))

    pub read_stops : (why : Why)
        → checking (rule_value (take k (catalogue_of 0 bytes)) (part (k * rule_width) rule_width bytes)) ≡ Err why
        → checking (read_on k bytes) ≡ Err why
    unfolding rules_read
    read_stops why e =
        rw pieces_on
        (turned_away (rule_read (take k (catalogue_of 0 bytes)) (part (k * rule_width) rule_width bytes))
        (λ rule.
        rules_read (take k (catalogue_of 0 bytes) ++ (rule ∷ [])) (drop (k + 1) (chunks rule_width (length bytes / rule_width) bytes)))
        why (sym tested ∙ e))

  pub read_all : length bytes / rule_width ≤ k → checking (read_on k bytes) ≡ Ok tt
  unfolding rules_read checking
  read_all h =
      rw (drop_of_length-le (chunks rule_width (length bytes / rule_width) bytes) {i = k}
      (omega (arith, length_chunks rule_width (length bytes / rule_width) bytes)))
