-- Field values that are accepted are those of valid contents. The idea: each value that passes its tests is written again from
-- what is read of it; rules are taken one by one, each behind the catalogue so far. Assumes nothing.
use Prim.Native.Nat.{ℕ, ◌+◌, ◌*◌, ◌/◌, ◌%◌, ◌≤◌, zero-le}
use native.Mathlib.Omega.{arith}
use mathlib.Core.Path.{◌≡◌, refl, sym, ◌∙◌, ap}
use mathlib.Core.List.Memᴰ
use mathlib.Core.List.{
  List,
  [],
  ◌∷◌,
  ◌++◌,
  map,
  append_assoc,
  append-nil,
  Memᴰ,
}
use mathlib.Core.Option.{Option, none, some}
use borrow.Author.Tests.{eqb-true, leb-true}
use lib.Dec.{eqb, leb}
use lib.ListN.{length, length-append}
use Rattle.policy.specs.Policy.{most_rules}
use Rattle.policy.specs.Rule.{Rule}
use Rattle.policy.specs.Claims.{Keepable}
use Rattle.policy.specs.declared.Action.{Action}
use Rattle.deployment.specs.Checked.{Checked, good, bad, ◌>>=◌}
use Rattle.deployment.specs.Bytes.{chunks, joined}
use Rattle.deployment.specs.Values.{
  Script,
  rule_width,
  default_width,
  rule_bytes,
  numbers_of,
  numbers_bytes,
  default_bytes,
  default_field,
  script_bytes,
  list_fits,
  script_fits,
}
use Rattle.deployment.specs.Contents.{Contents, rule_read, keep_read, script_read}
use Rattle.deployment.specs.File.{accepted}
use Rattle.deployment.specs.FieldValues.{
  FieldValues,
  rules_read,
  catalogue_value,
  policy_value,
  default_value,
  keep_value,
  script_value,
  values_read,
  at_zero,
  read_values,
}
use Rattle.deployment.specs.Properties.{
  AreBytes,
  Recordable,
  Catalogue,
  Listed,
  Scripted,
  IfThere,
  Valid,
  PolicyFails,
  PolicyRight,
}
use Rattle.deployment.specs.Claims.{values_of, AreValues, ValuesWrittenAgain}
use Rattle.deployment.proofs.Bytes.{length_chunks, chunk_length, joined_chunks, are_bytes_chunk}
use Rattle.deployment.proofs.Values.{rule_recordable, rule_written, numbers_count, numbers_written, default_written}
use Rattle.deployment.proofs.Scripts.{script_scripted, script_written}
use Rattle.deployment.proofs.Tests.{
  says_list,
  says_script,
  Each,
  each_then,
  tested,
  rule_tested,
  default_tested,
  keep_tested,
  script_tested,
}
use Rattle.deployment.proofs.Fields.{joined_snoc, map_snoc, catalogue_snoc}
use Rattle.deployment.proofs.RefusedValues.{each_map, policy_right}

-- what holds of a value that is accepted
abbrev pub Good : {A : Type 0} → (A → Type 0) → Checked A → Type 0
Good P = Each P (λ why. Unit {0})

pub good_then : {A B : Type 0} (P : A → Type 0) (R : B → Type 0) (read : Checked A) (next : A → Checked B)
    → Good P read → ((a : A) → P a → Good R (next a)) → Good R (◌>>=◌ read next)
good_then P R = each_then P R (λ why. Unit {0})

-- Each value, and what is read of it.
abbrev IsRule : List Rule → List ℕ → Rule → Type 0
IsRule done value rule = Recordable rule × ¬ Memᴰ rule done × (rule_bytes rule ≡ value)

abbrev IsCatalogue : List ℕ → List Rule → Type 0
IsCatalogue value c = Catalogue c × (joined (map rule_bytes c) ≡ value)

abbrev IsPolicy : ℕ → List ℕ → List ℕ → Type 0
IsPolicy size value policy = Listed size policy × (numbers_bytes policy ≡ value)

abbrev IsDefault : Option (List ℕ) → Action → Type 0
IsDefault value action = elim (default_field action) [ none ↦ none | some default ↦ some (default_bytes default) ] ≡ value

abbrev IsKeep : List ℕ → List ℕ → Option (List ℕ) → Option (List ℕ) → Type 0
IsKeep i t value keep = Keepable i t keep × (elim keep [ none ↦ none | some keep ↦ some (numbers_bytes keep) ] ≡ value)

abbrev IsScript : Option (List ℕ) → Option Script → Type 0
IsScript value script = IfThere Scripted script × (elim script [ none ↦ none | some script ↦ some (script_bytes script) ] ≡ value)

rules_good : (done : List Rule) (pieces : List (List ℕ)) (value : List ℕ)
    → Catalogue done → length done + length pieces ≤ most_rules
    → ((piece : List ℕ) → Memᴰ piece pieces → AreBytes piece × (length piece ≡ rule_width))
    → joined (map rule_bytes done) ++ joined pieces ≡ value → Good (IsCatalogue value) (rules_read done pieces)
unfolding rules_read joined
rules_good done [] value h few each e = (h, sym (append-nil (joined (map rule_bytes done))) ∙ e)
rules_good done (piece ∷ pieces) value h few each e =
    let at = each piece (Memᴰ.head refl) in
    good_then (IsRule done piece) (IsCatalogue value) (rule_read done piece) _
    (rule_tested (Good (IsRule done piece)) done piece (λ wrong. tt) (λ fits known. tt)
    (λ fits new. (rule_recordable piece at.0 at.1 fits, new, rule_written piece at.0 at.1 fits)))
    λ rule is.
    rules_good (done ++ (rule ∷ [])) pieces value (catalogue_snoc done rule h (omega arith) is.0 is.1)
    (omega (arith, length-append done (rule ∷ [])))
    (λ other t. each other (Memᴰ.tail t))
    (simp (map_snoc, joined_snoc, append_assoc, is.2) e)

catalogue_good : (value : List ℕ) → AreBytes value → Good (IsCatalogue value) (catalogue_value value)
unfolding catalogue_value joined
catalogue_good value b =
    let count = length value / rule_width in
    tested (Good (IsCatalogue value)) (eqb (length value % rule_width) 0) (λ e. tt) λ e.
    tested (Good (IsCatalogue value)) (leb (length value) (rule_width * most_rules)) (λ e. tt) λ f.
    let long : length value ≡ rule_width * count = omega (arith, eqb-true (length value % rule_width) 0 e) in
    let few : length value ≤ rule_width * most_rules = leb-true (length value) (rule_width * most_rules) f in
    rules_good [] (chunks rule_width count value) value
    (record { few = zero-le; recordable = λ rule h. absurd (Memᴰ.not-nil h); unlike = tt })
    (omega (arith, length_chunks rule_width count value))
    (λ piece t. (are_bytes_chunk rule_width count value b piece t, chunk_length rule_width count value long piece t))
    (joined_chunks rule_width count value long)

policy_good : (size : ℕ) (value : List ℕ) → AreBytes value → Good (IsPolicy size value) (policy_value size value)
policy_good size value b =
    each_map (λ p. PolicyRight size value × (p ≡ numbers_of value)) (IsPolicy size value) (PolicyFails size value) (λ n. Unit {0})
    (policy_value size value)
    (λ p ((right, sound), is).
    rw is (
      record { few = rw (numbers_count value right.0 right.1) right.2; sound = sound },
      numbers_written value right.0 right.1 b,
    )) (λ n fails. tt) (policy_right size value)

default_good : (value : Option (List ℕ)) → IfThere AreBytes value → Good (IsDefault value) (default_value value)
unfolding default_value default_field
default_good none b = refl
default_good (some value) b =
    tested (Good (IsDefault (some value))) (eqb (length value) default_width) (λ e. tt) λ e.
    default_tested (Good (IsDefault (some value))) value (λ wrong. tt)
    (λ is. ap (λ (l : List ℕ). some l) (default_written value b (eqb-true (length value) default_width e) is))

keep_good : (i t : List ℕ) (value : Option (List ℕ)) → IfThere AreBytes value → Good (IsKeep i t value) (keep_value i t value)
unfolding keep_value
keep_good i t none b = (tt, refl)
keep_good i t (some value) b =
    tested (Good (IsKeep i t (some value))) (list_fits (length value)) (λ e. tt) λ e.
    let right = (says_list (length value)).0 e in
    let Is : List ℕ → Type 0 = λ keep. Keepable i t (some keep) × (numbers_bytes keep ≡ value) in
    good_then Is (IsKeep i t (some value)) (keep_read i t value) _
    (keep_tested (Good Is) i t value (λ fails. tt)
    (λ initial target. ((initial, target), numbers_written value right.0 right.1 b)))
    λ keep is. (is.0, ap (λ (l : List ℕ). some l) is.1)

script_good : (value : Option (List ℕ)) → IfThere AreBytes value → Good (IsScript value) (script_value value)
unfolding script_value
script_good none b = (tt, refl)
script_good (some value) b =
    tested (Good (IsScript (some value))) (script_fits (length value)) (λ e. tt) λ e.
    let right = (says_script (length value)).0 e in
    let Is : Script → Type 0 = λ script. Scripted script × (script_bytes script ≡ value) in
    good_then Is (IsScript (some value)) (script_read value) _
    (script_tested (Good Is) value (λ wrong. tt)
    (λ s read. (script_scripted value b right s read, script_written value b right s read)))
    λ script is. (is.0, ap (λ (l : List ℕ). some l) is.1)

-- All of them, one after another.
abbrev AreOf : FieldValues → Contents → Type 0
AreOf v c = Valid c × (values_of c ≡ v)

values_good : (v : FieldValues) → AreValues v → Good (AreOf v) (values_read v)
unfolding values_read values_of
values_good v b =
    good_then (IsCatalogue v.rules) (AreOf v) (catalogue_value v.rules) _ (catalogue_good v.rules b.rules)
    λ c rules.
    let size = length c in
    good_then (IsPolicy size v.initial) (AreOf v) (policy_value size v.initial) _
    (policy_good size v.initial b.initial)
    λ i initial.
    good_then (IsPolicy size v.target) (AreOf v) (policy_value size v.target) _
    (policy_good size v.target b.target)
    λ t target.
    good_then (IsDefault v.default) (AreOf v) (default_value v.default) _ (default_good v.default b.default)
    λ d default.
    good_then (IsKeep i t v.keep) (AreOf v) (keep_value i t v.keep) _ (keep_good i t v.keep b.keep)
    λ k keep.
    good_then (IsScript v.script) (AreOf v) (script_value v.script) _ (script_good v.script b.script)
    λ s script. (
      record { catalogue = rules.0; initial = initial.0; target = target.0; keep = keep.0; script = script.0 },
      λ j. record {
        rules = rules.1 j;
        initial = initial.1 j;
        target = target.1 j;
        default = default j;
        keep = keep.1 j;
        script = script.1 j;
      },
    )

pub values_written_again : ValuesWrittenAgain
unfolding read_values at_zero
values_written_again v c b e = go (values_read v) (values_good v b) e
  where
    go : (read : Checked Contents) → Good (AreOf v) read → at_zero read ≡ accepted c → AreOf v c
    go (good other) h e = let same : other ≡ c = cc in rw (← same) h
    go (bad why) h e = absurd (let z : ◌≡◌ {A = ℕ} 0 1 = cc in omega arith)
