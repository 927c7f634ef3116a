-- The parts of an accepted file, gathered, are the field values of its contents. The idea: the rules so far, gathered, are those of the
-- catalogue so far, and each further one stands behind them. Assumes nothing.
use Prim.Native.Nat.{ℕ, suc}
use native.Mathlib.Omega.{arith}
use mathlib.Core.Path.{◌≡◌, refl, sym, ◌∙◌, ap, ap₂}
use mathlib.Core.List.{List, [], ◌∷◌, ◌++◌, map, append_assoc, append-nil}
use mathlib.Core.Option.{Option, none, some}
use lib.ListN.{length, length-append}
use Rattle.policy.specs.Rule.{Rule}
use Rattle.deployment.specs.Bytes.{joined}
use Rattle.deployment.specs.Values.{rule_bytes, numbers_bytes, default_bytes, default_field, script_bytes}
use Rattle.deployment.specs.Contents.{Contents}
use Rattle.deployment.specs.File.{accepted, read_file}
use Rattle.deployment.specs.Properties.{AreBytes}
use Rattle.deployment.specs.Claims.{values_of}
use Rattle.deployment.proofs.Bytes.{from_the_end}
use Rattle.deployment.proofs.Fields.{joined_snoc, map_snoc}
use Rattle.reader.specs.Answers.{value_at, value_given, rules_gathered, values_gathered}
use Rattle.reader.specs.Claims.{ListStands, DefaultStands, ScriptStands, StandsIf, Stands, GatheredFile}
use Rattle.reader.specs.declared.Span.{Span}
use Rattle.reader.specs.declared.Layout.{Layout}
use Rattle.std.specs.Prelude.{Ok, Option as CodeOption, Some, None}
use Rattle.reader.proofs.FileAnswers.{file_holds}
use Rattle.reader.proofs.file.read.Reads as read

module _ (file : List ℕ) (layout : Layout) (c : Contents) (stands : Stands file layout c) where
  abbrev FrontGathered : List Rule → Type 0
  FrontGathered front = (rest : List Rule) → c.catalogue ≡ front ++ rest
      → rules_gathered (length front) file ≡ joined (map rule_bytes front)

  one_more : (front : List Rule) (rule : Rule) → FrontGathered front → FrontGathered (front ++ (rule ∷ []))
  unfolding rules_gathered
  one_more front rule gathered rest is =
      let split : c.catalogue ≡ front ++ (rule ∷ rest) = is ∙ append_assoc front (rule ∷ []) rest in
      let long : length (front ++ (rule ∷ [])) ≡ suc (length front) = omega (arith, length-append front (rule ∷ [])) in
      rw (long, map_snoc rule_bytes front rule, joined_snoc (map rule_bytes front) (rule_bytes rule))
      (ap₂ (λ (u v : List ℕ). u ++ v) (gathered (rule ∷ rest) split) (stands.rule front rule rest split))

  front_gathered : (front : List Rule) → FrontGathered front
  unfolding rules_gathered joined
  front_gathered = from_the_end FrontGathered (λ rest is. refl) one_more

  rules_gathered_lem : rules_gathered layout.rules file ≡ joined (map rule_bytes c.catalogue)
  rules_gathered_lem = rw stands.count (front_gathered c.catalogue [] (sym (append-nil c.catalogue)))

  -- a value that may be absent
  given_gathered : {A : Type 0} (written : A → List ℕ) (StandsAt : Span → A → Type 0)
      → ((span : Span) (a : A) → StandsAt span a → value_at span file ≡ written a)
      → (place : CodeOption Span) (o : Option A) → StandsIf StandsAt place o
      → value_given place file ≡ elim o [ none ↦ none | some a ↦ some (written a) ]
  unfolding value_given
  given_gathered written StandsAt bytes None none stand = refl
  given_gathered written StandsAt bytes None (some a) stand = elim stand [ ]
  given_gathered written StandsAt bytes (Some span) none stand = elim stand [ ]
  given_gathered written StandsAt bytes (Some span) (some a) stand = ap some (bytes span a stand)

  values_gathered_lem : values_gathered layout file ≡ values_of c
  unfolding values_gathered values_of
  values_gathered_lem =
      let initial = stands.initial.bytes in
      let target = stands.target.bytes in
      let default = given_gathered default_bytes (DefaultStands file) (λ span action lies. lies.bytes) layout.default (default_field c.default) stands.default in
      let keep = given_gathered numbers_bytes (ListStands file) (λ span l lies. lies.bytes) layout.keep c.keep stands.keep in
      let script = given_gathered script_bytes (ScriptStands file) (λ span s lies. lies.bytes) layout.script c.script stands.script in
      λ j. record {
        rules = rules_gathered_lem j;
        initial = initial j;
        target = target j;
        default = default j;
        keep = keep j;
        script = script j;
      }

pub gathered_file : GatheredFile
gathered_file file layout b e =
    let held = file_holds file layout b (sym e) in
    (held.contents, held.is, values_gathered_lem file layout held.contents held.stands)

-- The claim, of `read`.
pub an_accepted_file_is_gathered : (κ : _) (a : _) (layout : Layout) (e : _) → read.Post κ a (Ok layout) e
    → AreBytes a.0.now → (c : Contents) × (read_file a.0.now ≡ accepted c) × (values_gathered layout a.0.now ≡ values_of c)
an_accepted_file_is_gathered κ a layout e p b = gathered_file a.0.now layout b (sym p)
