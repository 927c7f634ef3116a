-- Any two answers of `read`, of `read_to_judge` and of `value` are equal; and what an answer of `read` says of the file. The idea: contents that were
-- written are fields that were read to the end, so the laws of places hold of them. Assumes nothing.
use Prim.Native.Nat.{ℕ, ◌*◌}
use mathlib.Core.Path.{◌≡◌, refl, sym, ◌∙◌, ap}
use mathlib.Core.Bool.{cond}
use mathlib.Core.List.{List, [], ◌∷◌, ◌++◌, map, append-nil}
use mathlib.Core.Option.{Option, none, some}
use lib.ListN.{length, take}
use lib.Seq.{take_at}
use Rattle.policy.specs.Rule.{Rule}
use Rattle.policy.specs.Claims.{Keepable}
use Rattle.policy.specs.declared.Action.{Action}
use Rattle.policy.specs.declared.Action.TheVariants.{Deny, Permit}
use Rattle.deployment.specs.Bytes.{joined, chunks}
use Rattle.deployment.specs.Values.{Script, rule_bytes, numbers_of, numbers_bytes, default_bytes, default_field, script_of, script_bytes}
use Rattle.deployment.specs.Catalogue.{record_count, records_of, catalogue_of}
use Rattle.deployment.specs.Contents.{Contents}
use Rattle.deployment.specs.File.{Reading, accepted, read_file, read_to_judge, listed, file_of, rule_tag, field_bytes}
use Rattle.deployment.specs.Properties.{AreBytes, Scripted, Valid, fields_bytes}
use Rattle.deployment.proofs.Values.{length_numbers, length_default, policy_numbers, keep_numbers}
use Rattle.deployment.proofs.Scripts.{length_script, script_read_lem}
use Rattle.deployment.proofs.ReadBack.{rules_length, fields_of, file_fields, read_back}
use Rattle.deployment.proofs.Reader.{written_again}
use Rattle.reader.specs.Answers.{value_at, value_given, span_from, span_if, span_given, keep_bytes, action_bytes, command_bytes, layout_of, rule_span, shown, file_read}
use Rattle.reader.specs.Steps.{layout_so_far}
use Rattle.reader.specs.Claims.{ListStands, DefaultStands, ScriptStands, StandsIf, Stands, AcceptedFile, WrittenFile}
use Rattle.reader.specs.declared.Span.{Span}
use Rattle.reader.specs.declared.Layout.{Layout}
use Rattle.std.specs.Prelude.{Result, Ok, Option as CodeOption, Some, None, is_some}
use Rattle.deployment.specs.declared.Refusal.{Refusal}
use Rattle.reader.proofs.ValuePlaces.{
  initial_stands,
  target_stands,
  default_stands,
  keep_stands,
  script_part_stands,
  catalogue_front,
  catalogue_first,
  rule_stands,
}
use Rattle.reader.proofs.ShownReadings.{shown_accepted}
use Rattle.reader.proofs.ToJudge.{scripted}
use Rattle.reader.proofs.file.read.Reads as read
use Rattle.reader.proofs.file.read_to_judge.Reads as read-to-judge
use Rattle.deployment.specs.FieldValues.{lent}
use Rattle.reader.proofs.file.value.Reads as value
use Rattle.reader.proofs.file.value_given.Reads as value-given
use Rattle.reader.proofs.file.value_or_empty.Reads as value-or-empty

-- One answer.
pub one_reading : (κ : _) (a : _) (r s : Result Layout Refusal) (e f : _) → read.Post κ a r e → read.Post κ a s f → r ≡ s
one_reading κ a r s e f p q = p ∙ sym q

pub one_reading_to_judge : (κ : _) (a : _) (r s : Result Layout Refusal) (e f : _) → read-to-judge.Post κ a r e → read-to-judge.Post κ a s f → r ≡ s
one_reading_to_judge κ a r s e f p q = p ∙ sym q

pub one_value : (κ : _) (a : _) (r s : _) (e f : _) → value.Post κ a r e → value.Post κ a s f → r.now ≡ s.now
one_value κ a r s e f p q = p ∙ sym q

pub one_value_given : (κ : _) (a : _) (r s : _) (e f : _) → value-given.Post κ a r e → value-given.Post κ a s f → lent r ≡ lent s
one_value_given κ a r s e f p q = p ∙ sym q

pub one_value_or_empty : (κ : _) (a : _) (r s : _) (e f : _) → value-or-empty.Post κ a r e → value-or-empty.Post κ a s f → r.now ≡ s.now
one_value_or_empty κ a r s e f p q = p ∙ sym q

-- The places of contents are those of their fields, and their file the bytes of these.
places_of : (c : Contents) → layout_so_far (fields_of c) ≡ layout_of c
unfolding layout_so_far layout_of fields_of keep_bytes span_if
places_of c = refl

bytes_of : (c : Contents) → fields_bytes (fields_of c) ++ [] ≡ file_of c
bytes_of c = append-nil (fields_bytes (fields_of c)) ∙ sym (file_fields c)

-- a list that is read back from its bytes, a default, and a script, where their bytes stand
a_list_stands : (file : List ℕ) (span : Span) (l : List ℕ) → numbers_of (numbers_bytes l) ≡ l
    → value_at span file ≡ numbers_bytes l → span.size ≡ length (numbers_bytes l) → ListStands file span l
a_list_stands file span l back bytes size =
    record { bytes = bytes; numbers = ap numbers_of bytes ∙ back; size = size ∙ length_numbers l }

a_default_stands : (file : List ℕ) (span : Span) (action : Action)
    → value_at span file ≡ default_bytes action → span.size ≡ length (default_bytes action) → DefaultStands file span action
a_default_stands file span action bytes size = record { bytes = bytes; size = size ∙ length_default action }

a_script_stands : (file : List ℕ) (span : Span) (s : Script) → Scripted s
    → value_at span file ≡ script_bytes s → span.size ≡ length (script_bytes s) → ScriptStands file span s
a_script_stands file span s h bytes size =
    record { bytes = bytes; script = ap script_of bytes ∙ script_read_lem s h; size = size ∙ length_script s }

-- Valid contents stand in their file.
module _ (c : Contents) (valid : Valid c) where
  rules_alone : take (30 * length c.catalogue) (file_of c)
      ≡ joined (map (λ rule. field_bytes rule_tag (rule_bytes rule)) c.catalogue)
  unfolding file_of
  rules_alone = take_at _ _ (30 * length c.catalogue) (rules_length c.catalogue)

  catalogue_alone : catalogue_of 3 (take (30 * length c.catalogue) (file_of c)) ≡ c.catalogue
  unfolding catalogue_of records_of record_count chunks
  catalogue_alone =
      ap (catalogue_of 3) (rules_alone ∙ sym (append-nil _))
      ∙ catalogue_front c.catalogue [] valid.catalogue.recordable ∙ append-nil c.catalogue

  rule_there : (before : List Rule) (rule : Rule) (behind : List Rule) → c.catalogue ≡ before ++ (rule ∷ behind)
      → value_at (rule_span (length before)) (file_of c) ≡ rule_bytes rule
  unfolding file_of
  rule_there before rule behind is = rw is (rule_stands before rule behind _)

  catalogue_among : take (length c.catalogue) (catalogue_of 3 (file_of c)) ≡ c.catalogue
  unfolding fields_of
  catalogue_among = rw (← bytes_of c) (catalogue_first (fields_of c) [] valid.catalogue.recordable)

  initial_bytes : value_at (layout_of c).initial (file_of c) ≡ numbers_bytes c.initial
  unfolding fields_of listed
  initial_bytes = rw (← places_of c, ← bytes_of c) (initial_stands (fields_of c) [])

  target_bytes : value_at (layout_of c).target (file_of c) ≡ numbers_bytes c.target
  unfolding fields_of listed
  target_bytes = rw (← places_of c, ← bytes_of c) (target_stands (fields_of c) [])

  -- one that may be absent: it stands at its place, or it has none
  module _ {A : Type 0} (written : A → List ℕ) (bytes : Option A → Option (List ℕ))
      (absent-bytes : bytes none ≡ none) (there-bytes : (a : A) → bytes (some a) ≡ some (written a))
      (StandsAt : Span → A → Type 0) (end : ℕ) where
    stands_if : (o : Option A) → value_given (span_given end (bytes o)) (file_of c) ≡ bytes o
        → ((a : A) → o ≡ some a → value_at (span_from end (written a)) (file_of c) ≡ written a → StandsAt (span_from end (written a)) a)
        → StandsIf StandsAt (span_given end (bytes o)) o
    unfolding span_given value_given
    stands_if none is stand = rw absent-bytes tt
    stands_if (some a) is stand =
        let same : some (value_at (span_from end (written a)) (file_of c)) ≡ some (written a) = rw (there-bytes a) at is in
        rw (there-bytes a) (stand a refl (cc))

  default_in : value_given (layout_of c).default (file_of c) ≡ action_bytes (default_field c.default)
  unfolding fields_of
  default_in = rw (← places_of c, ← bytes_of c) (default_stands (fields_of c) [])

  default_there : StandsIf (DefaultStands (file_of c)) (layout_of c).default (default_field c.default)
  unfolding layout_of span_from action_bytes
  default_there =
      stands_if default_bytes action_bytes refl (λ a. refl) (DefaultStands (file_of c)) _ (default_field c.default)
      default_in
      (λ action e is. a_default_stands (file_of c) _ action is refl)

  keep_in : value_given (layout_of c).keep (file_of c) ≡ keep_bytes c.keep
  unfolding fields_of
  keep_in = rw (← places_of c, ← bytes_of c) (keep_stands (fields_of c) [])

  keep_there : StandsIf (ListStands (file_of c)) (layout_of c).keep c.keep
  unfolding layout_of span_from keep_bytes
  keep_there =
      stands_if numbers_bytes keep_bytes refl (λ l. refl) (ListStands (file_of c)) _ c.keep
      keep_in
      (λ k e is.
      let within : Keepable c.initial c.target (some k) = rw e at valid.keep in
      a_list_stands (file_of c) _ k (keep_numbers (length c.catalogue) c.target k valid.catalogue.few valid.target.sound within.1) is refl)

  script_in : value_given (layout_of c).script (file_of c) ≡ command_bytes c.script
  unfolding fields_of
  script_in = rw (← places_of c, ← bytes_of c) (script_part_stands (fields_of c) [])

  script_there : StandsIf (ScriptStands (file_of c)) (layout_of c).script c.script
  unfolding layout_of span_from command_bytes
  script_there =
      stands_if script_bytes command_bytes refl (λ s. refl) (ScriptStands (file_of c)) _ c.script
      script_in
      (λ s e is. let right : Scripted s = rw e at valid.script in a_script_stands (file_of c) _ s right is refl)

  pub contents_stand : Stands (file_of c) (layout_of c) c
  unfolding layout_of span_from
  contents_stand =
      record {
        valid = valid;
        written = refl;
        placed = refl;
        count = refl;
        catalogue = catalogue_alone;
        rule = rule_there;
        among = catalogue_among;
        initial =
            a_list_stands (file_of c) (layout_of c).initial c.initial
            (policy_numbers (length c.catalogue) c.initial valid.catalogue.few valid.initial.sound) initial_bytes refl;
        target =
            a_list_stands (file_of c) (layout_of c).target c.target
            (policy_numbers (length c.catalogue) c.target valid.catalogue.few valid.target.sound) target_bytes refl;
        default = default_there;
        keep = keep_there;
        script = script_there;
      }

-- "value 1 means permit, absence means deny": the default is known by whether its field has a place
default_known : (StandsAt : Span → Action → Type 0) (place : CodeOption Span) (action : Action)
    → StandsIf StandsAt place (default_field action) → cond (is_some place) Permit Deny ≡ action
unfolding default_field
default_known StandsAt None Deny stands = refl
default_known StandsAt None Permit stands = elim stands [ ]
default_known StandsAt (Some span) Deny stands = elim stands [ ]
default_known StandsAt (Some span) Permit stands = refl

pub default_placed : (file : List ℕ) (layout : Layout) (c : Contents) → Stands file layout c
    → cond (is_some layout.default) Permit Deny ≡ c.default
default_placed file layout c stands = default_known (DefaultStands file) layout.default c.default stands.default

-- A reading accepts contents that stand in the file.
pub record Holds (reading : Reading) (file : List ℕ) (layout : Layout) : Type 0 where
  pub contents : Contents
  pub is : reading ≡ accepted contents
  pub stands : Stands file layout contents

module _ (file : List ℕ) (layout : Layout) (bytes : AreBytes file) where
  script_placed : (place : CodeOption Span) (s : Script) → StandsIf (ScriptStands file) place (some s)
      → (span : Span) × (place ≡ Some span) × ScriptStands file span s
  script_placed None s stand = elim stand [ ]
  script_placed (Some span) s stand = (span, refl, stand)

  standing : (c : Contents) → layout ≡ layout_of c → read_file file ≡ accepted c → Stands file layout c
  standing c same is = let (valid, written) = written_again file c bytes is in rw (same, ← written) (contents_stand c valid)

  pub file_holds : Ok layout ≡ file_read file → Holds (read_file file) file layout
  unfolding file_read
  file_holds e =
      let (c, same, is) = shown_accepted (read_file file) layout e in
      record { contents = c; is = is; stands = standing c same is }

  -- and where it is to be judged, with a script among them
  pub holds_to_judge : Ok layout ≡ shown (read_to_judge file)
      → (h : Holds (read_to_judge file) file layout) × (s : Script) × (span : Span)
      × (h.contents.script ≡ some s) × (layout.script ≡ Some span) × ScriptStands file span s
  holds_to_judge e =
      let (c, same, is) = shown_accepted (read_to_judge file) layout e in
      let (whole, (s, has)) = scripted file c is in
      let stands = standing c same whole in
      let (span, placed, there) = script_placed layout.script s (rw has at stands.script) in
      (record { contents = c; is = is; stands = stands }, s, span, has, placed, there)

-- The claims, of the definitions.
pub accepted_file : AcceptedFile
accepted_file file layout b e = let held = file_holds file layout b (sym e) in (held.contents, held.stands)

pub written_file : WrittenFile
unfolding file_read shown
written_file c valid = rw (read_back c valid).1

-- The claims, of `read`.
pub accepted_file_is_written_again : (κ : _) (a : _) (layout : Layout) (e : _) → read.Post κ a (Ok layout) e
    → AreBytes a.0.now → (c : Contents) × Stands a.0.now layout c
accepted_file_is_written_again κ a layout e p b = accepted_file a.0.now layout b (sym p)

pub written_file_is_accepted : (κ : _) (a : _) (r : Result Layout Refusal) (e : _) → read.Post κ a r e
    → (c : Contents) → Valid c → a.0.now ≡ file_of c → r ≡ Ok (layout_of c)
written_file_is_accepted κ a r e p c valid is = p ∙ ap file_read is ∙ written_file c valid
