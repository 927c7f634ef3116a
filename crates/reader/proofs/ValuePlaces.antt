-- Where values stand in a file: the part at each place is the value that was written there, and the catalogue is read from the
-- file's first bytes. The idea: a file is pieces one after another, and a place counts the bytes before its piece. Assumes nothing.
use Prim.Native.Nat.{ℕ, ◌+◌, ◌*◌, ◌-◌, ◌/◌, min}
use native.Mathlib.Nat.{zero-add, suc-add}
use native.Mathlib.Omega.{arith}
use mathlib.Core.Path.{◌≡◌, refl, sym, ◌∙◌, ap}
use mathlib.Core.List.{List, [], ◌∷◌, ◌++◌, map, append_assoc, append-nil, Memᴰ, map-map, map-append}
use mathlib.Core.Option.{Option, none, some}
use lib.Dec.{leb}
use borrow.Author.Tests.{leb-true, leb-false}
use Rattle.policy.proofs.Tests.{by_test}
use lib.ListN.{length, take, drop, length-append, length-drop, length-map, drop_of_length-le}
use lib.Seq.{take_all, take-nil, take_at, drop_at, drop-append-add}
use Rattle.policy.specs.Rule.{Rule}
use Rattle.policy.specs.declared.Action.{Action}
use Rattle.deployment.specs.Bytes.{bytes_of, part, chunks, joined}
use Rattle.deployment.specs.Values.{Script, rule_of, rule_bytes, numbers_bytes, default_bytes, script_bytes}
use Rattle.deployment.specs.Catalogue.{record_count, records_of, catalogue_of}
use Rattle.deployment.specs.File.{
  Fields,
  listed,
  field_bytes,
  if_there,
  rule_tag,
  initial_tag,
  target_tag,
  default_tag,
  keep_tag,
  script_tag,
}
use Rattle.deployment.specs.Properties.{Recordable, CanStand, fields_bytes}
use Rattle.deployment.proofs.Records.{part_between}
use Rattle.deployment.proofs.Values.{length_rule, map_back, rule_read_lem}
use Rattle.deployment.proofs.Fields.{joined_append, before_rule}
use Rattle.deployment.proofs.ReadBack.{length_field, rules_length, rule_fields_wide, rule_field}
use Rattle.reader.specs.Answers.{value_at, value_given, span_from, absent, span_if, span_given, end_of, keep_bytes, action_bytes, command_bytes, rule_span}
use Rattle.reader.specs.Steps.{layout_so_far}
use Rattle.reader.specs.declared.Span.{Span}
use Rattle.std.specs.Prelude.{Option as CodeOption, None, Some, MatchOption, IsSomeAnd}
use Rattle.std.specs.Borrow.{Bor}
use Rattle.deployment.specs.FieldValues.{lent}

-- The part at a place, as code cuts it: from the place's start or the bytes' end, and as much as there is.
pub cut_least : (span : Span) (bytes : List ℕ) (start size : ℕ) → start ≡ min span.start (length bytes)
    → size ≡ min span.size (length bytes - start) → take (start + size - start) (drop start bytes) ≡ value_at span bytes
unfolding value_at part
cut_least span bytes start size from long =
    part_between start size bytes
    ∙ by_test (leb span.start (length bytes))
    (λ t.
    let inside = leb-true span.start (length bytes) t in
    let same : start ≡ span.start = omega arith in
    rw same
    (by_test (leb span.size (length bytes - start))
    (λ fits. let few = leb-true span.size (length bytes - start) fits in let all : size ≡ span.size = omega arith in rw all)
    (λ over.
    let few = leb-false span.size (length bytes - start) over in
    let left = length-drop span.start bytes in
    take_all size (drop span.start bytes) (omega arith) ∙ sym (take_all span.size (drop span.start bytes) (omega arith)))))
    (λ f.
    let past = leb-false span.start (length bytes) f in
    rw (drop_of_length-le bytes {i = start} (omega arith), drop_of_length-le bytes {i = span.start} (omega arith), take-nil, take-nil))

-- What code lends of a place that may be absent.
pub given_lent : (file : List ℕ) (place : CodeOption Span) (value : CodeOption (Bor (List ℕ))) (Lends : Span → Bor (List ℕ) → Type 0)
    → MatchOption place (value ≡ None) (λ span. IsSomeAnd value (Lends span))
    → ((span : Span) (part : Bor (List ℕ)) → Lends span part → part.now ≡ value_at span file)
    → lent value ≡ value_given place file
unfolding lent value_given
given_lent file None value Lends same lends = rw same
given_lent file (Some span) (Some value) Lends same lends = ap some (lends span value same)
given_lent file (Some span) None Lends same lends = elim same [ ]

-- A field that stands behind other bytes: its value, and where it ends.
pub value_stands : (before : List ℕ) (tag : ℕ) (value after : List ℕ)
    → value_at (span_from (length before) value) (before ++ (field_bytes tag value ++ after)) ≡ value
unfolding value_at span_from part field_bytes bytes_of
value_stands before tag value after =
    rw (drop-append-add before (field_bytes tag value ++ after) 3) (take_at value after (length value) refl)

module _ (before : List ℕ) (tag : ℕ) where
  pub list_stands : (o : Option (List ℕ)) (after : List ℕ)
      → value_at (span_if (length before) (keep_bytes o)) (before ++ (if_there tag numbers_bytes o ++ after)) ≡ numbers_bytes (listed o)
  unfolding value_at span_if absent keep_bytes if_there part listed numbers_bytes joined
  list_stands none after = refl
  list_stands (some l) after = value_stands before tag (numbers_bytes l) after

  -- one that may be absent, by its bytes
  module _ {A : Type 0} (written : A → List ℕ) (bytes : Option A → Option (List ℕ))
      (absent-bytes : bytes none ≡ none) (there-bytes : (a : A) → bytes (some a) ≡ some (written a)) where
    part_stands : (o : Option A) (after : List ℕ)
        → value_given (span_given (length before) (bytes o)) (before ++ (if_there tag written o ++ after)) ≡ bytes o
    unfolding value_given span_given if_there
    part_stands none after = rw absent-bytes
    part_stands (some a) after = rw (there-bytes a) (ap some (value_stands before tag (written a) after))

    part_ends : (o : Option A) → length (before ++ if_there tag written o) ≡ end_of (length before) (bytes o)
    unfolding end_of if_there
    part_ends none = rw absent-bytes (ap length (append-nil before))
    part_ends (some a) =
        rw (there-bytes a) (omega (arith, length-append before (field_bytes tag (written a)), length_field tag (written a)))

  pub keep_part_stands : (o : Option (List ℕ)) (after : List ℕ)
      → value_given (span_given (length before) (keep_bytes o)) (before ++ (if_there tag numbers_bytes o ++ after)) ≡ keep_bytes o
  unfolding keep_bytes
  keep_part_stands = part_stands numbers_bytes keep_bytes refl (λ l. refl)

  pub action_stands : (o : Option Action) (after : List ℕ)
      → value_given (span_given (length before) (action_bytes o)) (before ++ (if_there tag default_bytes o ++ after)) ≡ action_bytes o
  unfolding action_bytes
  action_stands = part_stands default_bytes action_bytes refl (λ a. refl)

  pub script_stands : (o : Option Script) (after : List ℕ)
      → value_given (span_given (length before) (command_bytes o)) (before ++ (if_there tag script_bytes o ++ after)) ≡ command_bytes o
  unfolding command_bytes
  script_stands = part_stands script_bytes command_bytes refl (λ s. refl)

  pub list_ends : (o : Option (List ℕ)) → length (before ++ if_there tag numbers_bytes o) ≡ end_of (length before) (keep_bytes o)
  unfolding keep_bytes
  list_ends = part_ends numbers_bytes keep_bytes refl (λ l. refl)

  pub action_ends : (o : Option Action) → length (before ++ if_there tag default_bytes o) ≡ end_of (length before) (action_bytes o)
  unfolding action_bytes
  action_ends = part_ends default_bytes action_bytes refl (λ a. refl)

  pub script_ends : (o : Option Script) → length (before ++ if_there tag script_bytes o) ≡ end_of (length before) (command_bytes o)
  unfolding command_bytes
  script_ends = part_ends script_bytes command_bytes refl (λ s. refl)

-- The pieces of fields, one after another.
abbrev rules_part : Fields → List ℕ
rules_part f = joined (map rule_field f.catalogue)

abbrev initial_part : Fields → List ℕ
initial_part f = rules_part f ++ if_there initial_tag numbers_bytes f.initial

abbrev target_part : Fields → List ℕ
target_part f = initial_part f ++ if_there target_tag numbers_bytes f.target

abbrev default_part : Fields → List ℕ
default_part f = target_part f ++ if_there default_tag default_bytes f.default

abbrev keep_part : Fields → List ℕ
keep_part f = default_part f ++ if_there keep_tag numbers_bytes f.keep

module _ (f : Fields) where
  rules_end : length (rules_part f) ≡ length f.catalogue * 30
  rules_end = omega (arith, rules_length f.catalogue)

  initial_end : length (initial_part f) ≡ end_of (length f.catalogue * 30) (keep_bytes f.initial)
  initial_end = rw list_ends (rw rules_end)

  target_end : length (target_part f) ≡ end_of (end_of (length f.catalogue * 30) (keep_bytes f.initial)) (keep_bytes f.target)
  target_end = rw list_ends (rw initial_end)

  default_end : length (default_part f)
      ≡ end_of (end_of (end_of (length f.catalogue * 30) (keep_bytes f.initial)) (keep_bytes f.target)) (action_bytes f.default)
  default_end = rw action_ends (rw target_end)

  keep_end : length (keep_part f)
      ≡ end_of
      (end_of (end_of (end_of (length f.catalogue * 30) (keep_bytes f.initial)) (keep_bytes f.target)) (action_bytes f.default))
      (keep_bytes f.keep)
  keep_end = rw list_ends (rw default_end)

  module _ (left : List ℕ) where
    pub initial_stands : value_at (layout_so_far f).initial (fields_bytes f ++ left) ≡ numbers_bytes (listed f.initial)
    unfolding layout_so_far fields_bytes
    initial_stands = simp (append_assoc, ← rules_end) (list_stands (rules_part f) initial_tag f.initial _)

    pub target_stands : value_at (layout_so_far f).target (fields_bytes f ++ left) ≡ numbers_bytes (listed f.target)
    unfolding layout_so_far fields_bytes
    target_stands =
        rw (← initial_end) (rw regrouped (list_stands (initial_part f) target_tag f.target _))
      where
        regrouped : fields_bytes f ++ left
            ≡ initial_part f ++ (if_there target_tag numbers_bytes f.target
            ++ (if_there default_tag default_bytes f.default
            ++ (if_there keep_tag numbers_bytes f.keep ++ (if_there script_tag script_bytes f.script ++ left))))
        regrouped = simp append_assoc

    pub default_stands : value_given (layout_so_far f).default (fields_bytes f ++ left) ≡ action_bytes f.default
    unfolding layout_so_far fields_bytes
    default_stands = rw (← target_end) (rw regrouped (action_stands (target_part f) default_tag f.default _))
      where
        regrouped : fields_bytes f ++ left
            ≡ target_part f ++ (if_there default_tag default_bytes f.default
            ++ (if_there keep_tag numbers_bytes f.keep ++ (if_there script_tag script_bytes f.script ++ left)))
        regrouped = simp append_assoc

    pub keep_stands : value_given (layout_so_far f).keep (fields_bytes f ++ left) ≡ keep_bytes f.keep
    unfolding layout_so_far fields_bytes
    keep_stands = rw (← default_end) (rw regrouped (keep_part_stands (default_part f) keep_tag f.keep _))
      where
        regrouped : fields_bytes f ++ left
            ≡ default_part f ++ (if_there keep_tag numbers_bytes f.keep ++ (if_there script_tag script_bytes f.script ++ left))
        regrouped = simp append_assoc

    pub script_part_stands : value_given (layout_so_far f).script (fields_bytes f ++ left) ≡ command_bytes f.script
    unfolding layout_so_far fields_bytes
    script_part_stands = rw (← keep_end) (rw regrouped (script_stands (keep_part f) script_tag f.script left))
      where
        regrouped : fields_bytes f ++ left ≡ keep_part f ++ (if_there script_tag script_bytes f.script ++ left)
        regrouped = simp append_assoc

  -- the bytes so far end where the last piece does
  pub fields_end : length (fields_bytes f)
      ≡ end_of
      (end_of
      (end_of (end_of (end_of (length f.catalogue * 30) (keep_bytes f.initial)) (keep_bytes f.target)) (action_bytes f.default))
      (keep_bytes f.keep))
      (command_bytes f.script)
  unfolding fields_bytes
  fields_end = rw (← keep_end, ← script_ends (keep_part f) script_tag) (simp append_assoc)

-- before the initial policy they are those of the rules alone
pub rules_alone : (f : Fields) → CanStand f rule_tag → length (fields_bytes f) ≡ length f.catalogue * 30
unfolding end_of keep_bytes action_bytes command_bytes
rules_alone f h =
    let none_there = before_rule f h in
    fields_end f ∙ rw (none_there.0, none_there.1, none_there.2, none_there.3, none_there.4)

-- The catalogue: thirty bytes a rule, its record behind the head of its field.
pub chunks_front : (width : ℕ) (pieces : List (List ℕ)) (count : ℕ) (rest : List ℕ)
    → ((piece : List ℕ) → Memᴰ piece pieces → length piece ≡ width)
    → chunks width (length pieces + count) (joined pieces ++ rest) ≡ pieces ++ chunks width count rest
unfolding chunks joined
chunks_front width [] count rest h = rw zero-add
chunks_front width (piece ∷ pieces) count rest h =
    let wide : length piece ≡ width = h piece (Memᴰ.head refl) in
    rw (
      suc-add,
      append_assoc,
      take_at piece (joined pieces ++ rest) width wide,
      drop_at piece (joined pieces ++ rest) width wide,
      chunks_front width pieces count rest (λ other t. h other (Memᴰ.tail t)),
    )

behind_head : (rule : Rule) → drop 3 (rule_field rule) ≡ rule_bytes rule
unfolding field_bytes bytes_of
behind_head rule = refl

pub catalogue_front : (c : List Rule) (rest : List ℕ) → ((rule : Rule) → Memᴰ rule c → Recordable rule)
    → catalogue_of 3 (joined (map rule_field c) ++ rest) ≡ c ++ catalogue_of 3 rest
unfolding catalogue_of records_of record_count
catalogue_front c rest h =
    let front = joined (map rule_field c) in
    let counted : length (front ++ rest) / 30 ≡ length (map rule_field c) + length rest / 30 =
    omega (arith, length-append front rest, rules_length c, length-map c rule_field) in
    let back : map rule_of (map (drop 3) (map rule_field c)) ≡ c =
    map-map rule_of (drop 3) (map rule_field c)
    ∙ map_back rule_field (λ piece. rule_of (drop 3 piece)) c (λ rule t. ap rule_of (behind_head rule) ∙ rule_read_lem rule (h rule t)) in
    rw (counted, chunks_front 30 (map rule_field c) (length rest / 30) rest (rule_fields_wide c), map-append, map-append, back)

pub catalogue_first : (f : Fields) (left : List ℕ) → ((rule : Rule) → Memᴰ rule f.catalogue → Recordable rule)
    → take (length f.catalogue) (catalogue_of 3 (fields_bytes f ++ left)) ≡ f.catalogue
unfolding fields_bytes
catalogue_first f left h =
    rw (append_assoc, catalogue_front f.catalogue _ h) (take_at f.catalogue _ (length f.catalogue) refl)

-- The value of a rule's field, behind the fields of the rules before it.
pub rule_stands : (before : List Rule) (rule : Rule) (behind : List Rule) (after : List ℕ)
    → value_at (rule_span (length before)) (joined (map rule_field (before ++ (rule ∷ behind))) ++ after) ≡ rule_bytes rule
unfolding rule_span span_from joined
rule_stands before rule behind after =
    let front = joined (map rule_field before) in
    let span = span_from (length front) (rule_bytes rule) in
    let start : (rule_span (length before)).start ≡ span.start = omega (arith, rules_length before) in
    let size : (rule_span (length before)).size ≡ span.size = sym (length_rule rule) in
    let place : rule_span (length before) ≡ span = λ j. record { start = start j; size = size j } in
    rw (place, map-append, joined_append, append_assoc, append_assoc)
    (value_stands front rule_tag (rule_bytes rule) (joined (map rule_field behind) ++ after))
