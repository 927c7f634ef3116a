-- What is written reads back: the reader goes through the bytes of fields that can have been read and has those fields then, so
-- valid contents come back from their file and from their field values. The idea: bytes lead the reader from fields to fields,
-- and bytes one after another lead it on. Assumes nothing.
use Prim.Native.Nat.{ℕ, zero, suc, ◌+◌, ◌*◌, ◌/◌, ◌%◌, ◌≤◌, ◌<◌}
use native.Mathlib.Nat.{add-zero, zero-add, not-suc-le-zero, le_of_suc-le-suc}
use native.Mathlib.Omega.{arith}
use mathlib.Core.Path.{◌≡◌, refl, sym, ◌∙◌, ap}
use mathlib.Core.Bool.{true, false, ◌&&◌}
use mathlib.Core.Logic.{⊎_elim}
use mathlib.Core.Option.{Option, none, some}
use mathlib.Core.List.Memᴰ
use mathlib.Core.List.{
  List,
  [],
  ◌∷◌,
  ◌++◌,
  map,
  append_assoc,
  append-nil,
  Memᴰ,
  Sublistᴰ,
}
use borrow.Author.Tests.{eq-eqb, le-leb, lt-leb, lt-ltb}
use lib.Dec.{eqb, leb, ltb}
use lib.ListN.{length, drop, length-append, length-map}
use lib.Seq.{drop_at, take_at}
use Rattle.policy.specs.Lists.{mem}
use Rattle.policy.specs.Policy.{most_rules, most_listed}
use Rattle.policy.specs.Rule.{Rule}
use Rattle.policy.specs.Claims.{Keepable}
use Rattle.policy.specs.declared.Action.{Action}
use Rattle.policy.specs.declared.Action.TheVariants.{Deny, Permit}
use Rattle.policy.proofs.Lists.{in_all, mem_in, in_mem}
use Rattle.policy.proofs.Order.{distinct_differ, sublist_occurs, sublist_in, sublist_distinct, within_length}
use Rattle.deployment.specs.Checked.{good}
use Rattle.deployment.specs.Bytes.{number, bytes_of, part, joined}
use Rattle.deployment.specs.Values.{
  Script,
  rule_bytes,
  numbers_bytes,
  default_fits,
  default_bytes,
  default_field,
  script_bytes,
  list_fits,
  script_fits,
}
use Rattle.deployment.specs.Contents.{Contents, rule_read, policy_read, default_read, keep_read, script_read}
use Rattle.deployment.specs.File.{
  Fields,
  rules_only,
  set_initial,
  set_target,
  set_default,
  set_keep,
  set_script,
  nothing,
  listed,
  rule_tag,
  initial_tag,
  target_tag,
  default_tag,
  keep_tag,
  script_tag,
  tags_after,
  tag_or,
  last_tag,
  length_fits,
  field_read,
  with_rule,
  with_policy,
  with_default,
  with_keep,
  with_script,
  with_field,
  at_end,
  read_from,
  read_file,
  field_bytes,
  if_there,
  file_of,
}
use Rattle.deployment.specs.FieldValues.{
  rules_read,
  catalogue_value,
  policy_value,
  default_value,
  keep_value,
  script_value,
  values_read,
  at_zero,
  read_values,
}
use Rattle.deployment.specs.Properties.{
  AreBytes,
  Recordable,
  Unlike,
  Catalogue,
  Listed,
  Scripted,
  IfThere,
  Valid,
  CanStand,
  up_to_initial,
  up_to_target,
  up_to_default,
  up_to_keep,
  PolicyBehind,
  DefaultBehind,
  KeepBehind,
  ScriptBehind,
  Readable,
  fields_bytes,
}
use Rattle.deployment.specs.Claims.{ReadBack, ValuesReadBack, values_of}
use Rattle.deployment.proofs.Bytes.{are_bytes_append, bytes_are_bytes, number_bytes, length_joined, are_bytes_joined}
use Rattle.deployment.proofs.Tests.{says_list, says_script}
use Rattle.deployment.proofs.Fields.{late}
use Rattle.deployment.proofs.Values.{
  rule_read_lem,
  rule_fits_lem,
  length_rule,
  length_rules,
  rules_apart,
  rule_are_bytes,
  not_known,
  length_numbers,
  numbers_are_bytes,
  length_default,
  default_are_bytes,
  default_read_lem,
  default_back,
  policy_numbers,
  keep_numbers,
}
use Rattle.deployment.proofs.Scripts.{length_script, script_are_bytes, script_read_lem}

-- The values of fields, read: each passes its tests.
pub rule_reads : (catalogue : List Rule) (rule : Rule) → Recordable rule → ¬ Memᴰ rule catalogue
    → rule_read catalogue (rule_bytes rule) ≡ good rule
unfolding rule_read
rule_reads catalogue rule h n = rw (rule_fits_lem rule h, rule_read_lem rule h, not_known rule catalogue n)

pub policy_reads : (size : ℕ) (policy : List ℕ) → size ≤ most_rules → Listed size policy
    → policy_read size (numbers_bytes policy) ≡ good policy
unfolding policy_read
policy_reads size policy few h =
    rw (
      policy_numbers size policy few h.sound,
      in_all (λ r. ltb r size) policy (λ r t. lt-ltb r size (h.sound.inside r t)),
      distinct_differ policy h.sound.distinct,
    )

pub default_reads : default_read (default_bytes Permit) ≡ good Permit
unfolding default_read default_fits
default_reads = rw default_read_lem

pub keep_reads : (size : ℕ) (initial target keep : List ℕ) → size ≤ most_rules → Listed size target
    → Sublistᴰ keep initial → Sublistᴰ keep target → keep_read initial target (numbers_bytes keep) ≡ good keep
unfolding keep_read
keep_reads size initial target keep few h s t =
    rw (
      keep_numbers size target keep few h.sound t,
      sublist_occurs keep initial s,
      sublist_occurs keep target t,
    )

pub script_reads : (s : Script) → Scripted s → script_read (script_bytes s) ≡ good s
unfolding script_read
script_reads s h = rw (script_read_lem s h, script_read)

pub list_fits_lem : (numbers : List ℕ) → length numbers ≤ most_listed → list_fits (length (numbers_bytes numbers)) ≡ true
list_fits_lem numbers few = (says_list (length (numbers_bytes numbers))).1 (length numbers, length_numbers numbers, few)

pub script_fits_lem : (s : Script) → Scripted s → script_fits (length (script_bytes s)) ≡ true
script_fits_lem s h = (says_script (length (script_bytes s))).1 (length s.commands, length_script s, h.few)

-- a keep list has no more rules than a policy in which it occurs
pub keep_few : (size : ℕ) (policy keep : List ℕ) → Listed size policy → Sublistᴰ keep policy → length keep ≤ most_listed
keep_few size policy keep h s =
    omega (arith, within_length keep policy (sublist_distinct s h.sound.distinct) (sublist_in s), h.few)

-- The bytes of the field just read are passed over.
pub pass_over : (n : ℕ) (f : Fields) (at : ℕ) (left : List ℕ) → n ≤ length left
    → read_from n f at left ≡ read_from 0 f (at + n) (drop n left)
unfolding read_from
pass_over zero f at left h = rw (add-zero at)
pass_over (suc n) f at [] h = absurd (not-suc-le-zero h)
pass_over (suc n) f at (b ∷ left) h =
    let moved : suc at + n ≡ at + suc n = omega arith in
    rw moved at (pass_over n f (suc at) left (le_of_suc-le-suc h))

-- The field at the head of bytes.
pub length_field : (tag : ℕ) (value : List ℕ) → length (field_bytes tag value) ≡ 3 + length value
unfolding field_bytes bytes_of
length_field tag value = omega arith

module _ (tag : ℕ) (value left : List ℕ) where
  pub tag_read : tag < 256 → number (part 0 1 (field_bytes tag value ++ left)) ≡ tag
  unfolding field_bytes bytes_of part
  tag_read h = number_bytes 1 tag h

  pub size_read : length value < 65536 → number (part 1 2 (field_bytes tag value ++ left)) ≡ length value
  unfolding field_bytes bytes_of part
  size_read h = number_bytes 2 (length value) h

  pub value_read : part 3 (length value) (field_bytes tag value ++ left) ≡ value
  unfolding field_bytes bytes_of part
  value_read = take_at value left (length value) refl

  pub field_read_lem : (f : Fields) → tag < 256 → length value < 65536 → mem tag (tags_after (last_tag f)) ≡ true
      → (eqb tag rule_tag && leb most_rules (length f.catalogue)) ≡ false → length_fits tag (length value) ≡ true
      → field_read f (field_bytes tag value ++ left) ≡ good (record { tag = tag; value = value })
  unfolding field_read
  field_read_lem f small few stands counted fits =
      let long : 3 + length value ≤ length (field_bytes tag value ++ left) =
      omega (arith, length-append (field_bytes tag value) left, length_field tag value) in
      let whole = le-leb (3 + length value) (length (field_bytes tag value ++ left)) long in
      let headed = le-leb 3 (length (field_bytes tag value ++ left)) (omega arith) in
      rw (headed, tag_read small, stands, counted, size_read few, fits, whole, value_read)

-- Bytes that lead the reader from fields to fields, whatever is left behind them.
pub record Through (f : Fields) (bytes : List ℕ) (g : Fields) : Type 0 where
  pub reads : (at : ℕ) (left : List ℕ) → read_from 0 f at (bytes ++ left) ≡ read_from 0 g (at + length bytes) left

pub through_none : {f : Fields} → Through f [] f
through_none = record { reads = λ at left. rw (add-zero at) }

pub through_both : {f g h : Fields} {u v : List ℕ} → Through f u g → Through g v h → Through f (u ++ v) h
through_both {u = u} {v = v} first second =
    record {
      reads = λ at left.
          let further : at + length (u ++ v) ≡ at + length u + length v = omega (arith, length-append u v) in
          rw (append_assoc u v left, further, first.reads at (v ++ left), second.reads (at + length u) left);
    }

pub through_field : (f : Fields) {g : Fields} (tag : ℕ) (value : List ℕ) → tag < 256 → length value < 65536
    → mem tag (tags_after (last_tag f)) ≡ true → (eqb tag rule_tag && leb most_rules (length f.catalogue)) ≡ false
    → length_fits tag (length value) ≡ true → with_field f (record { tag = tag; value = value }) ≡ good g
    → Through f (field_bytes tag value) g
unfolding read_from field_bytes bytes_of
through_field f {g} tag value small few stands counted fits gives =
    record {
      reads = λ at left.
          let read = field_read_lem tag value left f small few stands counted fits in
          let rest : List ℕ = bytes_of 2 (length value) ++ value in
          let behind = drop_at rest left (2 + length value) (omega arith) in
          let further : suc at + (2 + length value) ≡ at + length (field_bytes tag value) = omega arith in
          let passed = pass_over (2 + length value) g (suc at) (rest ++ left) (omega (arith, length-append rest left)) in
          rw (read, read_from) (rw (gives, passed, behind, further));
    }

-- Fields, one at a time.
abbrev pub rule_field : Rule → List ℕ
rule_field rule = field_bytes rule_tag (rule_bytes rule)

through_rule : (catalogue : List Rule) (rule : Rule) → length catalogue < most_rules → Recordable rule
    → ¬ Memᴰ rule catalogue → Through (rules_only catalogue) (rule_field rule) (rules_only (catalogue ++ (rule ∷ [])))
unfolding tags_after tag_or last_tag mem length_fits with_field with_rule
through_rule catalogue rule few h n =
    let long = length_rule rule in
    through_field (rules_only catalogue) rule_tag (rule_bytes rule) (omega arith) (omega arith) refl
    (lt-leb most_rules (length catalogue) few) (rw long) (rw (rule_reads catalogue rule h n))

pub unlike_before : (u : List Rule) (rule : Rule) (v : List Rule) → Unlike (u ++ (rule ∷ v)) → ¬ Memᴰ rule u
unlike_before [] rule v d h = Memᴰ.not-nil h
unlike_before (first ∷ u) rule v d h =
    ⊎_elim (λ e. d.0 (Memᴰ.append_right u (Memᴰ.head (sym e)))) (λ t. unlike_before u rule v d.1 t)
    (Memᴰ.cases_cons h)

-- the next rule of a catalogue
next_recordable : (done : List Rule) (rule : Rule) (rest : List Rule) → Catalogue (done ++ (rule ∷ rest)) → Recordable rule
next_recordable done rule rest h = h.recordable rule (Memᴰ.append_right done (Memᴰ.head refl))

through_rules : (done rest : List Rule) → Catalogue (done ++ rest)
    → Through (rules_only done) (joined (map rule_field rest)) (rules_only (done ++ rest))
unfolding joined
through_rules done [] h = rw (append-nil done) through_none
through_rules done (rule ∷ rest) h =
    through_both
    (through_rule done rule (omega (arith, length-append done (rule ∷ rest), h.few)) (next_recordable done rule rest h)
    (unlike_before done rule rest h.unlike))
    (rw append_assoc at (through_rules (done ++ (rule ∷ [])) rest (rw append_assoc h)))

-- The other fields, where they are there, behind those before them: a policy, by the member that it sets.
through_policy : (set : Fields → Option (List ℕ) → Fields) (tag : ℕ) (f : Fields) → tag < 256 → length f.catalogue ≤ most_rules
    → (eqb tag rule_tag && leb most_rules (length f.catalogue)) ≡ false → ((size : ℕ) → length_fits tag size ≡ list_fits size)
    → ((value : List ℕ) → with_field f (record { tag = tag; value = value }) ≡ with_policy set f value) → set f none ≡ f
    → (o : Option (List ℕ)) → IfThere (PolicyBehind f tag) o → Through f (if_there tag numbers_bytes o) (set f o)
unfolding if_there with_policy
through_policy set tag f small few other fits by-tag same none h = rw same through_none
through_policy set tag f small few other fits by-tag same (some policy) h =
    through_field f tag (numbers_bytes policy) small (omega (arith, length_numbers policy, h.1.few)) (in_mem _ _ h.0) other
    (fits _ ∙ list_fits_lem policy h.1.few) (by-tag _ ∙ rw (policy_reads (length f.catalogue) policy few h.1))

through_default : (f : Fields) (default : Option Action) → IfThere (DefaultBehind f) default
    → f.default ≡ none → Through f (if_there default_tag default_bytes default) (set_default f default)
unfolding if_there length_fits with_field with_default
through_default f none h absent = rw (← absent) through_none
through_default f (some default) h absent =
    let long = length_default default in
    through_field f default_tag (default_bytes default) (omega arith) (omega arith) (in_mem _ _ h.0) refl (rw long)
    (rw (h.1, default_reads))

-- a keep list stands behind a target
target_listed : (f : Fields) → Readable f → CanStand (up_to_default f) keep_tag → Listed (length f.catalogue) (listed f.target)
unfolding listed last_tag tag_or
target_listed f r = go f.initial f.target f.default r.target r.default
  where
    go : (initial target : Option (List ℕ)) (default : Option Action) → let g = set_initial (rules_only f.catalogue) initial in
        IfThere (PolicyBehind g target_tag) target → IfThere (DefaultBehind (set_target g target)) default
        → CanStand (set_default (set_target g target) default) keep_tag → Listed (length f.catalogue) (listed target)
    go initial (some target) default t d k = t.1
    go initial none none t d k = absurd (late initial keep_tag (omega arith) k)
    go initial none (some default) t d k = absurd (late initial default_tag (omega arith) d.0)

through_keep : (f : Fields) (keep : Option (List ℕ)) → length f.catalogue ≤ most_rules
    → (CanStand f keep_tag → Listed (length f.catalogue) (listed f.target)) → IfThere (KeepBehind f) keep
    → f.keep ≡ none → Through f (if_there keep_tag numbers_bytes keep) (set_keep f keep)
unfolding if_there length_fits with_field with_keep
through_keep f none few sound h absent = rw (← absent) through_none
through_keep f (some keep) few sound h absent =
    let target = listed f.target in
    let listed_there = sound h.0 in
    let short = keep_few (length f.catalogue) target keep listed_there h.2 in
    through_field f keep_tag (numbers_bytes keep) (omega arith)
    (omega (arith, length_numbers keep)) (in_mem _ _ h.0) refl (list_fits_lem keep short)
    (rw (keep_reads (length f.catalogue) (listed f.initial) target keep few listed_there h.1 h.2))

through_script : (f : Fields) (script : Option Script) → IfThere (ScriptBehind f) script
    → f.script ≡ none → Through f (if_there script_tag script_bytes script) (set_script f script)
unfolding if_there length_fits with_field with_script
through_script f none h absent = rw (← absent) through_none
through_script f (some script) h absent =
    through_field f script_tag (script_bytes script) (omega arith)
    (omega (arith, length_script script, h.1.few)) (in_mem _ _ h.0) refl (script_fits_lem script h.1)
    (rw (script_reads script h.1))

-- the bytes of fields that can have been read lead the reader to those fields
pub through_fields : (f : Fields) → Readable f → Through nothing (fields_bytes f) f
unfolding fields_bytes nothing length_fits with_field
through_fields f h =
    let c = f.catalogue in
    let few = h.catalogue.few in
    through_both (through_rules [] c h.catalogue)
    (through_both
    (through_policy set_initial initial_tag (rules_only c) (omega arith) few refl (λ n. refl) (λ value. refl) refl f.initial h.initial)
    (through_both
    (through_policy set_target target_tag (up_to_initial f) (omega arith) few refl (λ n. refl) (λ value. refl) refl f.target h.target)
    (through_both (through_default (up_to_target f) f.default h.default refl)
    (through_both (through_keep (up_to_default f) f.keep few (target_listed f h) h.keep refl)
    (through_script (up_to_keep f) f.script h.script refl)))))

pub read_through : (f : Fields) (left : List ℕ) → Readable f
    → read_from 0 nothing 0 (fields_bytes f ++ left) ≡ read_from 0 f (length (fields_bytes f)) left
read_through f left h = rw (zero-add (length (fields_bytes f))) at ((through_fields f h).reads 0 left)

-- The file of valid contents.
field_are_bytes : (tag : ℕ) (value : List ℕ) → AreBytes value → AreBytes (field_bytes tag value)
unfolding field_bytes
field_are_bytes tag value h =
    are_bytes_append _ _ (bytes_are_bytes 1 tag) (are_bytes_append _ _ (bytes_are_bytes 2 (length value)) h)

there_are_bytes : {A : Type 0} (tag : ℕ) (written : A → List ℕ) (o : Option A) → ((a : A) → AreBytes (written a))
    → AreBytes (if_there tag written o)
unfolding if_there
there_are_bytes tag written none h = λ b t. absurd (Memᴰ.not-nil t)
there_are_bytes tag written (some a) h = field_are_bytes tag (written a) (h a)

rules_are_bytes : (catalogue : List Rule) → AreBytes (joined (map rule_field catalogue))
rules_are_bytes catalogue =
    are_bytes_joined (map rule_field catalogue)
    (λ piece t.
    let at = Memᴰ.of_map rule_field catalogue t in
    rw (← at.2) (field_are_bytes rule_tag (rule_bytes at.0) (rule_are_bytes at.0)))

pub file_are_bytes : (c : Contents) → AreBytes (file_of c)
unfolding file_of
file_are_bytes c =
    are_bytes_append _ _ (rules_are_bytes c.catalogue)
    (are_bytes_append _ _ (field_are_bytes initial_tag (numbers_bytes c.initial) (numbers_are_bytes c.initial))
    (are_bytes_append _ _ (field_are_bytes target_tag (numbers_bytes c.target) (numbers_are_bytes c.target))
    (are_bytes_append _ _ (there_are_bytes default_tag default_bytes (default_field c.default) default_are_bytes)
    (are_bytes_append _ _ (there_are_bytes keep_tag numbers_bytes c.keep numbers_are_bytes)
    (there_are_bytes script_tag script_bytes c.script script_are_bytes)))))

-- the fields of contents, and that they can have been read
unfoldable pub fields_of : Contents → Fields
fields_of c =
    record {
      catalogue = c.catalogue;
      initial = some c.initial;
      target = some c.target;
      default = default_field c.default;
      keep = c.keep;
      script = c.script;
    }

pub valid_readable : (c : Contents) → Valid c → Readable (fields_of c)
unfolding fields_of default_field listed tags_after tag_or last_tag mem
valid_readable c h =
    record {
      catalogue = h.catalogue;
      initial = (stands initial_tag rule_tag refl, h.initial);
      target = (stands target_tag initial_tag refl, h.target);
      default = defaulted c.default;
      keep = kept c.initial c.target (default_field c.default) c.keep h.keep;
      script = scripted (default_field c.default) c.keep c.script h.script;
    }
  where
    stands : (tag last : ℕ) → mem tag (tags_after last) ≡ true → Memᴰ tag (tags_after last)
    stands tag last e = mem_in tag (tags_after last) e

    defaulted : (default : Action)
        → IfThere (λ action. Memᴰ default_tag (tags_after target_tag) × (action ≡ Permit)) (default_field default)
    defaulted Deny = tt
    defaulted Permit = (stands default_tag target_tag refl, refl)

    kept : (initial target : List ℕ) (default : Option Action) (keep : Option (List ℕ)) → Keepable initial target keep
        → IfThere (λ keep. Memᴰ keep_tag (tags_after (tag_or default_tag default target_tag)) × Sublistᴰ keep initial × Sublistᴰ keep target) keep
    kept initial target default none k = tt
    kept initial target none (some keep) k = (stands keep_tag target_tag refl, k.0, k.1)
    kept initial target (some action) (some keep) k = (stands keep_tag default_tag refl, k.0, k.1)

    scripted : (default : Option Action) (keep : Option (List ℕ)) (script : Option Script) → IfThere Scripted script
        → IfThere (λ script. Memᴰ script_tag (tags_after (tag_or keep_tag keep (tag_or default_tag default target_tag))) × Scripted script) script
    scripted default keep none k = tt
    scripted none none (some script) k = (stands script_tag target_tag refl, k)
    scripted (some action) none (some script) k = (stands script_tag default_tag refl, k)
    scripted default (some l) (some script) k = (stands script_tag keep_tag refl, k)

pub file_fields : (c : Contents) → file_of c ≡ fields_bytes (fields_of c)
unfolding file_of fields_bytes fields_of if_there
file_fields c = refl

pub read_back : ReadBack
unfolding read_file read_from at_end listed fields_of
read_back c h = (
  file_are_bytes c,
  ap (read_from 0 nothing 0) (file_fields c ∙ sym (append-nil (fields_bytes (fields_of c))))
      ∙ read_through (fields_of c) [] (valid_readable c h)
      ∙ rw (default_back c.default),
)

-- "An accepted file never exceeds 44,049 bytes": 1,024 rules of 30, two policies and a keep list of 1,027, a default of 4, a script of 10,244.
pub rule_fields_wide : (catalogue : List Rule) (piece : List ℕ) → Memᴰ piece (map rule_field catalogue) → length piece ≡ 30
rule_fields_wide catalogue piece t =
    let at = Memᴰ.of_map rule_field catalogue t in
    rw (← at.2) (omega (arith, length_field rule_tag (rule_bytes at.0), length_rule at.0))

pub rules_length : (catalogue : List Rule) → length (joined (map rule_field catalogue)) ≡ 30 * length catalogue
rules_length catalogue =
    length_joined 30 (map rule_field catalogue) (rule_fields_wide catalogue) ∙ ap (λ (n : ℕ). 30 * n) (length-map catalogue rule_field)

-- a property of what may be absent, from another
pub there_too : {A : Type 0} (P Q : A → Type 0) → ((a : A) → P a → Q a) → (o : Option A) → IfThere P o → IfThere Q o
there_too P Q implies none h = tt
there_too P Q implies (some a) h = implies a h

list_length : (tag : ℕ) (list : Option (List ℕ)) → IfThere (λ l. length l ≤ most_listed) list
    → length (if_there tag numbers_bytes list) ≤ 1027
unfolding if_there
list_length tag none h = omega arith
list_length tag (some l) h = omega (arith, length_field tag (numbers_bytes l), length_numbers l)

default_length : (default : Option Action) → length (if_there default_tag default_bytes default) ≤ 4
unfolding if_there
default_length none = omega arith
default_length (some default) = omega (arith, length_field default_tag (default_bytes default), length_default default)

script_length : (script : Option Script) → IfThere Scripted script → length (if_there script_tag script_bytes script) ≤ 10244
unfolding if_there
script_length none h = omega arith
script_length (some script) h = omega (arith, length_field script_tag (script_bytes script), length_script script, h.few)

kept_few : (f : Fields) → Readable f → IfThere (λ l. length l ≤ most_listed) f.keep
kept_few f r =
    there_too (KeepBehind (up_to_default f)) (λ l. length l ≤ most_listed)
    (λ keep k. keep_few (length f.catalogue) (listed f.target) keep (target_listed f r k.0) k.2) f.keep r.keep

pub fields_fit : (f : Fields) → Readable f → length (fields_bytes f) ≤ 44049
unfolding fields_bytes
fields_fit f h =
    let few : List ℕ → Type 0 = λ l. length l ≤ most_listed in
    let rules = joined (map rule_field f.catalogue) in
    let initial = if_there initial_tag numbers_bytes f.initial in
    let target = if_there target_tag numbers_bytes f.target in
    let default = if_there default_tag default_bytes f.default in
    let keep = if_there keep_tag numbers_bytes f.keep in
    let script = if_there script_tag script_bytes f.script in
    omega (
      arith,
      length-append rules (initial ++ (target ++ (default ++ (keep ++ script)))),
      length-append initial (target ++ (default ++ (keep ++ script))),
      length-append target (default ++ (keep ++ script)),
      length-append default (keep ++ script),
      length-append keep script,
      rules_length f.catalogue,
      h.catalogue.few,
      list_length initial_tag f.initial (there_too (PolicyBehind _ initial_tag) few (λ l k. k.1.few) f.initial h.initial),
      list_length target_tag f.target (there_too (PolicyBehind (up_to_initial f) target_tag) few (λ l k. k.1.few) f.target h.target),
      default_length f.default,
      list_length keep_tag f.keep (kept_few f h),
      script_length f.script (there_too (ScriptBehind (up_to_keep f)) Scripted (λ s k. k.1) f.script h.script),
    )

pub valid_fits : (c : Contents) → Valid c → length (file_of c) ≤ 44049
valid_fits c h = rw (file_fields c) (fields_fit (fields_of c) (valid_readable c h))

-- The field values of valid contents.
rules_back : (done rest : List Rule) → Catalogue (done ++ rest) → rules_read done (map rule_bytes rest) ≡ good (done ++ rest)
unfolding rules_read
rules_back done [] h = rw (append-nil done)
rules_back done (rule ∷ rest) h =
    rw (rule_reads done rule (next_recordable done rule rest h) (unlike_before done rule rest h.unlike))
    (rw append_assoc at (rules_back (done ++ (rule ∷ [])) rest (rw append_assoc h)))

catalogue_back : (catalogue : List Rule) → Catalogue catalogue
    → catalogue_value (joined (map rule_bytes catalogue)) ≡ good catalogue
unfolding catalogue_value
catalogue_back catalogue h =
    let value : List ℕ = joined (map rule_bytes catalogue) in
    let long : length value ≡ 27 * length catalogue = length_rules catalogue in
    let few : length catalogue ≤ 1024 = h.few in
    let whole : eqb (length value % 27) 0 ≡ true = eq-eqb (length value % 27) 0 (omega arith) in
    let short : leb (length value) 27648 ≡ true = le-leb (length value) 27648 (omega arith) in
    let counted : length value / 27 ≡ length catalogue = omega arith in
    rw (whole, short, counted, rules_apart catalogue) (rules_back [] catalogue h)

default_values_back : (default : Action)
    → default_value (elim (default_field default) [ none ↦ none | some default ↦ some (default_bytes default) ]) ≡ good default
unfolding default_value default_field
default_values_back Deny = refl
default_values_back Permit = rw (length_default Permit, default_reads)

keep_back : (size : ℕ) (initial target : List ℕ) (keep : Option (List ℕ)) → size ≤ most_rules → Listed size target
    → Keepable initial target keep
    → keep_value initial target (elim keep [ none ↦ none | some keep ↦ some (numbers_bytes keep) ]) ≡ good keep
unfolding keep_value
keep_back size initial target none few h k = refl
keep_back size initial target (some keep) few h k =
    rw (list_fits_lem keep (keep_few size target keep h k.1), keep_reads size initial target keep few h k.0 k.1)

script_back : (script : Option Script) → IfThere Scripted script
    → script_value (elim script [ none ↦ none | some script ↦ some (script_bytes script) ]) ≡ good script
unfolding script_value
script_back none h = refl
script_back (some script) h = rw (script_fits_lem script h, script_reads script h)

pub values_read_back : ValuesReadBack
unfolding read_values values_read at_zero values_of policy_value
values_read_back c h =
    let few = h.catalogue.few in
    let size = length c.catalogue in
    rw (
      catalogue_back c.catalogue h.catalogue,
      list_fits_lem c.initial h.initial.few,
      policy_reads size c.initial few h.initial,
      list_fits_lem c.target h.target.few,
      policy_reads size c.target few h.target,
      default_values_back c.default,
      keep_back size c.initial c.target c.keep few h.target h.keep,
      script_back c.script h.script,
    )
