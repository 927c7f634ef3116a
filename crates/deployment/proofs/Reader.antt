-- The reader against the table of refusals and the writer: whatever it answers is right, and what a row of the table names is its
-- answer. The idea: induction on the bytes that are left, a field at a time. Assumes nothing.
use Prim.Native.Nat.{ℕ, zero, suc, ◌+◌, ◌-◌, ◌≤◌, ◌<◌, zero-le}
use native.Mathlib.Omega.{arith}
use mathlib.Core.Path.{◌≡◌, refl, sym, ◌∙◌, ap, subst}
use mathlib.Core.Bool.{Bool, true, false, not, ◌&&◌}
use mathlib.Core.Logic.{◌⊎◌, inl, inr, ⊎_elim, ◌↔◌}
use mathlib.Core.List.Memᴰ
use mathlib.Core.List.{List, [], ◌∷◌, ◌++◌, append-nil}
use mathlib.Core.Option.{Option, none, some}
use lib.ListN.{length, drop, length-append, length-drop}
use lib.Dec.{eqb, leb}
use Rattle.policy.specs.Lists.{mem}
use Rattle.policy.specs.Policy.{most_rules}
use Rattle.policy.specs.Rule.{Rule}
use Rattle.policy.specs.Claims.{Keepable}
use Rattle.policy.specs.declared.Action.{Action}
use Rattle.policy.specs.declared.Action.TheVariants.{Permit}
use Rattle.policy.proofs.Lists.{not_mem}
use Rattle.deployment.specs.Checked.{Checked, good, bad, ◌>>=◌, why_number, refusal_numbers}
use Rattle.deployment.specs.Bytes.{joined}
use Rattle.deployment.specs.Values.{Script}
use Rattle.deployment.specs.Contents.{Contents, rule_read, policy_read, default_read, keep_read, script_read}
use Rattle.deployment.specs.File.{
  Fields,
  nothing,
  listed,
  tags_after,
  tag_or,
  last_tag,
  length_fits,
  Field,
  field_read,
  with_rule,
  with_policy,
  with_default,
  with_keep,
  with_script,
  with_field,
  Reading,
  accepted,
  refused,
  reading_numbers,
  at_end,
  read_from,
  read_file,
  needs_script,
  read_to_judge,
  if_there,
  file_of,
  rule_tag,
  initial_tag,
  target_tag,
  default_tag,
  keep_tag,
  head_bytes,
}
use Rattle.deployment.specs.Properties.{
  AreBytes,
  Valid,
  Scripted,
  IfThere,
  There,
  up_to_target,
  up_to_default,
  up_to_keep,
  DefaultBehind,
  KeepBehind,
  ScriptBehind,
  Readable,
  fields_bytes,
  tag_of,
  size_of,
  value_of,
  Whole,
  FieldFails,
  cut,
  wrong_tag,
  no_target,
  wrong_length,
  wrong_bounds,
  equal_rule,
  rule_too_many,
  names_outside,
  names_twice,
  keep_astray,
  wrong_coding,
  wrong_default,
  TurnedAway,
}
use Rattle.deployment.specs.Claims.{WrittenAgain, Refused, RefusedWithoutScript, AcceptedFileFits}
use Rattle.deployment.specs.declared.Why.{Why}
use Rattle.deployment.specs.declared.Refusal.{Refusal}
use Rattle.deployment.proofs.Numbers.{both_same, reading_numbers_say}
use Rattle.deployment.proofs.Bytes.{are_bytes_drop, length_part}
use Rattle.deployment.proofs.Values.{by_option, default_there}
use Rattle.deployment.proofs.Tests.{Each, Turns, each_then, tested, rule_tested, policy_tested_lem, default_tested, keep_tested, script_tested}
use Rattle.deployment.proofs.Fields.{fields}
use Rattle.deployment.proofs.Taken.{ValueRight, taken, whole_read, taken_right, fails_taken}
use Rattle.deployment.proofs.ReadBack.{pass_over, read_through, there_too, valid_fits}

-- One field: turned away, or read, and then what is left behind it.
read_by {ℓ} : (Right : Reading → Type ℓ) (f : Fields) (at x : ℕ) (l : List ℕ)
    → ((why : Why) → taken f (x ∷ l) ≡ bad why → Right (refused (record { why = why; at = at })))
    → ((field : Field) (g : Fields) → field_read f (x ∷ l) ≡ good field → taken f (x ∷ l) ≡ good g
    → Right (read_from (2 + length field.value) g (suc at) l))
    → Right (read_from 0 f at (x ∷ l))
unfolding read_from
read_by Right f at x l turned passed = head (field_read f (x ∷ l)) refl
  where
    value : (field : Field) (read : Checked Fields) → field_read f (x ∷ l) ≡ good field → with_field f field ≡ read
        → Right (read_from 0 f at (x ∷ l))
    value field (bad why) h e = rw (h, read_from, e) (turned why (rw (h, e)))
    value field (good g) h e = rw (h, read_from, e) (passed field g h (rw (h, e)))

    head : (read : Checked Field) → field_read f (x ∷ l) ≡ read → Right (read_from 0 f at (x ∷ l))
    head (bad why) h = rw (h, read_from) (turned why (rw h))
    head (good field) h = value field (with_field f field) h refl

-- the bytes of a field that is whole are passed over
passed_over : (f : Fields) (field : Field) (g : Fields) (at x : ℕ) (l : List ℕ)
    → Whole f (x ∷ l) → field_read f (x ∷ l) ≡ good field
    → read_from (2 + length field.value) g (suc at) l
    ≡ read_from 0 g (at + (head_bytes + size_of (x ∷ l))) (drop (head_bytes + size_of (x ∷ l)) (x ∷ l))
passed_over f field g at x l whole e =
    let size = size_of (x ∷ l) in
    let known = whole_read f (x ∷ l) whole in
    let same : field ≡ record { tag = tag_of (x ∷ l); value = value_of (x ∷ l) } = cc in
    let long : length field.value ≡ size =
    ap (λ (f : Field). length f.value) same ∙ length_part head_bytes size (x ∷ l) whole.1 in
    let past : head_bytes + size ≡ suc (2 + size) = omega arith in
    let position : at + suc (2 + size) ≡ suc at + (2 + size) = omega arith in
    rw (long, past, position) (pass_over (2 + size) g (suc at) l (omega (arith, whole.1)))

-- What is right of a reading: accepted contents are valid and are written as the file, a refusal is a row of the table.
abbrev pub ReadingRight : List ℕ → Reading → Type 0
ReadingRight file (accepted c) = Valid c × (file_of c ≡ file)
ReadingRight file (refused refusal) = TurnedAway file (why_number refusal.why) refusal.at

turned_away : (f : Fields) (left : List ℕ) {number : ℕ} → Readable f → FieldFails f left number
    → TurnedAway (fields_bytes f ++ left) number (length (fields_bytes f))
turned_away f left r fails = record { fields = f; left = left; is = refl; readable = r; counted = refl; fails = fails }

keepable : (f : Fields) (keep : Option (List ℕ)) → IfThere (KeepBehind (up_to_default f)) keep → Keepable (listed f.initial) (listed f.target) keep
keepable f none h = tt
keepable f (some k) h = (h.1, h.2)

end_right : (f : Fields) → Readable f → ReadingRight (fields_bytes f ++ []) (at_end f (length (fields_bytes f)))
unfolding at_end fields_bytes if_there file_of listed tags_after tag_or last_tag mem
end_right f r = go f.catalogue f.initial f.target f.default f.keep f.script r
  where
    go : (c : List Rule) (i t : Option (List ℕ)) (d : Option Action) (k : Option (List ℕ)) (s : Option Script)
        → let f = fields c i t d k s in Readable f → ReadingRight (fields_bytes f ++ []) (at_end f (length (fields_bytes f)))
    go c i none d k s r = turned_away _ [] r (no_target refl (λ h. h))
    go c none (some t) d k s r = absurd (not_mem target_tag (tags_after rule_tag) refl r.target.0)
    go c (some i) (some t) d k s r =
        let f = fields c (some i) (some t) d k s in
        let permit = there_too (DefaultBehind (up_to_target f)) (λ action. action ≡ Permit) (λ action h. h.1) d r.default in (
          record {
            catalogue = r.catalogue;
            initial = r.initial.1;
            target = r.target.1;
            keep = keepable f k r.keep;
            script = there_too (ScriptBehind (up_to_keep f)) Scripted (λ s h. h.1) s r.script;
          },
          rw (default_there d permit) (sym (append-nil (fields_bytes f))),
        )

-- a reading that goes on is right where every later one is: a field is turned away, or is passed and its bytes join those so far
abbrev pub RightFrom : Fields → List ℕ → Type 0
RightFrom f left = ReadingRight (fields_bytes f ++ left) (read_from 0 f (length (fields_bytes f)) left)

by_rest : (f : Fields) (left : List ℕ) → Readable f → AreBytes left
    → ((g : Fields) (rest : List ℕ) → length rest < length left → Readable g → AreBytes rest → RightFrom g rest) → RightFrom f left
unfolding read_from
by_rest f [] r b others = end_right f r
by_rest f (x ∷ l) r b others =
    let right : ValueRight f (x ∷ l) (taken f (x ∷ l)) = taken_right f (x ∷ l) r b (omega arith) in
    read_by (ReadingRight (fields_bytes f ++ (x ∷ l))) f (length (fields_bytes f)) x l
    (λ why e. turned_away f (x ∷ l) r (subst (ValueRight f (x ∷ l)) e right))
    λ field g h e.
    let more : ValueRight f (x ∷ l) (good g) = subst (ValueRight f (x ∷ l)) e right in
    let past = head_bytes + size_of (x ∷ l) in
    let rest = drop past (x ∷ l) in
    let behind : length rest ≡ length (x ∷ l) - past = length-drop past (x ∷ l) in
    let position : length (fields_bytes g) ≡ length (fields_bytes f) + past =
    omega (arith, length-append (fields_bytes g) rest, length-append (fields_bytes f) (x ∷ l), ap length more.2, more.0.1) in
    rw (passed_over f field g (length (fields_bytes f)) x l more.0 h, ← position, ← more.2)
    (others g rest (omega arith) more.1 (are_bytes_drop past (x ∷ l) b))

pub reading_right : (n : ℕ) (f : Fields) (left : List ℕ) → length left ≤ n → Readable f → AreBytes left → RightFrom f left
reading_right zero f left h r b = by_rest f left r b (λ g rest shorter. absurd (omega arith))
reading_right (suc n) f left h r b = by_rest f left r b (λ g rest shorter. reading_right n g rest (omega arith))

pub nothing_readable : Readable nothing
unfolding nothing
nothing_readable =
    record {
      catalogue = record { few = zero-le; recordable = λ rule h. absurd (Memᴰ.not-nil h); unlike = tt };
      initial = tt;
      target = tt;
      default = tt;
      keep = tt;
      script = tt;
    }

pub file_right : (file : List ℕ) → AreBytes file → ReadingRight file (read_file file)
unfolding read_file nothing fields_bytes if_there joined
file_right file b = reading_right (length file) nothing file (omega arith) nothing_readable b

pub written_again : WrittenAgain
written_again file c b e = subst (ReadingRight file) e (file_right file b)

pub accepted_file_fits : AcceptedFileFits
accepted_file_fits file c b e =
    let right = written_again file c b e in rw (← right.1) (valid_fits c right.0)

-- what fails at the end of the file is that no target is there
fails_at_end : (f : Fields) {number : ℕ} → FieldFails f [] number → (number ≡ 3) × ¬ There f.target
fails_at_end f (cut h) = absurd (⊎_elim (λ h. omega arith) (λ h. omega arith) h)
fails_at_end f (wrong_tag headed out) = absurd (omega arith)
fails_at_end f (no_target none_left h) = (refl, h)
fails_at_end f (wrong_length h wrong) = absurd (omega arith)
fails_at_end f (wrong_bounds whole e wrong) = absurd (omega arith)
fails_at_end f (equal_rule whole e right same) = absurd (omega arith)
fails_at_end f (rule_too_many h many) = absurd (omega arith)
fails_at_end f (names_outside whole e out) = absurd (omega arith)
fails_at_end f (names_twice whole e inside same) = absurd (omega arith)
fails_at_end f (keep_astray whole e astray) = absurd (omega arith)
fails_at_end f (wrong_coding whole e wrong) = absurd (omega arith)
fails_at_end f (wrong_default whole e wrong) = absurd (omega arith)

absent : {A : Type 0} (o : Option A) → ¬ There o → o ≡ none
absent none h = refl
absent (some a) h = absurd (h tt)

fails_read : (f : Fields) (at : ℕ) (left : List ℕ) (number : ℕ) → FieldFails f left number
    → reading_numbers (read_from 0 f at left) ≡ number ∷ at ∷ []
unfolding read_from at_end reading_numbers refusal_numbers
fails_read f at [] number fails = let last = fails_at_end f fails in rw (last.0, absent f.target last.1, at_end)
fails_read f at (x ∷ l) number fails =
    let turned = fails_taken f (x ∷ l) (omega arith) fails in
    read_by (λ reading. reading_numbers reading ≡ number ∷ at ∷ []) f at x l
    (λ why e. let same : why_number why ≡ number = subst (Turns number) e turned in rw same)
    λ field g h e. absurd (subst (Turns number) e turned)

pub refusals : Refused
unfolding read_file reading_numbers refusal_numbers
refusals file number at b = (
  λ e. go (read_file file) (file_right file b) e,
  λ h. rw (h.is, h.counted)
      (ap reading_numbers (read_through h.fields h.left h.readable)
      ∙ fails_read h.fields (length (fields_bytes h.fields)) h.left number h.fails),
)
  where
    go : (reading : Reading) → ReadingRight file reading → reading_numbers reading ≡ number ∷ at ∷ [] → TurnedAway file number at
    go (accepted c) right e = absurd (omega (arith, ap length e))
    go (refused refusal) right e = let same = both_same e in rw (← same.0, ← same.1) right

-- the same of a refusal
pub refusal_row : (file : List ℕ) (refusal : Refusal) → AreBytes file
    → (read_file file ≡ refused refusal) ↔ TurnedAway file (why_number refusal.why) refusal.at
unfolding refusal_numbers
refusal_row file refusal b =
    let says = reading_numbers_say (read_file file) refusal in
    let row = refusals file (why_number refusal.why) refusal.at b in
    (λ e. row.0 (says.1 e), λ h. says.0 (row.1 h))

-- Refusals 12 and 13 are none of the reader's: its own numbers are those up to 11, and 50.
abbrev OwnNumber : ℕ → Type 0
OwnNumber number = (number ≤ 11) ⊎ (number ≡ 50)

abbrev Own : Why → Type 0
Own why = OwnNumber (why_number why)

abbrev AllOwn : {A : Type 0} → Checked A → Type 0
AllOwn = Each (λ a. Unit {0}) Own

own_then : {A B : Type 0} (read : Checked A) (next : A → Checked B) → AllOwn read → ((a : A) → AllOwn (next a))
    → AllOwn (◌>>=◌ read next)
own_then read next h others = each_then (λ a. Unit {0}) (λ b. Unit {0}) Own read next h (λ a t. others a)

head_own : (f : Fields) (left : List ℕ) → AllOwn (field_read f left)
unfolding field_read
head_own f left =
    tested AllOwn (leb head_bytes (length left)) (λ e. inl (omega arith)) λ e.
    tested AllOwn (mem (tag_of left) (tags_after (last_tag f))) (λ e. inl (omega arith)) λ e.
    tested AllOwn (not (eqb (tag_of left) rule_tag && leb most_rules (length f.catalogue))) (λ e. inl (omega arith)) λ e.
    tested AllOwn (length_fits (tag_of left) (size_of left)) (λ e. inl (omega arith)) λ e.
    tested AllOwn (leb (head_bytes + size_of left) (length left)) (λ e. inl (omega arith)) λ e. tt

rule_own : (c : List Rule) (value : List ℕ) → AllOwn (rule_read c value)
rule_own c value = rule_tested AllOwn c value (λ h. inl (omega arith)) (λ h k. inl (omega arith)) (λ h k. tt)

policy_own : (size : ℕ) (value : List ℕ) → AllOwn (policy_read size value)
policy_own size value = policy_tested_lem AllOwn size value (λ h. inl (omega arith)) (λ h k. inl (omega arith)) (λ h. tt)

default_own : (value : List ℕ) → AllOwn (default_read value)
default_own value = default_tested AllOwn value (λ h. inr refl) (λ h. tt)

keep_own : (i t value : List ℕ) → AllOwn (keep_read i t value)
keep_own i t value = keep_tested AllOwn i t value (λ h. inl (omega arith)) (λ h k. tt)

script_own : (value : List ℕ) → AllOwn (script_read value)
script_own value = script_tested AllOwn value (λ h. inl (omega arith)) (λ s h. tt)

branch {ℓ} : {A : Type 0} (P : A → Type ℓ) (test : Bool) {x y : A} → P x → P y → P (elim test [ true ↦ x | false ↦ y ])
branch P true p q = p
branch P false p q = q

value_own : (f : Fields) (field : Field) → AllOwn (with_field f field)
unfolding with_field with_rule with_policy with_default with_keep with_script
value_own f field =
    let value = field.value in
    let c = f.catalogue in
    let size = length c in
    let i = listed f.initial in
    let t = listed f.target in
    branch AllOwn (eqb field.tag rule_tag) (own_then (rule_read c value) _ (rule_own c value) (λ a. tt))
    (branch AllOwn (eqb field.tag initial_tag) (own_then (policy_read size value) _ (policy_own size value) (λ a. tt))
    (branch AllOwn (eqb field.tag target_tag) (own_then (policy_read size value) _ (policy_own size value) (λ a. tt))
    (branch AllOwn (eqb field.tag default_tag) (own_then (default_read value) _ (default_own value) (λ a. tt))
    (branch AllOwn (eqb field.tag keep_tag) (own_then (keep_read i t value) _ (keep_own i t value) (λ a. tt))
    (own_then (script_read value) _ (script_own value) (λ a. tt))))))

abbrev ReadsOwn : Reading → Type 0
ReadsOwn (accepted c) = Unit {0}
ReadsOwn (refused refusal) = Own refusal.why

reading_own : (n : ℕ) (f : Fields) (at : ℕ) (left : List ℕ) → ReadsOwn (read_from n f at left)
unfolding read_from at_end
reading_own n f at [] = by_option f.target (λ e. rw (e, at_end) (inl (omega arith))) (λ t e. rw (e, at_end) tt)
reading_own (suc n) f at (x ∷ l) = reading_own n f (suc at) l
reading_own zero f at (x ∷ l) =
    read_by ReadsOwn f at x l
    (λ why e. subst AllOwn e (own_then (field_read f (x ∷ l)) _ (head_own f (x ∷ l)) (value_own f)))
    (λ field g h e. reading_own (2 + length field.value) g (suc at) l)

pub file_numbers_lem : (file : List ℕ) (number at : ℕ) → reading_numbers (read_file file) ≡ number ∷ at ∷ [] → (number ≤ 11) ⊎ (number ≡ 50)
unfolding read_file reading_numbers refusal_numbers
file_numbers_lem file number at e = go (read_file file) (reading_own 0 nothing 0 file) e
  where
    go : (reading : Reading) → ReadsOwn reading → reading_numbers reading ≡ number ∷ at ∷ [] → (number ≤ 11) ⊎ (number ≡ 50)
    go (accepted c) own e = absurd (omega (arith, ap length e))
    go (refused refusal) own e = subst OwnNumber (both_same e).0 own

-- none of them is the number for room, with a script or without
pub never_room : (file : List ℕ) (at : ℕ) → ¬ (reading_numbers (read_file file) ≡ 13 ∷ at ∷ [])
never_room file at e = ⊎_elim (λ low. omega arith) (λ is. omega arith) (file_numbers_lem file 13 at e)

pub never_room_to_judge : (file : List ℕ) (at : ℕ) → ¬ (reading_numbers (read_to_judge file) ≡ 13 ∷ at ∷ [])
unfolding read_to_judge needs_script reading_numbers refusal_numbers
never_room_to_judge file at e = go (read_file file) refl e
  where
    go : (reading : Reading) → read_file file ≡ reading → ¬ (reading_numbers (needs_script (length file) reading) ≡ 13 ∷ at ∷ [])
    go (refused refusal) h e = never_room file at (ap reading_numbers h ∙ e)
    go (accepted c) h e =
        by_option c.script
        (λ absent. omega (arith, (both_same (rw (absent, needs_script) at e)).0))
        (λ s there. omega (arith, ap length (rw (there, needs_script) at e)))

pub refused_without_script : RefusedWithoutScript
unfolding read_to_judge needs_script reading_numbers refusal_numbers
refused_without_script file at = (λ e. go (read_file file) refl e, λ h. rw (h.1, h.2, needs_script, h.3))
  where
    go : (reading : Reading) → read_file file ≡ reading → reading_numbers (needs_script (length file) reading) ≡ 12 ∷ at ∷ []
        → (c : Contents) × (read_file file ≡ accepted c) × (c.script ≡ none) × (at ≡ length file)
    go (refused refusal) h e = absurd (⊎_elim (λ low. omega arith) (λ is. omega arith) (file_numbers_lem file 12 at (ap reading_numbers h ∙ e)))
    go (accepted c) h e =
        by_option c.script
        (λ absent. (c, h, absent, sym (both_same (rw (absent, needs_script) at e)).1))
        (λ s there. absurd (omega (arith, ap length (rw (there, needs_script) at e))))
