-- Rules, lists and defaults, read and written: what is written reads back as the same value, and what is read from
-- bytes of the right length writes those bytes. The idea: a value is parts of fixed widths one after another, and each part is a
-- number. Assumes nothing.
use Prim.Native.Nat.{ℕ, ◌+◌, ◌*◌, ◌≤◌, ◌<◌}
use native.Mathlib.Nat.{mul-div_cancel_left}
use native.Mathlib.Omega.{arith}
use mathlib.Core.Path.{◌≡◌, refl, sym, ◌∙◌, ap}
use mathlib.Core.Bool.{Bool, true, false, ◌&&◌}
use mathlib.Core.Logic.{⊎_elim}
use mathlib.Core.Option.{Option, none, some}
use mathlib.Core.List.Memᴰ
use mathlib.Core.List.{
  List,
  [],
  ◌∷◌,
  ◌++◌,
  map,
  append_assoc,
  append-nil,
  Memᴰ,
  Sublistᴰ,
}
use borrow.Author.Tests.{eqb-true, eqb-false, eq-eqb, leb-true, le-leb}
use lib.Dec.{eqb, leb, lit<}
use lib.ListN.{length, drop, length-map, drop_of_length-le}
use Rattle.policy.specs.Claims.{Admitted}
use Rattle.policy.specs.Policy.{same_action, most_rules}
use Rattle.policy.specs.Rule.{Range, Rule}
use Rattle.policy.specs.declared.Action.{Action}
use Rattle.policy.specs.declared.Action.TheVariants.{Deny, Permit}
use Rattle.policy.proofs.Decisions.{same_action_eq, eq_same_action}
use Rattle.policy.proofs.Order.{sublist_in}
use Rattle.policy.proofs.Tests.{by_test, never, and_both, both_and, or_either, or_left, or_right, falsely}
use Rattle.deployment.specs.Bytes.{number, bytes_of, part, chunks, joined}
use Rattle.deployment.specs.Values.{
  action_of,
  action_number,
  range_at,
  range_bytes,
  rule_of,
  rule_bytes,
  rising,
  rule_fits,
  same_range,
  same_rule,
  known,
  default_width,
  default_bytes,
  default_of,
  default_field,
  numbers_of,
  numbers_bytes,
}
use Rattle.deployment.specs.Properties.{AreBytes, Sized, Recordable, IfThere}
use Rattle.deployment.proofs.Bytes.{
  are_bytes_append,
  length_bytes,
  bytes_are_bytes,
  number_bytes,
  bytes_number,
  part_rest,
  part_written,
  part_fits,
  chunks_joined,
  joined_chunks,
  chunk_length,
  length_joined,
  length_chunks,
  are_bytes_chunk,
  are_bytes_joined,
}

-- a value is absent or there: each case gets the equation
pub by_option {ℓ} : {A : Type 0} {B : Type ℓ} (o : Option A) → (o ≡ none → B) → ((a : A) → o ≡ some a → B) → B
by_option none absent there = absent refl
by_option (some a) absent there = there a refl

pub none_some {ℓ} : {A : Type 0} {B : Type ℓ} {a : A} → none ≡ some a → B
none_some {a} e = absurd (let z : ◌≡◌ {A = ℕ} 0 1 = cc in omega arith)

-- there and back again, at every element
pub map_back : {A B : Type 0} (f : A → B) (g : B → A) (l : List A) → ((a : A) → Memᴰ a l → g (f a) ≡ a) → map g (map f l) ≡ l
map_back f g [] h = refl
map_back f g (a ∷ l) h =
    let back = h a (Memᴰ.head refl) in
    let others = map_back f g l (λ b t. h b (Memᴰ.tail t)) in
    cc

-- six tests
six_and : (a b c d e f : Bool) → (a && b && c && d && e && f) ≡ true
    → (a ≡ true) × (b ≡ true) × (c ≡ true) × (d ≡ true) × (e ≡ true) × (f ≡ true)
six_and a b c d e f h =
    let p = and_both (a && b && c && d && e) f h in
    let q = and_both (a && b && c && d) e p.0 in
    let r = and_both (a && b && c) d q.0 in
    let s = and_both (a && b) c r.0 in
    let t = and_both a b s.0 in
    (t.0, t.1, s.1, r.1, q.1, p.1)

and_six : {a b c d e f : Bool} → a ≡ true → b ≡ true → c ≡ true → d ≡ true → e ≡ true → f ≡ true
    → (a && b && c && d && e && f) ≡ true
and_six p q r s t u = both_and (both_and (both_and (both_and (both_and p q) r) s) t) u

-- Rules. The action is a number up to 1.
pub action_read : (a : Action) → action_of (action_number a) ≡ a
unfolding action_of action_number
action_read Deny = refl
action_read Permit = refl

pub action_written : (n : ℕ) → n ≤ 1 → action_number (action_of n) ≡ n
unfolding action_of action_number
action_written n h = by_test (eqb n 1) (λ t. rw t (sym (eqb-true n 1 t))) (λ f. rw f (omega (arith, eqb-false n 1 f)))

action_small : (a : Action) → action_number a ≤ 1
unfolding action_number
action_small Deny = omega arith
action_small Permit = omega arith

-- A range stands where the parts are its two numbers.
range_read : (start width : ℕ) (value : List ℕ) (range : Range) → Sized width range
    → part start width value ≡ bytes_of width range.low → part (start + width) width value ≡ bytes_of width range.high
    → range_at start width value ≡ range
unfolding range_at
range_read start width value range h p q =
    let low : number (part start width value) ≡ range.low = ap number p ∙ number_bytes width range.low (omega arith) in
    let high : number (part (start + width) width value) ≡ range.high =
    ap number q ∙ number_bytes width range.high h.fits in
    λ i. record { low = low i; high = high i }

range_written : (start width : ℕ) (value : List ℕ) → AreBytes value → start + width + width ≤ length value
    → range_bytes width (range_at start width value) ++ drop (start + width + width) value ≡ drop start value
unfolding range_at range_bytes
range_written start width value h fits =
    rw (
      part_written start width value h (omega arith),
      part_written (start + width) width value h fits,
      append_assoc,
      part_rest (start + width) width value,
      part_rest start width value,
    )

range_sized : (start width : ℕ) (value : List ℕ) → AreBytes value → start + width + width ≤ length value
    → rising (range_at start width value) ≡ true → Sized width (range_at start width value)
unfolding range_at rising
range_sized start width value h fits e =
    record { rises = leb-true _ _ e; fits = part_fits (start + width) width value h fits }

pub length_rule : (rule : Rule) → length (rule_bytes rule) ≡ 27
unfolding rule_bytes range_bytes bytes_of
length_rule rule = refl

-- the value of rules: their records, one behind the other
rules_wide : (catalogue : List Rule) (piece : List ℕ) → Memᴰ piece (map rule_bytes catalogue) → length piece ≡ 27
rules_wide catalogue piece t = let at = Memᴰ.of_map rule_bytes catalogue t in rw (← at.2) (length_rule at.0)

pub length_rules : (catalogue : List Rule) → length (joined (map rule_bytes catalogue)) ≡ 27 * length catalogue
length_rules catalogue =
    length_joined 27 (map rule_bytes catalogue) (rules_wide catalogue) ∙ ap (λ (n : ℕ). 27 * n) (length-map catalogue rule_bytes)

pub rules_apart : (catalogue : List Rule) → chunks 27 (length catalogue) (joined (map rule_bytes catalogue)) ≡ map rule_bytes catalogue
rules_apart catalogue = rw length-map at (chunks_joined 27 (map rule_bytes catalogue) (rules_wide catalogue))

range_are_bytes : (width : ℕ) (range : Range) → AreBytes (range_bytes width range)
unfolding range_bytes
range_are_bytes width range = are_bytes_append _ _ (bytes_are_bytes width range.low) (bytes_are_bytes width range.high)

pub rule_are_bytes : (rule : Rule) → AreBytes (rule_bytes rule)
unfolding rule_bytes
rule_are_bytes rule =
    are_bytes_append _ _ (bytes_are_bytes 1 _)
    (are_bytes_append _ _ (range_are_bytes 1 _)
    (are_bytes_append _ _ (range_are_bytes 4 _)
    (are_bytes_append _ _ (range_are_bytes 2 _)
    (are_bytes_append _ _ (range_are_bytes 4 _) (range_are_bytes 2 _)))))

module _ (rule : Rule) (h : Recordable rule) where
  action_at : number (part 0 1 (rule_bytes rule)) ≡ action_number rule.action
  unfolding rule_bytes range_bytes bytes_of part
  action_at = number_bytes 1 (action_number rule.action) (omega (arith, action_small rule.action))

  protocol_at : range_at 1 1 (rule_bytes rule) ≡ rule.protocol
  unfolding rule_bytes range_bytes bytes_of part
  protocol_at = range_read 1 1 (rule_bytes rule) rule.protocol h.protocol refl refl

  source_at : range_at 3 4 (rule_bytes rule) ≡ rule.source
  unfolding rule_bytes range_bytes bytes_of part
  source_at = range_read 3 4 (rule_bytes rule) rule.source h.source refl refl

  source_port_at : range_at 11 2 (rule_bytes rule) ≡ rule.source_port
  unfolding rule_bytes range_bytes bytes_of part
  source_port_at = range_read 11 2 (rule_bytes rule) rule.source_port h.source_port refl refl

  destination_at : range_at 15 4 (rule_bytes rule) ≡ rule.destination
  unfolding rule_bytes range_bytes bytes_of part
  destination_at = range_read 15 4 (rule_bytes rule) rule.destination h.destination refl refl

  destination_port_at : range_at 23 2 (rule_bytes rule) ≡ rule.destination_port
  unfolding rule_bytes range_bytes bytes_of part
  destination_port_at = range_read 23 2 (rule_bytes rule) rule.destination_port h.destination_port refl refl

  pub rule_read_lem : rule_of (rule_bytes rule) ≡ rule
  unfolding rule_of
  rule_read_lem =
      rw (action_at, action_read rule.action, protocol_at, source_at, source_port_at, destination_at, destination_port_at)

  pub rule_fits_lem : rule_fits (rule_bytes rule) ≡ true
  unfolding rule_fits rising
  rule_fits_lem =
      rw (action_at, protocol_at, source_at, source_port_at, destination_at, destination_port_at)
      (and_six (le-leb _ _ (action_small rule.action))
      (le-leb _ _ h.protocol.rises)
      (le-leb _ _ h.source.rises)
      (le-leb _ _ h.source_port.rises)
      (le-leb _ _ h.destination.rises)
      (le-leb _ _ h.destination_port.rises))

rule_tests : (value : List ℕ) → rule_fits value ≡ true
    → (leb (number (part 0 1 value)) 1 ≡ true) × (rising (range_at 1 1 value) ≡ true) × (rising (range_at 3 4 value) ≡ true)
    × (rising (range_at 11 2 value) ≡ true) × (rising (range_at 15 4 value) ≡ true) × (rising (range_at 23 2 value) ≡ true)
unfolding rule_fits
rule_tests value fits =
    six_and (leb (number (part 0 1 value)) 1) (rising (range_at 1 1 value)) (rising (range_at 3 4 value))
    (rising (range_at 11 2 value)) (rising (range_at 15 4 value)) (rising (range_at 23 2 value)) fits

-- the bytes behind the action are those of the five ranges
abbrev pub bound_bytes : Rule → List ℕ
bound_bytes rule =
    range_bytes 1 rule.protocol
    ++ (range_bytes 4 rule.source
    ++ (range_bytes 2 rule.source_port
    ++ (range_bytes 4 rule.destination
    ++ range_bytes 2 rule.destination_port)))

pub bounds_written : (value : List ℕ) → AreBytes value → length value ≡ 27 → bound_bytes (rule_of value) ≡ drop 1 value
unfolding rule_of
bounds_written value h long =
    let last : range_bytes 2 (range_at 23 2 value) ≡ drop 23 value =
    sym (append-nil (range_bytes 2 (range_at 23 2 value)))
    ∙ ap (λ (l : List ℕ). range_bytes 2 (range_at 23 2 value) ++ l) (sym (drop_of_length-le value {i = 27} (omega arith)))
    ∙ range_written 23 2 value h (omega arith) in
    rw (
      last,
      range_written 15 4 value h (omega arith),
      range_written 11 2 value h (omega arith),
      range_written 3 4 value h (omega arith),
      range_written 1 1 value h (omega arith),
    )

-- bytes that fit are those of the rule that they are read as, and a record can hold it
module _ (value : List ℕ) (h : AreBytes value) (long : length value ≡ 27) (fits : rule_fits value ≡ true) where
  pub rule_written : rule_bytes (rule_of value) ≡ value
  unfolding rule_bytes rule_of
  rule_written =
      rw (
        action_written (number (part 0 1 value)) (leb-true _ _ (rule_tests value fits).0),
        part_written 0 1 value h (omega arith),
        bounds_written value h long,
        part_rest 0 1 value,
      )

  pub rule_recordable : Recordable (rule_of value)
  unfolding rule_of
  rule_recordable =
      let tests = rule_tests value fits in
      record {
        protocol = range_sized 1 1 value h (omega arith) tests.1;
        source = range_sized 3 4 value h (omega arith) tests.2;
        source_port = range_sized 11 2 value h (omega arith) tests.3;
        destination = range_sized 15 4 value h (omega arith) tests.4;
        destination_port = range_sized 23 2 value h (omega arith) tests.5;
      }

-- Equal rules.
same_range_eq : (a b : Range) → same_range a b ≡ true → a ≡ b
unfolding same_range
same_range_eq a b e =
    let both = and_both (eqb a.low b.low) (eqb a.high b.high) e in
    let low : a.low ≡ b.low = eqb-true a.low b.low both.0 in
    let high : a.high ≡ b.high = eqb-true a.high b.high both.1 in
    λ i. record { low = low i; high = high i }

same_range_refl : (a : Range) → same_range a a ≡ true
unfolding same_range
same_range_refl a = both_and (eq-eqb a.low a.low refl) (eq-eqb a.high a.high refl)

pub same_rule_eq : (a b : Rule) → same_rule a b ≡ true → a ≡ b
unfolding same_rule
same_rule_eq a b e =
    let tests =
    six_and (same_action a.action b.action) (same_range a.protocol b.protocol) (same_range a.source b.source)
    (same_range a.source_port b.source_port) (same_range a.destination b.destination)
    (same_range a.destination_port b.destination_port) e in
    λ i.
    record {
      action = same_action_eq a.action b.action tests.0 i;
      protocol = same_range_eq a.protocol b.protocol tests.1 i;
      source = same_range_eq a.source b.source tests.2 i;
      source_port = same_range_eq a.source_port b.source_port tests.3 i;
      destination = same_range_eq a.destination b.destination tests.4 i;
      destination_port = same_range_eq a.destination_port b.destination_port tests.5 i;
    }

pub same_rule_refl : (a : Rule) → same_rule a a ≡ true
unfolding same_rule
same_rule_refl a =
    and_six (eq_same_action a.action a.action refl) (same_range_refl a.protocol) (same_range_refl a.source)
    (same_range_refl a.source_port) (same_range_refl a.destination) (same_range_refl a.destination_port)

pub known_in : (rule : Rule) (catalogue : List Rule) → known rule catalogue ≡ true → Memᴰ rule catalogue
unfolding known
known_in rule [] e = never e refl
known_in rule (earlier ∷ catalogue) e =
    ⊎_elim (λ t. Memᴰ.head (sym (same_rule_eq earlier rule t))) (λ t. Memᴰ.tail (known_in rule catalogue t))
    (or_either (same_rule earlier rule) (known rule catalogue) e)

pub in_known : (rule : Rule) (catalogue : List Rule) → Memᴰ rule catalogue → known rule catalogue ≡ true
unfolding known
in_known rule [] h = absurd (Memᴰ.not-nil h)
in_known rule (earlier ∷ catalogue) h =
    ⊎_elim (λ e. or_left {a = same_rule earlier rule} (known rule catalogue) (rw e (same_rule_refl earlier)))
    (λ t. or_right (same_rule earlier rule) (in_known rule catalogue t))
    (Memᴰ.cases_cons h)

pub not_known : (rule : Rule) (catalogue : List Rule) → ¬ Memᴰ rule catalogue → known rule catalogue ≡ false
not_known rule catalogue h = falsely (λ t. h (known_in rule catalogue t))

-- A default is one byte, which is 1 where it is permit.
pub length_default : (action : Action) → length (default_bytes action) ≡ default_width
unfolding default_bytes
length_default action = length_bytes default_width (action_number action)

pub default_are_bytes : (action : Action) → AreBytes (default_bytes action)
unfolding default_bytes
default_are_bytes action = bytes_are_bytes default_width (action_number action)

pub default_read_lem : number (default_bytes Permit) ≡ 1
unfolding default_bytes action_number
default_read_lem = number_bytes default_width 1 (lit< tt)

pub default_written : (value : List ℕ) → AreBytes value → length value ≡ default_width → number value ≡ 1 → default_bytes Permit ≡ value
unfolding default_bytes action_number
default_written value h long is = rw (long, is) at (bytes_number value h)

-- the field of a default gives it back, and a field that is there is that of permit
pub default_back : (action : Action) → default_of (default_field action) ≡ action
unfolding default_of default_field
default_back Deny = refl
default_back Permit = refl

pub default_there : (field : Option Action) → IfThere (λ action. action ≡ Permit) field → default_field (default_of field) ≡ field
unfolding default_of default_field
default_there none h = refl
default_there (some action) h = rw h refl

-- Lists of rule numbers, two bytes each.
two_bytes : (numbers : List ℕ) (piece : List ℕ) → Memᴰ piece (map (bytes_of 2) numbers) → length piece ≡ 2
two_bytes numbers piece t = let at = Memᴰ.of_map (bytes_of 2) numbers t in rw (← at.2) (length_bytes 2 at.0)

pub length_numbers : (numbers : List ℕ) → length (numbers_bytes numbers) ≡ 2 * length numbers
unfolding numbers_bytes
length_numbers numbers =
    length_joined 2 (map (bytes_of 2) numbers) (two_bytes numbers) ∙ ap (λ (n : ℕ). 2 * n) (length-map numbers (bytes_of 2))

pub numbers_are_bytes : (numbers : List ℕ) → AreBytes (numbers_bytes numbers)
unfolding numbers_bytes
numbers_are_bytes numbers =
    are_bytes_joined (map (bytes_of 2) numbers)
    (λ piece t. let at = Memᴰ.of_map (bytes_of 2) numbers t in rw (← at.2) (bytes_are_bytes 2 at.0))

-- bytes of the right length: the count of numbers, and the bytes again
module _ (value : List ℕ) (count : ℕ) (long : length value ≡ 2 * count) where
  numbers_at : numbers_of value ≡ map number (chunks 2 count value)
  unfolding numbers_of
  numbers_at = rw (long, mul-div_cancel_left count (lit< tt))

  pub numbers_count : length (numbers_of value) ≡ count
  numbers_count = rw numbers_at (length-map (chunks 2 count value) number ∙ length_chunks 2 count value)

  pub numbers_written : AreBytes value → numbers_bytes (numbers_of value) ≡ value
  unfolding numbers_bytes
  numbers_written h =
      let piece_back : (piece : List ℕ) → Memᴰ piece (chunks 2 count value) → bytes_of 2 (number piece) ≡ piece =
      λ piece t.
      rw (chunk_length 2 count value long piece t) at (bytes_number piece (are_bytes_chunk 2 count value h piece t)) in
      rw (numbers_at, map_back number (bytes_of 2) (chunks 2 count value) piece_back) (joined_chunks 2 count value long)

pub numbers_read : (numbers : List ℕ) → ((n : ℕ) → Memᴰ n numbers → n < 65536) → numbers_of (numbers_bytes numbers) ≡ numbers
unfolding numbers_bytes
numbers_read numbers h =
    numbers_at (numbers_bytes numbers) (length numbers) (length_numbers numbers)
    ∙ ap (map number) (rw length-map at (chunks_joined 2 (map (bytes_of 2) numbers) (two_bytes numbers)))
    ∙ map_back (bytes_of 2) number numbers (λ n t. number_bytes 2 n (h n t))

-- rules of a catalogue have numbers of two bytes
pub policy_numbers : (size : ℕ) (policy : List ℕ) → size ≤ most_rules → Admitted size policy → numbers_of (numbers_bytes policy) ≡ policy
policy_numbers size policy few h = numbers_read policy (λ n t. omega (arith, h.inside n t))

pub keep_numbers : (size : ℕ) (policy keep : List ℕ) → size ≤ most_rules → Admitted size policy → Sublistᴰ keep policy
    → numbers_of (numbers_bytes keep) ≡ keep
keep_numbers size policy keep few h within = numbers_read keep (λ n t. omega (arith, h.inside n (sublist_in within n t)))
