-- Parts by their elements; the n-th of pieces of one width, of a list value's numbers and of a catalogue's rules, each by the bytes that it
-- is read from. The n-th piece is the part that starts at n widths. Assumes nothing.
use Prim.Native.Nat.{ℕ, zero, suc, ◌+◌, ◌-◌, ◌*◌, ◌/◌, ◌≤◌, ◌<◌}
use native.Mathlib.Nat.{zero-add, suc-add, add-zero, add-suc, add_assoc, zero-mul, suc-mul, add_comm, mul_comm}
use native.Mathlib.Nat.{add-sub_cancel_left, div-zero, le-div_iff_mul-le}
use native.Mathlib.Omega.{arith}
use mathlib.Core.Path.{◌≡◌, refl, sym, ◌∙◌, ap}
use mathlib.Core.Bool.{false}
use mathlib.Core.List.{List, [], ◌∷◌, map, map-map}
use mathlib.Core.Option.{none}
use borrow.Author.Tests.{ltb-true, ltb-false, lt-ltb, le-ltb, le-leb, lt-leb}
use lib.ListN.{length, take, drop, get_or, length-drop, length-map, get_or-map, get_or-eq_default}
use lib.Seq.{take_all, drop-cons, drop-drop, take-nil, drop-nil, get_or-take, get_or-drop}
use Rattle.policy.specs.Rule.{Rule, matches, hits, says}
use Rattle.policy.specs.declared.Action.TheVariants.{Deny}
use Rattle.policy.specs.declared.Flow.{Flow}
use lib.Dec.{ltb}
use Rattle.policy.proofs.Tests.{by_test}
use Rattle.deployment.specs.Bytes.{number_from, number, part, number_at, chunks}
use Rattle.deployment.specs.Values.{rule_width, action_of, rule_of, numbers_of, command_from, coded_of}
use Rattle.deployment.specs.Commands.{command_count, command_at}
use Rattle.deployment.specs.Catalogue.{record_count, records_of, catalogue_of}
use Rattle.deployment.proofs.Bytes.{length_part, length_chunks}

-- the elements at start + from, start + from + 1, ..
abbrev pub elements : ℕ → ℕ → ℕ → List ℕ → List ℕ
elements start from zero l = []
elements start from (suc size) l = get_or l (start + from) 0 ∷ elements start (suc from) size l

-- A part, element by element.
pub part_from : (start from size : ℕ) (l : List ℕ) → start + from + size ≤ length l
    → part (start + from) size l ≡ elements start from size l
unfolding part
part_from start from zero l fits = refl
part_from start from (suc size) l fits =
    rw (drop-cons l (start + from) 0 (omega arith), ← part_from start (suc from) size l (omega arith), add-suc)

pub part_elements : (start size : ℕ) (l : List ℕ) → start + suc size ≤ length l
    → part start (suc size) l ≡ get_or l start 0 ∷ elements start 1 size l
part_elements start size l fits = rw add-zero at (part_from start 0 (suc size) l (omega arith))

-- the element at an index of a part
pub part_at : (start size : ℕ) (l : List ℕ) (i : ℕ) → i < size → get_or (part start size l) i 0 ≡ get_or l (start + i) 0
unfolding part
part_at start size l i h = get_or-take size (drop start l) i 0 h ∙ get_or-drop start l i 0

-- a part as code cuts it, by its start and its end
pub part_between : (start size : ℕ) (l : List ℕ) → take (start + size - start) (drop start l) ≡ part start size l
unfolding part
part_between start size l = rw add-sub_cancel_left

-- .. and from its start to the end of the bytes
pub part_to_end : (start : ℕ) (l : List ℕ) → take (length l - start) (drop start l) ≡ drop start l
part_to_end start l = take_all (length l - start) (drop start l) (omega (arith, length-drop start l))

-- the number of bytes that all stand there, and of some that don't
pub number_there : (start width : ℕ) (l : List ℕ) → start + width ≤ length l → number_at start width l ≡ number (part start width l)
unfolding number_at
number_there start width l h = rw (le-leb (start + width) (length l) h)

pub number_missing : (start width : ℕ) (l : List ℕ) → length l < start + width → number_at start width l ≡ 0
unfolding number_at
number_missing start width l h = rw (lt-leb (start + width) (length l) h)

-- the number of two bytes that stand there
pub number_two : (start : ℕ) (l : List ℕ) → start + 2 ≤ length l
    → number_at start 2 l ≡ number (get_or l start 0 ∷ get_or l (start + 1) 0 ∷ [])
number_two start l h = number_there start 2 l h ∙ ap number (part_elements start 1 l h)

-- the number of one byte is that byte
pub number_one : (b : ℕ) → b ≡ number (b ∷ [])
unfolding number number_from
number_one b = omega arith

-- the number of a byte at a place, and of the first byte
pub number_byte : (start : ℕ) (l : List ℕ) → start < length l → number (part start 1 l) ≡ get_or l start 0
number_byte start l h = ap number (part_elements start 0 l (omega arith)) ∙ sym (number_one (get_or l start 0))

pub first_byte : (l : List ℕ) → 1 ≤ length l → number (part 0 1 l) ≡ get_or l 0 0
first_byte l h = number_byte 0 l (omega arith)

-- a part of a part
pub drop_take {ℓ} : {A : Type ℓ} (m n : ℕ) (l : List A) → drop m (take (m + n) l) ≡ take n (drop m l)
drop_take zero n l = rw zero-add
drop_take (suc m) n [] = rw (suc-add, take-nil)
drop_take (suc m) n (x ∷ l) = rw suc-add (drop_take m n l)

-- The n-th piece.
pub chunk_at : (width count : ℕ) (l : List ℕ) (n : ℕ) → n < count → get_or (chunks width count l) n [] ≡ part (n * width) width l
unfolding chunks part
chunk_at width zero l n h = absurd (omega arith)
chunk_at width (suc count) l zero h = rw zero-mul
chunk_at width (suc count) l (suc n) h =
    rw (chunk_at width count (drop width l) n (omega arith), drop-drop, suc-mul, add_comm (n * width) width)

-- what is read from the n-th piece
pub read_at {ℓ} : {A : Type ℓ} (f : List ℕ → A) (width count : ℕ) (l : List ℕ) (n : ℕ) → n < count
    → get_or (map f (chunks width count l)) n (f []) ≡ f (part (n * width) width l)
read_at f width count l n h = get_or-map f (chunks width count l) n [] ∙ ap f (chunk_at width count l n h)

-- the n-th of as many whole pieces as there are lies inside
pub piece_fits : (width size n : ℕ) → n < size / width → n * width + width ≤ size
piece_fits zero size n h = absurd (omega (arith, div-zero size))
piece_fits (suc width) size n h = rw (← suc-mul) ((le-div_iff_mul-le {k = suc width} (omega arith)).0 h)

-- List values.
pub numbers_length : (value : List ℕ) → length (numbers_of value) ≡ length value / 2
unfolding numbers_of
numbers_length value = length-map (chunks 2 (length value / 2) value) number ∙ length_chunks 2 (length value / 2) value

pub number_at_lem : (value : List ℕ) (k : ℕ) → k < length value / 2 → get_or (numbers_of value) k 0 ≡ number (part (2 * k) 2 value)
unfolding numbers_of number number_from
number_at_lem value k h = rw (mul_comm 2 k) (read_at number 2 (length value / 2) value k h)

pub number_past : (value : List ℕ) (k : ℕ) → length value / 2 ≤ k → get_or (numbers_of value) k 0 ≡ 0
number_past value k h = get_or-eq_default (numbers_of value) 0 (rw numbers_length h)

-- Scripts.
pub command_at_lem : (value : List ℕ) (k : ℕ) → k < command_count value
    → command_at value k
    ≡ command_from (get_or value 0 0)
    (record { code = get_or value (1 + 5 * k) 0; one = number_at (1 + 5 * k + 1) 2 value; two = number_at (1 + 5 * k + 3) 2 value })
unfolding command_at command_count coded_of part
command_at_lem value k h =
    rw (
      lt-ltb k (command_count value) h,
      first_byte value (omega arith),
      part_elements (1 + 5 * k) 4 value (omega arith),
      ← number_one (get_or value (1 + 5 * k) 0),
      number_two (1 + 5 * k + 1) value (omega arith),
      number_two (1 + 5 * k + 3) value (omega arith),
      add_assoc (1 + 5 * k) 1 1,
      add_assoc (1 + 5 * k) 3 1,
    )

pub command_past : (value : List ℕ) (k : ℕ) → command_count value ≤ k → command_at value k ≡ none
unfolding command_at
command_past value k h = rw (le-ltb k (command_count value) h)

-- Catalogues: a rule's number is its index.
pub hits_at : (catalogue : List Rule) (flow : Flow) (n : ℕ) (d : Rule) → n < length catalogue
    → hits catalogue flow n ≡ matches (get_or catalogue n d) flow
unfolding hits
hits_at [] flow n d h = absurd (omega arith)
hits_at (rule ∷ catalogue) flow zero d h = refl
hits_at (rule ∷ catalogue) flow (suc n) d h = hits_at catalogue flow n d (omega arith)

pub hits_past : (catalogue : List Rule) (flow : Flow) (n : ℕ) → length catalogue ≤ n → hits catalogue flow n ≡ false
unfolding hits
hits_past [] flow n h = refl
hits_past (rule ∷ catalogue) flow zero h = absurd (omega arith)
hits_past (rule ∷ catalogue) flow (suc n) h = hits_past catalogue flow n (omega arith)

pub says_at : (catalogue : List Rule) (n : ℕ) (d : Rule) → n < length catalogue → says catalogue n ≡ (get_or catalogue n d).action
unfolding says
says_at [] n d h = absurd (omega arith)
says_at (rule ∷ catalogue) zero d h = refl
says_at (rule ∷ catalogue) (suc n) d h = says_at catalogue n d (omega arith)

pub says_past : (catalogue : List Rule) (n : ℕ) → length catalogue ≤ n → says catalogue n ≡ Deny
unfolding says
says_past [] n h = refl
says_past (rule ∷ catalogue) zero h = absurd (omega arith)
says_past (rule ∷ catalogue) (suc n) h = says_past catalogue n (omega arith)

-- the bytes of record n
abbrev pub record_at : ℕ → ℕ → List ℕ → List ℕ
record_at skip n bytes = part (n * (skip + rule_width) + skip) rule_width bytes

module _ (skip : ℕ) (bytes : List ℕ) where
  pub catalogue_length : length (catalogue_of skip bytes) ≡ record_count skip bytes
  unfolding catalogue_of records_of
  catalogue_length =
      length-map (records_of skip bytes) rule_of
      ∙ length-map (chunks (skip + rule_width) (record_count skip bytes) bytes) (drop skip)
      ∙ length_chunks (skip + rule_width) (record_count skip bytes) bytes

  pub rule_at_lem : (n : ℕ) → n < record_count skip bytes
      → get_or (catalogue_of skip bytes) n (rule_of (drop skip [])) ≡ rule_of (record_at skip n bytes)
  unfolding catalogue_of records_of part
  rule_at_lem n h =
      rw (
        map-map,
        read_at (λ piece. rule_of (drop skip piece)) (skip + rule_width) (record_count skip bytes) bytes n h,
        drop_take,
        drop-drop,
      )

  -- the record itself, and nothing past the last
  pub record_there : (n : ℕ) → n < record_count skip bytes → get_or (records_of skip bytes) n [] ≡ record_at skip n bytes
  unfolding records_of part
  record_there n h =
      ap (get_or (records_of skip bytes) n) (sym (drop-nil skip))
      ∙ rw (read_at (drop skip) (skip + rule_width) (record_count skip bytes) bytes n h, drop_take, drop-drop)

  pub record_past : (n : ℕ) → record_count skip bytes ≤ n → get_or (records_of skip bytes) n [] ≡ []
  unfolding records_of
  record_past n h =
      get_or-eq_default (records_of skip bytes) []
      (rw (length-map (chunks (skip + rule_width) (record_count skip bytes) bytes) (drop skip), length_chunks) h)

  -- a record is whole where there is one
  pub record_whole : (n : ℕ) → n < record_count skip bytes → length (record_at skip n bytes) ≡ rule_width
  unfolding record_count
  record_whole n h =
      length_part (n * (skip + rule_width) + skip) rule_width bytes
      (omega (arith, piece_fits (skip + rule_width) (length bytes) n h))

  pub record_inside : (n : ℕ) → length (get_or (records_of skip bytes) n []) ≡ rule_width → n < record_count skip bytes
  record_inside n whole =
      by_test (ltb n (record_count skip bytes))
      (λ t. ltb-true n (record_count skip bytes) t)
      (λ f. absurd (omega (arith, sym (ap length (record_past n (ltb-false n (record_count skip bytes) f))) ∙ whole)))

  pub record_outside : (n : ℕ) → ¬ (length (get_or (records_of skip bytes) n []) ≡ rule_width) → record_count skip bytes ≤ n
  record_outside n broken =
      by_test (ltb n (record_count skip bytes))
      (λ t. let h = ltb-true n (record_count skip bytes) t in absurd (broken (ap length (record_there n h) ∙ record_whole n h)))
      (λ f. ltb-false n (record_count skip bytes) f)

  pub hits_record : (flow : Flow) (n : ℕ) → n < record_count skip bytes
      → hits (catalogue_of skip bytes) flow n ≡ matches (rule_of (record_at skip n bytes)) flow
  hits_record flow n h =
      hits_at (catalogue_of skip bytes) flow n (rule_of (drop skip [])) (rw catalogue_length h)
      ∙ ap (λ (rule : Rule). matches rule flow) (rule_at_lem n h)

  pub says_record : (n : ℕ) → n < record_count skip bytes
      → says (catalogue_of skip bytes) n ≡ (rule_of (record_at skip n bytes)).action
  says_record n h =
      says_at (catalogue_of skip bytes) n (rule_of (drop skip [])) (rw catalogue_length h)
      ∙ ap (λ (rule : Rule). rule.action) (rule_at_lem n h)

  -- its action is in its first byte
  pub says_byte : (n : ℕ) → n < record_count skip bytes
      → says (catalogue_of skip bytes) n ≡ action_of (get_or (record_at skip n bytes) 0 0)
  unfolding rule_of
  says_byte n h = says_record n h ∙ ap action_of (first_byte (record_at skip n bytes) (omega (arith, record_whole n h)))

  pub hits_outside : (flow : Flow) (n : ℕ) → record_count skip bytes ≤ n → hits (catalogue_of skip bytes) flow n ≡ false
  hits_outside flow n h = hits_past (catalogue_of skip bytes) flow n (rw catalogue_length h)

  pub says_outside : (n : ℕ) → record_count skip bytes ≤ n → says (catalogue_of skip bytes) n ≡ Deny
  says_outside n h = says_past (catalogue_of skip bytes) n (rw catalogue_length h)
