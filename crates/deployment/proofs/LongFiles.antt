-- The first 65,536 bytes of a file decide its reading. The idea: a longer file is not accepted, so some field turns it away. The fields
-- before that one have at most 44,049 bytes, and what turns a field away lies in its head or, once its length is right, in its
-- 10,241 bytes at most: all of it in front of byte 65,536. Assumes nothing.
use Prim.Native.Nat.{ℕ, ◌+◌, ◌-◌, ◌≤◌, ◌<◌}
use native.Mathlib.Omega.{arith}
use mathlib.Core.Path.{◌≡◌, refl, sym, ◌∙◌, ap}
use mathlib.Core.Logic.{⊎_elim}
use mathlib.Core.List.{List, ◌++◌}
use lib.ListN.{length, take, drop, length-append, length-drop, take-append-drop}
use lib.Dec.{leb}
use lib.Seq.{take_all, take-append-le, take-append-add, drop-append-le, length-take-le}
use borrow.Author.Tests.{leb-true, leb-false}
use Rattle.policy.proofs.Tests.{by_test}
use Rattle.deployment.specs.Checked.{why_number}
use Rattle.deployment.specs.Bytes.{number, part}
use Rattle.deployment.specs.File.{Fields, head_bytes, Reading, accepted, refused, read_file, needs_script, read_to_judge}
use Rattle.deployment.specs.Properties.{
  AreBytes,
  fields_bytes,
  tag_of,
  size_of,
  value_of,
  RightLength,
  Headed,
  Tagged,
  Counted,
  Measured,
  Whole,
  FieldFails,
  cut,
  wrong_tag,
  no_target,
  wrong_length,
  wrong_bounds,
  equal_rule,
  rule_too_many,
  names_outside,
  names_twice,
  keep_astray,
  wrong_coding,
  wrong_default,
  TurnedAway,
}
use Rattle.deployment.specs.Claims.{deciding, LongFile, LongFileToJudge}
use Rattle.deployment.specs.declared.Refusal.{Refusal}
use Rattle.deployment.proofs.Bytes.{are_bytes_take}
use Rattle.deployment.proofs.ReadBack.{fields_fit}
use Rattle.deployment.proofs.Reader.{accepted_file_fits, refusal_row}

-- A part that lies in front.
part_in_front : (start size : ℕ) (front rest : List ℕ) → start + size ≤ length front
    → part start size (front ++ rest) ≡ part start size front
unfolding part
part_in_front start size front rest h =
    ap (take size) (drop-append-le start front rest (omega arith))
    ∙ take-append-le size (drop start front) rest (rw length-drop (omega arith))

-- a right length has at most 10,241 bytes
right_few : {tag size : ℕ} → RightLength tag size → size ≤ 10241
right_few = ⊎_elim (λ h. omega arith) (⊎_elim (λ h. omega arith) (⊎_elim (λ h. omega arith) (λ h. omega arith)))

-- What turns the next field away lies in its first 10,244 bytes.
module _ (f : Fields) (front rest : List ℕ) (long : 10244 ≤ length front) where
  abbrev all : List ℕ
  all = front ++ rest

  same_tag : tag_of all ≡ tag_of front
  same_tag = ap number (part_in_front 0 1 front rest (omega arith))

  same_size : size_of all ≡ size_of front
  same_size = ap number (part_in_front 1 2 front rest (omega arith))

  headed_front : Headed front
  headed_front = omega arith

  tagged_front : Tagged f all → Tagged f front
  tagged_front h = (headed_front, rw same_tag at h.1)

  counted_front : Counted f all → Counted f front
  counted_front h = (tagged_front h.0, rw same_tag at h.1)

  measured_front : Measured f all → Measured f front
  measured_front h = (counted_front h.0, rw (same_tag, same_size) at h.1)

  whole_front : Whole f all → Whole f front
  whole_front h = let measured = measured_front h.0 in (measured, omega (arith, right_few measured.1))

  same_value : Whole f all → value_of all ≡ value_of front
  same_value h =
      ap (λ (size : ℕ). part head_bytes size all) same_size
      ∙ part_in_front head_bytes (size_of front) front rest (whole_front h).1

  fails_front : {number : ℕ} → FieldFails f all number → FieldFails f front number
  fails_front (cut h) =
      absurd (⊎_elim (λ h. omega (arith, length-append front rest)) (λ h. omega (arith, length-append front rest, right_few h.0.1)) h)
  fails_front (wrong_tag headed out) = wrong_tag headed_front (rw same_tag at out)
  fails_front (no_target none_left h) = absurd (omega (arith, length-append front rest, ap length none_left))
  fails_front (wrong_length h wrong) = wrong_length (counted_front h) (rw (same_tag, same_size) at wrong)
  fails_front (wrong_bounds whole e wrong) =
      wrong_bounds (whole_front whole) (rw same_tag at e) (rw (same_value whole) at wrong)
  fails_front (equal_rule whole e right known) =
      let value = same_value whole in equal_rule (whole_front whole) (rw same_tag at e) (rw value at right) (rw value at known)
  fails_front (rule_too_many h many) = rule_too_many (tagged_front h) (rw same_tag at many)
  fails_front (names_outside whole e out) =
      names_outside (whole_front whole) (rw same_tag at e) (rw (same_value whole) at out)
  fails_front (names_twice whole e inside same) =
      let value = same_value whole in names_twice (whole_front whole) (rw same_tag at e) (rw value at inside) (rw value at same)
  fails_front (keep_astray whole e astray) =
      keep_astray (whole_front whole) (rw same_tag at e) (rw (same_value whole) at astray)
  fails_front (wrong_coding whole e wrong) =
      wrong_coding (whole_front whole) (rw same_tag at e) (rw (same_value whole) at wrong)
  fails_front (wrong_default whole e wrong) =
      wrong_default (whole_front whole) (rw same_tag at e) (rw (same_value whole) at wrong)

-- A file that is longer than the fields before a field and the most bytes that turn it away, 44,049 and 10,244.
module _ (most : ℕ) (enough : 54293 ≤ most) where
  turned_by_first : (file : List ℕ) (number at : ℕ) → most ≤ length file → TurnedAway file number at
      → TurnedAway (take most file) number at
  turned_by_first file number at long h =
      let bytes = fields_bytes h.fields in
      let left = h.left in
      let n = most - length bytes in
      let fit = fields_fit h.fields h.readable in
      let counted : most ≡ length bytes + n = omega arith in
      let there : n ≤ length left = omega (arith, length-append bytes left, ap length h.is) in
      record {
        fields = h.fields;
        left = take n left;
        is = ap (take most) h.is ∙ ap (λ (m : ℕ). take m (bytes ++ left)) counted ∙ take-append-add bytes left n;
        readable = h.readable;
        counted = h.counted;
        fails =
            fails_front h.fields (take n left) (drop n left) (omega (arith, length-take-le n left there))
            (rw (take-append-drop n left) h.fails);
      }

  -- it is turned away, and so are its first bytes
  refused_by_first : (file : List ℕ) → AreBytes file → most < length file
      → (refusal : Refusal) × (read_file file ≡ refused refusal) × (read_file (take most file) ≡ refused refusal)
  refused_by_first file b long = go (read_file file) refl
    where
      go : (reading : Reading) → read_file file ≡ reading
          → (refusal : Refusal) × (read_file file ≡ refused refusal) × (read_file (take most file) ≡ refused refusal)
      go (accepted c) e = absurd (omega (arith, accepted_file_fits file c b e))
      go (refused refusal) e =
          let turned =
          turned_by_first file (why_number refusal.why) refusal.at (omega arith) ((refusal_row file refusal b).0 e) in
          (refusal, e, (refusal_row (take most file) refusal (are_bytes_take most file b)).1 turned)

  -- what is said of a file and its first bytes: they are the same bytes, or both are turned away alike
  by_first_lem {ℓ} : (Alike : List ℕ → List ℕ → Type ℓ) (file : List ℕ) → AreBytes file → Alike file file
      → ((refusal : Refusal) → read_file file ≡ refused refusal → read_file (take most file) ≡ refused refusal
      → Alike file (take most file))
      → Alike file (take most file)
  by_first_lem Alike file b same turned =
      by_test (leb (length file) most)
      (λ e. rw (take_all most file (leb-true (length file) most e)) same)
      (λ e. let h = refused_by_first file b (leb-false (length file) most e) in turned h.0 h.1 h.2)

pub long_file : LongFile
long_file file b =
    by_first_lem deciding (omega arith) (λ one other. read_file one ≡ read_file other) file b refl (λ refusal e first. e ∙ sym first)

pub long_file_to_judge : LongFileToJudge
unfolding read_to_judge needs_script
long_file_to_judge file b =
    by_first_lem deciding (omega arith) (λ one other. read_to_judge one ≡ read_to_judge other) file b refl
    (λ refusal e first. rw (e, first, needs_script))
