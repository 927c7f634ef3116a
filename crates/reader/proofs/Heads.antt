-- The head of a field: the reader's tests against those of the definitions. The idea: what the reader knows is that of the fields
-- read so far, so its tests are theirs. Assumes nothing.
use Prim.Native.Nat.{ℕ, ◌+◌, ◌-◌, ◌≤◌, ◌<◌}
use native.Mathlib.Omega.{arith}
use mathlib.Core.Path.{◌≡◌, sym, ◌∙◌, ap}
use mathlib.Core.Bool.{true, false, ◌&&◌}
use mathlib.Core.List.{List, [], ◌∷◌}
use lib.ListN.{length, drop, get_or, length-drop}
use lib.Seq.{drop-drop}
use lib.Dec.{eqb, leb}
use borrow.Author.Tests.{eqb-true, eqb-false, eq-eqb, ne_eqb, le-leb, lt-leb}
use Rattle.policy.specs.Lists.{mem}
use Rattle.policy.specs.Policy.{most_rules}
use Rattle.policy.proofs.Tests.{by_test}
use Rattle.deployment.specs.Bytes.{number, part, number_at}
use Rattle.deployment.specs.File.{Fields, tags_after, last_tag, length_fits, field_read, rule_tag}
use Rattle.deployment.specs.Properties.{tag_of, size_of}
use Rattle.deployment.specs.declared.Why.TheVariants.{Cut, Tag, Length, TooMany}
use Rattle.deployment.proofs.Bytes.{length_part}
use Rattle.deployment.proofs.Records.{number_one, part_elements, number_there}
use Rattle.reader.specs.Steps.{layout_so_far, progress_of, Begun, head_shown}
use Rattle.reader.specs.declared.file.Progress.{Progress}
use Rattle.std.specs.Prelude.{Ok, Err}

pub eqb_swap : (a b : ℕ) → eqb a b ≡ eqb b a
eqb_swap a b =
    by_test (eqb a b) (λ t. t ∙ sym (eq-eqb b a (sym (eqb-true a b t))))
    (λ f. f ∙ sym (ne_eqb b a (λ e. eqb-false a b f (sym e))))

-- 2: tags that can stand next.
pub only_tag : (tag x : ℕ) → eqb tag x ≡ mem tag (x ∷ [])
unfolding mem
only_tag tag x = eqb_swap tag x ∙ by_test (eqb x tag) (λ t. rw t) (λ f. rw f)

pub first_tag : (tag x : ℕ) (others : List ℕ) → tag ≡ x → eqb tag x ≡ mem tag (x ∷ others)
unfolding mem
first_tag tag x others e = eq-eqb tag x e ∙ rw (eq-eqb x tag (sym e))

pub later_tag : (tag x : ℕ) (others : List ℕ) → (tag ≡ x → ⊥) → mem tag others ≡ mem tag (x ∷ others)
unfolding mem
later_tag tag x others n = rw (ne_eqb x tag (λ e. n (sym e)))

pub second_tag : (tag x y : ℕ) → (tag ≡ x → ⊥) → eqb tag y ≡ mem tag (x ∷ y ∷ [])
second_tag tag x y n = only_tag tag y ∙ later_tag tag x (y ∷ []) n

-- The head of a field, from the bytes at a position.
module _ (file : List ℕ) (at : ℕ) (headed : 3 ≤ length file - at) where
  tag_at : tag_of (drop at file) ≡ get_or file at 0
  unfolding part
  tag_at = ap number (part_elements at 0 file (omega arith)) ∙ sym (number_one (get_or file at 0))

  size_at : size_of (drop at file) ≡ number_at (at + 1) 2 file
  unfolding part
  size_at = rw drop-drop (sym (number_there (at + 1) 2 file (omega arith)))

-- What the reader knows of the fields so far.
module _ (file : List ℕ) (progress : Progress) (f : Fields) (b : Begun file progress f) where
  pub same_tag : progress.last ≡ last_tag f
  unfolding progress_of
  same_tag = ap (λ (p : Progress). p.last) b.known

  pub same_count : progress.layout.rules ≡ length f.catalogue
  unfolding progress_of layout_so_far
  same_count = ap (λ (p : Progress). p.layout.rules) b.known

  pub few_rules : progress.layout.rules ≤ most_rules
  few_rules = omega (arith, same_count, b.readable.catalogue.few)

-- The tests of a head, in their order.
module _ (file : List ℕ) (progress : Progress) (f : Fields) (b : Begun file progress f) where
  pub head_cut : length file - progress.at < 3 → Err Cut ≡ head_shown (field_read f (drop progress.at file))
  unfolding field_read head_shown
  head_cut h = rw (lt-leb 3 (length (drop progress.at file)) (rw length-drop h))

  module _ (headed : 3 ≤ length file - progress.at) where
    headed_test : leb 3 (length (drop progress.at file)) ≡ true
    headed_test = le-leb 3 (length (drop progress.at file)) (rw length-drop headed)

    stands_test : mem (tag_of (drop progress.at file)) (tags_after (last_tag f)) ≡ mem (get_or file progress.at 0) (tags_after progress.last)
    stands_test = rw (tag_at file progress.at headed, same_tag file progress f b)

    pub head_tag : mem (get_or file progress.at 0) (tags_after progress.last) ≡ false → Err Tag ≡ head_shown (field_read f (drop progress.at file))
    unfolding field_read head_shown
    head_tag e = rw (headed_test, stands_test, e)

    module _ (stands : mem (get_or file progress.at 0) (tags_after progress.last) ≡ true) where
      pub head_too_many : (eqb (get_or file progress.at 0) rule_tag && leb most_rules progress.layout.rules) ≡ true
          → Err TooMany ≡ head_shown (field_read f (drop progress.at file))
      unfolding field_read head_shown
      head_too_many e = rw (headed_test, stands_test, stands, tag_at file progress.at headed, ← same_count file progress f b, e)

      module _ (few : (eqb (get_or file progress.at 0) rule_tag && leb most_rules progress.layout.rules) ≡ false) (size : ℕ) (is : size ≡ number_at (progress.at + 1) 2 file) where
        same_size : size_of (drop progress.at file) ≡ size
        same_size = size_at file progress.at headed ∙ sym is

        pub head_length : length_fits (get_or file progress.at 0) size ≡ false → Err Length ≡ head_shown (field_read f (drop progress.at file))
        unfolding field_read head_shown
        head_length e = rw (headed_test, stands_test, stands, tag_at file progress.at headed, ← same_count file progress f b, few, same_size, e)

        module _ (fits : length_fits (get_or file progress.at 0) size ≡ true) where
          pub head_short : length file - progress.at < 3 + size → Err Cut ≡ head_shown (field_read f (drop progress.at file))
          unfolding field_read head_shown
          head_short h =
              let short = lt-leb (3 + size) (length (drop progress.at file)) (rw length-drop h) in
              rw (headed_test, stands_test, stands, tag_at file progress.at headed, ← same_count file progress f b, few, same_size, fits, short)

          pub head_whole : 3 + size ≤ length file - progress.at → Ok (record { tag = get_or file progress.at 0; size = size }) ≡ head_shown (field_read f (drop progress.at file))
          unfolding field_read head_shown
          head_whole h =
              let left = drop progress.at file in
              let long : 3 + size ≤ length left = rw length-drop h in
              let whole = le-leb (3 + size) (length left) long in
              rw (headed_test, stands_test, stands, tag_at file progress.at headed, ← same_count file progress f b, few, same_size, fits, whole)
              (rw (length_part 3 size left long))
