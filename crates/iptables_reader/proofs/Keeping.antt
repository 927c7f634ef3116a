-- Rules that are kept, each by its mark and by where its line starts. A record is compared with those of its mark alone, since equal records have equal
-- marks; and records are equal where their rules are. Assumes nothing.
use Prim.Native.Nat.{ℕ, zero, suc, ◌+◌, ◌≤◌, ◌<◌}
use native.Mathlib.Numerals.{add-one}
use native.Mathlib.Omega.{arith}
use mathlib.Core.Path.{◌≡◌, refl, sym, ◌∙◌, ap, subst}
use mathlib.Core.Bool.{Bool, true, false}
use mathlib.Core.Logic.{⊎_elim}
use mathlib.Core.List.Memᴰ
use mathlib.Core.List.{
  List,
  [],
  ◌∷◌,
  ◌++◌,
  map,
  map-map,
  Memᴰ,
}
use lib.ListN.{length, take, drop, get_or, set, length-append, length-set, drop_of_length-le}
use lib.Seq.{drop-cons, get_or-take, take-suc-set, length-take-le}
use Rattle.policy.specs.Lists.{same}
use Rattle.policy.specs.Policy.{most_rules}
use Rattle.policy.specs.Rule.{Rule}
use Rattle.policy.proofs.Lists.{same_eq, same_refl}
use Rattle.policy.proofs.Tests.{by_test, never, falsely}
use Rattle.deployment.specs.Values.{rule_of, rule_bytes, same_rule, known}
use Rattle.deployment.specs.Properties.{Recordable}
use Rattle.deployment.proofs.Fields.{map_snoc}
use Rattle.deployment.proofs.Values.{rule_read_lem, same_rule_eq, same_rule_refl}
use Rattle.catalogue.specs.RuleMarks.{mark}
use Rattle.iptables.specs.Words.{cut_at}
use Rattle.iptables.specs.Listing.{passed, kept_with}
use Rattle.iptables.specs.Properties.{empty_line}
use Rattle.iptables.proofs.Lines.{line_is_lem}
use Rattle.iptables_rule.specs.Found.{no_rule}
use Rattle.iptables_lines.specs.Told as told
use Rattle.iptables_reader.specs.Kept.{line_at, rule_at, records_at, marks_at, known_record, Kept}

-- Where the listing has ended there is an empty line, which has no rule.
pub no_rule_there : (listing : List ℕ) (start : ℕ) → length listing ≤ start → rule_at listing start ≡ no_rule
unfolding rule_at line_at cut_at told.rule_told told.rule_of
no_rule_there listing start h = rw (drop_of_length-le listing {i = start} h, (line_is_lem [] passed).1 (empty_line refl))

-- Records are equal where their rules are, so a record is known where its rule is.
same_records : (a b : Rule) → Recordable a → Recordable b → same (rule_bytes a) (rule_bytes b) ≡ same_rule a b
same_records a b ha hb =
    by_test (same_rule a b)
    (λ t. ap (λ (r : Rule). same (rule_bytes r) (rule_bytes b)) (same_rule_eq a b t) ∙ same_refl (rule_bytes b) ∙ sym t)
    (λ f. falsely (λ s. never (equal (same_eq (rule_bytes a) (rule_bytes b) s)) f) ∙ sym f)
  where
    equal : rule_bytes a ≡ rule_bytes b → same_rule a b ≡ true
    equal e =
        let is : a ≡ b = sym (rule_read_lem a ha) ∙ ap rule_of e ∙ rule_read_lem b hb in
        ap (λ (r : Rule). same_rule r b) is ∙ same_rule_refl b

known_record_lem : (r : Rule) (rules : List Rule) → Recordable r → ((x : Rule) → Memᴰ x rules → Recordable x)
    → known_record (rule_bytes r) (map rule_bytes rules) ≡ known r rules
unfolding known_record known
known_record_lem r [] h sound = refl
known_record_lem r (x ∷ rules) h sound =
    rw (same_records x r (sound x (Memᴰ.head refl)) h, known_record_lem r rules h (λ y t. sound y (Memᴰ.tail t)))

-- the k-th of what is made of each
map_at : (f : ℕ → ℕ) (l : List ℕ) (k : ℕ) → k < length l → get_or (map f l) k 0 ≡ f (get_or l k 0)
map_at f [] k h = absurd (omega arith)
map_at f (x ∷ l) zero h = refl
map_at f (x ∷ l) (suc k) h = map_at f l k (omega arith)

-- A record looked for among those of the rules whose lines start there, from the k-th on.
abbrev pub known_from : List ℕ → List ℕ → List ℕ → ℕ → ℕ → Bool
known_from listing starts bytes count k = known_record bytes (records_at listing (drop k (take count starts)))

module _ (listing starts bytes : List ℕ) (count k : ℕ) (fits : count ≤ length starts) where
  pub known_nowhere : count ≤ k → known_from listing starts bytes count k ≡ false
  unfolding known_record records_at
  known_nowhere h = rw (drop_of_length-le (take count starts) {i = k} (omega (arith, length-take-le count starts fits)))

  module _ (inside : k < count) where
    next : drop k (take count starts) ≡ get_or starts k 0 ∷ drop (k + 1) (take count starts)
    next =
        rw (add-one, ← get_or-take count starts k 0 inside) (drop-cons (take count starts) k 0 (omega (arith, length-take-le count starts fits)))

    pub known_here : same (rule_bytes (rule_at listing (get_or starts k 0))) bytes ≡ true → known_from listing starts bytes count k ≡ true
    unfolding known_record records_at
    known_here t = rw (next, t)

    pub known_later : same (rule_bytes (rule_at listing (get_or starts k 0))) bytes ≡ false
        → known_from listing starts bytes count k ≡ known_from listing starts bytes count (k + 1)
    unfolding known_record records_at
    known_later f = rw (next, f)

    -- the k-th mark is that of the k-th rule, so a rule of another mark has another record
    pub other_mark : (marks : List ℕ) → take count marks ≡ marks_at listing (take count starts) → ¬ (get_or marks k 0 ≡ mark bytes)
        → same (rule_bytes (rule_at listing (get_or starts k 0))) bytes ≡ false
    unfolding marks_at
    other_mark marks marked other =
        let mark_of : ℕ → ℕ = λ start. mark (rule_bytes (rule_at listing start)) in
        let is : get_or marks k 0 ≡ mark_of (get_or starts k 0) =
        sym (get_or-take count marks k 0 inside)
        ∙ ap (λ (l : List ℕ). get_or l k 0) marked
        ∙ map_at mark_of (take count starts) k (omega (arith, length-take-le count starts fits))
        ∙ ap mark_of (get_or-take count starts k 0 inside) in
        falsely (λ t. other (is ∙ ap mark (same_eq (rule_bytes (rule_at listing (get_or starts k 0))) bytes t)))

-- One rule more.
module _ (listing marks starts : List ℕ) (count : ℕ) (rules : List Rule) (kept : Kept listing marks starts count rules) (start : ℕ)
    (recordable : Recordable (rule_at listing start)) where
  abbrev rule : Rule
  rule = rule_at listing start

  abbrev known_before : Bool
  known_before = known_record (rule_bytes rule) (records_at listing (take count starts))

  -- a record is known where its rule is
  known_rule : count ≤ most_rules → known_before ≡ known rule rules
  unfolding records_at
  known_rule few =
      ap (known_record (rule_bytes rule)) (sym (map-map rule_bytes (rule_at listing) (take count starts)) ∙ ap (map rule_bytes) (kept.places few))
      ∙ known_record_lem rule rules recordable kept.sound

  -- each rule has a record with it too, and there are no fewer
  sound_with : (x : Rule) → Memᴰ x (kept_with rules rule) → Recordable x
  unfolding kept_with
  sound_with x =
      by_test (known rule rules) (λ t. rw t (kept.sound x))
      (λ f. rw f
      (λ h.
      ⊎_elim (kept.sound x) (λ k. subst Recordable (sym (Memᴰ.eq_of_singleton k)) recordable) (Memᴰ.append_cases rules h)))

  longer : length rules ≤ length (kept_with rules rule)
  unfolding kept_with
  longer = by_test (known rule rules) (λ t. rw t (omega arith)) (λ f. rw f (omega (arith, length-append rules (rule ∷ []))))

  -- over 1,024 no more is counted
  pub kept_over : most_rules < count → Kept listing marks starts count (kept_with rules rule)
  kept_over many =
      record {
        marks_fit = kept.marks_fit;
        starts_fit = kept.starts_fit;
        counted = kept.counted;
        over = λ h. omega (arith, kept.over many, longer);
        exact = λ h. absurd (omega arith);
        places = λ h. absurd (omega arith);
        marked = λ h. absurd (omega arith);
        sound = sound_with;
      }

  module _ (few : count ≤ most_rules) where
    -- a rule that is known
    pub kept_known : known_before ≡ true → Kept listing marks starts count (kept_with rules rule)
    unfolding kept_with
    kept_known t = rw (sym (known_rule few) ∙ t) kept

    module _ (new : known_before ≡ false) where
      one_more : kept_with rules rule ≡ rules ++ (rule ∷ [])
      unfolding kept_with
      one_more = rw (sym (known_rule few) ∙ new)

      counts_more : length (kept_with rules rule) ≡ length rules + 1
      counts_more = ap length one_more ∙ length-append rules (rule ∷ [])

      -- a new one, which there is room for
      pub kept_more : count < most_rules → (m : ℕ) → m ≡ mark (rule_bytes rule)
          → Kept listing (set marks count m) (set starts count start) (count + 1) (kept_with rules rule)
      unfolding marks_at
      kept_more room m is =
          let marks_more : take (count + 1) (set marks count m) ≡ take count marks ++ (m ∷ []) =
          rw add-one (take-suc-set marks count m (omega (arith, kept.marks_fit))) in
          let starts_more : take (count + 1) (set starts count start) ≡ take count starts ++ (start ∷ []) =
          rw add-one (take-suc-set starts count start (omega (arith, kept.starts_fit))) in
          record {
            marks_fit = length-set marks count m ∙ kept.marks_fit;
            starts_fit = length-set starts count start ∙ kept.starts_fit;
            counted = omega arith;
            over = λ h. absurd (omega arith);
            exact = λ h. omega (arith, kept.exact few, counts_more);
            places = λ h. rw (starts_more, map_snoc, kept.places few, one_more);
            marked = λ h. rw (marks_more, starts_more, map_snoc, kept.marked few, is);
            sound = sound_with;
          }

      -- and one over 1,024
      pub kept_full : most_rules ≤ count → Kept listing marks starts (count + 1) (kept_with rules rule)
      kept_full full =
          record {
            marks_fit = kept.marks_fit;
            starts_fit = kept.starts_fit;
            counted = omega arith;
            over = λ h. omega (arith, kept.exact few, counts_more);
            exact = λ h. absurd (omega arith);
            places = λ h. absurd (omega arith);
            marked = λ h. absurd (omega arith);
            sound = sound_with;
          }
