-- Fields with one more: its tag is one of the table's, what would stand behind it is absent, its bytes stand behind those so far,
-- and the fields can have been read again. The idea: no member that is there is the last behind which the new one can't stand.
-- Assumes nothing.
use Prim.Native.Nat.{ℕ, suc, ◌-◌, ◌≤◌, ◌<◌}
use native.Mathlib.Omega.{arith}
use mathlib.Core.Path.{◌≡◌, refl, sym, ◌∙◌, ap, subst}
use mathlib.Core.Bool.{true, false}
use mathlib.Core.Logic.{◌⊎◌, inl, inr, ⊎_elim}
use mathlib.Core.List.Memᴰ
use mathlib.Core.List.{
  List,
  [],
  ◌∷◌,
  ◌++◌,
  map,
  append_assoc,
  append-nil,
  Memᴰ,
  Sublistᴰ,
}
use mathlib.Core.Option.{Option, none, some}
use lib.ListN.{length, get_or, length-append}
use lib.Seq.{get_or-append_seam}
use lib.Dec.{eqb}
use borrow.Author.Tests.{eqb-true, eqb-false}
use Rattle.policy.specs.Lists.{mem}
use Rattle.policy.specs.Policy.{most_rules}
use Rattle.policy.specs.Rule.{Rule}
use Rattle.policy.specs.Properties.{StandsAt}
use Rattle.policy.specs.declared.Action.{Action}
use Rattle.policy.specs.declared.Action.TheVariants.{Permit}
use Rattle.policy.proofs.Tests.{by_test}
use Rattle.policy.proofs.Lists.{mem_in, in_mem, not_mem}
use Rattle.policy.proofs.Judge.{place_stands}
use Rattle.deployment.specs.Bytes.{joined}
use Rattle.deployment.specs.Values.{Script, rule_bytes, numbers_bytes, default_bytes, script_bytes}
use Rattle.deployment.specs.File.{
  Fields,
  set_catalogue,
  set_initial,
  set_target,
  set_default,
  set_keep,
  set_script,
  listed,
  tags_after,
  tag_or,
  last_tag,
  field_bytes,
  if_there,
  rule_tag,
  initial_tag,
  target_tag,
  default_tag,
  keep_tag,
  script_tag,
}
use Rattle.deployment.specs.Properties.{
  Recordable,
  Unlike,
  Catalogue,
  Listed,
  Scripted,
  CanStand,
  up_to_initial,
  up_to_target,
  up_to_default,
  up_to_keep,
  Readable,
  fields_bytes,
}
use Rattle.deployment.specs.Claims.{order, Rises, TagsRise}
use Rattle.deployment.proofs.Tests.{Says}

-- fields by all their members
abbrev pub fields : List Rule → Option (List ℕ) → Option (List ℕ) → Option Action → Option (List ℕ) → Option Script → Fields
fields c i t d k s = record { catalogue = c; initial = i; target = t; default = d; keep = k; script = s }

-- 2: a tag that can stand next, and that it is one of the table's.
pub says_can_stand : (f : Fields) (tag : ℕ) → Says (mem tag (tags_after (last_tag f))) (CanStand f tag)
says_can_stand f tag = (mem_in tag (tags_after (last_tag f)), in_mem tag (tags_after (last_tag f)))

only {ℓ} : (P : ℕ → Type ℓ) {tag x : ℕ} → P x → Memᴰ tag (x ∷ []) → P tag
only P p h = subst P (sym (Memᴰ.eq_of_singleton h)) p

either {ℓ} : (P : ℕ → Type ℓ) {tag x : ℕ} {others : List ℕ} → P x → (Memᴰ tag others → P tag) → Memᴰ tag (x ∷ others) → P tag
either P p rest h = ⊎_elim (λ e. subst P (sym e) p) rest (Memᴰ.cases_cons h)

pub by_tag {ℓ} : (P : ℕ → Type ℓ) (last : ℕ) {tag : ℕ} → Memᴰ tag (tags_after last)
    → P rule_tag → P initial_tag → P target_tag → P default_tag → P keep_tag → P script_tag → P tag
unfolding tags_after
by_tag P last h rule initial target default keep script =
    by_test (eqb last rule_tag) (λ a. either P rule (only P initial) (rw a at h)) λ a.
    by_test (eqb last initial_tag) (λ b. only P target (rw (a, b) at h)) λ b.
    by_test (eqb last target_tag) (λ c. either P default (either P keep (only P script)) (rw (a, b, c) at h)) λ c.
    by_test (eqb last default_tag) (λ d. either P keep (only P script) (rw (a, b, c, d) at h)) λ d.
    by_test (eqb last keep_tag) (λ e. only P script (rw (a, b, c, d, e) at h)) λ e.
    absurd (Memᴰ.not-nil (rw (a, b, c, d, e) at h))

pub script_left_lem : (last : ℕ) {tag : ℕ} → Memᴰ tag (tags_after last)
    → ¬ (tag ≡ rule_tag) → ¬ (tag ≡ initial_tag) → ¬ (tag ≡ target_tag) → ¬ (tag ≡ default_tag) → ¬ (tag ≡ keep_tag) → tag ≡ script_tag
script_left_lem last {tag} h r i t d k =
    by_tag (λ x. tag ≡ x → tag ≡ script_tag) last h (λ e. absurd (r e)) (λ e. absurd (i e)) (λ e. absurd (t e)) (λ e. absurd (d e))
    (λ e. absurd (k e)) (λ e. e) refl

-- the place where something stands
stands_place : {l : List ℕ} {place r : ℕ} → StandsAt l place r → (1 ≤ place) × (place ≤ length l) × (get_or l (place - 1) 0 ≡ r)
stands_place {l} {place} {r} s =
    let before : place - 1 ≡ length s.left = omega (arith, s.counted) in (
      omega (arith, s.counted),
      omega (arith, s.counted, ap length s.is, length-append s.left (r ∷ s.right)),
      rw before (rw s.is (get_or-append_seam s.left r s.right 0)),
    )

-- the tag at a place of the order
abbrev tag_at : ℕ → ℕ
tag_at place = get_or order (place - 1) 0

-- the table by order alone
pub tags_rise : TagsRise
unfolding tags_after mem
tags_rise last tag = (forth, back)
  where
    row : (j k : ℕ) → j < 6 → k < 6 → (j < k) ⊎ ((j ≡ 0) × (k ≡ 0)) → (k ≤ 1) ⊎ (1 ≤ j) → (k ≤ 2) ⊎ (2 ≤ j) → eqb last (get_or order j 0) ≡ true
        → Rises last (get_or order k 0)
    row j k l m r i t e =
        subst (λ (m : ℕ). Rises m (get_or order k 0)) (sym (eqb-true last (get_or order j 0) e))
        (record {
          from = suc j;
          to = suc k;
          stood = place_stands order j l;
          stands = place_stands order k m;
          rises = ⊎_elim (λ h. inl (omega arith)) (λ h. inr (omega arith, omega arith)) r;
          initial = ⊎_elim (λ h. inl (omega arith)) (λ h. inr (omega arith)) i;
          target = ⊎_elim (λ h. inl (omega arith)) (λ h. inr (omega arith)) t;
        })

    late_row : (j k : ℕ) → 2 ≤ j → j < k → k < 6 → eqb last (get_or order j 0) ≡ true → Rises last (get_or order k 0)
    late_row j k least less most = row j k (omega arith) most (inl less) (inr (omega arith)) (inr least)

    forth : Memᴰ tag (tags_after last) → Rises last tag
    forth h =
        by_test (eqb last rule_tag)
        (λ a. either (Rises last)
        (row 0 0 (omega arith) (omega arith) (inr (refl, refl)) (inl (omega arith)) (inl (omega arith)) a)
        (only (Rises last) (row 0 1 (omega arith) (omega arith) (inl (omega arith)) (inl (omega arith)) (inl (omega arith)) a)) (rw a at h)) λ a.
        by_test (eqb last initial_tag)
        (λ b. only (Rises last)
        (row 1 2 (omega arith) (omega arith) (inl (omega arith)) (inr (omega arith)) (inl (omega arith)) b) (rw (a, b) at h)) λ b.
        by_test (eqb last target_tag)
        (λ c. either (Rises last) (late_row 2 3 (omega arith) (omega arith) (omega arith) c)
        (either (Rises last) (late_row 2 4 (omega arith) (omega arith) (omega arith) c)
        (only (Rises last) (late_row 2 5 (omega arith) (omega arith) (omega arith) c))) (rw (a, b, c) at h)) λ c.
        by_test (eqb last default_tag)
        (λ d. either (Rises last) (late_row 3 4 (omega arith) (omega arith) (omega arith) d)
        (only (Rises last) (late_row 3 5 (omega arith) (omega arith) (omega arith) d)) (rw (a, b, c, d) at h)) λ d.
        by_test (eqb last keep_tag)
        (λ e. only (Rises last) (late_row 4 5 (omega arith) (omega arith) (omega arith) e) (rw (a, b, c, d, e) at h)) λ e.
        absurd (Memᴰ.not-nil (rw (a, b, c, d, e) at h))

    in_row : (from to n x : ℕ) → from ≡ n → to ≡ x → mem (tag_at x) (tags_after (tag_at n)) ≡ true → Memᴰ (tag_at to) (tags_after (tag_at from))
    in_row from to n x f t e = rw (f, t) (mem_in (tag_at x) (tags_after (tag_at n)) e)

    go : (from to : ℕ) → 1 ≤ from → 1 ≤ to → to ≤ 6 → (from < to) ⊎ ((from ≡ 1) × (to ≡ 1)) → (to ≤ 2) ⊎ (2 ≤ from) → (to ≤ 3) ⊎ (3 ≤ from)
        → Memᴰ (tag_at to) (tags_after (tag_at from))
    go from to l k m (inr b) i t = in_row from to 1 1 b.0 b.1 refl
    go from to l k m (inl r) (inl i) t = in_row from to 1 2 (omega arith) (omega arith) refl
    go from to l k m (inl r) (inr i) (inl t) = in_row from to 2 3 (omega arith) (omega arith) refl
    go from to l k m (inl r) (inr i) (inr t) =
        by_test (eqb to 4) (λ u. let four = eqb-true to 4 u in in_row from to 3 4 (omega arith) four refl) λ u.
        let not_four = eqb-false to 4 u in
        by_test (eqb from 3)
        (λ e.
        let three = eqb-true from 3 e in
        by_test (eqb to 5) (λ v. in_row from to 3 5 three (eqb-true to 5 v) refl)
        (λ v. let not_five = eqb-false to 5 v in in_row from to 3 6 three (omega arith) refl)) λ e.
        let not_three = eqb-false from 3 e in
        by_test (eqb from 4)
        (λ d.
        let four = eqb-true from 4 d in
        by_test (eqb to 5) (λ v. in_row from to 4 5 four (eqb-true to 5 v) refl)
        (λ v. let not_five = eqb-false to 5 v in in_row from to 4 6 four (omega arith) refl))
        (λ d. let not_four = eqb-false from 4 d in in_row from to 5 6 (omega arith) (omega arith) refl)

    back : Rises last tag → Memᴰ tag (tags_after last)
    back h =
        let stood = stands_place h.stood in
        let stands = stands_place h.stands in
        subst (λ (m : ℕ). Memᴰ tag (tags_after m)) stood.2
        (subst (λ (y : ℕ). Memᴰ y (tags_after (tag_at h.from))) stands.2
        (go h.from h.to stood.0 stands.0 stands.1 h.rises h.initial h.target))

-- What would stand behind a tag that can stand next is absent.
or_absent : {A : Type 0} (tag : ℕ) (o : Option A) (last : ℕ) → ¬ (tag_or tag o last ≡ tag) → (o ≡ none) × (tag_or tag o last ≡ last)
unfolding tag_or
or_absent tag none last n = (refl, refl)
or_absent tag (some a) last n = absurd (n refl)

abbrev pub NoneBehindRules : Fields → Type 0
NoneBehindRules f = (f.initial ≡ none) × (f.target ≡ none) × (f.default ≡ none) × (f.keep ≡ none) × (f.script ≡ none)

module _ (f : Fields) {tag : ℕ} (stands : CanStand f tag) where
  not_last : (last : ℕ) → mem tag (tags_after last) ≡ false → ¬ (last_tag f ≡ last)
  not_last last out e =
      not_mem tag (tags_after last) out (subst (λ (n : ℕ). Memᴰ tag (tags_after n)) e stands)

  module _ (s : mem tag (tags_after script_tag) ≡ false) where
    no_script : (f.script ≡ none) × (last_tag f ≡ last_tag (up_to_keep f))
    unfolding last_tag tag_or
    no_script = or_absent script_tag f.script (last_tag (up_to_keep f)) (not_last script_tag s)

    module _ (k : mem tag (tags_after keep_tag) ≡ false) where
      no_keep : (f.keep ≡ none) × (last_tag f ≡ last_tag (up_to_default f))
      unfolding last_tag tag_or
      no_keep =
          let h = or_absent keep_tag f.keep (last_tag (up_to_default f)) (λ e. not_last keep_tag k (no_script.1 ∙ e)) in
          (h.0, no_script.1 ∙ h.1)

      module _ (d : mem tag (tags_after default_tag) ≡ false) where
        no_default : (f.default ≡ none) × (last_tag f ≡ last_tag (up_to_target f))
        unfolding last_tag tag_or
        no_default =
            let h = or_absent default_tag f.default (last_tag (up_to_target f)) (λ e. not_last default_tag d (no_keep.1 ∙ e)) in
            (h.0, no_keep.1 ∙ h.1)

        module _ (t : mem tag (tags_after target_tag) ≡ false) where
          no_target : (f.target ≡ none) × (last_tag f ≡ last_tag (up_to_initial f))
          unfolding last_tag tag_or
          no_target =
              let h = or_absent target_tag f.target (last_tag (up_to_initial f)) (λ e. not_last target_tag t (no_default.1 ∙ e)) in
              (h.0, no_default.1 ∙ h.1)

          rules_alone : mem tag (tags_after initial_tag) ≡ false → NoneBehindRules f
          unfolding last_tag tag_or
          rules_alone i =
              let h = or_absent initial_tag f.initial rule_tag (λ e. not_last initial_tag i (no_target.1 ∙ e)) in
              (h.0, no_target.0, no_default.0, no_keep.0, no_script.0)

-- by the tag: the members that are absent then
pub before_script : (f : Fields) → CanStand f script_tag → f.script ≡ none
unfolding tags_after mem
before_script f h = (no_script f h refl).0

pub before_keep : (f : Fields) → CanStand f keep_tag → (f.keep ≡ none) × (f.script ≡ none)
unfolding tags_after mem
before_keep f h = ((no_keep f h refl refl).0, (no_script f h refl).0)

pub before_default : (f : Fields) → CanStand f default_tag → (f.default ≡ none) × (f.keep ≡ none) × (f.script ≡ none)
unfolding tags_after mem
before_default f h = ((no_default f h refl refl refl).0, (no_keep f h refl refl).0, (no_script f h refl).0)

pub before_target : (f : Fields) → CanStand f target_tag → (f.target ≡ none) × (f.default ≡ none) × (f.keep ≡ none) × (f.script ≡ none)
unfolding tags_after mem
before_target f h =
    ((no_target f h refl refl refl refl).0, (no_default f h refl refl refl).0, (no_keep f h refl refl).0, (no_script f h refl).0)

pub before_initial : (f : Fields) → CanStand f initial_tag → NoneBehindRules f
unfolding tags_after mem
before_initial f h = rules_alone f h refl refl refl refl refl

pub before_rule : (f : Fields) → CanStand f rule_tag → NoneBehindRules f
unfolding tags_after mem
before_rule f h = rules_alone f h refl refl refl refl refl

-- default, keep list and script stand behind a target
pub late : {A : Type 0} (initial : Option A) (tag : ℕ) → target_tag < tag → ¬ Memᴰ tag (tags_after (tag_or initial_tag initial rule_tag))
unfolding tags_after tag_or
late none tag below h =
    let early : ℕ → Type 0 = λ n. ¬ (target_tag < n) in either early (λ e. omega arith) (only early (λ e. omega arith)) h below
late (some i) tag below h = only (λ n. ¬ (target_tag < n)) (λ e. omega arith) h below

-- pieces and values with one more
pub joined_append : (pieces others : List (List ℕ)) → joined (pieces ++ others) ≡ joined pieces ++ joined others
unfolding joined
joined_append [] others = refl
joined_append (piece ∷ pieces) others =
    rw (joined_append pieces others) (sym (append_assoc piece (joined pieces) (joined others)))

pub joined_snoc : (pieces : List (List ℕ)) (piece : List ℕ) → joined (pieces ++ (piece ∷ [])) ≡ joined pieces ++ piece
unfolding joined
joined_snoc pieces piece =
    joined_append pieces (piece ∷ []) ∙ ap (λ (l : List ℕ). joined pieces ++ l) (append-nil piece)

pub map_snoc : {A B : Type 0} (f : A → B) (l : List A) (a : A) → map f (l ++ (a ∷ [])) ≡ map f l ++ (f a ∷ [])
map_snoc f [] a = refl
map_snoc f (x ∷ l) a = ap (λ (m : List _). f x ∷ m) (map_snoc f l a)

-- The bytes of fields with one more.
module _ (f : Fields) where
  pub bytes_with_rule : (rule : Rule) → CanStand f rule_tag
      → fields_bytes (set_catalogue f (f.catalogue ++ (rule ∷ []))) ≡ fields_bytes f ++ field_bytes rule_tag (rule_bytes rule)
  unfolding fields_bytes if_there
  bytes_with_rule rule h =
      let n = before_rule f h in rw (n.0, n.1, n.2, n.3, n.4) (simp (map_snoc, joined_snoc, append-nil))

  pub bytes_with_initial : (i : List ℕ) → CanStand f initial_tag
      → fields_bytes (set_initial f (some i)) ≡ fields_bytes f ++ field_bytes initial_tag (numbers_bytes i)
  unfolding fields_bytes if_there
  bytes_with_initial i h = let n = before_initial f h in rw (n.0, n.1, n.2, n.3, n.4) (simp append-nil)

  pub bytes_with_target : (t : List ℕ) → CanStand f target_tag
      → fields_bytes (set_target f (some t)) ≡ fields_bytes f ++ field_bytes target_tag (numbers_bytes t)
  unfolding fields_bytes if_there
  bytes_with_target t h = let n = before_target f h in rw (n.0, n.1, n.2, n.3) (simp (append-nil, append_assoc))

  pub bytes_with_default : (d : Action) → CanStand f default_tag
      → fields_bytes (set_default f (some d)) ≡ fields_bytes f ++ field_bytes default_tag (default_bytes d)
  unfolding fields_bytes if_there
  bytes_with_default d h = let n = before_default f h in rw (n.0, n.1, n.2) (simp (append-nil, append_assoc))

  pub bytes_with_keep : (k : List ℕ) → CanStand f keep_tag
      → fields_bytes (set_keep f (some k)) ≡ fields_bytes f ++ field_bytes keep_tag (numbers_bytes k)
  unfolding fields_bytes if_there
  bytes_with_keep k h = let n = before_keep f h in rw (n.0, n.1) (simp (append-nil, append_assoc))

  pub bytes_with_script : (s : Script) → CanStand f script_tag
      → fields_bytes (set_script f (some s)) ≡ fields_bytes f ++ field_bytes script_tag (script_bytes s)
  unfolding fields_bytes if_there
  bytes_with_script s h = rw (before_script f h) (simp (append-nil, append_assoc))

-- a catalogue with one more rule
pub unlike_snoc : (c : List Rule) (rule : Rule) → Unlike c → ¬ Memᴰ rule c → Unlike (c ++ (rule ∷ []))
unlike_snoc [] rule u n = (λ h. Memᴰ.not-nil h, tt)
unlike_snoc (x ∷ c) rule u n = (
  λ h. ⊎_elim (λ t. u.0 t) (λ t. n (Memᴰ.head (sym (Memᴰ.eq_of_singleton t)))) (Memᴰ.append_cases c h),
  unlike_snoc c rule u.1 (λ h. n (Memᴰ.tail h)),
)

pub catalogue_snoc : (c : List Rule) (rule : Rule) → Catalogue c → length c < most_rules → Recordable rule → ¬ Memᴰ rule c
    → Catalogue (c ++ (rule ∷ []))
catalogue_snoc c rule h few r n =
    record {
      few = omega (arith, length-append c (rule ∷ []));
      recordable =
          λ other t.
          ⊎_elim (h.recordable other) (λ t. subst Recordable (sym (Memᴰ.eq_of_singleton t)) r) (Memᴰ.append_cases c t);
      unlike = unlike_snoc c rule h.unlike n;
    }

-- Fields with one more can have been read.
module _ (f : Fields) (r : Readable f) where
  pub readable_rule : (c : List Rule) → CanStand f rule_tag → Catalogue c → Readable (set_catalogue f c)
  readable_rule c h sound =
      let n = before_rule f h in
      record {
        catalogue = sound;
        initial = rw n.0 tt;
        target = rw n.1 tt;
        default = rw n.2 tt;
        keep = rw n.3 tt;
        script = rw n.4 tt;
      }

  pub readable_initial : (i : List ℕ) → CanStand f initial_tag → Listed (length f.catalogue) i → Readable (set_initial f (some i))
  unfolding tags_after tag_or last_tag mem
  readable_initial i h sound =
      let n = before_initial f h in
      let stands = mem_in initial_tag (tags_after rule_tag) refl in
      record {
        catalogue = r.catalogue;
        initial = (stands, sound);
        target = rw n.1 tt;
        default = rw n.2 tt;
        keep = rw n.3 tt;
        script = rw n.4 tt;
      }

  pub readable_target : (t : List ℕ) → CanStand f target_tag → Listed (length f.catalogue) t → Readable (set_target f (some t))
  unfolding tags_after mem
  readable_target t h sound =
      let n = before_target f h in
      let stands = subst (λ (n : ℕ). Memᴰ target_tag (tags_after n)) (no_target f h refl refl refl refl).1 h in
      record {
        catalogue = r.catalogue;
        initial = r.initial;
        target = (stands, sound);
        default = rw n.1 tt;
        keep = rw n.2 tt;
        script = rw n.3 tt;
      }

  pub readable_default : (d : Action) → CanStand f default_tag → d ≡ Permit → Readable (set_default f (some d))
  unfolding tags_after mem
  readable_default d h permit =
      let n = before_default f h in
      let stands = subst (λ (n : ℕ). Memᴰ default_tag (tags_after n)) (no_default f h refl refl refl).1 h in
      record {
        catalogue = r.catalogue;
        initial = r.initial;
        target = r.target;
        default = (stands, permit);
        keep = rw n.1 tt;
        script = rw n.2 tt;
      }

  pub readable_keep : (k : List ℕ) → CanStand f keep_tag → Sublistᴰ k (listed f.initial) → Sublistᴰ k (listed f.target)
      → Readable (set_keep f (some k))
  unfolding tags_after mem
  readable_keep k h i t =
      let n = before_keep f h in
      let stands = subst (λ (n : ℕ). Memᴰ keep_tag (tags_after n)) (no_keep f h refl refl).1 h in
      record {
        catalogue = r.catalogue;
        initial = r.initial;
        target = r.target;
        default = r.default;
        keep = (stands, i, t);
        script = rw n.1 tt;
      }

  pub readable_script : (s : Script) → CanStand f script_tag → Scripted s → Readable (set_script f (some s))
  unfolding tags_after mem
  readable_script s h sound =
      let stands = subst (λ (n : ℕ). Memᴰ script_tag (tags_after n)) (no_script f h refl).1 h in
      record {
        catalogue = r.catalogue;
        initial = r.initial;
        target = r.target;
        default = r.default;
        keep = r.keep;
        script = (stands, sound);
      }
