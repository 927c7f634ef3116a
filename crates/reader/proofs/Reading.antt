-- From field to field: the reader's answer to one field, what it knows then, and its answer to the file. The idea: the bytes so
-- far are those of the fields so far, and the reader of the definitions goes through them. Assumes nothing.
use Prim.Native.Nat.{ℕ, ◌+◌, ◌*◌, ◌-◌, ◌≤◌, ◌<◌}
use native.Mathlib.Omega.{arith}
use mathlib.Core.Path.{◌≡◌, refl, sym, ◌∙◌, ap, subst}
use mathlib.Core.Bool.{false}
use mathlib.Core.List.{List, [], ◌++◌}
use mathlib.Core.Option.{Option, none, some}
use lib.ListN.{length, take, drop, length-append, length-drop, drop_of_length-le}
use lib.Seq.{drop-drop, drop_at}
use Rattle.policy.specs.Lists.{mem}
use Rattle.policy.specs.Rule.{Rule}
use Rattle.policy.specs.declared.Action.{Action}
use Rattle.policy.proofs.Lists.{not_mem}
use Rattle.deployment.specs.Checked.{Checked, good, bad}
use Rattle.deployment.specs.Bytes.{part, joined}
use Rattle.deployment.specs.Values.{Script, rule_of, known, default_of, default_field}
use Rattle.deployment.specs.Catalogue.{catalogue_of}
use Rattle.deployment.specs.File.{
  Fields,
  Field,
  listed,
  tags_after,
  tag_or,
  last_tag,
  field_read,
  with_field,
  at_end,
  rule_tag,
  target_tag,
  default_tag,
  keep_tag,
  script_tag,
  head_bytes,
  nothing,
  read_from,
  read_file,
  if_there,
}
use Rattle.deployment.specs.Properties.{CanStand, Readable, fields_bytes, size_of, AreBytes}
use Rattle.deployment.specs.declared.Why.TheVariants.{NoTarget}
use Rattle.deployment.specs.declared.Why.{Why}
use Rattle.deployment.proofs.Bytes.{are_bytes_drop}
use Rattle.deployment.proofs.Fields.{fields, late}
use Rattle.deployment.proofs.Taken.{rule_size, ValueRight, taken, taken_right}
use Rattle.deployment.proofs.ReadBack.{read_through}
use Rattle.deployment.proofs.Reader.{nothing_readable, refusal_row}
use Rattle.catalogue.specs.Answers.{checking}
use Rattle.reader.specs.Answers.{value_at, span_from, span_if, keep_bytes, action_bytes, layout_of, shown, file_read}
use Rattle.catalogue.specs.RuleMarks.{Apart}
use Rattle.reader.specs.Steps.{layout_so_far, progress_of, Begun, More, head_shown, step_shown, step_from}
use Rattle.reader.specs.declared.Layout.{Layout}
use Rattle.reader.specs.declared.Span.{Span}
use Rattle.reader.specs.declared.file.Head.{Head}
use Rattle.reader.specs.declared.file.Progress.{Progress}
use Rattle.std.specs.Prelude.{Result, Ok, Err, MatchResult, IsErrAnd}
use Rattle.deployment.specs.declared.Refusal.{Refusal}
use Rattle.reader.proofs.ValuePlaces.{rules_alone}
use Rattle.reader.proofs.Heads.{same_count}
use Rattle.reader.proofs.Checks.{read_whole, read_field, read_long, read_right, read_stands}
use Rattle.reader.proofs.OneMore.{more_last, more_of, more_long}

-- The answer to one field, by those to its head and to its value.
module _ (f : Fields) (left : List ℕ) where
  pub turned_at_head : (why : Why) → Err why ≡ head_shown (field_read f left) → Err why ≡ step_from f left
  unfolding head_shown step_from step_shown
  turned_at_head why e = go (field_read f left) refl e
    where
      go : (read : Checked Field) → field_read f left ≡ read → Err why ≡ head_shown read → Err why ≡ step_from f left
      go (bad other) h e = rw h (let same : why ≡ other = cc in rw same)
      go (good field) h e = absurd (let z : ◌≡◌ {A = ℕ} 0 1 = cc in omega arith)

  pub headed_field : (tag size : ℕ) → Ok (record { tag = tag; size = size }) ≡ head_shown (field_read f left)
      → (field_read f left ≡ good (record { tag = tag; value = part 3 size left })) × (3 + size ≤ length left) × (size ≡ size_of left)
  unfolding head_shown
  headed_field tag size e = go (field_read f left) refl e
    where
      go : (read : Checked Field) → field_read f left ≡ read → Ok (record { tag = tag; size = size }) ≡ head_shown read
          → (field_read f left ≡ good (record { tag = tag; value = part 3 size left })) × (3 + size ≤ length left) × (size ≡ size_of left)
      go (bad why) h e = absurd (let z : ◌≡◌ {A = ℕ} 0 1 = cc in omega arith)
      go (good field) h e =
          let same : ◌≡◌ {A = Head} (record { tag = tag; size = size }) (record { tag = field.tag; size = length field.value }) = cc in
          let same_tag : tag ≡ field.tag = ap (λ (head : Head). head.tag) same in
          let same_size : size ≡ length field.value = ap (λ (head : Head). head.size) same in
          let whole = read_whole f left field.tag field.value h in
          let long = read_long f left field.tag field.value h in
          let same_value : field.value ≡ part 3 (size_of left) left =
          ap (λ (field : Field). field.value) (read_field f left field.tag field.value h) in
          (rw (same_tag, same_size, long, ← same_value) h, omega arith, same_size ∙ long)

  pub turned_at_value : (field : Field) → field_read f left ≡ good field → (why : Why) → Err why ≡ checking (with_field f field)
      → Err why ≡ step_from f left
  unfolding checking step_from step_shown
  turned_at_value field h why e = go (with_field f field) refl e
    where
      go : (read : Checked Fields) → with_field f field ≡ read → Err why ≡ checking read → Err why ≡ step_from f left
      go (bad other) k e = rw (h, k) (let same : why ≡ other = cc in rw same)
      go (good g) k e = absurd (let z : ◌≡◌ {A = ℕ} 0 1 = cc in omega arith)

  pub passed_value : (field : Field) → field_read f left ≡ good field → (Ok tt) ≡ checking (with_field f field)
      → (g : Fields) × (with_field f field ≡ good g) × (step_from f left ≡ Ok (progress_of g))
  unfolding checking step_from step_shown
  passed_value field h e = go (with_field f field) refl e
    where
      go : (read : Checked Fields) → with_field f field ≡ read → (Ok tt) ≡ checking read
          → (g : Fields) × (with_field f field ≡ good g) × (step_from f left ≡ Ok (progress_of g))
      go (bad why) k e = absurd (let z : ◌≡◌ {A = ℕ} 0 1 = cc in omega arith)
      go (good g) k e = (g, k, rw (h, k))

-- how far one field leads
longer : (f g : Fields) (left : List ℕ) → ValueRight f left (good g)
    → length (fields_bytes g) ≡ length (fields_bytes f) + (3 + size_of left)
longer f g left right =
    let behind = drop (head_bytes + size_of left) left in
    let whole : length (fields_bytes g) + length behind ≡ length (fields_bytes f) + length left =
    sym (length-append (fields_bytes g) behind) ∙ ap length right.2 ∙ length-append (fields_bytes f) left in
    let fits : head_bytes + size_of left ≤ length left = right.0.1 in
    omega (arith, length-drop (head_bytes + size_of left) left)

same_progress : {at at' last last' : ℕ} {layout layout' : Layout} → at ≡ at' → last ≡ last' → layout ≡ layout'
    → ◌≡◌ {A = Progress} (record { at = at; last = last; layout = layout }) (record { at = at'; last = last'; layout = layout' })
same_progress a l p = rw (a, l, p)

same_span : {start start' size size' : ℕ} → start ≡ start' → size ≡ size'
    → ◌≡◌ {A = Span} (record { start = start; size = size }) (record { start = start'; size = size' })
same_span s z = rw (s, z)

front : (one other file : List ℕ) → one ++ other ≡ file → file ≡ one ++ drop (length one) file
front one other file e = rw (← e, drop_at one other (length one) refl)

-- What is known after one field more, and what the reader answers.
module _ (file : List ℕ) (progress : Progress) (f : Fields) (b : Begun file progress f) (some_left : progress.at < length file) where
  position : progress.at ≡ length (fields_bytes f)
  unfolding progress_of
  position = ap (λ (p : Progress). p.at) b.known

  left_long : length (drop progress.at file) ≡ length file - progress.at
  left_long = length-drop progress.at file

  whole_file : file ≡ fields_bytes f ++ drop progress.at file
  whole_file = rw position b.is

  -- the field whose head was read, with its value cut from the file
  pub cut_field : (tag size : ℕ) (value : List ℕ) → Ok (record { tag = tag; size = size }) ≡ head_shown (field_read f (drop progress.at file))
      → value ≡ value_at (record { start = progress.at + 3; size = size }) file
      → field_read f (drop progress.at file) ≡ good (record { tag = tag; value = value })
  unfolding value_at part
  cut_field tag size value found is =
      rw (is, ← drop-drop) (headed_field f (drop progress.at file) tag size found).0

  -- it is a rule: the record whose number is the count of the rules so far
  pub apart_field : (tag size : ℕ) (value : List ℕ) → Ok (record { tag = tag; size = size }) ≡ head_shown (field_read f (drop progress.at file))
      → value ≡ value_at (record { start = progress.at + 3; size = size }) file
      → (count : ℕ) → Apart 3 count file → tag ≡ rule_tag → progress.layout.rules < count
      → known (rule_of value) (take progress.layout.rules (catalogue_of 3 file)) ≡ false
  unfolding value_at Apart
  apart_field tag size value found is count apart e below =
      let left = drop progress.at file in
      let read = cut_field tag size value found is in
      let stands : CanStand f rule_tag = subst (CanStand f) e (read_stands f left tag value read) in
      let right : length value ≡ 27 = rule_size e (read_right f left tag value read) in
      let long : size ≡ 27 =
      omega (arith, right, read_long f left tag value read, (headed_field f left tag size found).2) in
      let at_rule : progress.at ≡ progress.layout.rules * 30 =
      position ∙ rules_alone f stands ∙ ap (λ (n : ℕ). n * 30) (sym (same_count file progress f b)) in
      subst (λ (v : List ℕ). known (rule_of v) (take progress.layout.rules (catalogue_of 3 file)) ≡ false)
      (ap (λ (at : ℕ). part (at + 3) 27 file) (sym at_rule) ∙ ap (λ (n : ℕ). part (progress.at + 3) n file) (sym long) ∙ sym is)
      (apart progress.layout.rules below)

  pub field_inside : (tag size : ℕ) → Ok (record { tag = tag; size = size }) ≡ head_shown (field_read f (drop progress.at file))
      → progress.at + 3 + size ≤ length file
  field_inside tag size found = omega (arith, left_long, (headed_field f (drop progress.at file) tag size found).1)

  module _ (bytes : AreBytes file) where
    right_now : ValueRight f (drop progress.at file) (taken f (drop progress.at file))
    right_now =
        taken_right f (drop progress.at file) b.readable (are_bytes_drop progress.at file bytes) (omega (arith, left_long))

    -- its value passes, and its place joins the others
    pub passed_on : (tag size : ℕ) (value : List ℕ) (layout : Layout)
        → Ok (record { tag = tag; size = size }) ≡ head_shown (field_read f (drop progress.at file))
        → value ≡ value_at (record { start = progress.at + 3; size = size }) file
        → (Ok tt) ≡ checking (with_field f (record { tag = tag; value = value }))
        → ((f g : Fields) (value : List ℕ) → More f tag value g → progress.layout ≡ layout_so_far f
        → ◌≡◌ {A = Span} (record { start = progress.at + 3; size = size }) (span_from (length (fields_bytes f)) value)
        → layout ≡ layout_so_far g)
        → Ok (record { at = progress.at + 3 + size; last = tag; layout = layout }) ≡ step_from f (drop progress.at file)
    unfolding progress_of span_from
    passed_on tag size value layout found is passed placed =
        let left = drop progress.at file in
        let read = cut_field tag size value found is in
        let next = passed_value f left _ read passed in
        let g = next.0 in
        let more = more_of f tag value g (read_stands f left tag value read) next.1 in
        let took : taken f left ≡ good g = rw read next.1 in
        let far : length (fields_bytes g) ≡ length (fields_bytes f) + (3 + size_of left) =
        longer f g left (subst (ValueRight f left) took right_now) in
        let size_is : size ≡ size_of left = (headed_field f left tag size found).2 in
        let known : progress.layout ≡ layout_so_far f = ap (λ (p : Progress). p.layout) b.known in
        ap Ok
        (same_progress (omega (arith, position)) (more_last more.1)
        (placed f g more.0 more.1 known
        (same_span (ap (λ (at : ℕ). at + 3) position) (omega (arith, more_long more.1)))))
        ∙ sym next.2

    -- another field was read
    pub begun_again : (next : Progress) → Ok next ≡ step_from f (drop progress.at file)
        → (g : Fields) × Begun file next g × (progress.at < next.at)
    unfolding step_from step_shown progress_of
    begun_again next e = go (taken f (drop progress.at file)) refl e right_now
      where
        go : (read : Checked Fields) → taken f (drop progress.at file) ≡ read → Ok next ≡ step_shown read
            → ValueRight f (drop progress.at file) read → (g : Fields) × Begun file next g × (progress.at < next.at)
        go (bad why) h e right = absurd (let z : ◌≡◌ {A = ℕ} 0 1 = cc in omega arith)
        go (good g) h e right =
            let left = drop progress.at file in
            let known : next ≡ progress_of g = cc in
            let behind = drop (head_bytes + size_of left) left in
            let is : fields_bytes g ++ behind ≡ file = right.2 ∙ sym whole_file in
            let far : length (fields_bytes g) ≡ length (fields_bytes f) + (3 + size_of left) = longer f g left right in
            let at_next : next.at ≡ length (fields_bytes g) = ap (λ (p : Progress). p.at) known in (
              g,
              record { readable = right.1; is = front (fields_bytes g) behind file is; known = known },
              omega (arith, position),
            )

    -- the field is turned away
    pub turned_away : (why : Why) → Err why ≡ step_from f (drop progress.at file)
        → Err (record { why = why; at = progress.at }) ≡ file_read file
    unfolding step_from step_shown file_read shown
    turned_away why e = go (taken f (drop progress.at file)) refl e right_now
      where
        go : (read : Checked Fields) → taken f (drop progress.at file) ≡ read → Err why ≡ step_shown read
            → ValueRight f (drop progress.at file) read → Err (record { why = why; at = progress.at }) ≡ file_read file
        go (good g) h e right = absurd (let z : ◌≡◌ {A = ℕ} 0 1 = cc in omega arith)
        go (bad other) h e right =
            let same : why ≡ other = cc in
            let named = (refusal_row file (record { why = why; at = progress.at }) bytes).1 (record {
              fields = f;
              left = drop progress.at file;
              is = whole_file;
              readable = b.readable;
              counted = position;
              fails = rw same right;
            }) in
            rw named

-- The end of the file: 3 where no target is there.
pub ended_early : (f : Fields) → last_tag f < target_tag → (at : ℕ) → Err (record { why = NoTarget; at = at }) ≡ shown (at_end f at)
unfolding last_tag tag_or at_end shown
ended_early f below at = go f.catalogue f.initial f.target f.default f.keep f.script below
  where
    go : (c : List Rule) (i t : Option (List ℕ)) (d : Option Action) (k : Option (List ℕ)) (s : Option Script)
        → last_tag (fields c i t d k s) < target_tag → Err (record { why = NoTarget; at = at }) ≡ shown (at_end (fields c i t d k s) at)
    go c i none d k s h = refl
    go c i (some t) none none none h = absurd (omega arith)
    go c i (some t) (some d) none none h = absurd (omega arith)
    go c i (some t) d (some k) none h = absurd (omega arith)
    go c i (some t) d k (some s) h = absurd (omega arith)

pub ended_late : (f : Fields) → Readable f → target_tag ≤ last_tag f → (at : ℕ) → Ok (layout_so_far f) ≡ shown (at_end f at)
unfolding last_tag tag_or tags_after mem at_end shown layout_so_far layout_of listed keep_bytes action_bytes span_if default_of default_field
ended_late f r above at = go f.catalogue f.initial f.target f.default f.keep f.script r above
  where
    go : (c : List Rule) (i t : Option (List ℕ)) (d : Option Action) (k : Option (List ℕ)) (s : Option Script) → Readable (fields c i t d k s)
        → target_tag ≤ last_tag (fields c i t d k s) → Ok (layout_so_far (fields c i t d k s)) ≡ shown (at_end (fields c i t d k s) at)
    go c (some i) (some t) none k s r h = refl
    go c (some i) (some t) (some d) k s r h = rw r.default.1
    go c none (some t) d k s r h = absurd (not_mem target_tag (tags_after rule_tag) refl r.target.0)
    go c i none (some d) k s r h = absurd (late i default_tag (omega arith) r.default.0)
    go c i none none (some k) s r h = absurd (late i keep_tag (omega arith) r.keep.0)
    go c i none none none (some s) r h = absurd (late i script_tag (omega arith) r.script.0)
    go c none none none none none r h = absurd (omega arith)
    go c (some i) none none none none r h = absurd (omega arith)

-- What a step answers, where its refusal is given a position: it reads on, or no further.
module _ (Told : Why → Refusal → Type 0) (answer : Result Progress Refusal) where
  pub read_on : (step : Result Progress Why) → MatchResult step (λ more. answer ≡ Ok more) (λ why. IsErrAnd answer (Told why))
      → (next : Progress) → answer ≡ Ok next → Ok next ≡ step
  read_on (Ok more) told next e = let same : next ≡ more = cc in rw same
  read_on (Err why) told next e = absurd (rw e at told)

  pub read_no_further : (step : Result Progress Why) → MatchResult step (λ more. answer ≡ Ok more) (λ why. IsErrAnd answer (Told why))
      → (refusal : Refusal) → answer ≡ Err refusal → (why : Why) × (Err why ≡ step) × Told why refusal
  read_no_further (Ok more) told refusal e = absurd (let z : ◌≡◌ {A = ℕ} 0 1 = cc in omega arith)
  read_no_further (Err why) told refusal e = (why, refl, rw e at told)

-- At the start nothing has been read; at the end the fields are all there are.
pub begun_at_start : (file : List ℕ) → Begun file (progress_of nothing) nothing
unfolding nothing fields_bytes if_there joined
begun_at_start file = record { readable = nothing_readable; is = refl; known = refl }

pub ended_right : (file : List ℕ) (progress : Progress) (f : Fields) → Begun file progress f → length file ≤ progress.at
    → shown (at_end f progress.at) ≡ file_read file
unfolding file_read read_file read_from progress_of
ended_right file progress f b past =
    let position : progress.at ≡ length (fields_bytes f) = ap (λ (p : Progress). p.at) b.known in
    let all : length file ≤ length (fields_bytes f) = omega arith in
    let none_left : drop (length (fields_bytes f)) file ≡ [] = drop_of_length-le file all in
    rw (position, b.is, none_left) (ap shown (sym (read_through f [] b.readable)))
