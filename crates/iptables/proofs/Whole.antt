-- A whole listing: lines that pass, and then its end or a line that doesn't. The idea: lines that pass lead the reader to their rules, their defaults
-- and whether the part is open; every listing is parted so, and how it is parted says what it is read as. Assumes nothing.
use Prim.Native.Nat.{ℕ, suc, ◌≤◌, ◌<◌}
use native.Mathlib.Omega.{arith}
use mathlib.Core.Path.{◌≡◌, refl, sym, ◌∙◌, ap, subst}
use mathlib.Core.Bool.{Bool, true, false}
use mathlib.Core.Logic.{⊎_elim, ◌≢◌}
use mathlib.Core.List.{List, [], ◌∷◌, ◌++◌, append_assoc, append-nil}
use borrow.Author.Tests.{leb-true, leb-false, le-leb, lt-leb}
use lib.Dec.{leb}
use lib.ListN.{length, length-append}
use Rattle.policy.specs.Policy.{most_rules, most_listed}
use Rattle.policy.specs.Rule.{Rule}
use Rattle.policy.specs.declared.Action.{Action}
use Rattle.policy.proofs.Tests.{by_test, never}
use Rattle.deployment.specs.Checked.{Checked, good, bad, why_number, refusal_numbers}
use Rattle.deployment.specs.Contents.{Contents}
use Rattle.deployment.specs.File.{Reading, accepted, refused, reading_numbers}
use Rattle.deployment.specs.FieldValues.{at_zero}
use Rattle.deployment.specs.declared.Refusal.{Refusal}
use Rattle.deployment.specs.declared.Why.{Why}
use Rattle.deployment.specs.declared.Why.TheVariants.{NotRead, LowAbove, TooMany, Length}
use Rattle.deployment.proofs.Numbers.{both_same}
use Rattle.deployment.proofs.Tests.{Says, says_not, not_says, tested}
use Rattle.deployment.proofs.Lent.{no_numbers}
use Rattle.iptables.specs.Listing.{
  lines_of,
  Line,
  opens,
  closes,
  default,
  rule,
  passed,
  is_filter,
  line_read,
  Found,
  nothing_found,
  goes_inside,
  with_line,
  stepped,
  first_only,
  just_one,
  contents_of,
  gathered,
  read_from,
  listing_read,
}
use Rattle.iptables.specs.Properties.{
  Is,
  Inside,
  rule_in,
  default_in,
  Passes,
  no_line,
  line_outside,
  line_inside,
  Accepts,
  Reaches,
  ListingTurned,
  not_read,
  low_above,
  cut_short,
  not_just_one,
  too_many,
  too_long,
}
use Rattle.iptables.specs.Claims.{ListingAccepted, ListingRefused, CutShortRefused, DecidedByFirstLine}
use Rattle.iptables.proofs.Lines.{line_is_lem, line_low_above, line_not_read}
use Rattle.iptables.proofs.FirstPlaces.{later_ones_never_decide, decided_by_first}
use Rattle.iptables.proofs.Part.{and_one, inside_none, outside_line, inside_line}

-- What is found of lines that pass.
abbrev pub found : Bool → List Rule → List Action → Found
found inside rules defaults = record { inside = inside; rules = rules; defaults = defaults }

with_line_lem : (inside : Bool) (rules : List Rule) (defaults : List Action) (l : Line) → let f = found inside rules defaults in
    with_line f l ≡ found (with_line f l).inside (rules ++ rule_in l) (defaults ++ default_in l)
unfolding with_line rule_in default_in
with_line_lem inside rules defaults opens = rw (append-nil rules, append-nil defaults)
with_line_lem inside rules defaults closes = rw (append-nil rules, append-nil defaults)
with_line_lem inside rules defaults (default action) = rw (append-nil rules)
with_line_lem inside rules defaults (rule r) = rw (append-nil defaults)
with_line_lem inside rules defaults passed = rw (append-nil rules, append-nil defaults)

-- A line outside of the part, a line of it that is read, and one that isn't.
step_outside : (f : Found) (line : List ℕ) → f.inside ≡ false → stepped f line ≡ good (goes_inside (is_filter line) f)
unfolding stepped
step_outside f line out = rw out

step_inside : (f : Found) (line : List ℕ) (l : Line) → f.inside ≡ true → line_read line ≡ good l → stepped f line ≡ good (with_line f l)
unfolding stepped
step_inside f line l was read = rw (was, read)

step_turned : (f : Found) (line : List ℕ) (why : Why) → f.inside ≡ true → line_read line ≡ bad why → stepped f line ≡ bad why
unfolding stepped
step_turned f line why was read = rw (was, read)

-- Lines lead the reader to what is found of them.
record Through (lines : List (List ℕ)) (f : Found) : Type 0 where
  inside : Says f.inside (Inside lines)
  reads : (rest : List (List ℕ)) → read_from 1 nothing_found (lines ++ rest) ≡ read_from (suc (length lines)) f rest

through_none : Through [] nothing_found
unfolding nothing_found
through_none = record { inside = (λ t. never t refl, λ h. absurd (inside_none h)); reads = λ rest. refl }

through_one : (lines : List (List ℕ)) (line : List ℕ) (f g : Found) → Through lines f → stepped f line ≡ good g
    → Says g.inside (Inside (and_one lines line)) → Through (and_one lines line) g
unfolding read_from
through_one lines line f g t step says =
    record {
      inside = says;
      reads =
          λ rest.
          let counted : length (and_one lines line) ≡ suc (length lines) = omega (arith, length-append lines (line ∷ [])) in
          rw (append_assoc lines (line ∷ []) rest, counted) (t.reads (line ∷ rest) ∙ rw (step, read_from));
    }

passes_through : (lines : List (List ℕ)) (rules : List Rule) (defaults : List Action) → Passes lines rules defaults
    → (inside : Bool) × Through lines (found inside rules defaults)
unfolding nothing_found
passes_through [] [] [] no_line = (false, through_none)
passes_through _ rules defaults (line_outside lines _ _ line p out) =
    let (inside, t) = passes_through lines rules defaults p in
    let f = found inside rules defaults in
    let read = step_outside f line (not_says t.inside out) in
    (is_filter line, through_one lines line f (goes_inside (is_filter line) f) t read (outside_line lines line out))
passes_through _ _ _ (line_inside lines rules defaults line l p h is) =
    let (inside, t) = passes_through lines rules defaults p in
    let f = found inside rules defaults in
    let was = t.inside.1 h in
    let read = step_inside f line l was ((line_is_lem line l).1 is) in (
      (with_line f l).inside,
      subst (Through (and_one lines line)) (with_line_lem inside rules defaults l)
          (through_one lines line f (with_line f l) t read (inside_line lines line f was h l is)),
    )

-- Whether the part is open behind lines that pass.
open_or_not {ℓ} : {A : Type ℓ} {lines : List (List ℕ)} {rules : List Rule} {defaults : List Action} → Passes lines rules defaults
    → (Inside lines → A) → (¬ Inside lines → A) → A
open_or_not {lines} {rules} {defaults} p stands ended =
    let (inside, t) = passes_through lines rules defaults p in
    by_test inside (λ is. stands (t.inside.0 is)) (λ is. ended (says_not t.inside is))

by_line {ℓ} : {A : Type ℓ} (line : List ℕ) → ((l : Line) → Is line l → A) → ((why : Why) → line_read line ≡ bad why → A) → A
by_line {A} line is turned = go (line_read line) refl
  where
    go : (read : Checked Line) → line_read line ≡ read → A
    go (good l) e = is l ((line_is_lem line l).0 e)
    go (bad why) e = turned why e

-- Every listing's lines pass, or lines that pass reach one of the part that isn't read.
pub by_lines {ℓ} : {A : Type ℓ} (listing : List ℕ)
    → ((rules : List Rule) (defaults : List Action) → Passes (lines_of listing) rules defaults → A)
    → ((line : List ℕ) (at : ℕ) (why : Why) → Reaches listing line at → line_read line ≡ bad why → A) → A
by_lines {A} listing whole stops = go [] (lines_of listing) [] [] refl no_line
  where
    go : (front back : List (List ℕ)) (rules : List Rule) (defaults : List Action) → lines_of listing ≡ front ++ back
        → Passes front rules defaults → A
    go front [] rules defaults is p = whole rules defaults (rw (is, append-nil front) p)
    go front (line ∷ back) rules defaults is p =
        let next : lines_of listing ≡ and_one front line ++ back = is ∙ sym (append_assoc front (line ∷ []) back) in
        open_or_not p
        (λ h. by_line line
        (λ l says. go (and_one front line) back _ _ next (line_inside front rules defaults line l p h says))
        (λ why turned.
        stops line (suc (length front)) why
        (record { front = front; back = back; rules = rules; defaults = defaults; is = is; passes = p; inside = h; counted = refl })
        turned))
        (λ out. go (and_one front line) back rules defaults next (line_outside front rules defaults line p out))

-- What is read: of lines that pass, at their end, and of those that reach a line that isn't read.
module _ (listing : List ℕ) where
  pub cut_read : (rules : List Rule) (defaults : List Action) → Passes (lines_of listing) rules defaults → Inside (lines_of listing)
      → listing_read listing ≡ refused (record { why = NotRead; at = suc (length (lines_of listing)) })
  unfolding listing_read read_from
  cut_read rules defaults p h =
      let (inside, t) = passes_through (lines_of listing) rules defaults p in
      ap (read_from 1 nothing_found) (sym (append-nil (lines_of listing))) ∙ t.reads [] ∙ rw (t.inside.1 h)

  pub whole_read : (rules : List Rule) (defaults : List Action) → Passes (lines_of listing) rules defaults → ¬ Inside (lines_of listing)
      → listing_read listing ≡ at_zero (gathered (found false rules defaults))
  unfolding listing_read read_from
  whole_read rules defaults p ended =
      let (inside, t) = passes_through (lines_of listing) rules defaults p in
      ap (read_from 1 nothing_found) (sym (append-nil (lines_of listing))) ∙ t.reads [] ∙ rw (not_says t.inside ended)

  pub stopped_read : (line : List ℕ) (at : ℕ) (why : Why) → Reaches listing line at → line_read line ≡ bad why
      → listing_read listing ≡ refused (record { why = why; at = at })
  unfolding listing_read read_from
  stopped_read line at why r turned =
      let (inside, t) = passes_through r.front r.rules r.defaults r.passes in
      let f = found inside r.rules r.defaults in
      ap (read_from 1 nothing_found) r.is ∙ t.reads (line ∷ r.back)
      ∙ rw (step_turned f line why (t.inside.1 r.inside) turned, read_from, r.counted)

-- What is gathered at the end: the tests in their order, and what each gives.
module _ (inside : Bool) (rules : List Rule) where
  gathered_tested {ℓ} : (Right : Checked Contents → Type ℓ) (defaults : List Action) → (length defaults ≢ 1 → Right (bad NotRead))
      → ((action : Action) → defaults ≡ action ∷ [] → most_rules < length (first_only [] rules) → Right (bad TooMany))
      → ((action : Action) → defaults ≡ action ∷ [] → length (first_only [] rules) ≤ most_rules → most_listed < length (first_only [] rules)
      → Right (bad Length))
      → ((action : Action) → defaults ≡ action ∷ [] → length (first_only [] rules) ≤ most_listed
      → Right (good (contents_of (first_only [] rules) action)))
      → Right (gathered (found inside rules defaults))
  unfolding gathered just_one
  gathered_tested Right [] none many long few = none (λ e. omega (arith, e))
  gathered_tested Right (action ∷ []) none many long few =
      let count = length (first_only [] rules) in
      tested Right (leb count most_rules) (λ e. many action refl (leb-false count most_rules e)) λ e.
      tested Right (leb count most_listed)
      (λ f. long action refl (leb-true count most_rules e) (leb-false count most_listed f)) λ f.
      few action refl (leb-true count most_listed f)
  gathered_tested Right (action ∷ other ∷ actions) none many long few = none (λ e. omega (arith, e))

  gathered_few : (action : Action) → length (first_only [] rules) ≤ most_listed
      → gathered (found inside rules (action ∷ [])) ≡ good (contents_of (first_only [] rules) action)
  unfolding gathered just_one
  gathered_few action few =
      let count = length (first_only [] rules) in rw (le-leb count most_rules (omega arith), le-leb count most_listed few)

  gathered_none : (defaults : List Action) → length defaults ≢ 1 → gathered (found inside rules defaults) ≡ bad NotRead
  gathered_none defaults other =
      gathered_tested (λ read. read ≡ bad NotRead) defaults (λ none. refl) (λ action is many. absurd (other (ap length is)))
      (λ action is fits long. absurd (other (ap length is))) (λ action is few. absurd (other (ap length is)))

  gathered_many : (action : Action) → most_rules < length (first_only [] rules) → gathered (found inside rules (action ∷ [])) ≡ bad TooMany
  unfolding gathered just_one
  gathered_many action many = rw (lt-leb (length (first_only [] rules)) most_rules many)

  gathered_long : (action : Action) → length (first_only [] rules) ≤ most_rules → most_listed < length (first_only [] rules)
      → gathered (found inside rules (action ∷ [])) ≡ bad Length
  unfolding gathered just_one
  gathered_long action fits long =
      let count = length (first_only [] rules) in rw (le-leb count most_rules fits, lt-leb count most_listed long)

-- A line is read or it isn't, a listing is accepted or refused, not both.
good_not_bad {ℓ} : {A : Type ℓ} {T : Type 0} {a : T} {why : Why} → good a ≡ bad why → A
good_not_bad {a} {why} e = absurd (let z : ◌≡◌ {A = ℕ} 0 1 = cc in omega arith)

refused_not_accepted {ℓ} : {A : Type ℓ} {c : Contents} {refusal : Refusal} → refused refusal ≡ accepted c → A
refused_not_accepted {c} {refusal} e = absurd (let z : ◌≡◌ {A = ℕ} 0 1 = cc in omega arith)

-- A line that isn't read is a row of the table ..
stopped_row : (listing line : List ℕ) (at : ℕ) (why : Why) → Reaches listing line at → line_read line ≡ bad why
    → ListingTurned listing (why_number why) at
stopped_row listing line at why r turned =
    ⊎_elim
    (λ is. rw is
    (not_read line at r (λ l says. good_not_bad (sym ((line_is_lem line l).1 says) ∙ turned))
    (λ low. let above = (line_low_above line).1 low in let same : LowAbove ≡ NotRead = cc in absurd (omega (arith, ap why_number same)))))
    (λ is. rw is (low_above line at r ((line_low_above line).0 (turned ∙ ap bad is))))
    (line_not_read line why turned)

-- .. and so is each other refusal: whatever is answered is right.
answer_right {ℓ} : (Right : Reading → Type ℓ) (listing : List ℕ) → ((c : Contents) → Accepts listing c → Right (accepted c))
    → ((why : Why) (at : ℕ) → ListingTurned listing (why_number why) at → Right (refused (record { why = why; at = at })))
    → Right (listing_read listing)
unfolding at_zero
answer_right Right listing right turned =
    by_lines listing
    (λ rules defaults p. open_or_not p
    (λ cut. rw (cut_read listing rules defaults p cut) (turned NotRead _ (cut_short rules defaults p cut)))
    (λ whole. rw (whole_read listing rules defaults p whole)
    (gathered_tested false rules (λ g. Right (at_zero g)) defaults
    (λ none. turned NotRead 0 (not_just_one rules defaults p whole none))
    (λ action is many. turned TooMany 0 (too_many rules action (rw (← is) p) whole many))
    (λ action is fits long. turned Length 0 (too_long rules action (rw (← is) p) whole fits long))
    (λ action is few. right (contents_of (first_only [] rules) action)
    (record { rules = rules; action = action; passes = rw (← is) p; whole = whole; few = few; is = refl })))))
    (λ line at why r e. rw (stopped_read listing line at why r e) (turned why at (stopped_row listing line at why r e)))

pub listing_accepted : ListingAccepted
unfolding at_zero
listing_accepted listing c = (
  answer_right (λ reading. reading ≡ accepted c → Accepts listing c) listing
      (λ d right e. let same : d ≡ c = cc in rw (← same) right) (λ why at row e. refused_not_accepted e),
  λ a. whole_read listing a.rules (a.action ∷ []) a.passes a.whole
      ∙ ap at_zero (gathered_few false a.rules a.action a.few) ∙ ap accepted (sym a.is),
)

-- Each row of the table is the answer.
row_read : (listing : List ℕ) (number at : ℕ) → ListingTurned listing number at → reading_numbers (listing_read listing) ≡ number ∷ at ∷ []
unfolding reading_numbers refusal_numbers at_zero
row_read listing _ _ (not_read line at r none low) =
    by_line line (λ l says. absurd (none l says))
    (λ why turned. ⊎_elim
    (λ is. ap reading_numbers (stopped_read listing line at NotRead r (turned ∙ ap bad is)))
    (λ is. absurd (low ((line_low_above line).0 (turned ∙ ap bad is))))
    (line_not_read line why turned))
row_read listing _ _ (low_above line at r low) =
    ap reading_numbers (stopped_read listing line at LowAbove r ((line_low_above line).1 low))
row_read listing _ _ (cut_short rules defaults p cut) = ap reading_numbers (cut_read listing rules defaults p cut)
row_read listing _ _ (not_just_one rules defaults p whole other) =
    ap reading_numbers (whole_read listing rules defaults p whole ∙ ap at_zero (gathered_none false rules defaults other))
row_read listing _ _ (too_many rules action p whole many) =
    ap reading_numbers (whole_read listing rules (action ∷ []) p whole ∙ ap at_zero (gathered_many false rules action many))
row_read listing _ _ (too_long rules action p whole fits long) =
    ap reading_numbers (whole_read listing rules (action ∷ []) p whole ∙ ap at_zero (gathered_long false rules action fits long))

pub listing_refused : ListingRefused
unfolding reading_numbers refusal_numbers
listing_refused listing number at = (
  answer_right (λ reading. reading_numbers reading ≡ number ∷ at ∷ [] → ListingTurned listing number at) listing (λ c right e. no_numbers e)
      (λ why there row e. let same = both_same e in rw (← same.0, ← same.1) row),
  row_read listing number at,
)

pub cut_short_refused : CutShortRefused
cut_short_refused listing c cut read = ((listing_accepted listing c).0 read).whole cut

-- A listing whose lines pass with one default is brought in as their rules and that default.
brought_in_as : (listing : List ℕ) (c : Contents) (rules : List Rule) (action : Action) → listing_read listing ≡ accepted c
    → Passes (lines_of listing) rules (action ∷ []) → c ≡ contents_of (first_only [] rules) action
unfolding at_zero
brought_in_as listing c rules action read p =
    let whole : ¬ Inside (lines_of listing) = λ cut. cut_short_refused listing c cut read in
    gathered_tested false rules (λ g. at_zero g ≡ accepted c → c ≡ contents_of (first_only [] rules) action) (action ∷ [])
    (λ none. absurd (none refl)) (λ a is many e. refused_not_accepted e) (λ a is fits long e. refused_not_accepted e)
    (λ a is few e. let one : a ≡ action = cc in let same : contents_of (first_only [] rules) a ≡ c = cc in rw (← one) (sym same))
    (sym (whole_read listing rules (action ∷ []) p whole) ∙ read)

pub decided_by_first_line : DecidedByFirstLine
unfolding contents_of
decided_by_first_line listing c rules action flow read p =
    rw (brought_in_as listing c rules action read p)
    (decided_by_first (first_only [] rules) action flow ∙ later_ones_never_decide rules action flow, refl)
