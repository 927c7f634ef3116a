-- What is seen with one line more. The idea: what is told of a line of the part says how it is read, and each kind of line changes what was found and
-- what is seen alike; outside the part a line changes no more than where the next one stands. Assumes nothing.
use Prim.Native.Nat.{ℕ, suc, ◌+◌, ◌-◌, min}
use native.Mathlib.Numerals.{add-one}
use native.Mathlib.Omega.{arith}
use mathlib.Core.Path.{◌≡◌, refl, sym, ◌∙◌, ap}
use mathlib.Core.Bool.{Bool, true, false, cond}
use mathlib.Core.List.Memᴰ
use mathlib.Core.List.{List, [], ◌∷◌, ◌++◌}
use borrow.Author.Tests.{eqb-true, eqb-false}
use lib.ListN.{length, take, drop, length-append}
use lib.Dec.{eqb}
use Rattle.policy.specs.Policy.{most_rules}
use Rattle.policy.specs.Rule.{Rule}
use Rattle.policy.specs.declared.Action.{Action}
use Rattle.policy.specs.declared.Action.TheVariants.{Deny, Permit}
use Rattle.policy.proofs.Tests.{by_test}
use Rattle.deployment.specs.Checked.{Checked, good, bad}
use Rattle.deployment.specs.Values.{rule_bytes}
use Rattle.deployment.specs.Properties.{Recordable}
use Rattle.deployment.specs.declared.Why.{Why}
use Rattle.std.specs.Prelude.{Result, Ok, Err}
use Rattle.iptables.specs.Words.{line_feed, cut_at}
use Rattle.iptables.specs.Listing.{
  Line,
  opens,
  closes,
  default,
  rule,
  passed,
  Found,
  nothing_found,
  goes_inside,
  with_line,
  kept_with,
  first_only,
  is_filter,
  line_read,
  stepped,
}
use Rattle.iptables.proofs.FirstPlaces.{one_more_rule}
use Rattle.iptables.proofs.Lines.{rule_recordable}
use Rattle.iptables_rule.specs.Found.{no_rule}
use Rattle.iptables_lines.specs.Told.{line_is, line_told, rule_of, rule_told}
use Rattle.iptables_lines.specs.declared.Line as lines
use Rattle.iptables_lines.specs.declared.Line.TheVariants as told
use Rattle.iptables_reader.specs.Kept.{line_at, marks_at, Kept, action_if}
use Rattle.iptables_reader.specs.Gathering.{permitted, with_default, going_on, FoundAs, SteppedAs}
use Rattle.iptables_reader.specs.declared.Seen.{Seen}

-- A line, as a part of the listing.
pub line_taken : (listing : List ℕ) (start end : ℕ) → end ≡ start + cut_at line_feed (drop start listing)
    → take (end - start) (drop start listing) ≡ line_at start listing
unfolding line_at
line_taken listing start end is = let size : end - start ≡ cut_at line_feed (drop start listing) = omega arith in rw size

-- what is told of the part is told of the line
pub told_of_line : (listing : List ℕ) (start end : ℕ) → end ≡ start + cut_at line_feed (drop start listing) → {told-as : Result lines.Line Why}
    → told-as ≡ line_told (line_read (take (end - start) (drop start listing))) → told-as ≡ line_told (line_read (line_at start listing))
told_of_line listing start end is e = e ∙ ap (λ (line : List ℕ). line_told (line_read line)) (line_taken listing start end is)

pub told_line : (listing : List ℕ) (start end : ℕ) → end ≡ start + cut_at line_feed (drop start listing) → {l kind : lines.Line} → l ≡ kind
    → Ok l ≡ line_told (line_read (take (end - start) (drop start listing))) → Ok kind ≡ line_told (line_read (line_at start listing))
told_line listing start end is same e = rw (← same) (told_of_line listing start end is e)

-- How a line is read, by what is told of it.
unfoldable read_as : Result lines.Line Why → Rule → Checked Line
read_as (Ok told.Opens) r = good opens
read_as (Ok told.Closes) r = good closes
read_as (Ok (told.Default action)) r = good (default action)
read_as (Ok (told.Rule bytes)) r = good (rule r)
read_as (Ok told.Passed) r = good passed
read_as (Err why) r = bad why

told_back : (read : Checked Line) → read ≡ read_as (line_told read) (rule_told read)
unfolding read_as line_told line_is rule_told rule_of
told_back (good opens) = refl
told_back (good closes) = refl
told_back (good (default action)) = refl
told_back (good (rule r)) = refl
told_back (good passed) = refl
told_back (bad why) = refl

read_as_lem : (line : List ℕ) {is : Result lines.Line Why} → is ≡ line_told (line_read line) → line_read line ≡ read_as is (rule_told (line_read line))
read_as_lem line e = rw (← e) at (told_back (line_read line))

-- the rule of a rule line fits into a record, which is told
pub told_recordable : (line bytes : List ℕ) → Ok (told.Rule bytes) ≡ line_told (line_read line) → Recordable (rule_told (line_read line))
unfolding read_as
told_recordable line bytes e = rule_recordable line (rule_told (line_read line)) (read_as_lem line e)

pub told_record : (read : Checked Line) (bytes : List ℕ) → Ok (told.Rule bytes) ≡ line_told read → bytes ≡ rule_bytes (rule_told read)
unfolding line_told line_is rule_told rule_of
told_record (good opens) bytes e = absurd (cc)
told_record (good closes) bytes e = absurd (cc)
told_record (good (default action)) bytes e = absurd (cc)
told_record (good (rule r)) bytes e = cc
told_record (good passed) bytes e = absurd (cc)
told_record (bad why) bytes e = absurd (cc)

-- and of any other line there is none
pub no_rule_told : (read : Checked Line) {l : lines.Line} → ((bytes : List ℕ) → l ≡ told.Rule bytes → ⊥) → Ok l ≡ line_told read → no_rule ≡ rule_told read
unfolding line_told line_is rule_told rule_of
no_rule_told (good opens) other e = refl
no_rule_told (good closes) other e = refl
no_rule_told (good (default action)) other e = refl
no_rule_told (good (rule r)) other e = absurd (other (rule_bytes r) (cc))
no_rule_told (good passed) other e = refl
no_rule_told (bad why) other e = refl

pub turned_no_rule : (read : Checked Line) (why : Why) → Err why ≡ line_told read → no_rule ≡ rule_told read
unfolding line_told rule_told
turned_no_rule (good l) why e = absurd (cc)
turned_no_rule (bad other) why e = refl

-- a line of the part, and one outside
steps_inside : (f : Found) (line : List ℕ) (l : Line) → f.inside ≡ true → line_read line ≡ good l → stepped f line ≡ good (with_line f l)
unfolding stepped
steps_inside f line l inside read = rw (inside, read)

turns_inside : (f : Found) (line : List ℕ) (why : Why) → f.inside ≡ true → line_read line ≡ bad why → stepped f line ≡ bad why
unfolding stepped
turns_inside f line why inside read = rw (inside, read)

steps_outside : (f : Found) (line : List ℕ) → f.inside ≡ false → stepped f line ≡ good (goes_inside (is_filter line) f)
unfolding stepped
steps_outside f line outside = rw outside

-- the defaults are counted to 2, and one that stands alone is the last
counted_more : (d n : ℕ) → d ≡ min 2 n → cond (eqb d 0) 1 2 ≡ min 2 (suc n)
counted_more d n is =
    by_test (eqb d 0) (λ t. rw t (omega (arith, eqb-true d 0 t))) (λ f. rw f (omega (arith, eqb-false d 0 f)))

permits_as : (action : Action) → action ≡ action_if (permitted action)
unfolding action_if permitted
permits_as Deny = refl
permits_as Permit = refl

last_alone : (defaults : List Action) (last action : Action) → defaults ++ (last ∷ []) ≡ action ∷ [] → action ≡ last
last_alone [] last action e = cc
last_alone (first ∷ defaults) last action e =
    absurd (omega (arith, ap length e, length-append defaults (last ∷ [])))

-- Nothing is seen at the start.
pub nothing_seen : (listing marks starts : List ℕ) → length marks ≡ most_rules → length starts ≡ most_rules
    → FoundAs listing marks starts (record { inside = false; defaults = 0; permits = false; rules = 0 }) nothing_found
unfolding nothing_found first_only marks_at
nothing_seen listing marks starts marks-fit starts_fit =
    record {
      inside = refl;
      defaults = omega arith;
      permits = λ action e. absurd (omega (arith, ap length e));
      kept = record {
        marks_fit = marks-fit;
        starts_fit = starts_fit;
        counted = omega arith;
        over = omega arith;
        exact = λ few. refl;
        places = λ few. refl;
        marked = λ few. refl;
        sound = λ r h. absurd (Memᴰ.not-nil h);
      };
    }

module _ {listing marks starts : List ℕ} {seen : Seen} {f : Found} (so_far : FoundAs listing marks starts seen f) where
  -- no rule and no default
  going_on_lem : (inside : Bool) → FoundAs listing marks starts (going_on seen inside) (goes_inside inside f)
  unfolding going_on
  going_on_lem inside = record { inside = refl; defaults = so_far.defaults; permits = so_far.permits; kept = so_far.kept }

  pub stepped_outside : (line : List ℕ) → seen.inside ≡ false → SteppedAs listing marks starts (stepped f line) (Ok (going_on seen (is_filter line)))
  unfolding going_on
  stepped_outside line outside = rw (steps_outside f line (sym so_far.inside ∙ outside)) (going_on seen (is_filter line), refl, going_on_lem (is_filter line))

  module _ (line : List ℕ) (here : seen.inside ≡ true) where
    found_inside : f.inside ≡ true
    found_inside = sym so_far.inside ∙ here

    pub stepped_open : Ok told.Opens ≡ line_told (line_read line) → SteppedAs listing marks starts (stepped f line) (Ok (going_on seen true))
    unfolding read_as with_line going_on
    stepped_open e = rw (steps_inside f line opens found_inside (read_as_lem line e)) (going_on seen true, refl, going_on_lem true)

    pub stepped_close : Ok told.Closes ≡ line_told (line_read line) → SteppedAs listing marks starts (stepped f line) (Ok (going_on seen false))
    unfolding read_as with_line going_on
    stepped_close e = rw (steps_inside f line closes found_inside (read_as_lem line e)) (going_on seen false, refl, going_on_lem false)

    pub stepped_over : Ok told.Passed ≡ line_told (line_read line) → SteppedAs listing marks starts (stepped f line) (Ok (going_on seen true))
    unfolding read_as with_line going_on
    stepped_over e =
        rw (steps_inside f line passed found_inside (read_as_lem line e)) (
          _,
          refl,
          record { inside = sym found_inside; defaults = so_far.defaults; permits = so_far.permits; kept = so_far.kept },
        )

    pub stepped_turned : (why : Why) → Err why ≡ line_told (line_read line) → SteppedAs listing marks starts (stepped f line) (Err why)
    unfolding read_as
    stepped_turned why e = rw (turns_inside f line why found_inside (read_as_lem line e)) refl

    -- one default more
    pub stepped_default : (action : Action) → Ok (told.Default action) ≡ line_told (line_read line)
        → SteppedAs listing marks starts (stepped f line) (Ok (with_default seen action))
    unfolding read_as with_line with_default
    stepped_default action e =
        rw (steps_inside f line (default action) found_inside (read_as_lem line e)) (
          with_default seen action,
          refl,
          record {
            inside = so_far.inside;
            defaults = rw (length-append, add-one) (counted_more seen.defaults (length f.defaults) so_far.defaults);
            permits = λ other alone. last_alone f.defaults action other alone ∙ permits_as action;
            kept = so_far.kept;
          },
        )

    -- one rule more
    pub stepped_rule : {marks-after starts-after : List ℕ} {count : ℕ} {bytes : List ℕ} → Ok (told.Rule bytes) ≡ line_told (line_read line)
        → Kept listing marks-after starts-after count (kept_with (first_only [] f.rules) (rule_told (line_read line)))
        → SteppedAs listing marks-after starts-after (stepped f line)
        (Ok (record { inside = true; defaults = seen.defaults; permits = seen.permits; rules = count }))
    unfolding read_as with_line
    stepped_rule e kept =
        let r = rule_told (line_read line) in
        rw (steps_inside f line (rule r) found_inside (read_as_lem line e)) (
          _,
          refl,
          record {
            inside = sym found_inside;
            defaults = so_far.defaults;
            permits = so_far.permits;
            kept = rw (one_more_rule [] f.rules r) kept;
          },
        )
