-- What a listing is brought in as is valid, so its file reads back. The idea: the numbers of both policies are those of all rules, each once; every
-- rule left was a rule line's, so a record can hold it. Assumes nothing.
use Prim.Native.Nat.{ℕ, zero, suc, ◌+◌, ◌*◌, ◌≤◌, ◌<◌}
use native.Mathlib.Omega.{arith}
use mathlib.Core.Path.{◌≡◌, refl, sym, ap, subst}
use mathlib.Core.Logic.{⊎_elim}
use mathlib.Core.Bool.{cond}
use mathlib.Core.List.Memᴰ
use mathlib.Core.List.{
  List,
  [],
  ◌∷◌,
  ◌++◌,
  map,
  Memᴰ,
}
use lib.ListN.{length, length-append}
use Rattle.policy.specs.Policy.{most_listed, same_action}
use Rattle.policy.specs.Rule.{Rule}
use Rattle.policy.specs.Properties.{In, Distinct}
use Rattle.policy.specs.declared.Action.{Action}
use Rattle.policy.specs.declared.Action.TheVariants.{Deny, Permit}
use Rattle.deployment.specs.Bytes.{joined}
use Rattle.deployment.specs.Values.{rule_bytes, numbers_bytes, default_bytes, default_field}
use Rattle.deployment.specs.File.{rule_tag, initial_tag, target_tag, default_tag, field_bytes, if_there, file_of}
use Rattle.deployment.specs.Properties.{Recordable, Unlike, Listed, Valid}
use Rattle.deployment.proofs.Values.{length_numbers, length_default}
use Rattle.deployment.proofs.ReadBack.{read_back, length_field, rules_length}
use Rattle.iptables.specs.Listing.{Line, opens, closes, default, rule, passed, first_only, numbers_from, contents_of}
use Rattle.iptables.specs.Properties.{Is, rule_in, Passes, no_line, line_outside, line_inside}
use Rattle.iptables.specs.Claims.{FileReadsBack, FileFits}
use Rattle.iptables.proofs.Lines.{line_is_lem, rule_recordable}
use Rattle.iptables.proofs.FirstPlaces.{first_only_unlike, first_only_listed}
use Rattle.iptables.proofs.Whole.{listing_accepted}

-- The numbers from one on: so many, each within, none twice.
pub length_numbers_from : (first count : ℕ) → length (numbers_from first count) ≡ count
unfolding numbers_from
length_numbers_from first zero = refl
length_numbers_from first (suc count) = ap suc (length_numbers_from (suc first) count)

in_numbers_from : (first count x : ℕ) → In x (numbers_from first count) → (first ≤ x) × (x < first + count)
unfolding numbers_from
in_numbers_from first zero x h = absurd (Memᴰ.not-nil h)
in_numbers_from first (suc count) x h =
    ⊎_elim (λ e. (omega arith, omega arith))
    (λ t. let (above, below) = in_numbers_from (suc first) count x t in (omega arith, omega arith))
    (Memᴰ.cases_cons h)

numbers_from_distinct : (first count : ℕ) → Distinct (numbers_from first count)
unfolding numbers_from
numbers_from_distinct first zero = tt
numbers_from_distinct first (suc count) =
    (λ h. omega (arith, (in_numbers_from (suc first) count first h).0), numbers_from_distinct (suc first) count)

all_listed : (count : ℕ) → count ≤ most_listed → Listed count (numbers_from 0 count)
all_listed count few =
    record {
      few = rw (length_numbers_from 0 count) few;
      sound = record { inside = λ r h. omega (arith, (in_numbers_from 0 count r h).1); distinct = numbers_from_distinct 0 count };
    }

pub contents_valid : (rules : List Rule) (action : Action) → length rules ≤ most_listed → ((r : Rule) → Memᴰ r rules → Recordable r)
    → Unlike rules → Valid (contents_of rules action)
unfolding contents_of
contents_valid rules action few recordable unlike =
    let listed = all_listed (length rules) few in
    record {
      catalogue = record { few = omega arith; recordable = recordable; unlike = unlike };
      initial = listed;
      target = listed;
      keep = tt;
      script = tt;
    }

-- Every rule of lines that pass is a rule line's.
line_recordable : (line : List ℕ) (l : Line) → Is line l → (r : Rule) → Memᴰ r (rule_in l) → Recordable r
unfolding rule_in
line_recordable line opens is r h = absurd (Memᴰ.not-nil h)
line_recordable line closes is r h = absurd (Memᴰ.not-nil h)
line_recordable line (default action) is r h = absurd (Memᴰ.not-nil h)
line_recordable line (rule s) is r h = rw (Memᴰ.eq_of_singleton h) (rule_recordable line s ((line_is_lem line (rule s)).1 is))
line_recordable line passed is r h = absurd (Memᴰ.not-nil h)

rules_recordable : (lines : List (List ℕ)) (rules : List Rule) (defaults : List Action) → Passes lines rules defaults
    → (r : Rule) → Memᴰ r rules → Recordable r
rules_recordable [] [] [] no_line r h = absurd (Memᴰ.not-nil h)
rules_recordable _ rules defaults (line_outside lines _ _ line p out) r h = rules_recordable lines rules defaults p r h
rules_recordable _ _ _ (line_inside lines rules defaults line l p inside is) r h =
    ⊎_elim (λ t. rules_recordable lines rules defaults p r t) (line_recordable line l is r) (Memᴰ.append_cases rules h)

pub file_reads_back : FileReadsBack
file_reads_back listing c read =
    let a = (listing_accepted listing c).0 read in
    let recordable : (r : Rule) → Memᴰ r (first_only [] a.rules) → Recordable r =
    λ r h.
    ⊎_elim (λ t. absurd (Memᴰ.not-nil t)) (rules_recordable _ a.rules (a.action ∷ []) a.passes r)
    (first_only_listed [] a.rules r h) in
    let valid : Valid c =
    subst Valid (sym a.is)
    (contents_valid (first_only [] a.rules) a.action a.few recordable (first_only_unlike [] a.rules tt)) in
    let (bytes, back) = read_back c valid in
    (valid, bytes, back)

-- How many bytes a file has: 30 for each rule, two policies of two for each, and a default of 4 or none.
default_long : (action : Action) → length (if_there default_tag default_bytes (default_field action)) ≡ cond (same_action action Permit) 4 0
unfolding if_there default_field same_action
default_long Deny = refl
default_long Permit = omega (arith, length_field default_tag (default_bytes Permit), length_default Permit)

pub file_length : (rules : List Rule) (action : Action)
    → length (file_of (contents_of rules action)) ≡ 30 * length rules + 2 * (3 + 2 * length rules) + cond (same_action action Permit) 4 0
unfolding file_of contents_of if_there
file_length rules action =
    let numbers = numbers_from 0 (length rules) in
    let initial = field_bytes initial_tag (numbers_bytes numbers) in
    let target = field_bytes target_tag (numbers_bytes numbers) in
    let last = if_there default_tag default_bytes (default_field action) in
    omega (
      arith,
      length-append (joined (map (λ r. field_bytes rule_tag (rule_bytes r)) rules)) (initial ++ (target ++ (last ++ []))),
      length-append initial (target ++ (last ++ [])),
      length-append target (last ++ []),
      length-append last [],
      rules_length rules,
      length_field initial_tag (numbers_bytes numbers),
      length_field target_tag (numbers_bytes numbers),
      length_numbers numbers,
      length_numbers_from 0 (length rules),
      default_long action,
    )

default_few : (action : Action) → cond (same_action action Permit) 4 0 ≤ 4
unfolding same_action
default_few Deny = omega arith
default_few Permit = omega arith

pub file_fits : FileFits
file_fits listing c read =
    let a = (listing_accepted listing c).0 read in
    rw a.is (omega (arith, file_length (first_only [] a.rules) a.action, a.few, default_few a.action))
