-- The rule of all options: it is read where each part is, and what isn't read is 57. The idea: the parts are taken out one after another, and a rule
-- that is read has them all. Assumes nothing.
use Prim.Native.Nat.{ℕ}
use mathlib.Core.Path.{◌≡◌, refl, ◌∙◌, ap}
use mathlib.Core.Bool.{Bool, true, false, ◌&&◌}
use mathlib.Core.List.{List}
use Rattle.policy.specs.Rule.{Rule}
use Rattle.policy.specs.declared.Action.{Action}
use Rattle.policy.proofs.Tests.{by_test}
use Rattle.deployment.specs.Checked.{Checked, good, bad, ◌>>=◌}
use Rattle.deployment.specs.Values.{rising}
use Rattle.deployment.specs.declared.Why.{Why}
use Rattle.deployment.specs.declared.Why.TheVariants.{NotRead, LowAbove}
use Rattle.deployment.proofs.Tests.{Each, tested}
use Rattle.lines.specs.Text.{text}
use Rattle.iptables.specs.Options.{Given, pairs, even, words_at, range_given, target_given, port_fits, module_fits, rule_given, rule_read}
use Rattle.iptables.specs.declared.Kind.TheVariants.{Protocol, Address, Port}
use Rattle.iptables.proofs.Options.{rule_not_said}
use Rattle.iptables_rule.specs.Found.{range_of, ranges_read, ranges_told, rule_of}
use Rattle.iptables_rule.specs.declared.Ranges.{Ranges}
use Rattle.iptables_rule.proofs.Turns.{known}
use Rattle.std.specs.Prelude.{Some, None}

-- whether the options that need one stand behind `-p`
abbrev pub stand : List Given → Bool
stand given = port_fits (text "--sport") given && port_fits (text "--dport") given && module_fits given

-- Each part of a rule is read.
pub record Parts (given : List Given) (r : Rule) : Type 0 where
  pub all_known : known given ≡ true
  pub target : target_given (words_at (text "-j") given) ≡ good r.action
  pub protocol : range_given Protocol (text "-p") given ≡ good r.protocol
  pub source : range_given Address (text "-s") given ≡ good r.source
  pub source_port : range_given Port (text "--sport") given ≡ good r.source_port
  pub destination : range_given Address (text "-d") given ≡ good r.destination
  pub destination_port : range_given Port (text "--dport") given ≡ good r.destination_port
  pub all_stand : stand given ≡ true

parts_given : (given : List Given) (r : Rule) → Parts given r → rule_given given ≡ good r
unfolding rule_given
parts_given given r parts =
    rw (
      parts.all_known,
      parts.target,
      parts.protocol,
      parts.source,
      parts.source_port,
      parts.destination,
      parts.destination_port,
      parts.all_stand,
    ) refl

-- what a value that is read is
itself : {A B : Type 0} (P : B → Type 0) (read : Checked A) (next : A → Checked B)
    → ((a : A) → read ≡ good a → Each P (λ why. Unit {0}) (next a)) → Each P (λ why. Unit {0}) (◌>>=◌ read next)
itself P (good a) next others = others a refl
itself P (bad why) next others = tt

given_parts : (given : List Given) → Each (Parts given) (λ why. Unit {0}) (rule_given given)
unfolding rule_given
given_parts given =
    let P = Parts given in
    tested (Each P (λ why. Unit {0})) (known given) (λ f. tt) λ all_known.
    itself P (target_given (words_at (text "-j") given)) _ λ action target.
    itself P (range_given Protocol (text "-p") given) _ λ p protocol.
    itself P (range_given Address (text "-s") given) _ λ s source.
    itself P (range_given Port (text "--sport") given) _ λ sp source_port.
    itself P (range_given Address (text "-d") given) _ λ d destination.
    itself P (range_given Port (text "--dport") given) _ λ dp destination_port.
    tested (Each P (λ why. Unit {0})) (stand given) (λ f. tt) λ all_stand.
    record {
      all_known = all_known;
      target = target;
      protocol = protocol;
      source = source;
      source_port = source_port;
      destination = destination;
      destination_port = destination_port;
      all_stand = all_stand;
    }

by_read {ℓ} : {A : Type 0} {B : Type ℓ} (read : Checked A) → ((a : A) → read ≡ good a → B) → ((why : Why) → read ≡ bad why → B) → B
by_read (good a) is not = is a refl
by_read (bad why) is not = not why refl

parts_missing : (given : List Given) → ((r : Rule) → ¬ Parts given r) → rule_given given ≡ bad NotRead
parts_missing given none =
    by_read (rule_given given)
    (λ r e. absurd (none r (rw e at (given_parts given))))
    (λ why e. e ∙ ap bad (rule_not_said given why e))

-- The words behind `-A FORWARD`.
module _ (words : List (List ℕ)) where
  -- 57, where a part isn't read
  pub unread : ((r : Rule) → even words ≡ true → ¬ Parts (pairs words) r) → rule_read words ≡ bad NotRead
  unfolding rule_read
  unread none =
      by_test (even words)
      (λ t. rw (t, parts_missing (pairs words) (λ r. none r t)) refl)
      (λ f. rw f refl)

  -- where each is, a low above its high decides
  module _ (r : Rule) (whole : even words ≡ true) (parts : Parts (pairs words) r) where
    pub low_above : (rising r.source_port && rising r.destination_port) ≡ false → rule_read words ≡ bad LowAbove
    unfolding rule_read
    low_above f = rw (whole, parts_given (pairs words) r parts, f) refl

    pub read : (rising r.source_port && rising r.destination_port) ≡ true → rule_read words ≡ good r
    unfolding rule_read
    read t = rw (whole, parts_given (pairs words) r parts, t) refl

-- Each range is read.
pub record AllRead (given : List Given) (ranges : Ranges) : Type 0 where
  pub protocol : range_given Protocol (text "-p") given ≡ good (range_of ranges.protocol)
  pub source : range_given Address (text "-s") given ≡ good (range_of ranges.source)
  pub source_port : range_given Port (text "--sport") given ≡ good (range_of ranges.source_port)
  pub destination : range_given Address (text "-d") given ≡ good (range_of ranges.destination)
  pub destination_port : range_given Port (text "--dport") given ≡ good (range_of ranges.destination_port)

all_read : (given : List Given) → Each (AllRead given) (λ why. Unit {0}) (ranges_read given)
unfolding ranges_read
all_read given =
    let P = AllRead given in
    itself P (range_given Protocol (text "-p") given) _ λ p protocol.
    itself P (range_given Address (text "-s") given) _ λ s source.
    itself P (range_given Port (text "--sport") given) _ λ sp source_port.
    itself P (range_given Address (text "-d") given) _ λ d destination.
    itself P (range_given Port (text "--dport") given) _ λ dp destination_port.
    record {
      protocol = protocol;
      source = source;
      source_port = source_port;
      destination = destination;
      destination_port = destination_port;
    }

-- What is told of the ranges: each is read, or one isn't.
told_is : (read : Checked Ranges) (ranges : Ranges) → Some ranges ≡ ranges_told read → read ≡ good ranges
unfolding ranges_told
told_is (good other) ranges e = let same : other ≡ ranges = cc in ap good same
told_is (bad why) ranges e = absurd (cc)

pub all_parts : {given : List Given} {action : Action} {ranges : Ranges} → target_given (words_at (text "-j") given) ≡ good action
    → Some ranges ≡ ranges_told (ranges_read given) → known given ≡ true → stand given ≡ true → Parts given (rule_of action ranges)
all_parts {given = given} {ranges = ranges} target told all_known all_stand =
    let read : AllRead given ranges = rw (told_is (ranges_read given) ranges told) at (all_read given) in
    record {
      all_known = all_known;
      target = target;
      protocol = read.protocol;
      source = read.source;
      source_port = read.source_port;
      destination = read.destination;
      destination_port = read.destination_port;
      all_stand = all_stand;
    }

pub no_parts : (given : List Given) → None ≡ ranges_told (ranges_read given) → (r : Rule) → ¬ Parts given r
unfolding ranges_read ranges_told
no_parts given told r parts =
    let all = rw (parts.protocol, parts.source, parts.source_port, parts.destination, parts.destination_port) at told in
    absurd (cc)
