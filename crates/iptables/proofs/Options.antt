-- A rule line's options are read exactly when they say a rule. The idea: the words that an option is given, computed in order, are none, one or
-- more; none means that the option isn't given, and one that it is given once, behind as many others as are counted. Assumes nothing.
use Prim.Native.Nat.{ℕ, suc}
use mathlib.Core.Path.{◌≡◌, refl, sym, ◌∙◌, ap}
use mathlib.Core.Bool.{true, ◌&&◌, ◌||◌, or_assoc}
use mathlib.Core.Logic.{◌⊎◌, inl, inr, ⊎_elim}
use mathlib.Core.List.Memᴰ
use mathlib.Core.List.{
  List,
  [],
  ◌∷◌,
  ◌++◌,
  Memᴰ,
  nil≢cons,
  head-eq_of_cons-eq,
  tail-eq_of_cons-eq,
}
use borrow.Author.Tests.{ltb-true, lt-ltb}
use lib.ListN.{length}
use Rattle.policy.specs.Lists.{all, same}
use Rattle.policy.specs.Rule.{Range, Rule}
use Rattle.policy.specs.declared.Action.{Action}
use Rattle.policy.proofs.Tests.{by_test, never, and_both, both_and, or_either, or_left, or_right}
use Rattle.policy.proofs.Lists.{same_eq, same_refl, all_in, in_all}
use Rattle.deployment.specs.Checked.{Checked, good, ◌>>=◌}
use Rattle.deployment.proofs.Tests.{Says, says_not, not_says, says_or, tested}
use Rattle.lines.specs.Text.{text}
use Rattle.iptables.specs.Words.{meant}
use Rattle.iptables.specs.Options.{
  Given,
  is_option,
  words_at,
  place_of,
  at_most_once,
  range_given,
  target_of,
  target_given,
  protocol_is,
  is_behind,
  port_fits,
  module_fits,
  rule_given,
}
use Rattle.iptables.specs.Properties.{
  Means,
  NotGiven,
  GivenOnce,
  RangeIs,
  Follows,
  PortStands,
  ModuleIs,
  ModuleStands,
  IsTarget,
  IsOption,
  RuleSaid,
}
use Rattle.iptables.specs.Claims.{RuleIsSaid, RuleNotSaid}
use Rattle.iptables.specs.declared.Kind.{Kind}
use Rattle.iptables.specs.declared.Kind.TheVariants.{Protocol, Address, Port}
use Rattle.iptables.proofs.Wording.{Reads, reads_then, reads_map, says_same, meant_reads, word_read_lem}

-- a property of every element, from the first and the others
all_of : {A : Type 0} {P : A → Type 0} {x : A} {l : List A} → P x → ((y : A) → Memᴰ y l → P y) → (y : A) → Memᴰ y (x ∷ l) → P y
all_of {P} first others y h = ⊎_elim (λ e. rw e first) (λ t. others y t) (Memᴰ.cases_cons h)

-- One option among those that are given.
module _ (option : List ℕ) where
  words_at_it : (g : Given) (given : List Given) → g.option ≡ option → words_at option (g ∷ given) ≡ g.word ∷ words_at option given
  unfolding words_at
  words_at_it g given e = rw ((says_same g.option option).1 e)

  words_at_other : (g : Given) (given : List Given) → ¬ (g.option ≡ option) → words_at option (g ∷ given) ≡ words_at option given
  unfolding words_at
  words_at_other g given n = rw (not_says (says_same g.option option) n)

  place_at_it : (g : Given) (given : List Given) → g.option ≡ option → place_of option (g ∷ given) ≡ 0
  unfolding place_of
  place_at_it g given e = rw ((says_same g.option option).1 e)

  place_at_other : (g : Given) (given : List Given) → ¬ (g.option ≡ option) → place_of option (g ∷ given) ≡ suc (place_of option given)
  unfolding place_of
  place_at_other g given n = rw (not_says (says_same g.option option) n)

  by_option_lem {ℓ} : {A : Type ℓ} (g : Given) → (g.option ≡ option → A) → (¬ (g.option ≡ option) → A) → A
  by_option_lem g it other =
      let says = says_same g.option option in
      by_test (same g.option option) (λ t. it (says.0 t)) (λ f. other (says_not says f))

  -- It isn't given, where there are no words of it.
  pub words_none : (given : List Given) → words_at option given ≡ [] → NotGiven option given
  words_none [] e = λ g h. absurd (Memᴰ.not-nil h)
  words_none (g ∷ given) e =
      by_option_lem g
      (λ it. absurd (nil≢cons (sym e ∙ words_at_it g given it)))
      (λ other. all_of other (words_none given (sym (words_at_other g given other) ∙ e)))

  -- Those in front, where it isn't given, add no word and are counted.
  words_behind : (front back : List Given) → NotGiven option front → words_at option (front ++ back) ≡ words_at option back
  words_behind [] back n = refl
  words_behind (g ∷ front) back n =
      words_at_other g (front ++ back) (n g (Memᴰ.head refl)) ∙ words_behind front back (λ h t. n h (Memᴰ.tail t))

  place_behind : (front : List Given) (g : Given) (back : List Given) → NotGiven option front → g.option ≡ option
      → place_of option (front ++ (g ∷ back)) ≡ length front
  place_behind [] g back n e = place_at_it g back e
  place_behind (f ∷ front) g back n e =
      place_at_other f (front ++ (g ∷ back)) (n f (Memᴰ.head refl))
      ∙ ap suc (place_behind front g back (λ h t. n h (Memᴰ.tail t)) e)

  pub none_words : (given : List Given) → NotGiven option given → words_at option given ≡ []
  unfolding words_at
  none_words [] n = refl
  none_words (g ∷ given) n = words_at_other g given (n g (Memᴰ.head refl)) ∙ none_words given (λ h t. n h (Memᴰ.tail t))

  -- It is given once, where there is one word of it.
  pub words_one : {word : List ℕ} (given : List Given) → words_at option given ≡ word ∷ [] → GivenOnce option word given (place_of option given)
  unfolding words_at
  words_one [] e = absurd (nil≢cons e)
  words_one {word} (g ∷ given) e =
      by_option_lem g
      (λ it. let both = sym (words_at_it g given it) ∙ e in
      record {
        front = [];
        back = given;
        is = λ i. record { option = it i; word = head-eq_of_cons-eq both i } ∷ given;
        before = λ h t. absurd (Memᴰ.not-nil t);
        behind = words_none given (tail-eq_of_cons-eq both);
        counted = place_at_it g given it;
      })
      (λ other. let once = words_one given (sym (words_at_other g given other) ∙ e) in
      record {
        front = g ∷ once.front;
        back = once.back;
        is = ap (λ (l : List Given). g ∷ l) once.is;
        before = all_of other once.before;
        behind = once.behind;
        counted = place_at_other g given other ∙ ap suc once.counted;
      })

  module _ (word : List ℕ) (given : List Given) (place : ℕ) (once : GivenOnce option word given place) where
    abbrev it : Given
    it = record { option = option; word = word }

    pub one_words : words_at option given ≡ word ∷ []
    one_words =
        rw once.is (words_behind once.front (it ∷ once.back) once.before
        ∙ words_at_it it once.back refl
        ∙ ap (λ (l : List (List ℕ)). word ∷ l) (none_words once.back once.behind))

    pub one_place : place_of option given ≡ place
    one_place = rw (once.is, once.counted) (place_behind once.front it once.back once.before refl)

-- No word, one or more: each case gets the equation.
by_words {ℓ} : {A : Type ℓ} (words : List (List ℕ)) → (words ≡ [] → A) → ((word : List ℕ) → words ≡ word ∷ [] → A)
    → ((word other : List ℕ) (others : List (List ℕ)) → words ≡ word ∷ other ∷ others → A) → A
by_words [] empty one more = empty refl
by_words (word ∷ []) empty one more = one word refl
by_words (word ∷ other ∷ others) empty one more = more word other others refl

-- An option's range.
module _ (kind : Kind) (option : List ℕ) (given : List Given) where
  range_reads : Reads (RangeIs kind option given) (range_given kind option given)
  unfolding range_given at_most_once
  range_reads =
      by_words (words_at option given)
      (λ none. rw none (inl (words_none option given none, refl)))
      (λ word one. rw one
      (reads_map (Means kind word) (RangeIs kind option given) (meant kind word)
      (λ range means. inr (word, place_of option given, words_one option given one, means)) (meant_reads kind word)))
      (λ word other others more. rw more refl)

  range_read : (range : Range) → RangeIs kind option given range → range_given kind option given ≡ good range
  unfolding range_given at_most_once
  range_read range (inl (none, is)) = rw (none_words option given none, is) refl
  range_read range (inr (word, place, once, means)) = rw (one_words option word given place once) ((word_read_lem kind word range).1 means)

-- The target.
pub target_is : (word : List ℕ) → Reads (IsTarget word) (target_of word)
unfolding target_of
target_is word =
    by_test (same word (text "ACCEPT")) (λ t. rw t (inl (same_eq word (text "ACCEPT") t, refl))) λ f.
    by_test (same word (text "DROP")) (λ t. rw (f, t) (inr (same_eq word (text "DROP") t, refl))) λ g.
    rw (f, g) refl

pub target_read : (word : List ℕ) (action : Action) → IsTarget word action → target_of word ≡ good action
unfolding target_of same text
target_read word action (inl (is, permits)) = rw (is, permits) refl
target_read word action (inr (is, denies)) = rw (is, denies) refl

abbrev TargetIs : List Given → Action → Type 0
TargetIs given action = (word : List ℕ) × (place : ℕ) × GivenOnce (text "-j") word given place × IsTarget word action

target_reads : (given : List Given) → Reads (TargetIs given) (target_given (words_at (text "-j") given))
unfolding target_given
target_reads given =
    by_words (words_at (text "-j") given)
    (λ none. rw none refl)
    (λ word one. rw one
    (reads_map (IsTarget word) (TargetIs given) (target_of word)
    (λ action is. (word, place_of (text "-j") given, words_one (text "-j") given one, is)) (target_is word)))
    (λ word other others more. rw more refl)

target_given_lem : (given : List Given) (action : Action) → TargetIs given action → target_given (words_at (text "-j") given) ≡ good action
unfolding target_given
target_given_lem given action (word, place, once, is) = rw (one_words (text "-j") word given place once) (target_read word action is)

-- The options that are read.
says_option : (option : List ℕ) → Says (is_option option) (IsOption option)
unfolding is_option
says_option option =
    let is : (name : List ℕ) → Says (same option name) (option ≡ name) = says_same option in
    let says =
    says_or (is (text "-s")) (says_or (is (text "-d")) (says_or (is (text "-p")) (says_or (is (text "--sport"))
    (says_or (is (text "--dport")) (says_or (is (text "-m")) (is (text "-j"))))))) in
    (λ e. says.0 (simp or_assoc at e), λ h. simp or_assoc (says.1 h))

-- An option that stands at most once: no word of it, or one.
abbrev AtMost : List ℕ → List Given → Type 0
AtMost option given = (words_at option given ≡ []) ⊎ ((word : List ℕ) × (words_at option given ≡ word ∷ []))

range_at_most : (kind : Kind) (option : List ℕ) (given : List Given) (range : Range) → RangeIs kind option given range → AtMost option given
range_at_most kind option given range =
    ⊎_elim (λ h. inl (none_words option given h.0)) (λ h. inr (h.0, one_words option h.0 given h.1 h.2))

-- An option behind `-p` with a word.
module _ (given : List Given) where
  protocol_is_lem : (word : List ℕ) → AtMost (text "-p") given → protocol_is word given ≡ true → words_at (text "-p") given ≡ word ∷ []
  unfolding protocol_is
  protocol_is_lem word (inl none) e = never e (rw (none, protocol_is) refl)
  protocol_is_lem word (inr (first, one)) e =
      one ∙ ap (λ (w : List ℕ). w ∷ []) (same_eq first word (rw (one, protocol_is) at e))

  is_protocol : (word : List ℕ) → words_at (text "-p") given ≡ word ∷ [] → protocol_is word given ≡ true
  unfolding protocol_is
  is_protocol word one = rw (one, protocol_is) (same_refl word)

  stands_behind : (option word protocol : List ℕ) → words_at (text "-p") given ≡ protocol ∷ [] → words_at option given ≡ word ∷ []
      → is_behind option given ≡ true → Follows option protocol given
  unfolding is_behind
  stands_behind option word protocol first second behind = (
    place_of (text "-p") given,
    word,
    place_of option given,
    words_one (text "-p") given first,
    words_one option given second,
    ltb-true (place_of (text "-p") given) (place_of option given) behind,
  )

  module _ (option protocol : List ℕ) (follows : Follows option protocol given) where
    follows_words : words_at option given ≡ follows.1 ∷ []
    follows_words = one_words option follows.1 given follows.2 follows.4

    follows_behind : is_behind option given ≡ true
    unfolding is_behind
    follows_behind =
        rw (one_place (text "-p") protocol given follows.0 follows.3, one_place option follows.1 given follows.2 follows.4)
        (lt-ltb follows.0 follows.2 follows.5)

    follows_protocol : protocol_is protocol given ≡ true
    follows_protocol = is_protocol protocol (one_words (text "-p") protocol given follows.0 follows.3)

  -- Ports.
  port_stands : (option : List ℕ) → AtMost (text "-p") given → AtMost option given → port_fits option given ≡ true → PortStands option given
  unfolding port_fits
  port_stands option protocol (inl none) fits = inl (words_none option given none)
  port_stands option protocol (inr (word, one)) fits =
      let both = and_both (is_behind option given) (protocol_is (text "tcp") given || protocol_is (text "udp") given) (rw (one, port_fits) at fits) in
      let behind : (name : List ℕ) → protocol_is name given ≡ true → Follows option name given =
      λ name e. stands_behind option word name (protocol_is_lem name protocol e) one both.0 in
      inr (⊎_elim (λ t. inl (behind (text "tcp") t)) (λ u. inr (behind (text "udp") u))
      (or_either (protocol_is (text "tcp") given) (protocol_is (text "udp") given) both.1))

  port_behind : (option protocol : List ℕ) → Follows option protocol given
      → (protocol_is (text "tcp") given || protocol_is (text "udp") given) ≡ true → port_fits option given ≡ true
  unfolding port_fits
  port_behind option protocol follows either =
      rw (follows_words option protocol follows, port_fits) (both_and (follows_behind option protocol follows) either)

  port_fits_lem : (option : List ℕ) → PortStands option given → port_fits option given ≡ true
  unfolding port_fits
  port_fits_lem option (inl none) = rw (none_words option given none, port_fits) refl
  port_fits_lem option (inr (inl tcp)) =
      port_behind option (text "tcp") tcp (or_left (protocol_is (text "udp") given) (follows_protocol option (text "tcp") tcp))
  port_fits_lem option (inr (inr udp)) =
      port_behind option (text "udp") udp (or_right (protocol_is (text "tcp") given) (follows_protocol option (text "udp") udp))

  -- Modules.
  module_is : (word name : List ℕ) → AtMost (text "-p") given → words_at (text "-m") given ≡ word ∷ [] → is_behind (text "-m") given ≡ true
      → protocol_is word given ≡ true → same word name ≡ true → ModuleIs name given
  module_is word name protocol one behind after is =
      let follows = stands_behind (text "-m") word word (protocol_is_lem word protocol after) one behind in
      let it : ModuleIs word given = (place_of (text "-m") given, words_one (text "-m") given one, follows) in
      rw (same_eq word name is) at it

  module_stands : AtMost (text "-p") given → module_fits given ≡ true → ModuleStands given
  unfolding module_fits
  module_stands protocol fits =
      by_words (words_at (text "-m") given)
      (λ none. inl (words_none (text "-m") given none))
      (λ word one.
      let all = and_both (is_behind (text "-m") given && protocol_is word given) (same word (text "tcp") || same word (text "udp"))
      (rw (one, module_fits) at fits) in
      let both = and_both (is_behind (text "-m") given) (protocol_is word given) all.0 in
      let is : (name : List ℕ) → same word name ≡ true → ModuleIs name given = λ name. module_is word name protocol one both.0 both.1 in
      inr (⊎_elim (λ t. inl (is (text "tcp") t)) (λ u. inr (is (text "udp") u))
      (or_either (same word (text "tcp")) (same word (text "udp")) all.1)))
      (λ word other others more. never fits (rw (more, module_fits) refl))

  module_behind : (word : List ℕ) → ModuleIs word given → (same word (text "tcp") || same word (text "udp")) ≡ true → module_fits given ≡ true
  unfolding module_fits
  module_behind word (place, once, follows) either =
      rw (one_words (text "-m") word given place once, module_fits)
      (both_and (both_and (follows_behind (text "-m") word follows) (follows_protocol (text "-m") word follows)) either)

  module_fits_lem : ModuleStands given → module_fits given ≡ true
  unfolding module_fits
  module_fits_lem (inl none) = rw (none_words (text "-m") given none, module_fits) refl
  module_fits_lem (inr (inl tcp)) = module_behind (text "tcp") tcp (or_left (same (text "tcp") (text "udp")) (same_refl (text "tcp")))
  module_fits_lem (inr (inr udp)) = module_behind (text "udp") udp (or_right (same (text "udp") (text "tcp")) (same_refl (text "udp")))

  -- The whole rule.
  range_then : (kind : Kind) (option : List ℕ) (next : Range → Checked Rule)
      → ((range : Range) → RangeIs kind option given range → Reads (RuleSaid given) (next range))
      → Reads (RuleSaid given) (◌>>=◌ (range_given kind option given) next)
  range_then kind option next =
      reads_then (RangeIs kind option given) (RuleSaid given) (range_given kind option given) next (range_reads kind option given)

  pub rule_reads : Reads (RuleSaid given) (rule_given given)
  unfolding rule_given
  rule_reads =
      tested (Reads (RuleSaid given)) (all (λ g. is_option g.option) given) (λ f. refl) λ known.
      reads_then (TargetIs given) (RuleSaid given) (target_given (words_at (text "-j") given)) _ (target_reads given) λ action target.
      range_then Protocol (text "-p") _ λ protocol at_p.
      range_then Address (text "-s") _ λ source at-s.
      range_then Port (text "--sport") _ λ source-port at-sport.
      range_then Address (text "-d") _ λ destination at-d.
      range_then Port (text "--dport") _ λ destination-port at-dport.
      tested (Reads (RuleSaid given)) (port_fits (text "--sport") given && port_fits (text "--dport") given && module_fits given) (λ f. refl) λ fits.
      let once = range_at_most Protocol (text "-p") given protocol at_p in
      let ports_module = and_both (port_fits (text "--sport") given && port_fits (text "--dport") given) (module_fits given) fits in
      let ports = and_both (port_fits (text "--sport") given) (port_fits (text "--dport") given) ports_module.0 in
      record {
        known = λ g h. (says_option g.option).0 (all_in (λ g. is_option g.option) given known g h);
        target = target;
        protocol = at_p;
        source = at-s;
        source_port = at-sport;
        destination = at-d;
        destination_port = at-dport;
        source_port_stands = port_stands (text "--sport") once (range_at_most Port (text "--sport") given source-port at-sport) ports.0;
        destination_port_stands = port_stands (text "--dport") once (range_at_most Port (text "--dport") given destination-port at-dport) ports.1;
        module_stands = module_stands once ports_module.1;
      }

  rule_given_lem : (r : Rule) → RuleSaid given r → rule_given given ≡ good r
  unfolding rule_given
  rule_given_lem r said =
      rw (
        in_all (λ g. is_option g.option) given (λ g h. (says_option g.option).1 (said.known g h)),
        target_given_lem given r.action said.target,
        range_read Protocol (text "-p") given r.protocol said.protocol,
        range_read Address (text "-s") given r.source said.source,
        range_read Port (text "--sport") given r.source_port said.source_port,
        range_read Address (text "-d") given r.destination said.destination,
        range_read Port (text "--dport") given r.destination_port said.destination_port,
        port_fits_lem (text "--sport") said.source_port_stands,
        port_fits_lem (text "--dport") said.destination_port_stands,
        module_fits_lem said.module_stands,
      ) refl

pub rule_is_said : RuleIsSaid
rule_is_said given r = (λ e. rw e at (rule_reads given), rule_given_lem given r)

pub rule_not_said : RuleNotSaid
rule_not_said given why e = rw e at (rule_reads given)
