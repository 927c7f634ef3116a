-- A rule line: the words behind `-A FORWARD` are options, each with its word, and the line says the rule that these say. The idea: words two by
-- two are options one after another, and options as text are their words with a blank in front of each. Assumes nothing.
use Prim.Native.Nat.{ℕ}
use mathlib.Core.Path.{◌≡◌, refl, sym, ◌∙◌, ap}
use mathlib.Core.Bool.{true, ◌&&◌}
use mathlib.Core.Logic.{◌⊎◌, inl, inr, ⊎_elim}
use mathlib.Core.List.Memᴰ
use mathlib.Core.List.{
  List,
  [],
  ◌∷◌,
  ◌++◌,
  Memᴰ,
  append-nil,
}
use Rattle.policy.specs.Lists.{mem}
use Rattle.policy.specs.Rule.{Rule}
use Rattle.policy.proofs.Lists.{not_mem}
use Rattle.policy.proofs.Tests.{never}
use Rattle.deployment.specs.Checked.{Checked, good, bad, ◌>>◌, require}
use Rattle.deployment.specs.Values.{rising}
use Rattle.deployment.specs.declared.Why.{Why}
use Rattle.deployment.specs.declared.Why.TheVariants.{NotRead, LowAbove}
use Rattle.deployment.proofs.Tests.{Denies, denies_and, denies_at_most, denies_not, not_denies, Each, each_then, tested}
use Rattle.lines.specs.Text.{text}
use Rattle.iptables.specs.Words.{blank, parted, pieces_behind}
use Rattle.iptables.specs.Options.{Given, pairs, even, rule_given, rule_read}
use Rattle.iptables.specs.Properties.{joined_by, Pieces, RuleSaid, options_text, Plain, SaysRule, Crosses, Ended, LowIsAbove}
use Rattle.iptables.proofs.Parting.{plain_ends, plain_last}
use Rattle.iptables.proofs.Wording.{Reads}
use Rattle.iptables.proofs.Options.{rule_reads, rule_is_said}

-- the words of options, one behind the other
unfoldable pub option_words : List Given → List (List ℕ)
option_words [] = []
option_words (g ∷ given) = g.option ∷ g.word ∷ option_words given

-- Words two by two.
pub pairs_words : (given : List Given) → pairs (option_words given) ≡ given
unfolding pairs option_words
pairs_words [] = refl
pairs_words (g ∷ given) = ap (λ (l : List Given). g ∷ l) (pairs_words given)

pub even_words : (given : List Given) → even (option_words given) ≡ true
unfolding even option_words
even_words [] = refl
even_words (g ∷ given) = even_words given

pub words_pairs : (words : List (List ℕ)) → even words ≡ true → option_words (pairs words) ≡ words
unfolding even pairs option_words
words_pairs [] e = refl
words_pairs (option ∷ []) e = never e refl
words_pairs (option ∷ word ∷ words) e = ap (λ (l : List (List ℕ)). option ∷ word ∷ l) (words_pairs words e)

pub in_pairs : (words : List (List ℕ)) (g : Given) → Memᴰ g (pairs words) → Memᴰ g.option words × Memᴰ g.word words
unfolding pairs
in_pairs [] g h = absurd (Memᴰ.not-nil h)
in_pairs (option ∷ []) g h = absurd (Memᴰ.not-nil h)
in_pairs (option ∷ word ∷ words) g h =
    ⊎_elim
    (λ e. (Memᴰ.head (ap (λ (g : Given). g.option) e), Memᴰ.tail (Memᴰ.head (ap (λ (g : Given). g.word) e))))
    (λ t. let both = in_pairs words g t in (Memᴰ.tail (Memᴰ.tail both.0), Memᴰ.tail (Memᴰ.tail both.1)))
    (Memᴰ.cases_cons h)

-- Options as text: a blank in front of each word.
pub joined_options : (first : List ℕ) (given : List Given) → joined_by blank (first ∷ option_words given) ≡ first ++ options_text given
unfolding joined_by option_words options_text text
joined_options first [] = sym (append-nil first)
joined_options first (g ∷ given) = ap (λ (l : List ℕ). first ++ (32 ∷ (g.option ++ (32 ∷ l)))) (joined_options g.word given)

pub options_ended : (given : List Given) → Ended (options_text given)
unfolding options_text text
options_ended [] = inl refl
options_ended (g ∷ given) = inr (g.option ++ (32 ∷ (g.word ++ options_text given)), refl)

-- A first word without a blank, and what is behind it.
pub front_parted : (piece behind : List ℕ) → ¬ Memᴰ blank piece → Ended behind
    → parted blank (piece ++ behind) ≡ piece ∷ pieces_behind blank behind
unfolding pieces_behind
front_parted piece behind plain (inl ends) = rw (ends, append-nil piece) (plain_last blank piece plain)
front_parted piece behind plain (inr (s, goes)) = rw goes (plain_ends blank piece s plain)

pub options_parted : (given : List Given) → Plain given → pieces_behind blank (options_text given) ≡ option_words given
unfolding pieces_behind options_text option_words text
options_parted [] plain = refl
options_parted (g ∷ given) plain =
    let words = plain g (Memᴰ.head refl) in
    plain_ends blank g.option (g.word ++ options_text given) words.0
    ∙ ap (λ (l : List (List ℕ)). g.option ∷ l) (front_parted g.word (options_text given) words.1 (options_ended given)
    ∙ ap (λ (l : List (List ℕ)). g.word ∷ l) (options_parted given (λ h t. plain h (Memᴰ.tail t))))

-- A low above its high.
denies_crossing : (r : Rule) → Denies (rising r.source_port && rising r.destination_port) (Crosses r)
unfolding rising
denies_crossing r =
    denies_and (denies_at_most r.source_port.low r.source_port.high)
    (denies_at_most r.destination_port.low r.destination_port.high)

-- why a line is turned away: 57, or 58 where a low is above its high
abbrev pub Turns : List ℕ → Why → Type 0
Turns line why = (why ≡ NotRead) ⊎ ((why ≡ LowAbove) × LowIsAbove line)

pub reads_turns : {A : Type 0} (P : A → Type 0) (line : List ℕ) (read : Checked A) → Reads P read → Each P (Turns line) read
reads_turns P line (good a) h = h
reads_turns P line (bad why) h = inl h

-- a rule that a line says, and that passes
abbrev pub Passing : List ℕ → Rule → Type 0
Passing line r = SaysRule line r × ¬ Crosses r

-- The words behind `-A FORWARD` make a line that says their rule.
module _ (line : List ℕ) (words : List (List ℕ)) (pieces : Pieces blank line (text "-A" ∷ text "FORWARD" ∷ words)) where
  says_rule : (r : Rule) → even words ≡ true → RuleSaid (pairs words) r → SaysRule line r
  unfolding joined_by text
  says_rule r whole said =
      record {
        given = pairs words;
        is = pieces.is
            ∙ ap (λ (l : List (List ℕ)). joined_by blank (text "-A" ∷ text "FORWARD" ∷ l)) (sym (words_pairs words whole))
            ∙ ap (λ (l : List ℕ). text "-A " ++ l) (joined_options (text "FORWARD") (pairs words));
        plain = λ g h. let both = in_pairs words g h in (
          pieces.plain g.option (Memᴰ.tail (Memᴰ.tail both.0)),
          pieces.plain g.word (Memᴰ.tail (Memᴰ.tail both.1)),
        );
        said = said;
      }

  -- 58, behind 57 of the whole line
  crossing_tested : (r : Rule) → SaysRule line r
      → Each (Passing line) (Turns line) (◌>>◌ (require (rising r.source_port && rising r.destination_port) LowAbove) (good r))
  crossing_tested r says =
      let denies = denies_crossing r in
      tested (Each (Passing line) (Turns line)) (rising r.source_port && rising r.destination_port)
      (λ f. inr (refl, (r, says, denies.0 f))) λ t. (says, denies_not denies t)

  pub rule_line_reads : Each (Passing line) (Turns line) (rule_read words)
  unfolding rule_read
  rule_line_reads =
      let given = pairs words in
      tested (Each (Passing line) (Turns line)) (even words) (λ f. inl refl) λ whole.
      each_then (RuleSaid given) (Passing line) (Turns line) (rule_given given) _
      (reads_turns (RuleSaid given) line (rule_given given) (rule_reads given)) λ r said. crossing_tested r (says_rule r whole said)

-- And back: a line that says a rule has these words ..
pub rule_line_parted : (line : List ℕ) (r : Rule) (says : SaysRule line r)
    → parted blank line ≡ text "-A" ∷ text "FORWARD" ∷ option_words says.given
unfolding text pieces_behind mem
rule_line_parted line r says =
    rw says.is (plain_ends blank (text "-A") (text "FORWARD" ++ options_text says.given) (not_mem blank (text "-A") refl)
    ∙ ap (λ (l : List (List ℕ)). text "-A" ∷ l)
    (front_parted (text "FORWARD") (options_text says.given) (not_mem blank (text "FORWARD") refl) (options_ended says.given)
    ∙ ap (λ (l : List (List ℕ)). text "FORWARD" ∷ l) (options_parted says.given says.plain)))

-- .. which are read as the rule, or turned away with 58.
module _ (given : List Given) (r : Rule) (said : RuleSaid given r) where
  pub rule_line_read : ¬ Crosses r → rule_read (option_words given) ≡ good r
  unfolding rule_read
  rule_line_read passes =
      rw (even_words given, pairs_words given, (rule_is_said given r).1 said, not_denies (denies_crossing r) passes) refl

  pub rule_line_crosses : Crosses r → rule_read (option_words given) ≡ bad LowAbove
  unfolding rule_read
  rule_line_crosses crosses =
      rw (even_words given, pairs_words given, (rule_is_said given r).1 said, (denies_crossing r).1 crosses) refl
