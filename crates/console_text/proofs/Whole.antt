-- A whole text: the lines that pass in front, and then nothing, or a line that is wrong. The idea: every text is parted so, and how it is parted
-- says what it is read as. Assumes nothing.
use Prim.Native.Nat.{ℕ, zero, suc, ◌+◌, ◌-◌, ◌≤◌}
use native.Mathlib.Nat.{add-zero, zero-add}
use native.Mathlib.Omega.{arith}
use mathlib.Core.Path.{◌≡◌, refl, sym, ◌∙◌, ap}
use mathlib.Core.Logic.{◌⊎◌, inl, inr, ⊎_elim, ◌≢◌}
use mathlib.Core.List.Memᴰ
use mathlib.Core.List.{
  List,
  [],
  ◌∷◌,
  ◌++◌,
  map,
  append_assoc,
  append-nil,
  Memᴰ,
}
use lib.ListN.{length}
use Rattle.policy.specs.Policy.{most_commands}
use Rattle.policy.specs.Properties.{Allows, ScriptType}
use Rattle.policy.specs.declared.Command.{Command}
use Rattle.policy.proofs.Types.{type_is}
use Rattle.console.specs.Makers.{heard}
use Rattle.console.specs.declared.Maker.{Maker}
use Rattle.deployment.specs.Checked.{good, bad, why_number}
use Rattle.deployment.specs.declared.Refusal.{Refusal}
use Rattle.deployment.specs.declared.Why.{Why}
use Rattle.deployment.specs.declared.Why.TheVariants.{NoCommand, Beyond, Length}
use Rattle.numerals.specs.Numerals.{Got}
use Rattle.console_text.specs.Text.{line_of, lines_of}
use Rattle.console_text.specs.Reading.{command_read, Understood, understood, turned, behind_it, read_from, text_read}
use Rattle.console_text.specs.Properties.{GoesOnWith, Bounded, Readable, Wrong, StopsAt}
use Rattle.console_text.proofs.FirstLine.{some_line, front_read, front_beyond, front_none, by_first_lem}

-- A line turned away, a line too many, and a line with the text behind it.
pub line_turned : (m : Maker) (type left line : ℕ) (s : List ℕ) (why : Why) → s ≢ [] → command_read m type s ≡ bad why
    → read_from m type left line s ≡ turned (record { why = why; at = line })
unfolding read_from
line_turned m type left line [] why some e = absurd (some refl)
line_turned m type zero line (b ∷ s) why some e = rw (e, read_from)
line_turned m type (suc left) line (b ∷ s) why some e = rw (e, read_from)

pub line_over : (m : Maker) (type line : ℕ) (s : List ℕ) (got : Got Command) → s ≢ [] → command_read m type s ≡ good got
    → read_from m type zero line s ≡ turned (record { why = Length; at = line })
unfolding read_from
line_over m type line [] got some e = absurd (some refl)
line_over m type line (b ∷ s) got some e = rw (e, read_from)

pub line_passes : (m : Maker) (type left line : ℕ) (s : List ℕ) (got : Got Command) → s ≢ [] → command_read m type s ≡ good got
    → read_from m type (suc left) line s ≡ behind_it got.value (read_from m type left (suc line) got.rest)
unfolding read_from
line_passes m type left line [] got some e = absurd (some refl)
line_passes m type left line (b ∷ s) got some e = rw (e, read_from)

-- Words that pass, and what the text behind them is read as.
abbrev Passing : Maker → ℕ → List Command → Type 0
Passing m type words = (k : Command) → Memᴰ k words → Allows type k × Bounded m k

abbrev pub behind_all : List Command → Understood → Understood
behind_all [] read = read
behind_all (c ∷ commands) read = behind_it c (behind_all commands read)

pub all_understood : (commands : List Command) → behind_all commands (understood []) ≡ understood commands
unfolding behind_it
all_understood [] = refl
all_understood (c ∷ commands) = rw (all_understood commands)

pub all_turned : (commands : List Command) (refusal : Refusal) → behind_all commands (turned refusal) ≡ turned refusal
unfolding behind_it
all_turned [] refusal = refl
all_turned (c ∷ commands) refusal = rw (all_turned commands refusal)

words_pass : (m : Maker) (type : ℕ) (words : List Command) (rest : List ℕ) (left total line at : ℕ) → Passing m type words
    → total ≡ length words + left → at ≡ line + length words
    → read_from m type total line (lines_of m words ++ rest) ≡ behind_all (map (heard m) words) (read_from m type left at rest)
unfolding lines_of
words_pass m type [] rest left total line at h e f =
    let same : total ≡ left = omega arith in
    let here : at ≡ line = omega arith in
    rw (same, here)
words_pass m type (k ∷ words) rest left zero line at h e f = absurd (omega arith)
words_pass m type (k ∷ words) rest left (suc total) line at h e f =
    let (typed, bounded) = h k (Memᴰ.head refl) in
    let behind = lines_of m words ++ rest in
    rw (append_assoc (line_of m k) (lines_of m words) rest)
    (line_passes m type total line (line_of m k ++ behind) (record { value = heard m k; rest = behind })
    (some_line m k behind) (front_read m type k behind typed bounded)
    ∙ ap (behind_it (heard m k))
    (words_pass m type words rest left total (suc line) at (λ j t. h j (Memᴰ.tail t)) (omega arith) (omega arith)))

-- A text that isn't empty, by its first line.
some_text : (m : Maker) (type : ℕ) (k : Command) (s : List ℕ) → GoesOnWith m type k s → s ≢ []
some_text m type k s on e = some_line m k on.rest (sym on.is ∙ e)

-- A wrong line is turned away, by its number.
wrong_turned : (m : Maker) (type lines left line number : ℕ) (s : List ℕ) → lines + left ≡ most_commands → Wrong m type lines number s
    → (why : Why) × (why_number why ≡ number) × (read_from m type left line s ≡ turned (record { why = why; at = line }))
wrong_turned m type lines left line number s all =
    ⊎_elim (λ no. (NoCommand, sym no.0, line_turned m type left line s NoCommand no.1.0 (front_none m type s no.1.1)))
    (⊎_elim
    (λ beyond. let (k, on, over) = beyond.1 in (
      Beyond,
      sym beyond.0,
      line_turned m type left line s Beyond (some_text m type k s on) (rw on.is (front_beyond m type k on.rest on.typed over)),
    ))
    (λ many. let (k, on, bounded, full) = many.1 in
    let none : left ≡ zero = omega arith in (
      Length,
      sym many.0,
      rw none
          (line_over m type line s (record { value = heard m k; rest = on.rest }) (some_text m type k s on)
          (rw on.is (front_read m type k on.rest on.typed bounded))),
    )))

-- Every text is parted: lines that pass, and behind them nothing or a wrong line.
record Parted (m : Maker) (type lines left : ℕ) (s : List ℕ) : Type 0 where
  words : List Command
  rest : List ℕ
  is : s ≡ lines_of m words ++ rest
  passing : Passing m type words
  few : length words ≤ left
  ends : (rest ≡ []) ⊎ ((number : ℕ) × Wrong m type (lines + length words) number rest)

none_pass : (m : Maker) (type : ℕ) → Passing m type []
none_pass m type k t = absurd (Memᴰ.not-nil t)

ends_here : (m : Maker) (type lines left : ℕ) (s : List ℕ) → ((s ≡ []) ⊎ ((number : ℕ) × Wrong m type lines number s))
    → Parted m type lines left s
unfolding lines_of
ends_here m type lines left s ends =
    record { words = []; rest = s; is = refl; passing = none_pass m type; few = omega arith; ends = rw add-zero ends }

one_more : (m : Maker) (type lines left : ℕ) (s : List ℕ) (k : Command) (on : GoesOnWith m type k s) → Bounded m k
    → Parted m type (suc lines) left on.rest → Parted m type lines (suc left) s
unfolding lines_of
one_more m type lines left s k on bounded parts =
    let counted : suc lines + length parts.words ≡ lines + suc (length parts.words) = omega arith in
    record {
      words = k ∷ parts.words;
      rest = parts.rest;
      is = on.is ∙ ap (λ (rest : List ℕ). line_of m k ++ rest) parts.is
          ∙ sym (append_assoc (line_of m k) (lines_of m parts.words) parts.rest);
      passing = λ j t. ⊎_elim (λ e. rw e (on.typed, bounded)) (λ u. parts.passing j u) (Memᴰ.cases_cons t);
      few = omega (arith, parts.few);
      ends = rw counted at parts.ends;
    }

-- a first line that doesn't pass ends the text
some_bytes : (b : ℕ) (s : List ℕ) → (b ∷ s) ≢ []
some_bytes b s e = omega (arith, ap length e)

by_passing : (m : Maker) (type lines left : ℕ) (s : List ℕ)
    → ((k : Command) → GoesOnWith m type k s → Bounded m k → Parted m type lines left s) → Parted m type lines left s
by_passing m type lines left [] passes = ends_here m type lines left [] (inl refl)
by_passing m type lines left (b ∷ s) passes =
    by_first_lem m type (b ∷ s)
    (λ none. ends_here m type lines left (b ∷ s) (inr (55, inl (refl, (some_bytes b s, none)))))
    (λ k on over. ends_here m type lines left (b ∷ s) (inr (56, inr (inl (refl, (k, on, over))))))
    passes

parted : (m : Maker) (type left lines : ℕ) → lines + left ≡ most_commands → (s : List ℕ) → Parted m type lines left s
parted m type zero lines all s =
    by_passing m type lines zero s
    (λ k on bounded. ends_here m type lines zero s (inr (4, inr (inr (refl, (k, on, bounded, omega arith))))))
parted m type (suc left) lines all s =
    by_passing m type lines (suc left) s
    (λ k on bounded. one_more m type lines left s k on bounded (parted m type left (suc lines) (omega arith) on.rest))

text_parted : (m : Maker) (type : ℕ) (s : List ℕ) → Parted m type 0 most_commands s
text_parted m type s = parted m type most_commands 0 (omega arith) s

-- What a text is read as, from how it is parted.
of_type_lem : (m : Maker) (type : ℕ) (s : List ℕ) → ScriptType type → text_read m type s ≡ read_from m type most_commands 1 s
unfolding text_read
of_type_lem m type s is = rw (type_is type is)

passing_of : (m : Maker) (type : ℕ) (words : List Command) → Readable m type words → Passing m type words
passing_of m type words h k t = (h.typed k t, h.bounded k t)

pub from_nothing : (m : Maker) (type left line : ℕ) → read_from m type left line [] ≡ understood []
unfolding read_from
from_nothing m type zero line = refl
from_nothing m type (suc left) line = refl

text_behind : (m : Maker) (type : ℕ) (words : List Command) (rest : List ℕ) (left : ℕ) → ScriptType type → Readable m type words
    → length words + left ≡ most_commands
    → text_read m type (lines_of m words ++ rest) ≡ behind_all (map (heard m) words) (read_from m type left (suc (length words)) rest)
text_behind m type words rest left is h all =
    of_type_lem m type (lines_of m words ++ rest) is
    ∙ words_pass m type words rest left most_commands 1 (suc (length words)) (passing_of m type words h) (sym all) (omega arith)

pub text_understood : (m : Maker) (type : ℕ) (words : List Command) → ScriptType type → Readable m type words
    → text_read m type (lines_of m words) ≡ understood (map (heard m) words)
text_understood m type words is h =
    let left = most_commands - length words in
    ap (text_read m type) (sym (append-nil (lines_of m words)))
    ∙ text_behind m type words [] left is h (omega (arith, h.few))
    ∙ ap (behind_all (map (heard m) words)) (from_nothing m type left (suc (length words)))
    ∙ all_understood (map (heard m) words)

pub text_turned : (m : Maker) (type number : ℕ) (words : List Command) (rest : List ℕ) → ScriptType type → Readable m type words
    → Wrong m type (length words) number rest
    → (why : Why) × (why_number why ≡ number)
    × (text_read m type (lines_of m words ++ rest) ≡ turned (record { why = why; at = suc (length words) }))
text_turned m type number words rest is h wrong =
    let left = most_commands - length words in
    let all : length words + left ≡ most_commands = omega (arith, h.few) in
    let (why, numbered, read) = wrong_turned m type (length words) left (suc (length words)) number rest all wrong in (
      why,
      numbered,
      text_behind m type words rest left is h all
          ∙ ap (behind_all (map (heard m) words)) read
          ∙ all_turned (map (heard m) words) (record { why = why; at = suc (length words) }),
    )

parted_readable : (m : Maker) (type : ℕ) (s : List ℕ) (parts : Parted m type 0 most_commands s) → Readable m type parts.words
parted_readable m type s parts =
    record { typed = λ k t. (parts.passing k t).0; bounded = λ k t. (parts.passing k t).1; few = parts.few }

-- What a text is: its words and nothing behind them, or words and a wrong line.
pub by_parts {ℓ} : {A : Type ℓ} (m : Maker) (type : ℕ) (s : List ℕ) → ScriptType type
    → ((words : List Command) → s ≡ lines_of m words → Readable m type words → text_read m type s ≡ understood (map (heard m) words) → A)
    → ((why : Why) (line : ℕ) → StopsAt m type s (why_number why) line → text_read m type s ≡ turned (record { why = why; at = line }) → A)
    → A
by_parts m type s is whole stops =
    let parts = text_parted m type s in
    let h = parted_readable m type s parts in
    ⊎_elim
    (λ nothing.
    let same = parts.is ∙ ap (λ (rest : List ℕ). lines_of m parts.words ++ rest) nothing ∙ append-nil (lines_of m parts.words) in
    whole parts.words same h (ap (text_read m type) same ∙ text_understood m type parts.words is h))
    (λ ends.
    let wrong = rw zero-add at ends.1 in
    let (why, numbered, read) = text_turned m type ends.0 parts.words parts.rest is h wrong in
    stops why (suc (length parts.words))
    (record { words = parts.words; rest = parts.rest; is = parts.is; read = h; counted = refl; wrong = rw numbered wrong })
    (ap (text_read m type) parts.is ∙ read))
    parts.ends
