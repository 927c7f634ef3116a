-- The line of a command: it is read as that command, and what is read as a command is the command's line. The idea: the words of a code stand
-- around numbers, and a number ends where a word starts, since no word between numbers starts with a digit. Of the codes of one type, no two have
-- names that a text can start with both, so that one code fits. Assumes nothing.
use Prim.Native.Nat.{ℕ}
use mathlib.Core.Path.{◌≡◌, refl, sym, ◌∙◌, ap}
use mathlib.Core.Bool.{true, ◌||◌}
use mathlib.Core.Logic.{◌⊎◌, inl, inr, ⊎_elim}
use mathlib.Core.Option.{Option, none, some}
use mathlib.Core.List.{List, [], ◌∷◌, ◌++◌, append_assoc}
use mathlib.Core.List.Memᴰ
use borrow.Author.Tests.{eqb-true, eqb-false}
use lib.Dec.{eqb}
use Rattle.policy.specs.Lists.{all}
use Rattle.policy.specs.Command.{Coded, coded, codes_of}
use Rattle.policy.specs.Properties.{In, Allows}
use Rattle.policy.specs.declared.Command.{Command}
use Rattle.policy.specs.declared.Command.TheVariants.{App, DelRule, Ins, DelPlace, Mov}
use Rattle.policy.proofs.Tests.{by_test, or_either, not_first}
use Rattle.policy.proofs.Lists.{all_in}
use Rattle.console.specs.declared.Maker.{Maker}
use Rattle.console.specs.declared.Maker.TheVariants.{A, B}
use Rattle.deployment.proofs.FieldValues.{Good, good_then}
use Rattle.deployment.specs.Checked.{Checked, good, bad}
use Rattle.deployment.specs.declared.Why.TheVariants.{NoCommand}
use Rattle.lines.specs.Text.{text, move_words, words_of, decimal, second_text, command_text}
use Rattle.numerals.specs.Numerals.{Got, is_digit}
use Rattle.console_text.specs.Text.{line_of}
use Rattle.console_text.specs.Reading.{number_read, word_read, second_read, line_read, any_read}
use Rattle.console_text.proofs.Wording.{good_is, good_map, word_read_lem, word_good, apart, word_apart}
use Rattle.console_text.proofs.Numerals.{number_read_lem, IsNumber, number_good}

-- the words of a code: its name, and the word between its numbers
abbrev name_of : Maker → ℕ → List ℕ
name_of m code = (words_of m code).name

abbrev between_of : Maker → ℕ → Option (List ℕ)
between_of m code = (words_of m code).between

-- a second number, behind its word; "a number that a command doesn't use is 0"
abbrev Used : Option (List ℕ) → ℕ → Type 0
Used none two = two ≡ 0
Used (some word) two = Unit {0}

-- the word between the numbers starts with a blank, which is byte 32; the line feed is byte 10
abbrev Blank : Option (List ℕ) → Type 0
Blank none = Unit {0}
Blank (some word) = (rest : List ℕ) × (word ≡ 32 ∷ rest)

-- The numbers of a line: the first one ends where the word between or the line feed starts.
first_read : (between : Option (List ℕ)) (one two : ℕ) (rest : List ℕ) → Blank between
    → number_read (decimal one ++ (second_text between two ++ (10 ∷ rest)))
    ≡ good (record { value = one; rest = second_text between two ++ (10 ∷ rest) })
unfolding second_text is_digit
first_read none one two rest b = number_read_lem one 10 rest refl
first_read (some word) one two rest b = rw b.1 (number_read_lem one 32 ((b.0 ++ decimal two) ++ (10 ∷ rest)) refl)

second_read_lem : (between : Option (List ℕ)) (two : ℕ) (rest : List ℕ) → Used between two
    → second_read between (second_text between two ++ (10 ∷ rest)) ≡ good (record { value = two; rest = 10 ∷ rest })
unfolding second_text second_read is_digit
second_read_lem none two rest used = rw used
second_read_lem (some word) two rest used =
    rw (append_assoc word (decimal two) (10 ∷ rest), word_read_lem word (decimal two ++ (10 ∷ rest))) (number_read_lem two 10 rest refl)

abbrev IsSecond : Option (List ℕ) → List ℕ → Got ℕ → Type 0
IsSecond between s got = Used between got.value × (s ≡ second_text between got.value ++ got.rest)

second_good : (between : Option (List ℕ)) (s : List ℕ) → Good (IsSecond between s) (second_read between s)
unfolding second_text second_read
second_good none s = (refl, refl)
second_good (some word) s =
    good_then (λ behind. s ≡ word ++ behind) (IsSecond (some word) s) (word_read word s) number_read (word_good word s) λ behind is.
    good_map (IsNumber behind) (IsSecond (some word) s) (number_read behind)
    (λ got h. (tt, is ∙ ap (λ (l : List ℕ). word ++ l) h ∙ sym (append_assoc word (decimal got.value) got.rest)))
    (number_good behind)

-- A line is its name, its first number, its second number and a line feed.
line_parts : (m : Maker) (k : Command) (rest : List ℕ)
    → line_of m k ++ rest
    ≡ name_of m (coded k).code
    ++ (decimal (coded k).one ++ (second_text (between_of m (coded k).code) (coded k).two ++ (10 ∷ rest)))
unfolding line_of command_text text
line_parts m k rest =
    let name = name_of m (coded k).code in
    let one = decimal (coded k).one in
    let two = second_text (between_of m (coded k).code) (coded k).two in
    rw (
      append_assoc (name ++ (one ++ two)) (10 ∷ []) rest,
      append_assoc name (one ++ two) (10 ∷ rest),
      append_assoc one two (10 ∷ rest),
    )

-- The words of each command: how they part its numbers, and whether it has a second one.
blank_between : (m : Maker) (k : Command) → Blank (between_of m (coded k).code)
unfolding coded words_of move_words text
blank_between m (App r) = tt
blank_between m (DelRule r) = tt
blank_between m (Ins i r) = ([], refl)
blank_between m (DelPlace i) = tt
blank_between A (Mov i j) = ([], refl)
blank_between B (Mov i j) = (text "before ", refl)

second_used : (m : Maker) (k : Command) → Used (between_of m (coded k).code) (coded k).two
unfolding coded words_of move_words
second_used m (App r) = refl
second_used m (DelRule r) = refl
second_used m (Ins i r) = tt
second_used m (DelPlace i) = refl
second_used A (Mov i j) = tt
second_used B (Mov i j) = tt

-- Read by its own code.
own_read : (m : Maker) (k : Command) (rest : List ℕ)
    → line_read m (coded k).code (line_of m k ++ rest) ≡ good (record { value = coded k; rest = rest })
unfolding line_read text
own_read m k rest =
    let code = (coded k).code in
    let one = (coded k).one in
    let two = (coded k).two in
    let between = between_of m code in
    rw (
      line_parts m k rest,
      word_read_lem (name_of m code) (decimal one ++ (second_text between two ++ (10 ∷ rest))),
      first_read between one two rest (blank_between m k),
      second_read_lem between two rest (second_used m k),
      word_read_lem (10 ∷ []) rest,
    )

-- Read by a code with another name.
other_read : (m : Maker) (code : ℕ) (k : Command) (rest : List ℕ) → apart (name_of m code) (name_of m (coded k).code) ≡ true
    → line_read m code (line_of m k ++ rest) ≡ bad NoCommand
unfolding line_read
other_read m code k rest e =
    rw (line_parts m k rest, word_apart (name_of m code) (name_of m (coded k).code) _ e)

-- What holds of each row of the table of types, and of the empty one, holds of every type.
pub by_type : (P : List ℕ → Type 0) → P (1 ∷ 2 ∷ []) → P (3 ∷ 4 ∷ 5 ∷ []) → P [] → (type : ℕ) → P (codes_of type)
unfolding codes_of
by_type P one two other type =
    by_test (eqb type 1) (λ t. rw t one) (λ f. by_test (eqb type 2) (λ t. rw (f, t) two) (λ g. rw (f, g) other))

-- Codes of one type have names apart.
abbrev Apart : Maker → List ℕ → Type 0
Apart m codes = all (λ a. all (λ b. eqb a b || apart (name_of m a) (name_of m b)) codes) codes ≡ true

names_apart : (m : Maker) (type : ℕ) → Apart m (codes_of type)
unfolding all apart words_of move_words text
names_apart A = by_type (Apart A) refl refl refl
names_apart B = by_type (Apart B) refl refl refl

two_apart : (m : Maker) (codes : List ℕ) → Apart m codes → (a b : ℕ) → In a codes → In b codes
    → (a ≡ b) ⊎ (apart (name_of m a) (name_of m b) ≡ true)
two_apart m codes h a b s t =
    let row = all_in (λ a. all (λ b. eqb a b || apart (name_of m a) (name_of m b)) codes) codes h a s in
    ⊎_elim (λ e. inl (eqb-true a b e)) (λ e. inr e)
    (or_either (eqb a b) (apart (name_of m a) (name_of m b)) (all_in (λ b. eqb a b || apart (name_of m a) (name_of m b)) codes row b t))

-- One code of some fits, and the others do not.
one_fits : (m : Maker) (s : List ℕ) (got : Got Coded) (code : ℕ) (codes : List ℕ) → In code codes → line_read m code s ≡ good got
    → ((other : ℕ) → In other codes → (other ≡ code) ⊎ (line_read m other s ≡ bad NoCommand)) → any_read m codes s ≡ good got
unfolding any_read
one_fits m s got code [] t e others = absurd (Memᴰ.not-nil t)
one_fits m s got code (first ∷ codes) t e others =
    by_test (eqb first code)
    (λ same. let fits : line_read m first s ≡ good got = rw (eqb-true first code same) e in rw (fits, any_read) refl)
    (λ differ.
    let wrong = not_first (eqb-false first code differ) (others first (Memᴰ.head refl)) in
    let there = not_first (λ same. eqb-false first code differ (sym same)) (Memᴰ.cases_cons t) in
    rw (wrong, any_read) (one_fits m s got code codes there e (λ other u. others other (Memᴰ.tail u))))

pub line_read_lem : (m : Maker) (type : ℕ) (k : Command) (rest : List ℕ) → Allows type k
    → any_read m (codes_of type) (line_of m k ++ rest) ≡ good (record { value = coded k; rest = rest })
line_read_lem m type k rest allowed =
    one_fits m (line_of m k ++ rest) (record { value = coded k; rest = rest }) (coded k).code (codes_of type) allowed (own_read m k rest)
    (λ other t.
    ⊎_elim (λ e. inl e) (λ e. inr (other_read m other k rest e))
    (two_apart m (codes_of type) (names_apart m type) other (coded k).code t allowed))

-- And back: what a line that is read is made of.
abbrev IsLine : Maker → ℕ → List ℕ → Got Coded → Type 0
IsLine m code s got =
    (got.value.code ≡ code) × Used (between_of m code) got.value.two
    × (s ≡ name_of m code ++ (decimal got.value.one ++ (second_text (between_of m code) got.value.two ++ (10 ∷ got.rest))))

line_good : (m : Maker) (code : ℕ) (s : List ℕ) → Good (IsLine m code s) (line_read m code s)
unfolding line_read text
line_good m code s =
    let name = name_of m code in
    let between = between_of m code in
    good_then (λ behind. s ≡ name ++ behind) (IsLine m code s) (word_read name s) _ (word_good name s) λ behind named.
    good_then (IsNumber behind) (IsLine m code s) (number_read behind) _ (number_good behind) λ one first.
    good_then (IsSecond between one.rest) (IsLine m code s) (second_read between one.rest) _ (second_good between one.rest) λ two second.
    good_then (λ rest. two.rest ≡ 10 ∷ rest) (IsLine m code s) (word_read (10 ∷ []) two.rest) _ (word_good (10 ∷ []) two.rest) λ rest ends.
    (refl, second.0, rw (named, first, second.1, ends) refl)

-- of one of the codes
abbrev IsOne : Maker → List ℕ → List ℕ → Got Coded → Type 0
IsOne m codes s got = (code : ℕ) × In code codes × IsLine m code s got

either_good : {A : Type 0} (P : A → Type 0) (read others : Checked A) → Good P read → Good P others
    → Good P (elim read [ good line ↦ good line | bad why ↦ others ])
either_good P (good a) others h k = h
either_good P (bad why) others h k = k

any_good : (m : Maker) (codes : List ℕ) (s : List ℕ) → Good (IsOne m codes s) (any_read m codes s)
unfolding any_read
any_good m [] s = tt
any_good m (code ∷ codes) s =
    either_good (IsOne m (code ∷ codes) s) (line_read m code s) (any_read m codes s)
    (good_map (IsLine m code s) (IsOne m (code ∷ codes) s) (line_read m code s) (λ got is. (code, Memᴰ.head refl, is)) (line_good m code s))
    (good_map (IsOne m codes s) (IsOne m (code ∷ codes) s) (any_read m codes s)
    (λ got is. (is.0, Memᴰ.tail is.1, is.2)) (any_good m codes s))

-- A code of a type and numbers that go with its words are those of a command.
abbrev Names : ℕ → Type 0
Names code = (m : Maker) (one two : ℕ) → Used (between_of m code) two → (k : Command) × (coded k ≡ record { code = code; one = one; two = two })

app_named : Names 1
unfolding coded words_of
app_named m one two used = (App one, λ i. record { code = 1; one = one; two = sym used i })

del_rule_named : Names 2
unfolding coded words_of
del_rule_named m one two used = (DelRule one, λ i. record { code = 2; one = one; two = sym used i })

ins_named : Names 3
unfolding coded
ins_named m one two used = (Ins one two, refl)

del_place_named : Names 4
unfolding coded words_of
del_place_named m one two used = (DelPlace one, λ i. record { code = 4; one = one; two = sym used i })

mov_named : Names 5
unfolding coded
mov_named m one two used = (Mov one two, refl)

-- each code of a row names one
abbrev Every : (ℕ → Type 0) → List ℕ → Type 0
Every P [] = Unit {0}
Every P (code ∷ codes) = P code × Every P codes

every_in : (P : ℕ → Type 0) (codes : List ℕ) → Every P codes → (code : ℕ) → In code codes → P code
every_in P [] h code t = absurd (Memᴰ.not-nil t)
every_in P (first ∷ codes) h code t =
    ⊎_elim (λ e. rw e h.0) (λ u. every_in P codes h.1 code u) (Memᴰ.cases_cons t)

every_named : (type : ℕ) → Every Names (codes_of type)
every_named = by_type (Every Names) (app_named, (del_rule_named, tt)) (ins_named, (del_place_named, (mov_named, tt))) tt

pub line_is_lem : (m : Maker) (type : ℕ) (s : List ℕ) (got : Got Coded) → any_read m (codes_of type) s ≡ good got
    → (k : Command) × (coded k ≡ got.value) × Allows type k × (s ≡ line_of m k ++ got.rest)
line_is_lem m type s got e =
    let (code, t, line) = good_is (IsOne m (codes_of type) s) e (any_good m (codes_of type) s) in
    let (same, used, is) = line in
    let (k, named) = every_in Names (codes_of type) (every_named type) code t m got.value.one got.value.two used in (
      k,
      named ∙ (λ i. record { code = sym same i; one = got.value.one; two = got.value.two }),
      rw named t,
      rw (line_parts m k got.rest, named) is,
    )
