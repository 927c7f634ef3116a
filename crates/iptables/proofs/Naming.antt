-- The words of lines that are no rule lines: a chain's name, and `[n:n]`. The idea: a word in brackets is its first byte, what is between and its
-- last byte; what is between is parted at the colon, and a number has none. Assumes nothing.
use Prim.Native.Nat.{ℕ, suc, ◌-◌, ◌≤◌, ◌<◌}
use native.Mathlib.Omega.{arith}
use mathlib.Core.Path.{◌≡◌, refl, sym, ◌∙◌, ap}
use mathlib.Core.Bool.{true, ◌&&◌}
use mathlib.Core.Logic.{⊎_elim}
use mathlib.Core.List.Memᴰ
use mathlib.Core.List.{List, [], ◌∷◌, ◌++◌, Memᴰ, append_assoc, cons-ne-nil}
use borrow.Author.Tests.{ltb-true, lt-ltb, eqb-true, leb-true, le-leb}
use lib.Dec.{leb}
use lib.ListN.{length, take, drop, length-append, take-append-drop}
use lib.Seq.{take-append_seam, drop-append_seam}
use Rattle.policy.specs.Lists.{same, mem}
use Rattle.policy.proofs.Tests.{never, and_both, both_and}
use Rattle.policy.proofs.Lists.{same_eq, same_refl, all_in, in_all, not_mem}
use Rattle.deployment.specs.Bytes.{part}
use Rattle.deployment.proofs.Tests.{Says, says_and, says_of_not, says_equal}
use Rattle.deployment.proofs.Values.{by_option}
use Rattle.lines.specs.Text.{text, decimal}
use Rattle.numerals.specs.Numerals.{is_digit, number_of}
use Rattle.numerals.proofs.Numerals.{number_of_decimal, number_of_is}
use Rattle.iptables.specs.Words.{blank, colon, parted, starts_with, in_name, is_name}
use Rattle.iptables.specs.Listing.{is_number, two_numbers, are_counters}
use Rattle.iptables.specs.Properties.{joined_by, Name}
use Rattle.iptables.proofs.Parting.{parted_once}
use Rattle.iptables.proofs.Wording.{decimal_plain, numbers_parted}

-- A chain's name.
says_in_name : (b : ℕ) → Says (in_name b) ((blank < b) × ¬ (b ≡ 34))
unfolding in_name
says_in_name b = says_and (ltb-true blank b, lt-ltb blank b) (says_of_not (says_equal b 34))

pub says_name : (name : List ℕ) → Says (is_name name) (Name name)
unfolding is_name
says_name [] = (λ e. never e refl, λ n. absurd (n.some refl))
says_name (b ∷ name) = (
  λ e. record { some = cons-ne-nil b name; plain = λ c h. (says_in_name c).0 (all_in in_name (b ∷ name) e c h) },
  λ n. in_all in_name (b ∷ name) (λ c h. (says_in_name c).1 (n.plain c h)),
)

pub name_plain : (name : List ℕ) → Name name → ¬ Memᴰ blank name
name_plain name n h = omega (arith, (n.plain blank h).0)

-- A number, and two with a colon between them.
is_number_lem : (word : List ℕ) → is_number word ≡ true → (n : ℕ) × (word ≡ decimal n)
unfolding is_number
is_number_lem word e =
    by_option (number_of word)
    (λ not. never e (rw (not, is_number) refl))
    (λ n is. (n, number_of_is word n is))

number_is : (n : ℕ) → is_number (decimal n) ≡ true
unfolding is_number
number_is n = rw (number_of_decimal n, is_number) refl

two_numbers_lem : (pieces : List (List ℕ)) → two_numbers pieces ≡ true → (packets bytes : ℕ) × (pieces ≡ decimal packets ∷ decimal bytes ∷ [])
unfolding two_numbers
two_numbers_lem [] e = never e refl
two_numbers_lem (packets ∷ []) e = never e refl
two_numbers_lem (packets ∷ bytes ∷ []) e =
    let both = and_both (is_number packets) (is_number bytes) e in
    let p = is_number_lem packets both.0 in
    let b = is_number_lem bytes both.1 in
    (p.0, b.0, λ i. p.1 i ∷ b.1 i ∷ [])
two_numbers_lem (packets ∷ bytes ∷ other ∷ pieces) e = never e refl

-- A word in brackets.
abbrev bracketed : List ℕ → List ℕ
bracketed inner = 91 ∷ (inner ++ (93 ∷ []))

brackets_off : (inner : List ℕ) → part 1 (length (bracketed inner) - 2) (bracketed inner) ≡ inner
unfolding part
brackets_off inner =
    let long : length (bracketed inner) - 2 ≡ length inner = omega (arith, length-append inner (93 ∷ [])) in
    rw long (take-append_seam inner (93 ∷ []))

last_bracket : (inner : List ℕ) → drop (length (bracketed inner) - 1) (bracketed inner) ≡ 93 ∷ []
last_bracket inner =
    let long : length (bracketed inner) - 1 ≡ suc (length inner) = omega (arith, length-append inner (93 ∷ [])) in
    rw long (drop-append_seam inner (93 ∷ []))

in_brackets : (word : List ℕ) → 2 ≤ length word → starts_with 91 word ≡ true → drop (length word - 1) word ≡ 93 ∷ []
    → word ≡ bracketed (part 1 (length word - 2) word)
unfolding starts_with part
in_brackets [] long first last = absurd (omega arith)
in_brackets (b ∷ s) long first last =
    let whole : length (b ∷ s) - 1 ≡ suc (length (b ∷ s) - 2) = omega arith in
    let end : drop (length (b ∷ s) - 2) s ≡ 93 ∷ [] = rw whole at last in
    let rest = sym (take-append-drop (length (b ∷ s) - 2) s) ∙ ap (λ (l : List ℕ). take (length (b ∷ s) - 2) s ++ l) end in
    λ i. eqb-true b 91 first i ∷ rest i

-- "`[n:n]`".
abbrev pub counters_text : ℕ → ℕ → List ℕ
counters_text packets bytes = text "[" ++ (decimal packets ++ (text ":" ++ (decimal bytes ++ text "]")))

abbrev between : ℕ → ℕ → List ℕ
between packets bytes = decimal packets ++ (colon ∷ decimal bytes)

counters_bracketed : (packets bytes : ℕ) → bracketed (between packets bytes) ≡ counters_text packets bytes
unfolding text
counters_bracketed packets bytes = ap (λ (l : List ℕ). 91 ∷ l) (append_assoc (decimal packets) (colon ∷ decimal bytes) (93 ∷ []))

counters_between : (s : List ℕ) → two_numbers (parted colon s) ≡ true → (packets bytes : ℕ) × (s ≡ between packets bytes)
unfolding joined_by
counters_between s e =
    let numbers = two_numbers_lem (parted colon s) e in
    (numbers.0, numbers.1, ((parted_once colon s (decimal numbers.0 ∷ decimal numbers.1 ∷ [])).0 numbers.2).is)

pub counters_are : (word : List ℕ) → are_counters word ≡ true → (packets bytes : ℕ) × (word ≡ counters_text packets bytes)
unfolding are_counters text
counters_are word e =
    let last = same (drop (length word - 1) word) (text "]") in
    let tests = and_both (leb 2 (length word) && starts_with 91 word && last) (two_numbers (parted colon (part 1 (length word - 2) word))) e in
    let brackets = and_both (leb 2 (length word) && starts_with 91 word) last tests.0 in
    let first = and_both (leb 2 (length word)) (starts_with 91 word) brackets.0 in
    let inner = counters_between (part 1 (length word - 2) word) tests.1 in
    let ends = same_eq (drop (length word - 1) word) (text "]") brackets.1 in
    let whole = in_brackets word (leb-true 2 (length word) first.0) first.1 ends in
    (inner.0, inner.1, whole ∙ ap bracketed inner.2 ∙ counters_bracketed inner.0 inner.1)

in_counters : (inner : List ℕ) → two_numbers (parted colon inner) ≡ true → are_counters (bracketed inner) ≡ true
unfolding are_counters starts_with text
in_counters inner two =
    let long = le-leb 2 (length (bracketed inner)) (omega (arith, length-append inner (93 ∷ []))) in
    rw (brackets_off inner, last_bracket inner) (both_and (both_and (both_and long refl) (same_refl (text "]"))) two)

pub are_counters_lem : (packets bytes : ℕ) → are_counters (counters_text packets bytes) ≡ true
unfolding two_numbers is_digit joined_by
are_counters_lem packets bytes =
    rw (← counters_bracketed packets bytes)
    (in_counters (between packets bytes) (rw (numbers_parted colon packets (bytes ∷ []) refl) (both_and (number_is packets) (number_is bytes))))

pub plain_append : (by : ℕ) (s t : List ℕ) → ¬ Memᴰ by s → ¬ Memᴰ by t → ¬ Memᴰ by (s ++ t)
plain_append by s t first second h = ⊎_elim first second (Memᴰ.append_cases s h)

pub counters_plain : (packets bytes : ℕ) → ¬ Memᴰ blank (counters_text packets bytes)
unfolding text is_digit mem
counters_plain packets bytes =
    let digits : (n : ℕ) → ¬ Memᴰ blank (decimal n) = λ n. decimal_plain blank n refl in
    let ends = plain_append blank (decimal bytes) (text "]") (digits bytes) (not_mem blank (text "]") refl) in
    let second = plain_append blank (text ":") (decimal bytes ++ text "]") (not_mem blank (text ":") refl) ends in
    plain_append blank (text "[") (decimal packets ++ (text ":" ++ (decimal bytes ++ text "]"))) (not_mem blank (text "[") refl)
    (plain_append blank (decimal packets) (text ":" ++ (decimal bytes ++ text "]")) (digits packets) second)
