-- A number at the front of a text: its digits are read as the number, and what is read as a number is its digits. So is it with a whole word. The
-- idea: behind the digits of a number above 0 one digit more is the number times ten and the digit; a first 0 stands alone. Assumes nothing.
use Prim.Native.Nat.{ℕ, zero, suc, ◌+◌, ◌*◌, ◌-◌, ◌/◌, ◌%◌, ◌≤◌, ◌<◌}
use native.Mathlib.Omega.{arith}
use mathlib.Core.Path.{◌≡◌, refl, sym, ◌∙◌, ap}
use mathlib.Core.Bool.{true, false}
use mathlib.Core.Option.{Option, none, some, some-injective}
use mathlib.Core.List.{List, [], ◌∷◌, ◌++◌, append-nil}
use borrow.Author.Tests.{leb-true, le-leb, ltb-true, ltb-false, eqb-true, eqb-false, ne_eqb}
use lib.Dec.{eqb, ltb, leb}
use lib.Seq.{append_snoc}
use Rattle.policy.proofs.Tests.{by_test, and_both, both_and}
use Rattle.deployment.proofs.Values.{by_option, none_some}
use Rattle.lines.specs.Text.{decimal}
use Rattle.lines.proofs.Digits.{decimal_one, decimal_more}
use Rattle.numerals.specs.Numerals.{Got, is_digit, goes_on, numeral_read, number_of}

-- A digit, and the number that it is.
digit_is : (d : ℕ) → d < 10 → is_digit (48 + d) ≡ true
unfolding is_digit
digit_is d h = both_and (le-leb 48 (48 + d) (omega arith)) (le-leb (48 + d) 57 (omega arith))

pub is_digit_lem : (b : ℕ) → is_digit b ≡ true → (48 ≤ b) × (b ≤ 57)
unfolding is_digit
is_digit_lem b e = let both = and_both (leb 48 b) (leb b 57) e in (leb-true 48 b both.0, leb-true b 57 both.1)

-- A first 0 stands alone.
zero_alone : (s : List ℕ) → numeral_read (48 ∷ s) ≡ some (record { value = 0; rest = s })
unfolding numeral_read is_digit
zero_alone s = refl

-- One digit more.
goes_further : (n d : ℕ) (s : List ℕ) → d < 10 → goes_on n ((48 + d) ∷ s) ≡ goes_on (10 * n + d) s
unfolding goes_on
goes_further n d s h =
    let back : 48 + d - 48 ≡ d = omega arith in
    rw (digit_is d h, goes_on) (rw back)

decimal_further : (n d : ℕ) (s : List ℕ) → 1 ≤ n → d < 10 → decimal (10 * n + d) ++ s ≡ decimal n ++ ((48 + d) ∷ s)
decimal_further n d s above h =
    let tenth : (10 * n + d) / 10 ≡ n = omega arith in
    let last : (10 * n + d) % 10 ≡ d = omega arith in
    rw (decimal_more (10 * n + d) (omega arith), tenth, last) (append_snoc (decimal n) (48 + d) s)

-- The digits of a number above 0 are read one after another.
digits_read : (most n : ℕ) (s : List ℕ) → n < most → 1 ≤ n → numeral_read (decimal n ++ s) ≡ some (goes_on n s)
unfolding numeral_read
digits_read zero n s below above = absurd (omega arith)
digits_read (suc most) n s below above =
    by_test (ltb n 10)
    (λ t.
    let one = ltb-true n 10 t in
    let back : 48 + n - 48 ≡ n = omega arith in
    rw (decimal_one n one) (rw (digit_is n one, ne_eqb (48 + n) 48 (λ e. omega arith), back)))
    (λ f.
    let more = ltb-false n 10 f in
    let whole : 10 * (n / 10) + n % 10 ≡ n = omega arith in
    rw (decimal_more n more, append_snoc (decimal (n / 10)) (48 + n % 10) s)
    (digits_read most (n / 10) ((48 + n % 10) ∷ s) (omega arith) (omega arith)
    ∙ ap some (goes_further (n / 10) (n % 10) s (omega arith) ∙ ap (λ (k : ℕ). goes_on k s) whole)))

pub goes_no_further : (n b : ℕ) (s : List ℕ) → is_digit b ≡ false → goes_on n (b ∷ s) ≡ record { value = n; rest = b ∷ s }
unfolding goes_on
goes_no_further n b s e = rw (e, goes_on)

-- A number's digits, in front of what is no digit.
digits_end : (n : ℕ) (s : List ℕ) → goes_on n s ≡ record { value = n; rest = s }
    → numeral_read (decimal n ++ s) ≡ some (record { value = n; rest = s })
digits_end zero s ends = rw (decimal_one 0 (omega arith)) (zero_alone s)
digits_end (suc n) s ends = digits_read (suc (suc n)) (suc n) s (omega arith) (omega arith) ∙ ap some ends

pub numeral_read_lem : (n b : ℕ) (s : List ℕ) → is_digit b ≡ false → numeral_read (decimal n ++ (b ∷ s)) ≡ some (record { value = n; rest = b ∷ s })
numeral_read_lem n b s e = digits_end n (b ∷ s) (goes_no_further n b s e)

pub numeral_ends : (n : ℕ) → numeral_read (decimal n) ≡ some (record { value = n; rest = [] })
unfolding goes_on
numeral_ends n = rw (append-nil (decimal n)) at (digits_end n [] refl)

-- And back.
goes_on_is : (n : ℕ) (s : List ℕ) → 1 ≤ n → decimal n ++ s ≡ decimal (goes_on n s).value ++ (goes_on n s).rest
unfolding goes_on
goes_on_is n [] above = refl
goes_on_is n (b ∷ s) above =
    by_test (is_digit b)
    (λ t.
    let on = is_digit_lem b t in
    let back : 48 + (b - 48) ≡ b = omega arith in
    rw (t, goes_on) (ap (λ (k : ℕ). decimal n ++ (k ∷ s)) (sym back) ∙ sym (decimal_further n (b - 48) s above (omega arith))
    ∙ goes_on_is (10 * n + (b - 48)) s (omega arith)))
    (λ f. rw (f, goes_on) refl)

-- what is read, if a number is
abbrev Numeral : List ℕ → Option (Got ℕ) → Type 0
Numeral s none = Unit {0}
Numeral s (some got) = s ≡ decimal got.value ++ got.rest

what_is_read : (s : List ℕ) → Numeral s (numeral_read s)
unfolding numeral_read
what_is_read [] = tt
what_is_read (b ∷ s) =
    by_test (is_digit b)
    (λ t.
    let on = is_digit_lem b t in
    by_test (eqb b 48)
    (λ e. rw (t, e, decimal_one 0 (omega arith)) (ap (λ (k : ℕ). k ∷ s) (eqb-true b 48 e)))
    (λ e.
    let above : 1 ≤ b - 48 = omega (arith, eqb-false b 48 e) in
    let back : 48 + (b - 48) ≡ b = omega arith in
    rw (t, e) (ap (λ (k : ℕ). k ∷ s) (sym back) ∙ ap (λ (l : List ℕ). l ++ s) (sym (decimal_one (b - 48) (omega arith)))
    ∙ goes_on_is (b - 48) s above)))
    (λ f. rw f tt)

pub numeral_is : (s : List ℕ) (got : Got ℕ) → numeral_read s ≡ some got → s ≡ decimal got.value ++ got.rest
numeral_is s got e = rw e at (what_is_read s)

-- A whole word.
pub number_of_decimal : (n : ℕ) → number_of (decimal n) ≡ some n
unfolding number_of
number_of_decimal n = rw (numeral_ends n, number_of) refl

pub nothing_left : (word : List ℕ) (got : Got ℕ) → numeral_read word ≡ some got → got.rest ≡ [] → number_of word ≡ some got.value
unfolding number_of
nothing_left word got e ends = rw (e, number_of) (rw (ends, number_of) refl)

pub something_left : (word : List ℕ) (got : Got ℕ) (b : ℕ) (s : List ℕ) → numeral_read word ≡ some got → got.rest ≡ b ∷ s → number_of word ≡ none
unfolding number_of
something_left word got b s e goes = rw (e, number_of) (rw (goes, number_of) refl)

pub no_numeral : (word : List ℕ) → numeral_read word ≡ none → number_of word ≡ none
unfolding number_of
no_numeral word e = rw (e, number_of) refl

by_list : {A : Type 0} (l : List ℕ) → (l ≡ [] → A) → ((b : ℕ) (s : List ℕ) → l ≡ b ∷ s → A) → A
by_list [] empty more = empty refl
by_list (b ∷ s) empty more = more b s refl

pub number_of_is : (word : List ℕ) (n : ℕ) → number_of word ≡ some n → word ≡ decimal n
number_of_is word n e =
    by_option (numeral_read word)
    (λ not. none_some (sym (no_numeral word not) ∙ e))
    (λ got is.
    by_list got.rest
    (λ ends.
    let value : got.value ≡ n = some-injective got.value n (sym (nothing_left word got is ends) ∙ e) in
    rw (← value) (numeral_is word got is ∙ ap (λ (l : List ℕ). decimal got.value ++ l) ends ∙ append-nil (decimal got.value)))
    (λ b s goes. none_some (sym (something_left word got b s is goes) ∙ e)))
