-- A word of an address, of ports and of a protocol is read exactly when it is one; what it means fits its width, and 57 is all else. The idea: the
-- pieces of a word are parted in one way (Parting.antt), and a piece is a number exactly when it is its digits, of which none parts. Assumes nothing.
use Prim.Native.Nat.{ℕ, zero, suc, ◌+◌, ◌*◌, ◌-◌, ◌/◌, ◌^◌, ◌≤◌, ◌<◌}
use native.Mathlib.Nat.{div-mul-le_self, lt-div-mul-add, div-eq_of_lt-le, div-lt_iff_lt-mul, mul-le-mul_right, one-le-pow}
use native.Mathlib.Omega.{arith}
use mathlib.Core.Path.{◌≡◌, refl, sym, ◌∙◌, ap}
use mathlib.Core.Bool.{false, ◌&&◌}
use mathlib.Core.Logic.{◌⊎◌, inl, inr, ⊎_elim, ◌↔◌}
use mathlib.Core.Option.{none}
use mathlib.Core.List.{List, [], ◌∷◌, ◌++◌, map}
use mathlib.Core.List.{Memᴰ}
use borrow.Author.Tests.{ltb-true, leb-true, le-leb}
use lib.Dec.{ltb, leb}
use lib.ListN.{take, drop}
use lib.Pow.{pow-add}
use Rattle.policy.specs.Lists.{same}
use Rattle.policy.specs.Rule.{Range, lies}
use Rattle.policy.proofs.Lists.{same_eq, same_refl}
use Rattle.policy.proofs.Tests.{by_test, never, and_both, both_and}
use Rattle.deployment.specs.Checked.{Checked, good, bad, ◌>>=◌}
use Rattle.deployment.specs.declared.Why.{Why}
use Rattle.deployment.specs.declared.Why.TheVariants.{NotRead}
use Rattle.deployment.proofs.Tests.{Says, says_and, says_at_most, not_says, Each, each_then, tested}
use Rattle.deployment.proofs.Values.{by_option, none_some}
use Rattle.lines.specs.Text.{text, digits, decimal}
use Rattle.numerals.specs.Numerals.{is_digit, numeral_read, number_of}
use Rattle.numerals.proofs.Numerals.{number_of_decimal, number_of_is}
use Rattle.iptables.specs.Words.{
  dot,
  slash,
  colon,
  parted,
  pieces_behind,
  cut_at,
  number_in,
  address_from,
  dotted,
  hosts,
  masked,
  mask_of,
  address_of,
  ports_from,
  ports_of,
  numbered_protocol,
  protocol_of,
  meant,
  full,
}
use Rattle.iptables.specs.Properties.{joined_by, dotted_text, address_number, IsAddress, IsPorts, IsProtocol, Means}
use Rattle.iptables.specs.Claims.{WordRead, MaskIsPrefix}
use Rattle.iptables.specs.declared.Kind.{Kind}
use Rattle.iptables.specs.declared.Kind.TheVariants.{Protocol, Address, Port}
use Rattle.iptables.proofs.Parting.{parted_cut, plain_ends, plain_last, parted_once}

-- What holds of a value that is read; what isn't read is 57.
abbrev pub Reads : {A : Type 0} → (A → Type 0) → Checked A → Type 0
Reads P = Each P (λ why. why ≡ NotRead)

pub reads_then : {A B : Type 0} (P : A → Type 0) (R : B → Type 0) (read : Checked A) (next : A → Checked B)
    → Reads P read → ((a : A) → P a → Reads R (next a)) → Reads R (◌>>=◌ read next)
reads_then P R = each_then P R (λ why. why ≡ NotRead)

pub reads_map : {A : Type 0} (P R : A → Type 0) (read : Checked A) → ((a : A) → P a → R a) → Reads P read → Reads R read
reads_map P R (good a) passes h = passes a h
reads_map P R (bad why) passes h = h

-- The same word.
pub says_same : (l m : List ℕ) → Says (same l m) (l ≡ m)
says_same l m = (same_eq l m, λ e. rw e (same_refl m))

-- A number has digits only, from `0` to `9`.
in_digits : (most n b : ℕ) → Memᴰ b (digits most n) → (48 ≤ b) × (b ≤ 57)
unfolding digits
in_digits zero n b t = absurd (mathlib.Core.List.Memᴰ.not-nil t)
in_digits (suc most) n b t =
    by_test (ltb n 10)
    (λ one. let is = mathlib.Core.List.Memᴰ.eq_of_singleton (rw (one, digits) at t) in omega (arith, is, ltb-true n 10 one))
    (λ more.
    ⊎_elim (λ u. in_digits most (n / 10) b u) (λ u. omega (arith, mathlib.Core.List.Memᴰ.eq_of_singleton u))
    (mathlib.Core.List.Memᴰ.append_cases (digits most (n / 10)) (rw (more, digits) at t)))

pub decimal_plain : (by n : ℕ) → is_digit by ≡ false → ¬ Memᴰ by (decimal n)
unfolding decimal is_digit
decimal_plain by n other t =
    let digit = in_digits (suc n) n by t in
    never (both_and (le-leb 48 by digit.0) (le-leb by 57 digit.1)) other

-- A number in its bounds.
abbrev pub Number : ℕ → ℕ → List ℕ → ℕ → Type 0
Number low high word n = (word ≡ decimal n) × (low ≤ n) × (n ≤ high)

pub number_reads : (low high : ℕ) (word : List ℕ) → Reads (Number low high word) (number_in low high word)
unfolding number_in
number_reads low high word =
    by_option (number_of word)
    (λ not. rw (not, number_in) refl)
    (λ n is.
    rw (is, number_in)
    (tested (Reads (Number low high word)) (leb low n && leb n high) (λ f. refl) λ t.
    let both = and_both (leb low n) (leb n high) t in
    (number_of_is word n is, leb-true low n both.0, leb-true n high both.1)))

pub number_read_lem : (low high n : ℕ) → low ≤ n → n ≤ high → number_in low high (decimal n) ≡ good n
unfolding number_in
number_read_lem low high n above below = rw (number_of_decimal n, number_in) (rw (le-leb low n above, le-leb n high below))

-- numbers with a byte between each two that is no digit
pub numbers_parted : (by n : ℕ) (numbers : List ℕ) → is_digit by ≡ false
    → parted by (joined_by by (map decimal (n ∷ numbers))) ≡ map decimal (n ∷ numbers)
unfolding joined_by
numbers_parted by n [] other = plain_last by (decimal n) (decimal_plain by n other)
numbers_parted by n (m ∷ numbers) other =
    plain_ends by (decimal n) (joined_by by (map decimal (m ∷ numbers))) (decimal_plain by n other)
    ∙ ap (λ (l : List (List ℕ)). decimal n ∷ l) (numbers_parted by m numbers other)

-- "four decimal numbers 0 to 255": so many pieces are numbers, one behind the other.
abbrev NumbersFrom : ℕ → ℕ → List (List ℕ) → ℕ → Type 0
NumbersFrom zero address pieces found = (pieces ≡ []) × (found ≡ address)
NumbersFrom (suc left) address pieces found =
    (n : ℕ) × (behind : List (List ℕ)) × (n ≤ 255) × (pieces ≡ decimal n ∷ behind) × NumbersFrom left (address * 256 + n) behind found

numbers_read : (left address : ℕ) (pieces : List (List ℕ)) → Reads (NumbersFrom left address pieces) (address_from left address pieces)
unfolding address_from
numbers_read zero address [] = (refl, refl)
numbers_read zero address (piece ∷ pieces) = refl
numbers_read (suc left) address [] = refl
numbers_read (suc left) address (piece ∷ pieces) =
    let Found = NumbersFrom (suc left) address (piece ∷ pieces) in
    reads_then (Number 0 255 piece) Found (number_in 0 255 piece) _ (number_reads 0 255 piece) λ n is.
    reads_map (NumbersFrom left (address * 256 + n) pieces) Found (address_from left (address * 256 + n) pieces)
    (λ found others. (n, pieces, is.2, ap (λ (p : List ℕ). p ∷ pieces) is.0, others))
    (numbers_read left (address * 256 + n) pieces)

record Dotted (word : List ℕ) (address : ℕ) : Type 0 where
  a : ℕ
  b : ℕ
  c : ℕ
  d : ℕ
  a_fits : a ≤ 255
  b_fits : b ≤ 255
  c_fits : c ≤ 255
  d_fits : d ≤ 255
  is : word ≡ dotted_text a b c d
  means : address ≡ address_number a b c d

-- bytes are their pieces
put_together : (by : ℕ) (word : List ℕ) (pieces : List (List ℕ)) → parted by word ≡ pieces → word ≡ joined_by by pieces
put_together by word pieces e = ((parted_once by word pieces).0 e).is

four_numbers : (word : List ℕ) (address : ℕ) → NumbersFrom 4 0 (parted dot word) address → Dotted word address
unfolding joined_by text
four_numbers word address (a, p, a_fits, is-a, (b, q, b_fits, is_b, (c, r, c_fits, is_c, (d, s, d_fits, is-d, (ends, means))))) =
    record {
      a = a;
      b = b;
      c = c;
      d = d;
      a_fits = a_fits;
      b_fits = b_fits;
      c_fits = c_fits;
      d_fits = d_fits;
      is = put_together dot word (decimal a ∷ decimal b ∷ decimal c ∷ decimal d ∷ []) (is-a ∙ rw (is_b, is_c, is-d, ends));
      means = omega (arith, means);
    }

dotted_reads : (word : List ℕ) → Reads (Dotted word) (dotted word)
unfolding dotted
dotted_reads word =
    reads_map (NumbersFrom 4 0 (parted dot word)) (Dotted word) (address_from 4 0 (parted dot word)) (four_numbers word)
    (numbers_read 4 0 (parted dot word))

module _ (a b c d : ℕ) (a_fits : a ≤ 255) (b_fits : b ≤ 255) (c_fits : c ≤ 255) (d_fits : d ≤ 255) where
  dotted_read : dotted (dotted_text a b c d) ≡ good (address_number a b c d)
  unfolding dotted address_from joined_by text is_digit
  dotted_read =
      let fits : (n : ℕ) → n ≤ 255 → number_in 0 255 (decimal n) ≡ good n = λ n. number_read_lem 0 255 n (omega arith) in
      rw (numbers_parted dot a (b ∷ c ∷ d ∷ []) refl, fits a a_fits, fits b b_fits, fits c c_fits, fits d d_fits) (ap good (omega arith))

  number_small : address_number a b c d ≤ 256 ^ 4 - 1
  number_small = omega arith

-- no `/` stands in it
plain_append : (x : ℕ) (u v : List ℕ) → ¬ Memᴰ x u → ¬ Memᴰ x v → ¬ Memᴰ x (u ++ v)
plain_append x u v p q t = ⊎_elim p q (mathlib.Core.List.Memᴰ.append_cases u t)

dotted_plain : (a b c d : ℕ) → ¬ Memᴰ slash (dotted_text a b c d)
unfolding text is_digit
dotted_plain a b c d =
    let plain : (n : ℕ) → ¬ Memᴰ slash (decimal n) = λ n. decimal_plain slash n refl in
    let point : ¬ Memᴰ slash (text ".") = λ t. omega (arith, mathlib.Core.List.Memᴰ.eq_of_singleton t) in
    let behind : (n : ℕ) (s : List ℕ) → ¬ Memᴰ slash s → ¬ Memᴰ slash (decimal n ++ (text "." ++ s)) =
    λ n s h. plain_append slash (decimal n) (text "." ++ s) (plain n) (plain_append slash (text ".") s point h) in
    behind a _ (behind b _ (behind c _ (plain d)))

-- "then optionally `/n`"
abbrev IsMask : List (List ℕ) → ℕ → Type 0
IsMask masks n = (n ≤ 32) × (((masks ≡ []) × (n ≡ 32)) ⊎ (masks ≡ decimal n ∷ []))

mask_reads : (masks : List (List ℕ)) → Reads (IsMask masks) (mask_of masks)
unfolding mask_of
mask_reads [] = (omega arith, inl (refl, refl))
mask_reads (mask ∷ []) =
    reads_map (Number 0 32 mask) (IsMask (mask ∷ [])) (number_in 0 32 mask) (λ n is. (is.2, inr (ap (λ (m : List ℕ). m ∷ []) is.0)))
    (number_reads 0 32 mask)
mask_reads (mask ∷ other ∷ pieces) = refl

-- An address.
joined_mask : (word address : List ℕ) (masks : List (List ℕ)) (n : ℕ) → word ≡ joined_by slash (address ∷ masks) → IsMask masks n
    → ((word ≡ address) × (n ≡ 32)) ⊎ (word ≡ address ++ (text "/" ++ decimal n))
unfolding joined_by text
joined_mask word address masks n is (fits, inl (unmasked, all)) = inl (rw unmasked at is, all)
joined_mask word address masks n is (fits, inr mask) = inr (rw mask at is)

address_reads : (word : List ℕ) → Reads (IsAddress word) (address_of word)
unfolding address_of
address_reads word =
    let address = take (cut_at slash word) word in
    let masks = pieces_behind slash (drop (cut_at slash word) word) in
    let cut : parted slash word ≡ address ∷ masks = parted_cut slash word in
    rw (cut, address_of)
    (reads_then (Dotted address) (IsAddress word) (dotted address) _ (dotted_reads address) λ number numbered.
    reads_then (IsMask masks) (IsAddress word) (mask_of masks) _ (mask_reads masks) λ n is.
    record {
      a = numbered.a;
      b = numbered.b;
      c = numbered.c;
      d = numbered.d;
      n = n;
      a_fits = numbered.a_fits;
      b_fits = numbered.b_fits;
      c_fits = numbered.c_fits;
      d_fits = numbered.d_fits;
      n_fits = is.0;
      is = rw numbered.is at (joined_mask word address masks n (put_together slash word (address ∷ masks) cut) is);
      means = ap (λ (a : ℕ). masked a n) numbered.means;
    })

address_read : (word : List ℕ) (range : Range) → IsAddress word range → address_of word ≡ good range
unfolding address_of mask_of text is_digit
address_read word range h =
    let address = dotted_text h.a h.b h.c h.d in
    let plain = dotted_plain h.a h.b h.c h.d in
    let is_dotted = dotted_read h.a h.b h.c h.d h.a_fits h.b_fits h.c_fits h.d_fits in
    ⊎_elim
    (λ unmasked. rw (unmasked.0, plain_last slash address plain, address_of) (rw (is_dotted, h.means, unmasked.1)))
    (λ (with-mask : word ≡ address ++ (text "/" ++ decimal h.n)).
    rw (with-mask, plain_ends slash address (decimal h.n) plain, plain_last slash (decimal h.n) (decimal_plain slash h.n refl), address_of)
    (rw (is_dotted, number_read_lem 0 32 h.n (omega arith) h.n_fits, h.means)))
    h.is

-- Ports.
ports_from_lem : (word : List ℕ) (pieces : List (List ℕ)) → word ≡ joined_by colon pieces → Reads (IsPorts word) (ports_from pieces)
unfolding ports_from joined_by text
ports_from_lem word [] is = refl
ports_from_lem word (port ∷ []) is =
    reads_then (Number 0 65535 port) (IsPorts word) (number_in 0 65535 port) _ (number_reads 0 65535 port) λ n one.
    (one.2, one.2, inl (is ∙ one.0, refl))
ports_from_lem word (low ∷ high ∷ []) is =
    reads_then (Number 0 65535 low) (IsPorts word) (number_in 0 65535 low) _ (number_reads 0 65535 low) λ l first.
    reads_then (Number 0 65535 high) (IsPorts word) (number_in 0 65535 high) _ (number_reads 0 65535 high) λ h second.
    (first.2, second.2, inr (rw (first.0, second.0) at is))
ports_from_lem word (low ∷ high ∷ other ∷ pieces) is = refl

ports_reads : (word : List ℕ) → Reads (IsPorts word) (ports_of word)
unfolding ports_of
ports_reads word = ports_from_lem word (parted colon word) (put_together colon word (parted colon word) refl)

ports_read : (word : List ℕ) (range : Range) → IsPorts word range → ports_of word ≡ good range
unfolding ports_of ports_from joined_by text is_digit
ports_read word range (low_fits, high_fits, inl (one, alike)) =
    rw (one, numbers_parted colon range.low [] refl, number_read_lem 0 65535 range.low (omega arith) low_fits)
    (λ i. good (record { low = range.low; high = sym alike i }))
ports_read word range (low_fits, high_fits, inr two) =
    rw (
      two,
      numbers_parted colon range.low (range.high ∷ []) refl,
      number_read_lem 0 65535 range.low (omega arith) low_fits,
      number_read_lem 0 65535 range.high (omega arith) high_fits,
    )

-- Protocols. A number's digits are none of the names.
no_name : (n : ℕ) (name : List ℕ) → number_of name ≡ none → same (decimal n) name ≡ false
no_name n name other =
    not_says (says_same (decimal n) name) (λ e. none_some (sym other ∙ ap number_of (sym e) ∙ number_of_decimal n))

protocol_reads : (word : List ℕ) → Reads (IsProtocol word) (protocol_of word)
unfolding protocol_of numbered_protocol
protocol_reads word =
    by_test (same word (text "tcp")) (λ t. rw t (6, refl, inl (same_eq word (text "tcp") t, refl))) λ f.
    by_test (same word (text "udp")) (λ t. rw (f, t) (17, refl, inr (inl (same_eq word (text "udp") t, refl)))) λ g.
    by_test (same word (text "icmp")) (λ t. rw (f, g, t) (1, refl, inr (inr (inl (same_eq word (text "icmp") t, refl))))) λ h.
    rw (f, g, h)
    (reads_then (Number 1 255 word) (IsProtocol word) (number_in 1 255 word) _ (number_reads 1 255 word) λ n is.
    (n, refl, inr (inr (inr is))))

protocol_read : (word : List ℕ) (range : Range) → IsProtocol word range → protocol_of word ≡ good range
unfolding protocol_of numbered_protocol same text number_of numeral_read is_digit
protocol_read word range (n, means, inl (is, six)) = rw (is, means, six)
protocol_read word range (n, means, inr (inl (is, seventeen))) = rw (is, means, seventeen)
protocol_read word range (n, means, inr (inr (inl (is, one)))) = rw (is, means, one)
protocol_read word range (n, means, inr (inr (inr (is, above, below)))) =
    rw (
      is,
      means,
      no_name n (text "tcp") refl,
      no_name n (text "udp") refl,
      no_name n (text "icmp") refl,
      number_read_lem 1 255 n above below,
    )

-- What a word of each kind means.
pub meant_reads : (kind : Kind) (word : List ℕ) → Reads (Means kind word) (meant kind word)
unfolding meant
meant_reads Protocol word = protocol_reads word
meant_reads Address word = address_reads word
meant_reads Port word = ports_reads word

meant_read : (kind : Kind) (word : List ℕ) (range : Range) → Means kind word range → meant kind word ≡ good range
unfolding meant
meant_read Protocol word range h = protocol_read word range h
meant_read Address word range h = address_read word range h
meant_read Port word range h = ports_read word range h

pub word_read_lem : WordRead
word_read_lem kind word range = (λ e. rw e at (meant_reads kind word), meant_read kind word range)

pub word_not_read : (kind : Kind) (word : List ℕ) (why : Why) → meant kind word ≡ bad why → why ≡ NotRead
word_not_read kind word why e = rw e at (meant_reads kind word)

-- "A mask `/n` becomes the address range": the addresses with the same first bits.
some_host : (n : ℕ) → 1 ≤ hosts n
some_host n = one-le-pow (32 - n) 2 (omega arith)

same_part : (h q x : ℕ) → 1 ≤ h → ((q * h ≤ x) × (x ≤ q * h + (h - 1))) ↔ (x / h ≡ q)
same_part h q x some = (
  λ (from, to). div-eq_of_lt-le h {m = x} from (omega arith),
  λ e. rw (← e) (div-mul-le_self x h, omega (arith, lt-div-mul-add {a = x} {b = h} some)),
)

pub mask_is_prefix : MaskIsPrefix
unfolding lies masked
mask_is_prefix address n x =
    let range = masked address n in
    let in_range = says_and (says_at_most range.low x) (says_at_most x range.high) in
    let in_part = same_part (hosts n) (address / hosts n) x (some_host n) in
    (λ e. in_part.0 (in_range.0 e), λ e. in_range.1 (in_part.1 e))

-- What a word means fits its width and, if it isn't ports, rises.
masked_rises : (address n : ℕ) → (masked address n).low ≤ (masked address n).high
unfolding masked
masked_rises address n = omega arith

masked_fits : (address n : ℕ) → address ≤ 256 ^ 4 - 1 → n ≤ 32 → (masked address n).high ≤ 256 ^ 4 - 1
unfolding masked
masked_fits address n small fits =
    let h = hosts n in
    let bits : n + (32 - n) ≡ 32 = omega arith in
    let whole : 2 ^ n * h ≡ 256 ^ 4 = sym (pow-add 2 n (32 - n)) ∙ ap (λ (k : ℕ). 2 ^ k) bits in
    let below : address / h < 2 ^ n = (div-lt_iff_lt-mul {k = h} {x = address} (some_host n)).1 (omega (arith, whole)) in
    omega (arith, whole, some_host n, mul-le-mul_right h below)

abbrev Bounded : ℕ → Range → Type 0
Bounded most range = (range.low ≤ range.high) × (range.high ≤ most)

address_bounded : (word : List ℕ) (range : Range) → IsAddress word range → Bounded (256 ^ 4 - 1) range
address_bounded word range h =
    let address = address_number h.a h.b h.c h.d in
    let small = number_small h.a h.b h.c h.d h.a_fits h.b_fits h.c_fits h.d_fits in
    rw h.means (masked_rises address h.n, masked_fits address h.n small h.n_fits)

protocol_bounded : (word : List ℕ) (range : Range) → IsProtocol word range → Bounded 255 range
protocol_bounded word range (n, means, inl (is, six)) = rw (means, six) (omega arith)
protocol_bounded word range (n, means, inr (inl (is, seventeen))) = rw (means, seventeen) (omega arith)
protocol_bounded word range (n, means, inr (inr (inl (is, one)))) = rw (means, one) (omega arith)
protocol_bounded word range (n, means, inr (inr (inr (is, above, below)))) = rw means (omega arith)

means_fits : (kind : Kind) (word : List ℕ) (range : Range) → Means kind word range
    → (range.low ≤ (full kind).high) × (range.high ≤ (full kind).high)
unfolding full
means_fits Protocol word range h = let bounded = protocol_bounded word range h in (omega arith, bounded.1)
means_fits Address word range h = let bounded = address_bounded word range h in (omega arith, bounded.1)
means_fits Port word range h = (h.0, h.1)

module _ (kind : Kind) (word : List ℕ) (range : Range) (e : meant kind word ≡ good range) where
  pub low_fits : range.low ≤ (full kind).high
  low_fits = (means_fits kind word range ((word_read_lem kind word range).0 e)).0

  pub high_fits : range.high ≤ (full kind).high
  high_fits = (means_fits kind word range ((word_read_lem kind word range).0 e)).1

pub protocol_rises : (word : List ℕ) (range : Range) → meant Protocol word ≡ good range → range.low ≤ range.high
protocol_rises word range e = (protocol_bounded word range ((word_read_lem Protocol word range).0 e)).0

pub address_rises : (word : List ℕ) (range : Range) → meant Address word ≡ good range → range.low ≤ range.high
address_rises word range e = (address_bounded word range ((word_read_lem Address word range).0 e)).0
