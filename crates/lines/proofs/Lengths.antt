-- How long lines are: numbers of 64 bits have at most twenty digits, those of two bytes five, so a line of a plan has at most 15 bytes in a
-- script of type 1 and 21 in one of type 2, and a plan's head has 64. Assumes nothing.
use Rattle.std.proofs.Common.{◌≡◌, ℕ, suc, ◌+◌, ◌*◌, ◌^◌, ◌<◌, ◌≤◌, cond, eqb, List, [], ◌∷◌, ◌++◌, length, get_or, refl, ap, mul-le-mul_left, mul-suc, arith, length-append}
use mathlib.Core.List.{Memᴰ}
use Rattle.policy.specs.Command.{coded}
use Rattle.policy.specs.Properties.{Allows}
use Rattle.policy.specs.declared.Command.{Command}
use Rattle.policy.specs.declared.Command.TheVariants.{App, DelRule, Ins, DelPlace, Mov}
use Rattle.console.specs.declared.Maker.{Maker}
use Rattle.console.specs.declared.Maker.TheVariants.{A, B}
use Rattle.deployment.specs.Checked.{why_number}
use Rattle.deployment.specs.File.{refused, read_file}
use Rattle.deployment.specs.Properties.{AreBytes, Scripted, fields_bytes}
use Rattle.deployment.specs.Values.{Script}
use Rattle.policy.specs.Judge.{verdict_numbers}
use Rattle.policy.specs.declared.Verdict.{Verdict}
use Rattle.policy.specs.declared.Verdict.TheVariants.{Broken, Elsewhere, Unordered, NotFull, Safe}
use Rattle.deployment.specs.declared.Refusal.{Refusal}
use Rattle.policy.proofs.Types.{script_types}
use Rattle.deployment.proofs.Numbers.{why_small}
use Rattle.deployment.proofs.Reader.{refusal_row}
use Rattle.deployment.proofs.Scripts.{type_small}
use Rattle.lines.specs.Text.{text, decimal, spaced, named, move_words, words_of, second_text, command_text, line_text, lines_text, head_text, block_text, refused_text, spaced_all, verdict_text}
use Rattle.lines.specs.Printing.{most_number}
use Rattle.lines.proofs.Digits.{length_decimal}

pub length_spaced : (n : ℕ) → length (spaced n) ≡ suc (length (decimal n))
unfolding spaced text
length_spaced n = refl

pub spaced_short : (n : ℕ) → n < 2 ^ 64 → length (spaced n) ≤ 21
spaced_short n h = omega (arith, length_spaced n, length_decimal 19 n (omega arith))

-- one number more, of those one behind the other
pub one_more : (n : ℕ) (numbers : List ℕ) (size : ℕ) → n < 2 ^ 64 → length (spaced_all numbers) ≤ size → length (spaced_all (n ∷ numbers)) ≤ 21 + size
unfolding spaced_all
one_more n numbers size h short = omega (arith, length-append (spaced n) (spaced_all numbers), spaced_short n h)

pub none_yet : length (spaced_all []) ≤ 0
unfolding spaced_all
none_yet = omega arith

-- any number of them
pub all_short : (numbers : List ℕ) → ((i : ℕ) → get_or numbers i 0 < 2 ^ 64) → length (spaced_all numbers) ≤ most_number * length numbers
all_short [] small = none_yet
all_short (n ∷ numbers) small =
    omega (
      arith,
      one_more n numbers (most_number * length numbers) (small 0) (all_short numbers (λ i. small (suc i))),
      mul-suc most_number (length numbers),
    )

pub two_bytes_short : (n : ℕ) → n < 65536 → length (spaced n) ≤ 6
two_bytes_short n h = omega (arith, length_spaced n, length_decimal 4 n (omega arith))

pub length_head : (type initial target kept commands : ℕ)
    → length (head_text type initial target kept commands)
    ≡ 34 + (length (spaced type) + (length (spaced initial) + (length (spaced target) + (length (spaced kept) + length (spaced commands)))))
unfolding head_text named text
length_head type initial target kept commands = simp length-append (omega arith)

length_refused : (r : Refusal) → length (refused_text r) ≡ 11 + (length (spaced (why_number r.why)) + length (spaced r.at))
unfolding refused_text named text
length_refused r = simp length-append (omega arith)

pub refused_short : (r : Refusal) → r.at < 2 ^ 64 → length (refused_text r) ≤ 53
refused_short r h =
    omega (
      arith,
      length_refused r,
      spaced_short (why_number r.why) (omega (arith, why_small r.why)),
      spaced_short r.at h,
    )

pub few_numbers : (v : Verdict) → length (verdict_numbers v) ≤ 3
unfolding verdict_numbers
few_numbers (Broken fault at) = omega arith
few_numbers (Elsewhere commands) = omega arith
few_numbers (Unordered at place) = omega arith
few_numbers NotFull = omega arith
few_numbers Safe = omega arith

pub numbers_line_short : (numbers : List ℕ) → length (spaced_all numbers) ≤ 63 → length (text "verdict" ++ (spaced_all numbers ++ text "\n")) ≤ 71
unfolding text
numbers_line_short numbers h = omega (arith, length-append (spaced_all numbers) (10 ∷ []))

pub verdict_short : (v : Verdict) → length (spaced_all (verdict_numbers v)) ≤ 63 → length (verdict_text v) ≤ 71
unfolding verdict_text
verdict_short v h = numbers_line_short (verdict_numbers v) h

-- A command in a maker's words: a name of four bytes and one number, or a name, two numbers and what stands between them.
number_bytes : (n : ℕ) → n < 65537 → 4 + length (decimal n ++ []) ≤ 9
number_bytes n small = omega (arith, length-append (decimal n) [], length_decimal 4 n (omega arith))

numbers_bytes_lem : (between : List ℕ) (i n : ℕ) → i < 65537 → n < 65537 → length (decimal i ++ (between ++ decimal n)) ≤ 10 + length between
numbers_bytes_lem between i n first second =
    omega (
      arith,
      length-append (decimal i) (between ++ decimal n),
      length-append between (decimal n),
      length_decimal 4 i (omega arith),
      length_decimal 4 n (omega arith),
    )

abbrev pub most_worded : Maker → ℕ
most_worded A = 15
most_worded B = 23

of_either : (m : Maker) {size : ℕ} → size ≤ 15 → size ≤ most_worded m
of_either A short = short
of_either B short = omega arith

pub worded_short : (m : Maker) (k : Command) → (coded k).one < 65537 → (coded k).two < 65537 → length (command_text m k) ≤ most_worded m
unfolding command_text words_of move_words second_text text coded
worded_short m (App r) one two = of_either m (omega (arith, number_bytes r one))
worded_short m (DelRule r) one two = of_either m (omega (arith, number_bytes r one))
worded_short m (Ins i r) one two = of_either m (omega (arith, numbers_bytes_lem (32 ∷ []) i r one two))
worded_short m (DelPlace i) one two = of_either m (omega (arith, number_bytes i one))
worded_short A (Mov i j) one two = omega (arith, numbers_bytes_lem (32 ∷ []) i j one two)
worded_short B (Mov i b) one two = omega (arith, numbers_bytes_lem (text " before ") i b one two)

pub command_short : (c : Command) → (coded c).one < 65536 → (coded c).two < 65536 → length (command_text A c) ≤ 15
command_short c one two = worded_short A c (omega arith) (omega arith)

-- Commands in document 01's words: those of type 1 have one number, those of type 2 at most two.
unfoldable pub most_command : ℕ → ℕ
most_command type = cond (eqb type 1) 9 15

module _ (type : ℕ) where
  one_number : {size : ℕ} → type ≡ 1 → size ≤ 9 → size ≤ most_command type
  unfolding most_command
  one_number is short = rw is short

  two_numbers_lem : {size : ℕ} → type ≡ 2 → size ≤ 15 → size ≤ most_command type
  unfolding most_command
  two_numbers_lem is short = rw is short

  pub command_of_type : (c : Command) → Allows type c → (coded c).one < 65536 → (coded c).two < 65536 → length (command_text A c) ≤ most_command type
  unfolding command_text words_of move_words second_text text coded
  command_of_type (App r) allowed one two = one_number (((script_types type).app r).0 allowed) (omega (arith, number_bytes r (omega arith)))
  command_of_type (DelRule r) allowed one two = one_number (((script_types type).del_rule r).0 allowed) (omega (arith, number_bytes r (omega arith)))
  command_of_type (Ins i r) allowed one two = two_numbers_lem (((script_types type).ins i r).0 allowed) (command_short (Ins i r) one two)
  command_of_type (DelPlace i) allowed one two = two_numbers_lem (((script_types type).del_place i).0 allowed) (command_short (DelPlace i) one two)
  command_of_type (Mov i j) allowed one two = two_numbers_lem (((script_types type).mov i j).0 allowed) (command_short (Mov i j) one two)

-- A line has six bytes besides the command: a step of four digits, a blank and the end of the line.
line_short : (most step : ℕ) (c : Command) → step < 10000 → length (command_text A c) ≤ most → length (line_text step c) ≤ 6 + most
unfolding line_text text
line_short most step c few short = simp length-append (omega (arith, length_decimal 3 step few))

-- lines whose commands have at most so many bytes
pub lines_within : (most step : ℕ) (script : List Command) → step + length script ≤ 10000
    → ((c : Command) → Memᴰ c script → length (command_text A c) ≤ most) → length (lines_text step script) ≤ (6 + most) * length script
unfolding lines_text
lines_within most step [] few short = omega arith
lines_within most step (c ∷ script) few short =
    omega (
      arith,
      length-append (line_text step c) (lines_text (suc step) script),
      line_short most step c (omega arith) (short c (Memᴰ.head refl)),
      lines_within most (suc step) script (omega arith) (λ d t. short d (Memᴰ.tail t)),
      mul-suc (6 + most) (length script),
    )

pub lines_short : (step : ℕ) (script : List Command) → step + length script ≤ 10000
    → ((c : Command) → Memᴰ c script → length (command_text A c) ≤ 15) → length (lines_text step script) ≤ 21 * length script
lines_short step script few short = lines_within 15 step script few short

-- A plan's block, by its script's type.
abbrev pub most_block : ℕ → ℕ
most_block type = 64 + (6 + most_command type) * 1024

pub block_short : (initial target kept : ℕ) (script : Script) → initial < 65536 → target < 65536 → kept < 65536
    → length script.commands ≤ 1024 → Scripted script
    → length (block_text script.type initial target kept script.commands) ≤ most_block script.type
unfolding block_text
block_short initial target kept script i t k few right =
    let type = script.type in
    let commands = script.commands in
    omega (
      arith,
      length-append (head_text type initial target kept (length commands)) (lines_text 1 commands),
      length_head type initial target kept (length commands),
      two_bytes_short type (omega (arith, type_small type right.type)),
      two_bytes_short initial i,
      two_bytes_short target t,
      two_bytes_short kept k,
      two_bytes_short (length commands) (omega arith),
      lines_within (most_command type) 1 commands (omega arith) (λ d in-script. command_of_type type d (right.typed d in-script) (right.one d in-script) (right.two d in-script)),
      mul-le-mul_left (6 + most_command type) few,
    )

-- A refusal's position is inside the file.
pub position_inside : (file : List ℕ) (r : Refusal) → AreBytes file → read_file file ≡ refused r → r.at ≤ length file
position_inside file r bytes e =
    let away = (refusal_row file r bytes).0 e in
    omega (arith, away.counted, ap length away.is, length-append (fields_bytes away.fields) away.left)
