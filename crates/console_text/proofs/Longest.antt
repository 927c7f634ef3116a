-- The longest text of a script: 2,048 lines of 16 bytes for maker A, of 24 for maker B. The idea: a number that is written has five digits at
-- most, the longest words are those of a move, and a text has at most its lines' length for each. Assumes nothing.
use Prim.Native.Nat.{ℕ, zero, suc, ◌*◌, ◌≤◌, ◌<◌}
use native.Mathlib.Omega.{arith}
use mathlib.Core.Path.{◌≡◌, refl, ap}
use mathlib.Core.Logic.{inr, ⊎_elim}
use mathlib.Core.List.Memᴰ
use mathlib.Core.List.{List, [], ◌∷◌, map, Memᴰ}
use lib.ListN.{length, length-append, length-map, replicate, length-replicate}
use Rattle.policy.specs.Policy.{most_commands}
use Rattle.policy.specs.Command.{coded}
use Rattle.policy.specs.declared.Command.{Command}
use Rattle.policy.specs.declared.Command.TheVariants.{Mov}
use Rattle.policy.proofs.Types.{script_types}
use Rattle.console.specs.Makers.{number_before, second_said, said}
use Rattle.console.specs.declared.Maker.{Maker}
use Rattle.console.specs.declared.Maker.TheVariants.{A, B}
use Rattle.console.proofs.Words.{said_one, said_small}
use Rattle.deployment.specs.Values.{Script}
use Rattle.deployment.specs.Properties.{Scripted}
use Rattle.lines.specs.Text.{text, decimal, digits, move_words, words_of, second_text, command_text}
use Rattle.lines.proofs.Lengths.{most_worded, worded_short}
use Rattle.console_text.specs.Text.{line_of, lines_of, script_text}
use Rattle.console_text.specs.Claims.{most_console}

-- the longest line of each maker: `mov 65535 65535`, and `move 65535 before 65536`, each with its line feed
abbrev pub most_line : Maker → ℕ
most_line m = suc (most_worded m)

line_short : (m : Maker) (k : Command) → (coded k).one < 65537 → (coded k).two < 65537 → length (line_of m k) ≤ most_line m
unfolding line_of text
line_short m k one two = omega (arith, length-append (command_text m k) (10 ∷ []), worded_short m k one two)

-- Lines that are short make a short text.
lines_short : (m : Maker) (most : ℕ) (words : List Command) → ((k : Command) → Memᴰ k words → length (line_of m k) ≤ most)
    → length (lines_of m words) ≤ length words * most
unfolding lines_of
lines_short m most [] h = omega arith
lines_short m most (k ∷ words) h =
    let first = h k (Memᴰ.head refl) in
    let others = lines_short m most words (λ j t. h j (Memᴰ.tail t)) in
    rw length-append (omega arith)

-- One that has that length: the same line over and over.
lines_alike : (m : Maker) (n : ℕ) (k : Command) → length (lines_of m (replicate n k)) ≡ n * length (line_of m k)
unfolding lines_of
lines_alike m zero k = omega arith
lines_alike m (suc n) k = let others = lines_alike m n k in rw length-append (omega arith)

said_alike : (m : Maker) (n : ℕ) (k : Command) → map (said m) (replicate n k) ≡ replicate n (said m k)
said_alike m zero k = refl
said_alike m (suc n) k = ap (λ (words : List Command). said m k ∷ words) (said_alike m n k)

all_alike : (n : ℕ) (k c : Command) → Memᴰ c (replicate n k) → c ≡ k
all_alike zero k c t = absurd (Memᴰ.not-nil t)
all_alike (suc n) k c t = ⊎_elim (λ e. e) (λ u. all_alike n k c u) (Memᴰ.cases_cons t)

-- The line of the longest move.
abbrev longest_move : Command
longest_move = Mov 65535 65535

longest_line : (m : Maker) → length (line_of m (said m longest_move)) ≡ most_line m
unfolding line_of command_text words_of move_words second_text coded text decimal digits said second_said number_before
longest_line A = refl
longest_line B = refl

-- No text of a script is longer ..
said_short : (m : Maker) (script : Script) → Scripted script → (k : Command) → Memᴰ k (map (said m) script.commands)
    → length (line_of m k) ≤ most_line m
said_short m script h k t =
    let (c, there, is) = Memᴰ.of_map (said m) script.commands t in
    let one : (coded (said m c)).one < 65537 = rw (said_one m c) (omega (arith, h.one c there)) in
    let two : (coded (said m c)).two < 65537 = omega (arith, said_small m c (h.two c there)) in
    rw (← is) (line_short m (said m c) one two)

within_most : (m : Maker) (lines : ℕ) → lines ≤ most_commands → lines * most_line m ≤ most_console m
within_most A lines few = omega arith
within_most B lines few = omega arith

pub no_longer : (m : Maker) (script : Script) → Scripted script → length (script_text m script.commands) ≤ most_console m
unfolding script_text
no_longer m script h =
    let words = map (said m) script.commands in
    let few = within_most m (length words) (rw (length-map script.commands (said m)) h.few) in
    omega (arith, lines_short m (most_line m) words (said_short m script h))

-- .. and a script that is one move over and over has it.
unfoldable pub same_moves : ℕ → Script
same_moves n = record { type = 2; commands = replicate n longest_move }

pub moves_scripted : (n : ℕ) → n ≤ most_commands → Scripted (same_moves n)
unfolding same_moves coded
moves_scripted n few =
    record {
      type = (script_types 2).types.1 (inr refl);
      few = rw (length-replicate n longest_move) few;
      typed = λ c t. rw (all_alike n longest_move c t) (((script_types 2).mov 65535 65535).1 refl);
      one = λ c t. rw (all_alike n longest_move c t) (omega arith);
      two = λ c t. rw (all_alike n longest_move c t) (omega arith);
    }

pub moves_long : (m : Maker) (n : ℕ) → length (script_text m (same_moves n).commands) ≡ n * most_line m
unfolding same_moves script_text
moves_long m n =
    rw (said_alike m n longest_move, lines_alike m n (said m longest_move), longest_line m)

pub most_reached : (m : Maker) → most_commands * most_line m ≡ most_console m
most_reached A = refl
most_reached B = refl
