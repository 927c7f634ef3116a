-- How long the text is: a number of two bytes has at most five digits and a blank, so a list of 512 has at most 3,079 bytes with its head, and
-- 2,048 commands with theirs 43,041. Assumes nothing.
use Prim.Native.Nat.{ℕ, ◌*◌, ◌≤◌, ◌<◌}
use native.Mathlib.Omega.{arith}
use mathlib.Core.Path.{refl}
use mathlib.Core.List.{List, [], ◌∷◌, Memᴰ}
use mathlib.Core.Option.{Option, none, some}
use lib.ListN.{length, length-append}
use Rattle.policy.specs.declared.Action.{Action}
use Rattle.policy.specs.declared.Action.TheVariants.{Deny, Permit}
use Rattle.deployment.specs.Values.{Script}
use Rattle.deployment.specs.Properties.{Scripted, IfThere}
use Rattle.deployment.proofs.Scripts.{type_small}
use Rattle.lines.specs.Text.{text, spaced, spaced_all, named}
use Rattle.lines.proofs.Lengths.{length_spaced, two_bytes_short, command_short, lines_short}
use Rattle.showing.specs.Text.{numbers_text, list_text, default_text, keep_text, script_text}

-- Lists.
spaced_short : (numbers : List ℕ) → ((n : ℕ) → Memᴰ n numbers → n < 65536) → length (spaced_all numbers) ≤ 6 * length numbers
unfolding spaced_all
spaced_short [] small = omega arith
spaced_short (n ∷ numbers) small =
    omega (
      arith,
      length-append (spaced n) (spaced_all numbers),
      two_bytes_short n (small n (Memᴰ.head refl)),
      spaced_short numbers (λ m t. small m (Memᴰ.tail t)),
    )

numbers_short : (numbers : List ℕ) → ((n : ℕ) → Memᴰ n numbers → n < 65536) → length (numbers_text numbers) ≤ 6 * length numbers
unfolding numbers_text text
numbers_short [] small = omega arith
numbers_short (n ∷ numbers) small =
    simp length-append
    (omega (
      arith,
      length_spaced n,
      two_bytes_short n (small n (Memᴰ.head refl)),
      spaced_short numbers (λ m t. small m (Memᴰ.tail t)),
    ))

pub list_short : (numbers : List ℕ) → length numbers ≤ 512 → ((n : ℕ) → Memᴰ n numbers → n < 65536) → length (list_text numbers) ≤ 3079
unfolding list_text text
list_short numbers few small =
    simp length-append (omega (arith, two_bytes_short (length numbers) (omega arith), numbers_short numbers small))

pub default_short : (action : Action) → length (default_text action) ≤ 15
unfolding default_text text
default_short Deny = omega arith
default_short Permit = omega arith

pub keep_short : (keep : Option (List ℕ)) → IfThere (λ numbers. length (list_text numbers) ≤ 3079) keep → length (keep_text keep) ≤ 3083
unfolding keep_text text
keep_short none short = omega arith
keep_short (some keep) short = omega arith

-- The script.
pub script_short : (script : Option Script) → IfThere Scripted script → length (script_text script) ≤ 43041
unfolding script_text named text
script_short none right = omega arith
script_short (some script) right =
    simp length-append
    (omega (
      arith,
      two_bytes_short script.type (omega (arith, type_small script.type right.type)),
      two_bytes_short (length script.commands) (omega (arith, right.few)),
      lines_short 1 script.commands (omega (arith, right.few)) (λ c t. command_short c (right.one c t) (right.two c t)),
    ))
