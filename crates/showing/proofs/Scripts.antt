-- A script value that is read: its type is its first byte, and it has as many commands as its bytes say. Assumes nothing.
use Prim.Native.Nat.{ℕ, ◌≤◌}
use native.Mathlib.Omega.{arith}
use mathlib.Core.Path.{◌≡◌, sym, ◌∙◌}
use mathlib.Core.Logic.{inl, inr}
use mathlib.Core.List.{List, [], ◌∷◌, ◌++◌}
use lib.ListN.{length, get_or}
use Rattle.policy.proofs.Types.{script_types}
use Rattle.deployment.specs.Bytes.{number, number_from, part}
use Rattle.deployment.specs.Values.{script_of}
use Rattle.deployment.specs.Commands.{command_count}
use Rattle.deployment.proofs.Records.{first_byte}
use Rattle.deployment.proofs.Scripts.{script_of_lem}
use Rattle.replay.specs.Answers.{commands_of, Readable}
use Rattle.replay.proofs.Scripts.{script_count}
use Rattle.lines.specs.Text.{text, named, lines_text}
use Rattle.showing.specs.Text.{script_text}

pub script_starts : (value : List ℕ) → Readable value → 1 ≤ length value
unfolding number number_from part
script_starts [] (script, read) =
    let (known, typed, every) = script_of_lem [] script read in
    let none : script.type ≡ 0 = typed in
    absurd (elim ((script_types script.type).types.0 known) [ inl e ↦ omega arith | inr e ↦ omega arith ])
script_starts (b ∷ value) readable = omega arith

pub script_shown : (value : List ℕ) → Readable value
    → named "script type" (get_or value 0 0) ++ (named " commands" (command_count value) ++ (text "\n" ++ lines_text 1 (commands_of (script_of value))))
    ≡ script_text (script_of value)
unfolding script_text commands_of
script_shown value readable =
    let (script, read) = readable in
    let (known, typed, every) = script_of_lem value script read in
    let type : get_or value 0 0 ≡ script.type = sym (typed ∙ first_byte value (script_starts value readable)) in
    let count : command_count value ≡ length script.commands = sym (script_count value readable) ∙ rw read in
    rw (read, type, count)
