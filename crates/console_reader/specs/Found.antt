-- What the readers of console text tell of a text from a position on, beside the definitions of `console_text`: a value and the position behind what
-- was read, or that it isn't there. Assumes nothing.
use Rattle.std.specs.Prelude.{Result, Ok, Err, Option as CodeOption, Some, None, ℕ, ◌≡◌, List, length}
use Rattle.std.proofs.Math.Option.{Option, none, some}
use Rattle.std.proofs.lemmas.List.Edits.{sets}
use Rattle.policy.specs.Command.{Coded}
use Rattle.policy.specs.declared.Command.{Command}
use Rattle.deployment.specs.Checked.{Checked, good, bad}
use Rattle.deployment.specs.declared.Refusal.{Refusal}
use Rattle.deployment.specs.declared.Why.{Why}
use Rattle.plans.specs.Sending.{records}
use Rattle.numerals.specs.Numerals.{Got}
use Rattle.numerals.specs.Found.{held, Left}
use Rattle.console_text.specs.Reading.{Understood, understood, turned}
use Rattle.console_reader.specs.declared.line.Line.{Line}
use Rattle.console_reader.specs.declared.Next.{Next}

-- what is read, whatever the reason where it isn't
abbrev pub if_good : {A : Type 0} → Checked A → Option A
if_good (good a) = some a
if_good (bad why) = none

-- a line that is read, or not
abbrev pub LineFound : List ℕ → Checked (Got Coded) → CodeOption Line → Type 0
LineFound s (good got) answer =
    (end : ℕ)
    × (answer ≡ Some (record { code = got.value.code; one = held got.value.one; two = held got.value.two; end = end }))
    × Left s end got.rest
LineFound s (bad why) answer = answer ≡ None

-- a command, or why not
abbrev pub NextFound : List ℕ → Checked (Got Command) → Result Next Why → Type 0
NextFound s (good got) answer = (end : ℕ) × (answer ≡ Ok (record { command = got.value; end = end })) × Left s end got.rest
NextFound s (bad why) answer = answer ≡ Err why

-- the records of all commands put into a place behind the head, and how many they are; or the refusal
abbrev pub AllFound : Understood → Result ℕ Refusal → List ℕ → List ℕ → Type 0
AllFound (understood commands) answer before after = (answer ≡ Ok (length commands)) × (after ≡ sets before 4 (records commands))
AllFound (turned refusal) answer before after = answer ≡ Err refusal
