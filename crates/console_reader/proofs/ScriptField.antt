-- The script field of a text: what the first pass over the lines tells, and what the second one and the head leave in the place. The idea: the
-- commands that all lines give stand behind the head, and head and records are the field. Assumes nothing.
use Prim.Native.Nat.{ℕ, ◌+◌, ◌*◌, ◌≤◌, ◌<◌}
use native.Mathlib.Omega.{arith}
use mathlib.Core.Path.{◌≡◌, refl, sym, ap}
use mathlib.Core.Bool.{true, false}
use mathlib.Core.List.{List}
use lib.ListN.{length}
use lib.Seq.{sets}
use Rattle.policy.specs.Policy.{most_commands}
use Rattle.policy.specs.Command.{is_type}
use Rattle.policy.specs.declared.Command.{Command}
use Rattle.console.specs.declared.Maker.{Maker}
use Rattle.deployment.specs.Values.{script_bytes}
use Rattle.deployment.specs.File.{field_bytes, script_tag}
use Rattle.deployment.specs.FieldValues.{left_by, Writing, writing, unwritten}
use Rattle.deployment.specs.declared.Refusal.{Refusal}
use Rattle.deployment.specs.declared.Why.TheVariants.{Coding, Room}
use Rattle.std.specs.Prelude.{Result, Ok, Err}
use Rattle.deployment.proofs.Lent as lent
use Rattle.plans.specs.Sending.{script_head, records}
use Rattle.plans.proofs.Sending.{length_field, closed_put}
use Rattle.console_text.specs.Reading.{Understood, understood, turned, read_from, text_read}
use Rattle.console_text.specs.Answers.{script_left, script_of_text}
use Rattle.console_reader.specs.Found.{AllFound}

-- What a pass over the lines tells.
counted_is : (read : Understood) (n : ℕ) (before after : List ℕ) → AllFound read (Ok n) before after
    → (commands : List Command) × (read ≡ understood commands) × (length commands ≡ n)
counted_is (understood commands) n before after found = (commands, refl, let same : length commands ≡ n = cc found.0 in same)
counted_is (turned refusal) n before after e = absurd (cc)

turned_is : (read : Understood) (refusal : Refusal) (before after : List ℕ) → AllFound read (Err refusal) before after
    → read ≡ turned refusal
turned_is (understood commands) refusal before after found = absurd (cc found.0)
turned_is (turned other) refusal before after e = let same : other ≡ refusal = cc in ap turned same

module _ (read : Understood) (answer : Result ℕ Refusal) (before after : List ℕ) (found : AllFound read answer before after) where
  pub pass_counted : (n : ℕ) → answer ≡ Ok n → (commands : List Command) × (read ≡ understood commands) × (length commands ≡ n)
  pass_counted n is = counted_is read n before after (rw is at found)

  pub pass_turned : (refusal : Refusal) → answer ≡ Err refusal → read ≡ turned refusal
  pass_turned refusal is = turned_is read refusal before after (rw is at found)

-- The field of commands, `needed` bytes long.
module _ (type n : ℕ) (place : List ℕ) (read : Understood) (commands : List Command)
    (is : read ≡ understood commands) (long : length commands ≡ n) where
  abbrev field : List ℕ
  field = field_bytes script_tag (script_bytes (record { type = type; commands = commands }))

  abbrev needed : ℕ
  needed = 3 + 1 + 5 * n

  field_long : length field ≡ needed
  field_long = omega (arith, long, length_field (record { type = type; commands = commands }))

  -- 13
  pub field_small : length place < needed → left_by (Err (record { why = Room; at = needed })) place ≡ script_left type read place
  unfolding script_left writing
  field_small small = rw is (lent.no_room Err (Ok (length field)) field place needed field_long small)

  pub field_written : (answer : Result ℕ Refusal) (middle : List ℕ) {last : List ℕ} → needed ≤ length place → AllFound read answer place middle
      → last ≡ sets middle 0 (script_head type n) → left_by (Ok needed) last ≡ script_left type read place
  unfolding script_left writing
  field_written answer middle room found e =
      let put : middle ≡ sets place 4 (records commands) = (rw is at found).1 in
      rw (is, ← field_long) (lent.with_room Err (Ok (length field)) field place needed field_long room
      (closed_put place commands type n (omega (arith, long, room)) put (sym long) e))

-- A text by its type: 11 at 0 where there is none, and else by its lines.
module _ (m : Maker) (type : ℕ) (s place : List ℕ) where
  pub no_type : is_type type ≡ false → left_by (Err (record { why = Coding; at = 0 })) place ≡ script_of_text m type s place
  unfolding script_of_text text_read script_left unwritten
  no_type other = rw other

  pub of_type_lem : {left : Writing} → is_type type ≡ true → left ≡ script_left type (read_from m type most_commands 1 s) place
      → left ≡ script_of_text m type s place
  unfolding script_of_text text_read
  of_type_lem is e = rw is e

  pub turned_text : (refusal : Refusal) → is_type type ≡ true → read_from m type most_commands 1 s ≡ turned refusal
      → left_by (Err refusal) place ≡ script_of_text m type s place
  unfolding script_left unwritten
  turned_text refusal is read = of_type_lem is (rw read refl)
