-- Script values that are accepted, alone or in a file: they are read, and no text of one is longer than the longest. The idea: what passes the tests
-- of a script value is a script that a file can hold. And what is left for a value, by how its tests end. Assumes nothing.
use Prim.Native.Nat.{ℕ, ◌≤◌}
use native.Mathlib.Omega.{arith}
use mathlib.Core.Path.{◌≡◌, sym, ◌∙◌, ap}
use mathlib.Core.List.{List}
use mathlib.Core.Option.{Option, some}
use lib.ListN.{length}
use Rattle.policy.specs.declared.Command.{Command}
use Rattle.console.specs.declared.Maker.{Maker}
use Rattle.console.specs.declared.Maker.TheVariants.{A, B}
use Rattle.deployment.specs.Checked.{good}
use Rattle.deployment.specs.Values.{Script, script_of, script_fits}
use Rattle.deployment.specs.Contents.{script_read}
use Rattle.deployment.specs.File.{read_to_judge}
use Rattle.deployment.specs.FieldValues.{script_value, left_by, left_alone, Writing}
use Rattle.deployment.specs.Properties.{AreBytes}
use Rattle.deployment.specs.declared.Why.{Why}
use Rattle.std.specs.Prelude.{Ok, Err, Option as CodeOption, Some}
use Rattle.deployment.specs.declared.Refusal.{Refusal}
use Rattle.deployment.proofs.Lent.{for_contents, turned_away, turned_at_zero, for_passed}
use Rattle.deployment.proofs.Scripts.{script_scripted}
use Rattle.deployment.proofs.Tests.{Each, tested, says_script, script_tested, each_then}
use Rattle.catalogue.specs.Answers.{checking}
use Rattle.values.proofs.Given.{passed, failed}
use Rattle.reader.specs.Answers.{value_or_empty, shown}
use Rattle.reader.specs.Claims.{ScriptStands}
use Rattle.reader.specs.declared.Span.{Span}
use Rattle.reader.specs.declared.Layout.{Layout}
use Rattle.reader.proofs.ShownReadings.{shown_refused}
use Rattle.reader.proofs.FileAnswers.{holds_to_judge}
use Rattle.replay.specs.Answers.{commands_of, Readable}
use Rattle.console_text.specs.Text.{script_text}
use Rattle.console_text.specs.Answers.{text_left, text_of_value, text_of_reading, text_of_file}
use Rattle.console_text.specs.Claims.{most_console}
use Rattle.console_text.proofs.Claims.{longest_text}
use Rattle.console_writer.specs.Printing.{most_text, Fit}

pub fit_readable : (value : List ℕ) → Fit value → Readable value
fit_readable value (script, read, right) = (script, read)

-- the longest text is maker B's
either_inside : (m : Maker) → most_console m ≤ most_text
either_inside A = omega arith
either_inside B = omega arith

pub fit_short : (m : Maker) (value : List ℕ) → Fit value → length (script_text m (commands_of (script_of value))) ≤ most_text
unfolding commands_of
fit_short m value (script, read, right) = rw read (omega (arith, (longest_text m).0 script right, either_inside m))

-- what passes the tests
abbrev IsFit : List ℕ → Option Script → Type 0
IsFit value read = Fit value × (commands_of (script_of value) ≡ commands_of read)

value_fit : (value : List ℕ) → AreBytes value → Each (IsFit value) (λ why. Unit {0}) (script_value (some value))
unfolding script_value
value_fit value bytes =
    tested (Each (IsFit value) (λ why. Unit {0})) (script_fits (length value)) (λ e. tt) λ fits.
    each_then (λ script. script_of value ≡ some script) (IsFit value) (λ why. Unit {0}) (script_read value) (λ script. good (some script))
    (script_tested (Each (λ script. script_of value ≡ some script) (λ why. Unit {0})) value (λ wrong. tt) (λ script read. read))
    (λ script read. ((script, read, script_scripted value bytes ((says_script (length value)).0 fits) script read), ap commands_of read))

-- What is left for a value that fails its tests ..
pub value_turned : (m : Maker) (value place : List ℕ) (why : Why) → Err why ≡ checking (script_value (some value))
    → left_by (Err (record { why = why; at = 0 })) place ≡ text_of_value m value place
unfolding text_of_value
value_turned m value place why e = turned_at_zero _ (left_alone Err place) why (failed (script_value (some value)) why e)

-- .. and for one that passes them.
module _ (value : List ℕ) (bytes : AreBytes value) (e : Ok tt ≡ checking (script_value (some value))) where
  passed_read : (read : Option Script) × (script_value (some value) ≡ good read) × IsFit value read
  passed_read = let (read, is) = passed (script_value (some value)) e in (read, is, rw is at (value_fit value bytes))

  pub passed_fit : Fit value
  passed_fit = passed_read.2.0

  pub value_written : (m : Maker) (place : List ℕ) {left : Writing} → left ≡ text_left m (commands_of (script_of value)) place
      → left ≡ text_of_value m value place
  unfolding text_of_value
  value_written m place written =
      let (read, is, known) = passed_read in
      for_passed _ (left_alone Err place) is (written ∙ ap (λ (commands : List Command). text_left m commands place) known.1)

-- What is left for a file that is turned away ..
pub file_turned : (m : Maker) (file place : List ℕ) (refusal : Refusal) → Err refusal ≡ shown (read_to_judge file)
    → left_by (Err refusal) place ≡ text_of_file m file place
unfolding text_of_file text_of_reading
file_turned m file place refusal e = turned_away _ (left_alone Err place) refusal (shown_refused (read_to_judge file) refusal e)

-- .. and for one that is accepted: its script at its place.
script_here : (file : List ℕ) {place : CodeOption Span} {span : Span} {script : Script} → place ≡ Some span → ScriptStands file span script
    → script_of (value_or_empty place file) ≡ some script
unfolding value_or_empty
script_here file placed stands = rw placed stands.script

module _ (file : List ℕ) (layout : Layout) (bytes : AreBytes file) (e : Ok layout ≡ shown (read_to_judge file))
    {script : List ℕ} (is : script ≡ value_or_empty layout.script file) where
  pub file_fit : Fit script
  file_fit =
      let (held, own, span, has, placed, stands) = holds_to_judge file layout bytes e in
      (own, ap script_of is ∙ script_here file placed stands, rw has at held.stands.valid.script)

  pub file_written : (m : Maker) (place : List ℕ) {left : Writing} → left ≡ text_left m (commands_of (script_of script)) place
      → left ≡ text_of_file m file place
  unfolding text_of_file text_of_reading
  file_written m place written =
      let (held, own, span, has, placed, stands) = holds_to_judge file layout bytes e in
      let same : script_of script ≡ held.contents.script = ap script_of is ∙ script_here file placed stands ∙ sym has in
      for_contents _ (left_alone Err place) held.is (written ∙ ap (λ (o : Option Script). text_left m (commands_of o) place) same)
