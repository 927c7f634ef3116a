-- Replays over a file and over field values: the values of an accepted file pass their tests and are read as its contents; field values
-- are tested after their rules and their policy. Assumes nothing.
use Prim.Native.Nat.{ℕ, ◌/◌, ◌≤◌, min}
use native.Mathlib.Nat.{min-eq_left}
use native.Mathlib.Omega.{arith}
use mathlib.Core.Path.{◌≡◌, ◌∙◌}
use mathlib.Core.List.{List}
use mathlib.Core.Option.{some}
use lib.ListN.{length}
use Rattle.std.specs.Borrow.{Bor}
use Rattle.std.specs.Prelude.{Ok, Err, Option as CodeOption}
use Rattle.policy.specs.Policy.{most_rules}
use Rattle.policy.specs.Replay.{replay}
use Rattle.deployment.specs.Checked.{good}
use Rattle.deployment.specs.Values.{Script, rule_width, numbers_bytes, script_bytes}
use Rattle.deployment.specs.Catalogue.{record_count}
use Rattle.deployment.specs.Contents.{Contents}
use Rattle.deployment.specs.File.{read_to_judge}
use Rattle.deployment.specs.FieldValues.{lent, policy_value, script_value, Left, left_by, left_alone}
use Rattle.deployment.specs.Properties.{AreBytes, Listed, Scripted}
use Rattle.deployment.specs.declared.Why.{Why}
use Rattle.deployment.proofs.Lent.{for_contents}
use Rattle.deployment.proofs.Records.{catalogue_length}
use Rattle.deployment.proofs.ReadBack.{policy_reads, script_reads, list_fits_lem, script_fits_lem}
use Rattle.catalogue.specs.Answers.{checking}
use Rattle.reader.specs.Answers.{value_at, value_or_empty, shown}
use Rattle.reader.specs.Claims.{Stands}
use Rattle.reader.specs.declared.Layout.{Layout}
use Rattle.values.proofs.Given.{failed}
use Rattle.replay.specs.Answers.{commands_of}
use Rattle.last_list.specs.Last.{Ran, turned, replay_left, replayed_over, replayed_at_zero}
use Rattle.entries.specs.Answers.{policy_tested, replayed_contents, replayed_reading, replayed_values}
use Rattle.entries.proofs.Decisions.{tests_passed}
use Rattle.entries.proofs.Given.{ScriptThere, holds_script}

-- Values of valid contents pass.
values_pass : (size : ℕ) (initial : List ℕ) (s : Script) → size ≤ most_rules → Listed size initial → Scripted s
    → replayed_over size (numbers_bytes initial) (script_bytes s) ≡ good (replay size initial s.commands)
unfolding replayed_over policy_value script_value commands_of
values_pass size initial s few listed scripted =
    rw (
      list_fits_lem initial listed.few,
      policy_reads size initial few listed,
      script_fits_lem s scripted,
      script_reads s scripted,
    )

-- A file that is accepted with a script.
module _ (file : List ℕ) (layout : Layout) where
  contents_replayed : (c : Contents) (s : Script) → Stands file layout c → c.script ≡ some s → ScriptThere file layout.script s
      → replayed_over (min layout.rules 1024) (value_at layout.initial file) (value_or_empty layout.script file) ≡ good (replayed_contents c)
  unfolding replayed_contents commands_of
  contents_replayed c s stands has there =
      let few = stands.valid.catalogue.few in
      let counted : min layout.rules 1024 ≡ length c.catalogue = min-eq_left (omega (arith, stands.count)) ∙ stands.count in
      let scripted : Scripted s = rw has at stands.valid.script in
      rw (counted, stands.initial.bytes, there.bytes, has)
      (values_pass (length c.catalogue) c.initial s few stands.valid.initial scripted)

  pub replayed_file : AreBytes file → Ok layout ≡ shown (read_to_judge file) → (place : List ℕ) {initial script : List ℕ} {left : Left Ran}
      → initial ≡ value_at layout.initial file → script ≡ value_or_empty layout.script file
      → left ≡ replayed_at_zero (replayed_over (min layout.rules 1024) initial script) place → left ≡ replayed_reading (read_to_judge file) place
  unfolding replayed_at_zero replayed_reading
  replayed_file bytes e place initial-is script-is is =
      let (held, s, has, there) = holds_script file layout bytes e in
      for_contents (λ c. replay_left place (replayed_contents c)) (left_alone turned place) held.is
      (is ∙ rw (initial-is, script-is, contents_replayed held.contents s held.stands has there))

-- Field values, after the tests of the rules and the policy.
module _ (rules initial : List ℕ) (default : CodeOption (Bor (List ℕ))) (script place : List ℕ) where
  pub turned_before : (why : Why) → Err why ≡ checking (policy_tested rules initial (lent default))
      → left_by (turned (record { why = why; at = 0 })) place
      ≡ replayed_at_zero (replayed_values rules initial (lent default) script) place
  unfolding replayed_values replayed_at_zero
  turned_before why e = rw (failed (policy_tested rules initial (lent default)) why e)

  pub replayed_values_lem : Ok tt ≡ checking (policy_tested rules initial (lent default))
      → replayed_at_zero (replayed_over (min (length rules / rule_width) 1024) initial script) place
      ≡ replayed_at_zero (replayed_values rules initial (lent default) script) place
  unfolding replayed_values record_count
  replayed_values_lem e =
      let (is, right) = tests_passed rules initial default e in
      rw (is, right.few, catalogue_length 0 rules)
