-- Between two fields: what has been read, and one field more, in the terms of the reader's own functions. Reading itself is that of
-- the deployment crate. Assumes nothing.
use Rattle.std.specs.Prelude.{Result, Ok, Err, ℕ, ◌+◌, ◌*◌, ◌≡◌, List, [], ◌∷◌, ◌++◌, length, drop}
use Rattle.std.proofs.Math.Option.{some}
use Rattle.policy.specs.Rule.{Rule}
use Rattle.deployment.specs.Checked.{Checked, good, bad, ◌>>=◌}
use Rattle.policy.specs.declared.Action.{Action}
use Rattle.deployment.specs.Values.{Script, rule_width, rule_bytes, numbers_bytes, default_bytes, script_bytes}
use Rattle.deployment.specs.File.{
  Fields,
  set_catalogue,
  set_initial,
  set_target,
  set_default,
  set_keep,
  set_script,
  last_tag,
  Field,
  field_read,
  with_field,
  head_bytes,
  rule_tag,
  initial_tag,
  target_tag,
  default_tag,
  keep_tag,
  script_tag,
}
use Rattle.deployment.specs.Properties.{CanStand, Readable, fields_bytes}
use Rattle.reader.specs.Answers.{keep_bytes, action_bytes, command_bytes, span_if, span_given, end_of}
use Rattle.reader.specs.declared.Layout.{Layout}
use Rattle.reader.specs.declared.file.Progress.{Progress}
use Rattle.reader.specs.declared.file.Head.{Head}
use Rattle.deployment.specs.declared.Why.{Why}

-- where the values of the fields read so far stand
unfoldable pub layout_so_far : Fields → Layout
layout_so_far f =
    let rules_end = length f.catalogue * (head_bytes + rule_width) in
    let initial_end = end_of rules_end (keep_bytes f.initial) in
    let target_end = end_of initial_end (keep_bytes f.target) in
    let default_end = end_of target_end (action_bytes f.default) in
    let keep_end = end_of default_end (keep_bytes f.keep) in
    record {
      rules = length f.catalogue;
      initial = span_if rules_end (keep_bytes f.initial);
      target = span_if initial_end (keep_bytes f.target);
      default = span_given target_end (action_bytes f.default);
      keep = span_given default_end (keep_bytes f.keep);
      script = span_given keep_end (command_bytes f.script);
    }

-- what the reader knows of them
unfoldable pub progress_of : Fields → Progress
progress_of f = record { at = length (fields_bytes f); last = last_tag f; layout = layout_so_far f }

-- these fields have been read from the file's first bytes
pub record Begun (file : List ℕ) (progress : Progress) (f : Fields) : Type 0 where
  pub readable : Readable f
  pub is : file ≡ fields_bytes f ++ drop (length (fields_bytes f)) file
  pub known : progress ≡ progress_of f

-- fields with one more, by its tag, which can stand behind them, and its value
pub data More (f : Fields) : ℕ → List ℕ → Fields → Type 0 where
  a_rule : (rule : Rule) → CanStand f rule_tag → More f rule_tag (rule_bytes rule) (set_catalogue f (f.catalogue ++ (rule ∷ [])))
  an_initial : (i : List ℕ) → CanStand f initial_tag → More f initial_tag (numbers_bytes i) (set_initial f (some i))
  a_target : (t : List ℕ) → CanStand f target_tag → More f target_tag (numbers_bytes t) (set_target f (some t))
  a_default : (d : Action) → CanStand f default_tag → More f default_tag (default_bytes d) (set_default f (some d))
  a_keep : (k : List ℕ) → CanStand f keep_tag → More f keep_tag (numbers_bytes k) (set_keep f (some k))
  a_script : (s : Script) → CanStand f script_tag → More f script_tag (script_bytes s) (set_script f (some s))

-- a field's head, and a whole field, as the reader shows them
unfoldable pub head_shown : Checked Field → Result Head Why
head_shown (good field) = Ok (record { tag = field.tag; size = length field.value })
head_shown (bad why) = Err why

unfoldable pub step_shown : Checked Fields → Result Progress Why
step_shown (good f) = Ok (progress_of f)
step_shown (bad why) = Err why

-- the field at the head of the bytes that are left, then the tests of its value
unfoldable pub step_from : Fields → List ℕ → Result Progress Why
step_from f left = step_shown (do
  field ← field_read f left
  with_field f field)
