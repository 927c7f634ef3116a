-- Accepted values, in a file or as field values: they are what planners, judge and writer ask for, and what these answer for them is the
-- entry's answer to what was read. The idea: what is accepted is valid and stands in the values. Assumes nothing.
use Prim.Native.Nat.{ℕ, ◌/◌, ◌≤◌, ◌<◌}
use native.Mathlib.Omega.{arith}
use mathlib.Core.Path.{◌≡◌, refl, sym, ◌∙◌, ap, subst}
use mathlib.Core.List.{List}
use mathlib.Core.Option.{Option, none, some}
use lib.ListN.{length}
use Rattle.std.specs.Prelude.{Result, Ok, Err, Option as CodeOption, Some, None}
use Rattle.policy.specs.Policy.{most_rules, most_listed}
use Rattle.policy.specs.Claims.{Admitted, Keepable, Accepted}
use Rattle.policy.specs.Judge.{verdict}
use Rattle.policy.specs.declared.Verdict.{Verdict}
use Rattle.deployment.specs.Values.{Script, numbers_of, numbers_bytes, script_of, script_bytes}
use Rattle.deployment.specs.Contents.{Contents}
use Rattle.deployment.specs.File.{Reading, accepted, refused, read_to_judge, needs_script, file_of}
use Rattle.deployment.specs.FieldValues.{FieldValues, values_read, read_values, Left, left_alone, Writing, writing}
use Rattle.deployment.specs.Properties.{AreBytes, Scripted, Valid}
use Rattle.deployment.specs.Claims.{values_of, AreValues}
use Rattle.deployment.specs.declared.Why.TheVariants.{NoScript}
use Rattle.deployment.specs.declared.Refusal.{Refusal}
use Rattle.plans.specs.declared.Plan.{Plan}
use Rattle.deployment.proofs.Values.{by_option, none_some, keep_numbers}
use Rattle.deployment.proofs.Scripts.{script_read_lem}
use Rattle.deployment.proofs.Lent.{for_contents}
use Rattle.catalogue.specs.Answers.{checking}
use Rattle.values.proofs.ValuesLent.{LentRead, values_accepted}
use Rattle.reader.specs.Answers.{value_at, value_given, value_or_empty, shown}
use Rattle.reader.specs.Claims.{ListStands, ScriptStands, StandsIf}
use Rattle.reader.specs.declared.Span.{Span}
use Rattle.reader.specs.declared.Layout.{Layout}
use Rattle.reader.proofs.FileAnswers.{Holds, holds_to_judge}
use Rattle.reader.proofs.ToJudge.{scripted}
use Rattle.replay.specs.Answers.{commands_of, Readable}
use Rattle.plans.specs.Plans.{made_one_of, made_one, made_two_of, made_two, keep_of, placed_plan}
use Rattle.writer.specs.Answers.{given_bytes, needed}
use Rattle.writer.proofs.Claims.{given_is_file, given_fits}
use Rattle.entries.specs.Answers.{planned, judged_contents, judged_reading, written_values}

-- the values of accepted contents
pub record Gives (c : Contents) (size : ℕ) (initial target : List ℕ) (keep : Option (List ℕ)) : Type 0 where
  pub valid : Valid c
  pub counted : size ≡ length c.catalogue
  pub first : numbers_of initial ≡ c.initial
  pub last : numbers_of target ≡ c.target
  pub kept : keep_of keep ≡ c.keep

-- a reading that accepts them
pub record Given (reading : Reading) (size : ℕ) (initial target : List ℕ) (keep : Option (List ℕ)) : Type 0 where
  pub contents : Contents
  pub read : reading ≡ accepted contents
  pub gives : Gives contents size initial target keep

-- with a script among them
pub record ToJudge (reading : Reading) (size : ℕ) (initial target : List ℕ) (keep : Option (List ℕ)) (script : List ℕ) : Type 0 where
  pub given : Given reading size initial target keep
  pub is : Script
  pub there : given.contents.script ≡ some is
  pub commands : script_of script ≡ some is

within : (c : Contents) → Valid c → (l : List ℕ) → Admitted (length c.catalogue) l → Admitted most_rules l
within c valid l policy =
    record { inside = λ r t. omega (arith, policy.inside r t, valid.catalogue.few); distinct = policy.distinct }

module _ {reading : Reading} {size : ℕ} {initial target : List ℕ} {keep : Option (List ℕ)} (g : Given reading size initial target keep) where
  -- Plans.
  pub planners_ask : Accepted most_rules (numbers_of initial) (numbers_of target) (keep_of keep)
      × (length (numbers_of initial) ≤ most_listed) × (length (numbers_of target) ≤ most_listed)
  planners_ask =
      let c = g.contents in
      let gives = g.gives in
      let valid = gives.valid in (
        rw (gives.first, gives.last, gives.kept)
            (record {
              first = within c valid c.initial valid.initial.sound;
              last = within c valid c.target valid.target.sound;
              keepable = valid.keep;
            }),
        rw gives.first valid.initial.few,
        rw gives.last valid.target.few,
      )

  pub one_planned : (place : List ℕ) {left : Left (Result Plan Refusal)} → left ≡ placed_plan (made_one_of (numbers_of initial) (numbers_of target)) place
      → left ≡ planned made_one reading place
  unfolding planned made_one
  one_planned place is =
      for_contents (λ c. placed_plan (made_one c) place) (left_alone Err place) g.read (is ∙ rw (g.gives.first, g.gives.last))

  pub two_planned : (place : List ℕ) {left : Left (Result Plan Refusal)}
      → left ≡ placed_plan (made_two_of (numbers_of initial) (numbers_of target) (keep_of keep)) place
      → left ≡ planned made_two reading place
  unfolding planned made_two
  two_planned place is =
      for_contents (λ c. placed_plan (made_two c) place) (left_alone Err place) g.read
      (is ∙ rw (g.gives.first, g.gives.last, g.gives.kept))

-- The verdict.
module _ {reading : Reading} {size : ℕ} {initial target : List ℕ} {keep : Option (List ℕ)} {script : List ℕ}
    (j : ToJudge reading size initial target keep script) where
  pub judge_asks : (size ≤ most_rules) × Admitted size (numbers_of initial) × Admitted size (numbers_of target) × Readable script
  judge_asks =
      let gives = j.given.gives in
      let valid = gives.valid in (
        rw gives.counted valid.catalogue.few,
        rw (gives.counted, gives.first) valid.initial.sound,
        rw (gives.counted, gives.last) valid.target.sound,
        (j.is, j.commands),
      )

  pub said : {v : Verdict} → v ≡ verdict size (numbers_of initial) (numbers_of target) (commands_of (script_of script))
      → Ok v ≡ judged_reading reading
  unfolding judged_reading judged_contents
  said is =
      let gives = j.given.gives in
      for_contents judged_contents Err j.given.read
      (ap Ok (is ∙ rw (gives.counted, gives.first, gives.last, j.there, j.commands)))

-- A file.
keep_stands : (file : List ℕ) (place : CodeOption Span) (keep : Option (List ℕ)) → StandsIf (ListStands file) place keep
    → keep_of (value_given place file) ≡ keep
unfolding keep_of value_given
keep_stands file None none at = refl
keep_stands file None (some l) at = absurd at
keep_stands file (Some span) none at = absurd at
keep_stands file (Some span) (some l) at = ap some at.numbers

module _ {reading : Reading} {file : List ℕ} {layout : Layout} (held : Holds reading file layout) {initial target : List ℕ}
    (i : initial ≡ value_at layout.initial file) (t : target ≡ value_at layout.target file) where
  pub file_given : {keep : Option (List ℕ)} → keep ≡ value_given layout.keep file → Given reading layout.rules initial target keep
  file_given k =
      let c = held.contents in
      let stands = held.stands in
      record {
        contents = c;
        read = held.is;
        gives =
            record {
              valid = stands.valid;
              counted = stands.count;
              first = ap numbers_of i ∙ stands.initial.numbers;
              last = ap numbers_of t ∙ stands.target.numbers;
              kept = ap keep_of k ∙ keep_stands file layout.keep c.keep stands.keep;
            };
      }

-- a script that stands in it
pub record ScriptThere (file : List ℕ) (place : CodeOption Span) (s : Script) : Type 0 where
  pub bytes : value_or_empty place file ≡ script_bytes s
  pub read : script_of (value_or_empty place file) ≡ some s

script_stands : (file : List ℕ) (place : CodeOption Span) (script : Option Script) (s : Script) → StandsIf (ScriptStands file) place script
    → script ≡ some s → ScriptThere file place s
unfolding value_or_empty
script_stands file None none s at e = none_some e
script_stands file None (some t) s at e = absurd at
script_stands file (Some span) none s at e = absurd at
script_stands file (Some span) (some t) s at e =
    let same : t ≡ s = cc in record { bytes = at.bytes ∙ ap script_bytes same; read = at.script ∙ ap some same }

-- a file to be judged holds its contents, with a script among them
module _ (file : List ℕ) (layout : Layout) (bytes : AreBytes file) (e : Ok layout ≡ shown (read_to_judge file)) where
  pub holds_script : (h : Holds (read_to_judge file) file layout) × (s : Script) × (h.contents.script ≡ some s) × ScriptThere file layout.script s
  holds_script =
      let held : Holds (read_to_judge file) file layout = (holds_to_judge file layout bytes e).0 in
      let (s, has) = (scripted file held.contents held.is).1 in
      (held, s, has, script_stands file layout.script held.contents.script s held.stands.script has)

  pub file_to_judge : {initial target script : List ℕ} → initial ≡ value_at layout.initial file → target ≡ value_at layout.target file
      → script ≡ value_or_empty layout.script file
      → ToJudge (read_to_judge file) layout.rules initial target (value_given layout.keep file) script
  unfolding file_given holds_script
  file_to_judge i t commands =
      let (held, s, has, there) = holds_script in
      record { given = file_given held i t refl; is = s; there = has; commands = ap script_of commands ∙ there.read }

-- Field values: as they are read, and as they are once they are opened.
pub opened : {v w : FieldValues} → w ≡ v → AreValues v → Ok tt ≡ checking (values_read v) → LentRead w
opened {v} is are e = subst LentRead (sym is) (values_accepted v are e)

keep_given : (c : Contents) → Valid c → (o keep : Option (List ℕ)) → c.keep ≡ o
    → elim o [ none ↦ none | some l ↦ some (numbers_bytes l) ] ≡ keep → keep_of keep ≡ o
unfolding keep_of
keep_given c valid none keep is e = rw (← e)
keep_given c valid (some l) keep is e =
    let both : Keepable c.initial c.target (some l) = rw is at valid.keep in
    rw (← e) (ap some (keep_numbers (length c.catalogue) c.target l valid.catalogue.few valid.target.sound both.1))

-- turned away before a script is asked for
pub turned_to_judge : (size : ℕ) (reading : Reading) {refusal : Refusal} → reading ≡ refused refusal → needs_script size reading ≡ refused refusal
unfolding needs_script
turned_to_judge size reading is = rw is

-- and not where there is one
pub script_asked : (size : ℕ) (c : Contents) (s : Script) → c.script ≡ some s → needs_script size (accepted c) ≡ accepted c
unfolding needs_script
script_asked size c s is =
    let Asked : Option Script → Type 0 =
    λ script. elim script [ some s ↦ accepted c | none ↦ refused (record { why = NoScript; at = size }) ] ≡ accepted c in
    subst Asked (sym is) refl

module _ {v : FieldValues} (found : LentRead v) where
  pub values_given_lem : Given (read_values v) (length v.rules / 27) v.initial v.target v.keep
  unfolding values_of
  values_given_lem =
      let c = found.contents in
      record {
        contents = c;
        read = found.is;
        gives =
            record {
              valid = found.valid;
              counted = found.counted;
              first = found.initial;
              last = found.target;
              kept = keep_given c found.valid c.keep v.keep refl (ap (λ (w : FieldValues). w.keep) found.written);
            };
      }

  -- what is written of the script of the contents
  script_written : elim found.contents.script [ none ↦ none | some s ↦ some (script_bytes s) ] ≡ v.script
  unfolding values_of
  script_written = ap (λ (w : FieldValues). w.script) found.written

  pub values_to_judge : {script : List ℕ} → v.script ≡ some script
      → ToJudge (needs_script 0 (read_values v)) (length v.rules / 27) v.initial v.target v.keep script
  unfolding values_given_lem
  values_to_judge {script} has =
      by_option found.contents.script
      (λ absent. none_some (rw absent at script_written ∙ has))
      (λ s is.
      let bytes : script_bytes s ≡ script = cc (rw is at script_written) in
      let right : Scripted s = rw is at found.valid.script in
      record {
        given = record { contents = found.contents; read = ap (needs_script 0) found.is ∙ script_asked 0 found.contents s is; gives = values_given_lem.gives };
        is = s;
        there = is;
        commands = ap script_of (sym bytes) ∙ script_read_lem s right;
      })

  pub values_scriptless : v.script ≡ none → needs_script 0 (read_values v) ≡ refused (record { why = NoScript; at = 0 })
  unfolding needs_script
  values_scriptless lacks =
      by_option found.contents.script
      (λ absent. rw (found.is, absent))
      (λ s is. none_some (sym lacks ∙ sym (rw is at script_written)))

  -- The file.
  pub writer_asks : needed v < 65536
  writer_asks = omega (arith, given_fits v found.contents found.valid found.written)

  pub file_written : (place : List ℕ) {left : Writing} → left ≡ writing (given_bytes v) place → left ≡ written_values v place
  unfolding written_values
  file_written place is =
      for_contents (λ c. writing (file_of c) place) (left_alone Err place) found.is
      (is ∙ ap (λ (output : List ℕ). writing output place) (given_is_file v found.contents found.written))
