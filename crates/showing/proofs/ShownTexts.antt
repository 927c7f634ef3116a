-- The text of a file: the refusal's line, or what stands in the file, part by part, read from where it stands. Assumes nothing.
use Prim.Native.Nat.{ℕ, ◌≤◌, ◌<◌}
use native.Mathlib.Omega.{arith}
use mathlib.Core.Path.{◌≡◌, refl, sym, ◌∙◌, ap}
use mathlib.Core.Bool.{cond}
use mathlib.Core.List.{List, ◌++◌, Memᴰ}
use mathlib.Core.Option.{Option, none, some}
use Rattle.std.specs.Prelude.{Option as CodeOption, Some, None, is_some}
use lib.ListN.{length, length-append, take}
use Rattle.policy.proofs.Order.{sublist_in, sublist_length}
use Rattle.deployment.specs.Values.{Script, numbers_of}
use Rattle.deployment.specs.Catalogue.{catalogue_of}
use Rattle.deployment.specs.Contents.{Contents}
use Rattle.deployment.specs.File.{accepted, refused, read_file}
use Rattle.deployment.specs.Properties.{IfThere, Valid}
use Rattle.deployment.specs.declared.Refusal.{Refusal}
use Rattle.deployment.proofs.Values.{none_some}
use Rattle.policy.specs.Claims.{Keepable}
use Rattle.policy.specs.declared.Action.TheVariants.{Deny, Permit}
use Rattle.reader.specs.Answers.{value_at, value_given}
use Rattle.reader.specs.Claims.{ListStands, ScriptStands, StandsIf, Stands}
use Rattle.reader.specs.declared.Layout.{Layout}
use Rattle.reader.specs.declared.Span.{Span}
use Rattle.reader.proofs.FileAnswers.{default_placed}
use Rattle.replay.specs.Answers.{Readable}
use Rattle.lines.specs.Text.{text, refused_text}
use Rattle.rule_lines.specs.Text.{catalogue_text}
use Rattle.rule_lines.proofs.Lengths.{catalogue_short}
use Rattle.showing.specs.Text.{list_text, policies_text, default_text, numbers_given, keep_text, script_given, script_text, show_text, show_printed}
use Rattle.showing.specs.Printing.{most_shown}
use Rattle.showing.proofs.Lengths.{list_short, default_short, keep_short, script_short}

pub printed_refusal : (file : List ℕ) (refusal : Refusal) → read_file file ≡ refused refusal → show_printed file ≡ refused_text refusal
unfolding show_printed
printed_refusal file refusal e = rw (e, show_printed)

pub printed_contents : (file : List ℕ) (c : Contents) → read_file file ≡ accepted c → show_printed file ≡ show_text c
unfolding show_printed
printed_contents file c e = rw (e, show_printed)

-- What may be absent, by the part of the file that it is.
pub keep_is : (file : List ℕ) (place : CodeOption Span) (keep : Option (List ℕ)) → StandsIf (ListStands file) place keep
    → numbers_given (value_given place file) ≡ keep
unfolding numbers_given value_given
keep_is file None none stands = refl
keep_is file None (some keep) stands = elim stands [ ]
keep_is file (Some span) none stands = elim stands [ ]
keep_is file (Some span) (some keep) stands = ap some stands.numbers

pub script_is : (file : List ℕ) (place : CodeOption Span) (script : Option Script) → StandsIf (ScriptStands file) place script
    → script_given (value_given place file) ≡ script
unfolding script_given value_given
script_is file None none stands = refl
script_is file None (some script) stands = elim stands [ ]
script_is file (Some span) none stands = elim stands [ ]
script_is file (Some span) (some script) stands = stands.script

pub script_readable : (file : List ℕ) (place : CodeOption Span) (script : Option Script) → StandsIf (ScriptStands file) place script
    → (value : List ℕ) → value_given place file ≡ some value → Readable value
unfolding value_given
script_readable file None script stands value e = none_some e
script_readable file (Some span) none stands value e = elim stands [ ]
script_readable file (Some span) (some script) stands value e =
    let same : value_at span file ≡ value = cc in rw (← same) (script, stands.script)

-- How long all of it is.
keep_lists : (size : ℕ) (initial target : List ℕ) (keep : Option (List ℕ)) → length initial ≤ 512
    → ((n : ℕ) → Memᴰ n initial → n < 65536) → Keepable initial target keep → IfThere (λ numbers. length (list_text numbers) ≤ 3079) keep
keep_lists size initial target none few small within = tt
keep_lists size initial target (some keep) few small within =
    list_short keep (omega (arith, sublist_length within.0)) (λ n t. small n (sublist_in within.0 n t))

pub shown_short : (c : Contents) → Valid c → length (show_text c) ≤ most_shown
unfolding show_text policies_text text
shown_short c valid =
    let rules : length c.catalogue ≤ 1024 = valid.catalogue.few in
    let initial : (n : ℕ) → Memᴰ n c.initial → n < 65536 = λ n t. omega (arith, valid.initial.sound.inside n t) in
    let target : (n : ℕ) → Memᴰ n c.target → n < 65536 = λ n t. omega (arith, valid.target.sound.inside n t) in
    simp length-append
    (omega (
      arith,
      catalogue_short c.catalogue rules valid.catalogue.recordable,
      list_short c.initial valid.initial.few initial,
      list_short c.target valid.target.few target,
      default_short c.default,
      keep_short c.keep (keep_lists (length c.catalogue) c.initial c.target c.keep valid.initial.few initial valid.keep),
      script_short c.script valid.script,
    ))

-- What stands in a file: the text of its parts is that of its contents.
module _ {file : List ℕ} {layout : Layout} {c : Contents} (stands : Stands file layout c) where
  abbrev parts : List ℕ
  parts =
      catalogue_text (take layout.rules (catalogue_of 3 file))
      ++ (policies_text (numbers_of (value_at layout.initial file)) (numbers_of (value_at layout.target file))
      ++ (default_text (cond (is_some layout.default) Permit Deny)
      ++ (keep_text (numbers_given (value_given layout.keep file))
      ++ script_text (script_given (value_given layout.script file)))))

  parts_shown : parts ≡ show_text c
  unfolding show_text
  parts_shown =
      rw (
        stands.among,
        stands.initial.numbers,
        stands.target.numbers,
        default_placed file layout c stands,
        keep_is file layout.keep c.keep stands.keep,
        script_is file layout.script c.script stands.script,
      )

  module _ (is : read_file file ≡ accepted c) where
    pub parts_printed : parts ≡ show_printed file
    parts_printed = parts_shown ∙ sym (printed_contents file c is)

    pub printed_short : length (show_printed file) ≤ most_shown
    printed_short = rw (printed_contents file c is) (shown_short c stands.valid)

  pub script_reads : (value : List ℕ) → value_given layout.script file ≡ some value → Readable value
  script_reads = script_readable file layout.script c.script stands.script
