-- What is read of a file that is to be judged, from what is read of it: 12 where the layout has no script, the same where it has one. The
-- idea: contents have a script exactly when their layout says so. And what is accepted so has a script. Assumes nothing.
use Prim.Native.Nat.{ℕ}
use native.Mathlib.Omega.{arith}
use mathlib.Core.Path.{◌≡◌, refl, sym, ◌∙◌, ap}
use mathlib.Core.Bool.{true, false}
use mathlib.Core.List.{List}
use mathlib.Core.Option.{Option, none, some}
use lib.ListN.{length}
use Rattle.policy.proofs.Tests.{never}
use Rattle.deployment.specs.Values.{Script}
use Rattle.deployment.specs.Contents.{Contents}
use Rattle.deployment.specs.File.{Reading, accepted, refused, read_file, needs_script, read_to_judge}
use Rattle.deployment.specs.declared.Refusal.{Refusal}
use Rattle.deployment.specs.declared.Why.TheVariants.{NoScript}
use Rattle.deployment.proofs.Values.{by_option}
use Rattle.reader.specs.Answers.{command_bytes, span_given, layout_of, shown, file_read}
use Rattle.reader.specs.declared.Layout.{Layout}
use Rattle.std.specs.Prelude.{Ok, Err, is_some}
use Rattle.reader.proofs.ShownReadings.{file_refused, shown_accepted}

-- a script that may be there
asked : (size : ℕ) (c : Contents) (script : Option Script) → Reading
asked size c script = elim script [ some s ↦ accepted c | none ↦ refused (record { why = NoScript; at = size }) ]

without : (size end : ℕ) (c : Contents) (script : Option Script) → is_some (span_given end (command_bytes script)) ≡ false
    → asked size c script ≡ refused (record { why = NoScript; at = size })
unfolding asked span_given command_bytes
without size end c none e = refl
without size end c (some s) e = never refl e

with_one : (size end : ℕ) (c : Contents) (script : Option Script) → is_some (span_given end (command_bytes script)) ≡ true
    → asked size c script ≡ accepted c
unfolding asked span_given command_bytes
with_one size end c none e = never e refl
with_one size end c (some s) e = refl

module _ (file : List ℕ) where
  pub refused_too : (refusal : Refusal) → Err refusal ≡ file_read file → Err refusal ≡ shown (read_to_judge file)
  unfolding shown read_to_judge needs_script
  refused_too refusal e = rw (file_refused file refusal e)

  -- what is accepted for the judge has a script
  pub scripted : (c : Contents) → read_to_judge file ≡ accepted c → (read_file file ≡ accepted c) × ((s : Script) × (c.script ≡ some s))
  unfolding read_to_judge needs_script
  scripted c e = go (read_file file) e
    where
      go : (reading : Reading) → needs_script (length file) reading ≡ accepted c → (reading ≡ accepted c) × ((s : Script) × (c.script ≡ some s))
      go (refused refusal) e = absurd (let z : ◌≡◌ {A = ℕ} 0 1 = cc in omega arith)
      go (accepted d) e =
          by_option d.script
          (λ lacks. absurd (let z : ◌≡◌ {A = ℕ} 0 1 = cc (rw lacks at e) in omega arith))
          (λ s has. let same : d ≡ c = cc (rw has at e) in (ap accepted same, (s, rw same at has)))

  module _ (layout : Layout) (e : Ok layout ≡ file_read file) where
    -- the contents, whose script the layout speaks of
    contents : (c : Contents) × (layout ≡ layout_of c) × (read_to_judge file ≡ asked (length file) c c.script)
    unfolding file_read read_to_judge needs_script asked
    contents = let (c, same, read) = shown_accepted (read_file file) layout e in (c, same, ap (needs_script (length file)) read)

    pub no_script : is_some layout.script ≡ false → Err (record { why = NoScript; at = length file }) ≡ shown (read_to_judge file)
    unfolding shown layout_of
    no_script lacks =
        let (c, same, read) = contents in
        let missing : is_some (layout_of c).script ≡ false = rw same at lacks in
        ap shown (sym (read ∙ without (length file) _ c c.script missing))

    pub has_script : is_some layout.script ≡ true → Ok layout ≡ shown (read_to_judge file)
    unfolding shown layout_of
    has_script has =
        let (c, same, read) = contents in
        let found : is_some (layout_of c).script ≡ true = rw same at has in
        ap Ok same ∙ ap shown (sym (read ∙ with_one (length file) _ c c.script found))
