-- The claims on the entries' answers. The idea: text over a file is an output for accepted contents, as every entry's is; a text that is read is one
-- output or one refusal, and both go by the one test of lengths. Assumes nothing.
use Prim.Native.Nat.{ℕ, ◌<◌}
use native.Mathlib.Omega.{arith}
use mathlib.Core.Path.{◌≡◌, refl, sym, ◌∙◌, ap}
use mathlib.Core.Logic.{◌↔◌, ⊎_elim}
use mathlib.Core.List.{List, [], ◌∷◌}
use mathlib.Core.Option.{Option, some}
use lib.ListN.{length}
use Rattle.policy.specs.Command.{is_type}
use Rattle.policy.specs.Properties.{ScriptType}
use Rattle.policy.specs.declared.Command.{Command}
use Rattle.policy.proofs.Tests.{by_test, never}
use Rattle.policy.proofs.Types.{is_type_lem, type_is}
use Rattle.console.specs.declared.Maker.{Maker}
use Rattle.deployment.specs.Checked.{Checked, good, bad, why_number, refusal_numbers}
use Rattle.deployment.specs.Values.{Script, script_bytes, script_fits}
use Rattle.deployment.specs.Contents.{Contents, script_read}
use Rattle.deployment.specs.File.{Reading, reading_numbers, field_bytes, script_tag}
use Rattle.deployment.specs.FieldValues.{Writing, left_by, left_alone, answered_at_zero, script_value, writing, unwritten, written_numbers}
use Rattle.std.specs.Prelude.{Result, Ok, Err}
use Rattle.deployment.specs.declared.Refusal.{Refusal}
use Rattle.deployment.proofs.Numbers.{both_same}
use Rattle.deployment.proofs.Tests.{Each, each_then, tested, script_tested}
use Rattle.deployment.proofs.Lent as lent
use Rattle.replay.specs.Answers.{commands_of}
use Rattle.console_text.specs.Text.{script_text}
use Rattle.console_text.specs.Reading.{Understood, understood, turned, text_read, text_numbers}
use Rattle.console_text.specs.Answers.{text_left, text_of_value, text_of_reading, script_left, script_of_text}
use Rattle.console_text.specs.AnswerClaims.{
  TextKeepsPlace,
  TextForRoom,
  TextForReading,
  ValueTextRefused,
  ValueTextForRoom,
  ScriptKeepsPlace,
  ScriptForRoom,
  ScriptForText,
  FieldComesBack,
  TextRefuses,
  ScriptRefuses,
}
use Rattle.console_text.proofs.Claims.{written_and_read, text_refused, type_refused}

pub text_keeps_place : TextKeepsPlace
unfolding text_of_reading text_left writing written_numbers
text_keeps_place m script reading place =
    lent.turned_away_keeps written_numbers Err (λ r. refl) (λ c. Ok (length (script_text m (script c)))) (λ c. refl) (λ c. script_text m (script c))
    reading place

pub text_for_room : TextForRoom
unfolding text_of_reading text_left writing written_numbers
text_for_room m script reading place =
    lent.refused_for_room written_numbers Err (λ r. refl) (λ c. Ok (length (script_text m (script c)))) (λ c. refl) (λ c. script_text m (script c))
    reading place

pub text_for_reading : TextForReading
unfolding text_of_reading text_left writing written_numbers
text_for_reading m script reading place =
    lent.refused_for_reading written_numbers Err (λ r. refl) (λ c. Ok (length (script_text m (script c)))) (λ c. refl) (λ c. script_text m (script c))
    reading place

pub value_text_refused : ValueTextRefused
unfolding text_of_value written_numbers refusal_numbers
value_text_refused m value place why is = rw is (refl, refl)

-- Refusal 13 is none of a script value's.
abbrev NeverRoom : {T : Type 0} → Checked T → Type 0
NeverRoom = Each (λ value. Unit {0}) (λ why. ¬ (why_number why ≡ 13))

value_never_room : (value : List ℕ) → NeverRoom (script_value (some value))
unfolding script_value
value_never_room value =
    tested NeverRoom (script_fits (length value)) (λ e is. omega arith) λ e.
    each_then (λ script. Unit {0}) (λ script. Unit {0}) (λ why. ¬ (why_number why ≡ 13)) (script_read value) _
    (script_tested NeverRoom value (λ wrong is. omega arith) (λ script h. tt)) (λ script t. tt)

value_room : (m : Maker) (place : List ℕ) (at : ℕ) (read : Checked (Option Script)) → NeverRoom read
    → (written_numbers (answered_at_zero (λ script. text_left m (commands_of script) place) (left_alone Err place) read).answer ≡ 13 ∷ at ∷ [])
    ↔ ((script : Option Script) × (read ≡ good script) × (length place < length (script_text m (commands_of script)))
    × (at ≡ length (script_text m (commands_of script))))
unfolding text_left writing written_numbers refusal_numbers
value_room m place at (bad why) other = (λ e. absurd (other (both_same e).0), λ h. absurd (let z : ◌≡◌ {A = ℕ} 0 1 = cc in omega arith))
value_room m place at (good script) other =
    let text = script_text m (commands_of script) in (
      lent.sent_cases Err (Ok (length text)) text place
          (λ w. written_numbers w.answer ≡ 13 ∷ at ∷ []
          → (same : Option Script) × (good script ≡ good same) × (length place < length (script_text m (commands_of same)))
          × (at ≡ length (script_text m (commands_of same))))
          (λ fits e. lent.no_numbers e) (λ small e. (script, refl, small, sym (both_same e).1)),
      λ h.
          let same : script ≡ h.0 = cc in
          lent.sent_cases Err (Ok (length text)) text place (λ w. written_numbers w.answer ≡ 13 ∷ at ∷ [])
          (λ fits. absurd (omega (arith, h.2, ap (λ (r : Option Script). length (script_text m (commands_of r))) same)))
          (λ small. rw (same, ← h.3)),
    )

pub value_text_for_room : ValueTextForRoom
unfolding text_of_value
value_text_for_room m value place at = value_room m place at (script_value (some value)) (value_never_room value)

-- What a text that is read leaves, by the three answers.
module _ (type : ℕ) (place : List ℕ) where
  abbrev field : List Command → List ℕ
  field commands = field_bytes script_tag (script_bytes (record { type = type; commands = commands }))

  script_keeps : (read : Understood) (number at : ℕ) → written_numbers (script_left type read place).answer ≡ number ∷ at ∷ []
      → (script_left type read place).place ≡ place
  unfolding script_left writing unwritten written_numbers
  script_keeps (turned refusal) number at = λ e. refl
  script_keeps (understood commands) number at =
      lent.sent_cases Err (Ok (length (field commands))) (field commands) place
      (λ w. written_numbers w.answer ≡ number ∷ at ∷ [] → w.place ≡ place) (λ fits e. lent.no_numbers e) (λ small e. refl)

  script_room : (read : Understood) (at : ℕ) → ¬ (text_numbers read ≡ 13 ∷ at ∷ [])
      → (written_numbers (script_left type read place).answer ≡ 13 ∷ at ∷ [])
      ↔ ((commands : List Command) × (read ≡ understood commands) × (length place < length (field commands)) × (at ≡ length (field commands)))
  unfolding script_left writing unwritten written_numbers text_numbers refusal_numbers
  script_room (turned refusal) at other = (λ e. absurd (other e), λ h. absurd (let z : ◌≡◌ {A = ℕ} 0 1 = cc in omega arith))
  script_room (understood commands) at other = (
    lent.sent_cases Err (Ok (length (field commands))) (field commands) place
        (λ w. written_numbers w.answer ≡ 13 ∷ at ∷ []
        → (same : List Command) × (understood commands ≡ understood same) × (length place < length (field same)) × (at ≡ length (field same)))
        (λ fits e. lent.no_numbers e) (λ small e. (commands, refl, small, sym (both_same e).1)),
    λ h.
        let same : commands ≡ h.0 = cc in
        lent.sent_cases Err (Ok (length (field commands))) (field commands) place (λ w. written_numbers w.answer ≡ 13 ∷ at ∷ [])
        (λ fits. absurd (omega (arith, h.2, ap (λ (l : List Command). length (field l)) same))) (λ small. rw (same, ← h.3)),
  )

  script_text_lem : (read : Understood) (number at : ℕ) → ¬ (number ≡ 13)
      → (written_numbers (script_left type read place).answer ≡ number ∷ at ∷ []) ↔ (text_numbers read ≡ number ∷ at ∷ [])
  unfolding script_left writing unwritten written_numbers text_numbers refusal_numbers
  script_text_lem (turned refusal) number at other = (λ e. e, λ e. e)
  script_text_lem (understood commands) number at other = (
    lent.sent_cases Err (Ok (length (field commands))) (field commands) place
        (λ w. written_numbers w.answer ≡ number ∷ at ∷ [] → ◌≡◌ {A = List ℕ} [] (number ∷ at ∷ [])) (λ fits e. e)
        (λ small e. absurd (other (sym (both_same e).0))),
    λ e. lent.no_numbers e,
  )

pub script_keeps_place : ScriptKeepsPlace
unfolding script_of_text
script_keeps_place m type s place = script_keeps type place (text_read m type s)

pub script_for_text : ScriptForText
unfolding script_of_text
script_for_text m type s place = script_text_lem type place (text_read m type s)

-- Refusal 13 is none of the text's: those have 55, 56, 4 or 11.
not_for_room : (m : Maker) (type : ℕ) (s : List ℕ) (at : ℕ) → ¬ (text_numbers (text_read m type s) ≡ 13 ∷ at ∷ [])
not_for_room m type s at e =
    by_test (is_type type)
    (λ t.
    ⊎_elim (λ no. omega (arith, no.0)) (λ more. ⊎_elim (λ beyond. omega (arith, beyond.0)) (λ many. omega (arith, many.0)) more)
    ((text_refused m type s 13 at (is_type_lem type t)).0 e).wrong)
    (λ f.
    let none : ¬ ScriptType type = λ there. never (type_is type there) f in
    let same = (both_same (sym (type_refused m type s none) ∙ e)).0 in
    omega (arith, same))

pub script_for_room : ScriptForRoom
unfolding script_of_text
script_for_room m type s place at = script_room type place (text_read m type s) at (not_for_room m type s at)

pub field_comes_back : FieldComesBack
unfolding script_of_text script_left
field_comes_back m script place right = rw (written_and_read m script right)

-- The claims of an entry, from its contract.
pub text_refuses : (m : Maker) (script : Contents → List Command) (reading : Reading) → ((at : ℕ) → ¬ (reading_numbers reading ≡ 13 ∷ at ∷ []))
    → {answer : (Result ℕ Refusal)} {before after : List ℕ} → left_by answer after ≡ text_of_reading m script reading before
    → TextRefuses m script reading answer before after
text_refuses m script reading other {answer} {before} p =
    let is : answer ≡ (text_of_reading m script reading before).answer = ap (λ (w : Writing). w.answer) p in
    record {
      keeps =
          λ number at turned.
          ap (λ (w : Writing). w.place) p ∙ text_keeps_place m script reading before number at (sym (ap written_numbers is) ∙ turned);
      room = λ at. rw is (text_for_room m script reading before at (other at));
      row = λ number at not-room. rw is (text_for_reading m script reading before number at not-room);
    }

pub script_refuses : (m : Maker) (type : ℕ) (s : List ℕ) {answer : (Result ℕ Refusal)} {before after : List ℕ} → left_by answer after ≡ script_of_text m type s before
    → ScriptRefuses m type s answer before after
script_refuses m type s {answer} {before} p =
    let is : answer ≡ (script_of_text m type s before).answer = ap (λ (w : Writing). w.answer) p in
    record {
      keeps =
          λ number at refused.
          ap (λ (w : Writing). w.place) p ∙ script_keeps_place m type s before number at (sym (ap written_numbers is) ∙ refused);
      row = λ number at not-room. rw is (script_for_text m type s before number at not-room);
    }
