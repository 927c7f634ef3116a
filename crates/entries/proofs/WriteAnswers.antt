-- `lists::write` itself, by its contract as the checker reads it: any two answers that it allows are equal, with every byte of the place;
-- what it writes reads back, an accepted file is written again, a place is kept where it turns away, and each number is answered exactly
-- when its row holds. Assumes nothing.
use Prim.Native.Nat.{ℕ}
use mathlib.Core.Path.{◌≡◌, sym, ◌∙◌, ap}
use mathlib.Core.Logic.{◌↔◌}
use mathlib.Core.List.{List, [], ◌∷◌}
use Rattle.deployment.specs.Contents.{Contents}
use Rattle.deployment.specs.File.{accepted, read_file, file_of}
use Rattle.deployment.specs.FieldValues.{FieldValues, Writing, left_by, writing, written_numbers, read_values, TooSmall}
use Rattle.deployment.specs.Properties.{AreBytes, ValuesFail}
use Rattle.deployment.specs.Claims.{values_of, AreValues}
use Rattle.std.specs.Prelude.{Result, Ok}
use Rattle.deployment.specs.declared.Refusal.{Refusal}
use Rattle.deployment.proofs.Lent.{same_left}
use Rattle.reader.specs.Answers.{values_gathered, file_read}
use Rattle.reader.specs.declared.Layout.{Layout}
use Rattle.entries.specs.Answers.{written_values}
use Rattle.entries.specs.WriteClaims.{ReadsBack}
use Rattle.entries.proofs.WriteClaims.{
  written_reads_back,
  accepted_written_again,
  gathered_written_again,
  turned_away_keeps,
  refused_for_room,
  refused_for_values,
}
use Rattle.entries.proofs.lists.write.Reads as write

pub one_answer : (κ : _) (a : _) (r s : Result ℕ Refusal) (e f : _) → write.Post κ a r e → write.Post κ a s f
    → (r ≡ s) × (e.1.0.now ≡ f.1.0.now)
one_answer κ a r s e f p q = same_left p q

-- "what it writes reads back as the same contents"
pub what_is_written_reads_back : (κ : _) (a : _) (n : ℕ) (e : _) → write.Post κ a (Ok n) e → AreValues a.0.now
    → ReadsBack a.0.now a.1.0.now e.1.0.now n
what_is_written_reads_back κ a n e p are =
    rw (ap (λ (w : Writing). w.place) p)
    (written_reads_back a.0.now a.1.0.now n are (sym (ap (λ (w : Writing). w.answer) p)))

-- "those of an accepted file, written, give that file"
pub an_accepted_file_is_written_again : (κ : _) (a : _) (r : Result ℕ Refusal) (e : _) → write.Post κ a r e → (file : List ℕ) (c : Contents)
    → AreBytes file → read_file file ≡ accepted c → a.0.now ≡ values_of c
    → left_by r e.1.0.now ≡ writing file a.1.0.now
an_accepted_file_is_written_again κ a r e p file c bytes read same =
    p ∙ ap (λ (v : FieldValues). written_values v a.1.0.now) same ∙ accepted_written_again file c a.1.0.now bytes read

pub a_gathered_file_is_written_again : (κ : _) (a : _) (r : Result ℕ Refusal) (e : _) → write.Post κ a r e → (file : List ℕ) (layout : Layout)
    → AreBytes file → file_read file ≡ Ok layout → a.0.now ≡ values_gathered layout file
    → left_by r e.1.0.now ≡ writing file a.1.0.now
a_gathered_file_is_written_again κ a r e p file layout bytes read same =
    p ∙ ap (λ (v : FieldValues). written_values v a.1.0.now) same ∙ gathered_written_again file layout a.1.0.now bytes read

-- "When turned away, every lent place keeps its bytes"
pub turned_away_keeps_the_place : (κ : _) (a : _) (r : Result ℕ Refusal) (e : _) → write.Post κ a r e → (number at : ℕ)
    → written_numbers r ≡ number ∷ at ∷ [] → e.1.0.now ≡ a.1.0.now
turned_away_keeps_the_place κ a r e p number at turned =
    ap (λ (w : Writing). w.place) p
    ∙ turned_away_keeps a.0.now a.1.0.now number at (sym (ap (λ (w : Writing). written_numbers w.answer) p) ∙ turned)

-- 13, and every other number
pub write_refuses_for_room : (κ : _) (a : _) (r : Result ℕ Refusal) (e : _) → write.Post κ a r e → (at : ℕ)
    → (written_numbers r ≡ 13 ∷ at ∷ []) ↔ TooSmall file_of (read_values a.0.now) a.1.0.now at
write_refuses_for_room κ a r e p at = rw (ap (λ (w : Writing). w.answer) p) (refused_for_room a.0.now a.1.0.now at)

pub write_refuses_for_values : (κ : _) (a : _) (r : Result ℕ Refusal) (e : _) → write.Post κ a r e → (number at : ℕ) → ¬ (number ≡ 13)
    → (written_numbers r ≡ number ∷ at ∷ []) ↔ (ValuesFail a.0.now number × (at ≡ 0))
write_refuses_for_values κ a r e p number at other =
    rw (ap (λ (w : Writing). w.answer) p) (refused_for_values a.0.now a.1.0.now number at other)
