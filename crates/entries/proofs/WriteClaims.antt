-- The claims about the file that is written. The idea: what is written of accepted values is the file of their contents, or the refusal for
-- room, and both go by the one test of lengths. Assumes nothing.
use Prim.Native.Nat.{ℕ}
use native.Mathlib.Omega.{arith}
use mathlib.Core.Path.{◌≡◌, refl, sym, ap}
use mathlib.Core.Logic.{⊎_elim}
use mathlib.Core.List.{List, [], ◌∷◌}
use lib.ListN.{length, drop}
use lib.Seq.{take_at, drop_at}
use Rattle.deployment.specs.File.{Reading, accepted, refused, reading_numbers, file_of}
use Rattle.deployment.specs.FieldValues.{FieldValues, answered, left_alone, writing, filled, written_numbers, read_values}
use Rattle.deployment.specs.declared.Refusal.{Refusal}
use Rattle.std.specs.Prelude.{Ok, Err}
use Rattle.deployment.proofs.Lent as lent
use Rattle.deployment.proofs.FieldValues.{values_written_again}
use Rattle.deployment.proofs.RefusedValues.{refused_values, values_numbers}
use Rattle.deployment.proofs.ReadBack.{read_back, values_read_back}
use Rattle.deployment.proofs.Reader.{written_again}
use Rattle.reader.proofs.Gathered.{gathered_file}
use Rattle.entries.specs.Answers.{written_values}
use Rattle.entries.specs.WriteClaims.{
  ReadsBack,
  WrittenReadsBack,
  AcceptedWrittenAgain,
  GatheredWrittenAgain,
  TurnedAwayKeeps,
  RefusedForRoom,
  RefusedForValues,
}

bytes_turned {ℓ} : {A : Type ℓ} {n : ℕ} {refusal : Refusal} → Ok n ≡ Err refusal → A
bytes_turned e = absurd (let z : ◌≡◌ {A = ℕ} 0 1 = cc in omega arith)

pub turned_away_keeps : TurnedAwayKeeps
unfolding written_values writing written_numbers
turned_away_keeps v place =
    lent.turned_away_keeps written_numbers Err (λ r. refl) (λ c. Ok (length (file_of c))) (λ c. refl) file_of (read_values v) place

pub written_reads_back : WrittenReadsBack
unfolding filled written_values writing
written_reads_back v place n are = go (read_values v) refl
  where
    go : (reading : Reading) → read_values v ≡ reading
        → let left = answered (λ c. writing (file_of c) place) (left_alone Err place) reading in
        left.answer ≡ Ok n → ReadsBack v place left.place n
    go (refused refusal) read = λ e. bytes_turned (sym e)
    go (accepted c) read =
        lent.sent_cases Err (Ok (length (file_of c))) (file_of c) place (λ w. w.answer ≡ Ok n → ReadsBack v place w.place n)
        (λ fits e.
        let long : length (file_of c) ≡ n = cc in
        record {
          contents = c;
          given = read;
          back = rw (take_at (file_of c) (drop (length (file_of c)) place) n long) (read_back c (values_written_again v c are read).0).1;
          rest = rw (← long) (drop_at (file_of c) (drop (length (file_of c)) place) (length (file_of c)) refl);
        })
        (λ small e. bytes_turned (sym e))

pub accepted_written_again : AcceptedWrittenAgain
unfolding written_values
accepted_written_again file c place bytes read =
    let again = written_again file c bytes read in
    rw (values_read_back c again.0) (ap (λ (output : List ℕ). writing output place) again.1)

pub gathered_written_again : GatheredWrittenAgain
gathered_written_again file layout place b e =
    let (c, read, same) = gathered_file file layout b e in rw same (accepted_written_again file c place b read)

-- Refusal 13 is none of the values': the numbers of those are below it, or 50.
not_for_room : (v : FieldValues) (at : ℕ) → ¬ (reading_numbers (read_values v) ≡ 13 ∷ at ∷ [])
not_for_room v at e = ⊎_elim (λ low. omega arith) (λ is. omega arith) (values_numbers ((refused_values v 13 at).0 e).0)

pub refused_for_room : RefusedForRoom
unfolding written_values writing written_numbers
refused_for_room v place at =
    lent.refused_for_room written_numbers Err (λ r. refl) (λ c. Ok (length (file_of c))) (λ c. refl) file_of (read_values v) place at (not_for_room v at)

pub refused_for_values : RefusedForValues
unfolding written_values writing written_numbers
refused_for_values v place number at other =
    let row = refused_values v number at in
    let read = lent.refused_for_reading written_numbers Err (λ r. refl) (λ c. Ok (length (file_of c))) (λ c. refl) file_of (read_values v) place number at other in
    (λ e. row.0 (read.0 e), λ h. read.1 (row.1 h))
