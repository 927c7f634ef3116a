-- What a customer buys of the writer, about the definitions. Each claim is a statement; proofs/WriteClaims.antt has, for each, a proof of the
-- same name in small letters with hyphens. Assumes nothing.
use Rattle.std.specs.Prelude.{Ok, ℕ, ◌≡◌, ◌↔◌, List, [], ◌∷◌, take, drop}
use Rattle.deployment.specs.Contents.{Contents}
use Rattle.deployment.specs.File.{accepted, read_file, file_of}
use Rattle.deployment.specs.FieldValues.{FieldValues, writing, written_numbers, read_values, TooSmall}
use Rattle.deployment.specs.Properties.{AreBytes, ValuesFail}
use Rattle.deployment.specs.Claims.{values_of, AreValues}
use Rattle.reader.specs.Answers.{values_gathered, file_read}
use Rattle.reader.specs.declared.Layout.{Layout}
use Rattle.entries.specs.Answers.{written_values}

-- "what it writes reads back as the same contents", and "the rest keep theirs"
pub record ReadsBack (v : FieldValues) (before after : List ℕ) (n : ℕ) : Type 0 where
  pub contents : Contents
  pub given : read_values v ≡ accepted contents
  pub back : read_file (take n after) ≡ accepted contents
  pub rest : drop n after ≡ drop n before

abbrev pub WrittenReadsBack : Type 0
WrittenReadsBack =
    (v : FieldValues) (place : List ℕ) (n : ℕ) → AreValues v → (written_values v place).answer ≡ Ok n
    → ReadsBack v place (written_values v place).place n

-- "those of an accepted file, written, give that file"
abbrev pub AcceptedWrittenAgain : Type 0
AcceptedWrittenAgain =
    (file : List ℕ) (c : Contents) (place : List ℕ) → AreBytes file → read_file file ≡ accepted c
    → written_values (values_of c) place ≡ writing file place

-- and so do its parts, gathered
abbrev pub GatheredWrittenAgain : Type 0
GatheredWrittenAgain =
    (file : List ℕ) (layout : Layout) (place : List ℕ) → AreBytes file → file_read file ≡ Ok layout
    → written_values (values_gathered layout file) place ≡ writing file place

-- "When turned away, every lent place keeps its bytes"
abbrev pub TurnedAwayKeeps : Type 0
TurnedAwayKeeps =
    (v : FieldValues) (place : List ℕ) (number at : ℕ) → written_numbers (written_values v place).answer ≡ number ∷ at ∷ []
    → (written_values v place).place ≡ place

-- Refusal 13: "lent room smaller than what is to be written", at the bytes needed, and only where the values are accepted
abbrev pub RefusedForRoom : Type 0
RefusedForRoom =
    (v : FieldValues) (place : List ℕ) (at : ℕ)
    → (written_numbers (written_values v place).answer ≡ 13 ∷ at ∷ []) ↔ TooSmall file_of (read_values v) place at

-- Every other number is that of the values, however large the place is.
abbrev pub RefusedForValues : Type 0
RefusedForValues =
    (v : FieldValues) (place : List ℕ) (number at : ℕ) → ¬ (number ≡ 13)
    → (written_numbers (written_values v place).answer ≡ number ∷ at ∷ []) ↔ (ValuesFail v number × (at ≡ 0))
