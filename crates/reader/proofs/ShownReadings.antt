-- What an answer says of the reading that it shows: a refusal is the reading's, its numbers are, and places are those of the contents
-- that were read.
-- Assumes nothing.
use Prim.Native.Nat.{ℕ}
use native.Mathlib.Omega.{arith}
use mathlib.Core.Path.{◌≡◌, refl, ap}
use mathlib.Core.List.{List}
use Rattle.deployment.specs.Contents.{Contents}
use Rattle.deployment.specs.File.{Reading, accepted, refused, reading_numbers, read_file}
use Rattle.deployment.specs.declared.Refusal.{Refusal}
use Rattle.reader.specs.Answers.{layout_of, shown, file_read, file_numbers}
use Rattle.reader.specs.declared.Layout.{Layout}
use Rattle.std.specs.Prelude.{Ok, Err}

pub shown_refused : (reading : Reading) (refusal : Refusal) → Err refusal ≡ shown reading → reading ≡ refused refusal
unfolding shown
shown_refused (accepted c) refusal e = absurd (let z : ◌≡◌ {A = ℕ} 0 1 = cc in omega arith)
shown_refused (refused other) refusal e = ap refused (cc)

pub file_refused : (file : List ℕ) (refusal : Refusal) → Err refusal ≡ file_read file → read_file file ≡ refused refusal
unfolding file_read
file_refused file = shown_refused (read_file file)

pub shown_accepted : (reading : Reading) (layout : Layout) → Ok layout ≡ shown reading
    → (c : Contents) × (layout ≡ layout_of c) × (reading ≡ accepted c)
unfolding shown
shown_accepted (refused refusal) layout e = absurd (let z : ◌≡◌ {A = ℕ} 0 1 = cc in omega arith)
shown_accepted (accepted c) layout e = (c, cc, refl)

-- the numbers of an answer are those of the reading
pub shown_numbers : (reading : Reading) → file_numbers (shown reading) ≡ reading_numbers reading
unfolding shown file_numbers reading_numbers
shown_numbers (accepted c) = refl
shown_numbers (refused refusal) = refl
