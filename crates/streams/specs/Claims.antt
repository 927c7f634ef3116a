-- What is claimed of reading. Assumes nothing.
use Rattle.std.specs.Prelude.{ℕ, ◌<◌, ◌≤◌, ◌≡◌, true, ◌↔◌, ℤ, pos, Result, Ok, Err}
use Rattle.std.specs.Int.Signed.{lt_z}
use Rattle.std.specs.declared.ops.ControlFlow.TheVariants.{Continue, Break}
use Rattle.streams.specs.declared.Unreadable.{Unreadable}
use Rattle.streams.specs.Reading.{by_number, piece_of, next_of}

-- a piece has failed exactly when its read has
abbrev pub FailedAsRead : Type 0
FailedAsRead = (answer : Result ℕ Unreadable) (most : ℕ) → (piece_of answer most ≡ Err record {}) ↔ (answer ≡ Err record {})

-- the same of the number that the system's reads answer by
abbrev pub FailedBelowZero : Type 0
FailedBelowZero = (answer : ℤ) (most : ℕ) → (piece_of (by_number answer) most ≡ Err record {}) ↔ (lt_z answer (pos 0) ≡ true)

-- the input has ended exactly when a read that is lent a byte or more answers 0: no read that fails is taken for the end
abbrev pub EndedAtZero : Type 0
EndedAtZero = (answer : Result ℕ Unreadable) (most done : ℕ) → 0 < most → (next_of (piece_of answer most) done ≡ Break (Ok done)) ↔ (answer ≡ Ok 0)

-- any other answer is the number of bytes that came
abbrev pub CameAsCounted : Type 0
CameAsCounted = (n most done : ℕ) → 0 < n → n ≤ most → next_of (piece_of (Ok n) most) done ≡ Continue n

-- a read makes the input unreadable exactly when it fails, however many bytes came before it
abbrev pub UnreadableAsRead : Type 0
UnreadableAsRead = (answer : Result ℕ Unreadable) (most done : ℕ) → (next_of (piece_of answer most) done ≡ Break (Err record {})) ↔ (answer ≡ Err record {})

abbrev pub UnreadableBelowZero : Type 0
UnreadableBelowZero = (answer : ℤ) (most done : ℕ) → (next_of (piece_of (by_number answer) most) done ≡ Break (Err record {})) ↔ (lt_z answer (pos 0) ≡ true)
