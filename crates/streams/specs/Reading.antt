-- What a read tells of the input, and what can be said of the whole: no contract says which bytes come in. Assumes nothing.
use Rattle.std.specs.Prelude.{ℕ, zero, suc, ◌+◌, ◌<◌, ◌≤◌, min, ℤ, pos, negsuc, Result, Ok, Err}
use Rattle.std.specs.declared.ops.ControlFlow.{ControlFlow}
use Rattle.std.specs.declared.ops.ControlFlow.TheVariants.{Continue, Break}
use Rattle.streams.specs.declared.Unreadable.{Unreadable}

-- the answer of a read by its number, as the system's reads answer: how many bytes came, or below 0 where it failed
abbrev pub by_number : ℤ → Result ℕ Unreadable
by_number (pos k) = Ok k
by_number (negsuc k) = Err record {}

-- a read that is lent `most` bytes brings as many as it answers, none at the end of the input, or fails
abbrev pub piece_of : Result ℕ Unreadable → ℕ → Result ℕ Unreadable
piece_of (Ok k) most = Ok (min k most)
piece_of (Err e) most = Err e

-- what a piece that comes behind `done` bytes means: none are the end of the input, and a read that failed makes all of it unreadable
abbrev pub next_of : Result ℕ Unreadable → ℕ → ControlFlow (Result ℕ Unreadable) ℕ
next_of (Ok zero) done = Break (Ok done)
next_of (Ok (suc n)) done = Continue (suc n)
next_of (Err e) done = Break (Err e)

-- a piece of a byte or more that comes behind `done` bytes lies within a place of `size`
abbrev pub Fitting : Result ℕ Unreadable → ℕ → ℕ → Type 0
Fitting (Ok zero) done size = Unit {0}
Fitting (Ok (suc n)) done size = done + suc n ≤ size
Fitting (Err e) done size = Unit {0}

-- what was read lies within a place of so many bytes
abbrev pub Within : Result ℕ Unreadable → ℕ → Type 0
Within (Ok n) size = n ≤ size
Within (Err e) size = Unit {0}

-- bytes more behind `done` are at least one and lie within a place of `size`; so does what was read when it is over
abbrev pub Going : ControlFlow (Result ℕ Unreadable) ℕ → ℕ → ℕ → Type 0
Going (Continue n) done size = (0 < n) × (done + n ≤ size)
Going (Break read) done size = Within read size
