-- Pieces that are put as one, and what follows them: the text is that of one piece after the other. Assumes nothing.
use Prim.Native.Nat.{ℕ}
use mathlib.Core.List.{List, ◌++◌, append_assoc}
use Rattle.lines.specs.Printing.{Puts}
use Rattle.lines.proofs.Pieces.{puts_more}

module _ {old middle place : List ℕ} {at next end : ℕ} (one two : List ℕ) {rest : List ℕ} where
  pub puts_joined : Puts old at (one ++ two) middle next → Puts middle next rest place end → Puts old at (one ++ (two ++ rest)) place end
  puts_joined first second = rw (← append_assoc one two rest) (puts_more first second)
