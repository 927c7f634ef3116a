-- Any two answers that a contract allows are equal. Assumes nothing.
use Prim.Native.Nat.{ℕ}
use mathlib.Core.Path.{◌≡◌, sym, ◌∙◌}
use Rattle.console.specs.declared.Maker.{Maker}
use Rattle.console.specs.declared.Worded.{Worded}
use Rattle.console.proofs.maker_of.Reads as maker-of
use Rattle.console.proofs.second_heard.Reads as second-heard
use Rattle.console.proofs.in_words.Reads as in_words_lem

pub one_maker : (κ : _) (a : _) (r s : Maker) (e f : _) → maker-of.Post κ a r e → maker-of.Post κ a s f → r ≡ s
one_maker κ a r s e f p q = p ∙ sym q

pub one_second_heard : (κ : _) (a : _) (r s : ℕ) (e f : _) → second-heard.Post κ a r e → second-heard.Post κ a s f → r ≡ s
one_second_heard κ a r s e f p q = p ∙ sym q

pub one_in_words : (κ : _) (a : _) (r s : Worded) (e f : _) → in_words_lem.Post κ a r e → in_words_lem.Post κ a s f → r ≡ s
one_in_words κ a r s e f p q = p ∙ sym q
