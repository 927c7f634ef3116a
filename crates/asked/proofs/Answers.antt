-- Any two answers that a contract allows are equal. Assumes nothing.
use mathlib.Core.Path.{◌≡◌, sym, ◌∙◌}
use Rattle.std.specs.Prelude.{Option}
use Rattle.console.specs.declared.Maker.{Maker}
use Rattle.asked.specs.declared.What.{What}
use Rattle.asked.proofs.maker_asked.Reads as maker-asked
use Rattle.asked.proofs.what_asked.Reads as what-asked

pub one_maker : (κ : _) (a : _) (r s : Option Maker) (e f : _) → maker-asked.Post κ a r e → maker-asked.Post κ a s f → r ≡ s
one_maker κ a r s e f p q = p ∙ sym q

pub one_what : (κ : _) (a : _) (r s : Option What) (e f : _) → what-asked.Post κ a r e → what-asked.Post κ a s f → r ≡ s
one_what κ a r s e f p q = p ∙ sym q
