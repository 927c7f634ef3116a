-- Any two answers that a contract allows are equal. Assumes nothing.
use Prim.Native.Nat.{ℕ}
use mathlib.Core.Path.{◌≡◌, sym, ◌∙◌}
use mathlib.Core.Bool.{Bool}
use mathlib.Core.List.{List}
use Rattle.std.specs.Prelude.{Option as CodeOption}
use Rattle.policy.specs.declared.Command.{Command}
use Rattle.commands.proofs.allows.Reads as allows
use Rattle.commands.proofs.is_type.Reads as is-type
use Rattle.commands.proofs.decode.Reads as decode
use Rattle.commands.proofs.commands.Reads as commands
use Rattle.commands.proofs.command_at.Reads as command-at
use Rattle.commands.proofs.record_of.Reads as record_of

pub one_allows : (κ : _) (a : _) (r s : Bool) (e f : _) → allows.Post κ a r e → allows.Post κ a s f → r ≡ s
one_allows κ a r s e f p q = p ∙ sym q

pub one_is_type : (κ : _) (a : _) (r s : Bool) (e f : _) → is-type.Post κ a r e → is-type.Post κ a s f → r ≡ s
one_is_type κ a r s e f p q = p ∙ sym q

pub one_decode : (κ : _) (a : _) (r s : CodeOption Command) (e f : _) → decode.Post κ a r e → decode.Post κ a s f → r ≡ s
one_decode κ a r s e f p q = p ∙ sym q

pub one_commands : (κ : _) (a : _) (r s : ℕ) (e f : _) → commands.Post κ a r e → commands.Post κ a s f → r ≡ s
one_commands κ a r s e f p q = p ∙ sym q

pub one_command_at : (κ : _) (a : _) (r s : CodeOption Command) (e f : _) → command-at.Post κ a r e → command-at.Post κ a s f → r ≡ s
one_command_at κ a r s e f p q = p ∙ sym q

pub one_record : (κ : _) (a : _) (r s : List ℕ) (e f : _) → record_of.Post κ a r e → record_of.Post κ a s f → r ≡ s
one_record κ a r s e f p q = p ∙ sym q
