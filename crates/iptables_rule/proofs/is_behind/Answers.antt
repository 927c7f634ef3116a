-- `is_behind` meets its contract: the places are those of the options that were found. Assumes nothing.
use Prim.Native.Nat.{ℕ}
use mathlib.Core.Path.{◌≡◌, refl}
use lib.Dec.{ltb}
use Rattle.lines.specs.Text.{text}
use Rattle.iptables.specs.Options.{is_behind}
use Rattle.iptables_rule.proofs.is_behind.Goals as goal

alike : {a b c d : ℕ} → a ≡ c → b ≡ d → ltb a b ≡ ltb c d
alike first second = rw (first, second) refl

pub returns : goal.returns
unfolding is_behind text
returns c = alike c.option.ensures.place c.option-2.ensures.place
