-- What a customer buys of the words: they come back, and they do on the console what document 01's command does. Each claim is a statement;
-- proofs/Claims.antt has, for each, a proof of the same name in small letters with hyphens. Assumes nothing.
use Rattle.std.specs.Prelude.{ℕ, suc, ◌≡◌, List, map}
use Rattle.policy.specs.Command.{step}
use Rattle.policy.specs.Replay.{lists}
use Rattle.policy.specs.Properties.{Distinct}
use Rattle.policy.specs.declared.Command.{Command}
use Rattle.policy.specs.declared.Command.TheVariants.{Mov}
use Rattle.console.specs.Makers.{number_before, place_for, said, heard, again}
use Rattle.console.specs.Console.{step_before, console_step, console_lists}
use Rattle.console.specs.declared.Maker.{Maker}

-- "`mov i j` becomes b = j + 1 when j is above i, and b = j otherwise": on every list that names no rule twice, B's move by that number is document
-- 01's move, and it fails where that one fails.
abbrev pub MovesAlike : Type 0
MovesAlike = (size : ℕ) (l : List ℕ) (i j : ℕ) → Distinct l → step_before size l (Mov i (number_before i j)) ≡ step size l (Mov i j)

-- "Reading maps b = i and b = i + 1 both to `mov i i`", and any other b to the move that it is
abbrev pub ReadAlike : Type 0
ReadAlike = (size : ℕ) (l : List ℕ) (i b : ℕ) → Distinct l → step_before size l (Mov i b) ≡ step size l (Mov i (place_for i b))

abbrev pub StandsStill : Type 0
StandsStill = (i : ℕ) → (place_for i i ≡ i) × (place_for i (suc i) ≡ i)

-- "Commands written and read come back unchanged, proved once over both makers."
abbrev pub SaidAndHeard : Type 0
SaidAndHeard = (m : Maker) (c : Command) → heard m (said m c) ≡ c

-- "that is the one case in which text read and written again may differ"
abbrev pub HeardAndSaid : Type 0
HeardAndSaid = (m : Maker) (k : Command) → said m (heard m k) ≡ again m k

-- The lists that a console runs through by words are those of the commands that the words are read as, and those of the script whose words
-- they are.
abbrev pub SameLists : Type 0
SameLists = (m : Maker) (size : ℕ) (l : List ℕ) (words : List Command) → Distinct l → console_lists m size l words ≡ lists size l (map (heard m) words)

abbrev pub OwnLists : Type 0
OwnLists = (m : Maker) (size : ℕ) (l : List ℕ) (script : List Command) → Distinct l → console_lists m size l (map (said m) script) ≡ lists size l script
