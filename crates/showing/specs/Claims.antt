-- What a customer buys of the text: none is longer than the place that the program lends, so the program is never turned away for room.
-- proofs/Claims.antt has its proof, of the same name in small letters with hyphens. Assumes nothing.
use Rattle.std.specs.Prelude.{ℕ, ◌≤◌, List, length}
use Rattle.lines.specs.Printing.{IsFile}
use Rattle.showing.specs.Text.{show_printed}
use Rattle.showing.specs.Printing.{most_shown}

abbrev pub ShowTextFits : Type 0
ShowTextFits = (file : List ℕ) → IsFile file → length (show_printed file) ≤ most_shown
