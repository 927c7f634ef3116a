-- What the printers need to know. Assumes nothing.
use Rattle.std.specs.Prelude.{ℕ}

-- no text is longer
abbrev pub most_shown : ℕ
most_shown = 262144
