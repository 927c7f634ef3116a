-- The lines that document 01 prints are those of the definitions: antt computes both sides. Assumes nothing.
use Rattle.std.proofs.Common.{refl}
use Rattle.policy.specs.Judge.{verdict_numbers}
use Rattle.lines.specs.Text.{text, digits, decimal, spaced, named, refused_text, spaced_all, verdict_text}
use Rattle.lines.specs.Examples.{LinesPrinted}

pub lines_printed : LinesPrinted
unfolding text digits decimal spaced named refused_text spaced_all verdict_text verdict_numbers
lines_printed = (refl, refl, refl, refl)
