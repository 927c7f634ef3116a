-- No text is longer than the longest one. The idea: a refusal's position is inside the file, so its line is short; what a file contains is
-- bounded part by part. Assumes nothing.
use Prim.Native.Nat.{◌≤◌}
use native.Mathlib.Omega.{arith}
use mathlib.Core.Path.{◌≡◌, refl}
use lib.ListN.{length}
use Rattle.deployment.specs.File.{Reading, accepted, refused, read_file}
use Rattle.deployment.proofs.Reader.{written_again}
use Rattle.lines.proofs.Lengths.{position_inside}
use Rattle.lines.proofs.Lengths.{refused_short}
use Rattle.showing.specs.Text.{show_printed}
use Rattle.showing.specs.Printing.{most_shown}
use Rattle.showing.specs.Claims.{ShowTextFits}
use Rattle.showing.proofs.ShownTexts.{printed_refusal, printed_contents, shown_short}

pub show_text_fits : ShowTextFits
show_text_fits file (bytes, short) = go (read_file file) refl
  where
    go : (reading : Reading) → read_file file ≡ reading → length (show_printed file) ≤ most_shown
    go (accepted c) e = rw (printed_contents file c e) (shown_short c (written_again file c bytes e).0)
    go (refused r) e = rw (printed_refusal file r e) (omega (arith, refused_short r (omega (arith, position_inside file r bytes e))))
