-- `put_contents` meets its contract: the parts stand where the reader found them, and their texts one behind the other are the text of the file.
-- Assumes nothing.
use Prim.Native.Nat.{ℕ, ◌<◌}
use native.Mathlib.Omega.{arith}
use mathlib.Core.Path.{◌≡◌, sym, ◌∙◌}
use mathlib.Core.List.{List}
use lib.ListN.{get_or}
use Rattle.deployment.specs.File.{read_file}
use Rattle.deployment.specs.Values.{numbers_of}
use Rattle.deployment.proofs.Bytes.{elements_are_bytes}
use Rattle.reader.specs.Answers.{value_at, file_read}
use Rattle.reader.specs.declared.Layout.{Layout}
use Rattle.std.specs.Prelude.{Ok}
use Rattle.reader.proofs.FileAnswers.{Holds, file_holds}
use Rattle.lines.proofs.Pieces.{puts_more, puts_whole}
use Rattle.showing.specs.Text.{policies_text}
use Rattle.showing.proofs.ShownTexts.{parts_printed, printed_short, script_reads}
use Rattle.showing.proofs.put_contents.Goals as goal

-- the file holds contents at these places
held : (file : List ℕ) (layout : Layout) → ((i : ℕ) → get_or file i 0 < 256) → Ok layout ≡ file_read file
    → Holds (read_file file) file layout
held file layout bytes = file_holds file layout (elements_are_bytes file bytes)

pub put_script-requires : goal.put_script-requires
put_script-requires c =
    λ value is.
    script_reads (held c.args.file.now c.args.layout (λ i. omega (arith, c.type_inv.file i)) c.requires).stands value (sym c.value_given-2.ensures ∙ is)

pub returns : goal.returns
returns c =
    let file = c.args.file.now in
    let layout = c.args.layout in
    let holds = held file layout (λ i. omega (arith, c.type_inv.file i)) c.requires in
    let both = policies_text (numbers_of (value_at layout.initial file)) (numbers_of (value_at layout.target file)) in
    puts_whole
    (rw (← parts_printed holds.stands holds.is)
    (puts_more c.put_catalogue-next.ensures
    (puts_more {piece = both} c.put_policies-next.ensures
    (puts_more (rw c.is_some.ensures at c.put_default-next.ensures)
    (puts_more (rw c.value_given.ensures at c.put_keep-next.ensures) (rw c.value_given-2.ensures at c.put_script.ensures))))))
    (printed_short holds.stands holds.is) (omega arith)
