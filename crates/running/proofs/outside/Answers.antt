-- `outside` is the test of the definition, turned. Assumes nothing.
use borrow.Author.Rules.{rules}
use mathlib.Core.Path.{◌∙◌}
use lib.Dec.{leb}
use lib.ListN.{take}
use Rattle.std.proofs.Common.{tests}
use Rattle.std.proofs.lemmas.Iterator.{YieldsList-from_slice}
use Rattle.std.proofs.lemmas.Iterator.Search.{any_from_yields_List}
use Rattle.running.proofs.Names.{all_or}
use Rattle.running.proofs.outside.Goals as goal

pub returns : goal.returns
returns c =
    let shown = take c.args.len c.args.rules in
    any_from_yields_List (λ r. leb c.args.size r) _ _ _ c.any.ensures.ran (YieldsList-from_slice shown (cc)) (λ x b q k. search (rules, tests))
    ∙ all_or c.args.size shown
