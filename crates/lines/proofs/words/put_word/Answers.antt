-- `put_word` meets its contract: where 64 bits hold the position behind the word, the sum doesn't wrap. Assumes nothing.
use Rattle.std.proofs.Common.{◌∙◌, mod-eq_of_lt}
use Rattle.lines.proofs.words.put_word.Goals as goal

pub returns : goal.returns
returns c =
    record {
      stored =
          λ fits.
          record {
            place = c.store.ensures;
            end = c.wrapping_add_usize.ensures.value ∙ mod-eq_of_lt fits;
          };
    }
