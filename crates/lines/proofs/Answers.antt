-- The printers, by their contracts as the checker reads them: any two answers that one allows are equal, with every byte of the place, wherever 64
-- bits hold the position behind what they put. Assumes nothing.
use Rattle.std.proofs.Common.{◌≡◌, ℕ, ◌+◌, ◌^◌, ◌<◌, List, ◌++◌, length, sym, ◌∙◌}
use Rattle.console.specs.Makers.{said}
use Rattle.deployment.specs.Values.{script_of}
use Rattle.replay.specs.Answers.{commands_of, Readable}
use Rattle.lines.specs.Text.{decimal, spaced, command_text, lines_text, block_text}
use Rattle.lines.specs.Printing.{Puts, Whole, words_in}
use Rattle.lines.specs.declared.phrases.Phrase.{Phrase}
use Rattle.lines.proofs.words.put_word.Reads as put_word
use Rattle.lines.proofs.words.put_number.Reads as put-number
use Rattle.lines.proofs.words.put_spaced.Reads as put-spaced
use Rattle.lines.proofs.words.put_named.Reads as put-named
use Rattle.lines.proofs.phrases.phrase_of.Reads as phrase-of
use Rattle.lines.proofs.phrases.put_command.Reads as put-command
use Rattle.lines.proofs.steps.put_lines.Reads as put-lines
use Rattle.lines.proofs.blocks.put_block.Reads as put-block
use Rattle.lines.proofs.outcomes.put_refused.Reads as Put-refused
use Rattle.lines.proofs.outcomes.put_verdict.Reads as put-verdict

same_put : {old bytes after other : List ℕ} {at next end : ℕ} → Puts old at bytes after next → Puts old at bytes other end
    → at + length bytes < 2 ^ 64 → (next ≡ end) × (after ≡ other)
same_put p q fits = let one = p.stored fits in let two = q.stored fits in (one.end ∙ sym two.end, one.place ∙ sym two.place)

same_whole : {most : ℕ} {old bytes after other : List ℕ} {next end : ℕ} → Whole most old bytes after next → Whole most old bytes other end
    → (next ≡ end) × (after ≡ other)
same_whole p q = (p.put.end ∙ sym q.put.end, p.put.place ∙ sym q.put.place)

pub one_word : (κ : _) (a : _) (r s : ℕ) (e f : _) → put_word.Post κ a r e → put_word.Post κ a s f
    → a.1.0 + length a.1.1.0.now < 2 ^ 64 → (r ≡ s) × (e.0.now ≡ f.0.now)
one_word κ a r s e f p q fits = same_put p q fits

pub one_number : (κ : _) (a : _) (r s : ℕ) (e f : _) → put-number.Post κ a r e → put-number.Post κ a s f
    → a.1.0 + length (decimal a.1.1.0) < 2 ^ 64 → (r ≡ s) × (e.0.now ≡ f.0.now)
one_number κ a r s e f p q fits = same_put p q fits

pub one_spaced : (κ : _) (a : _) (r s : ℕ) (e f : _) → put-spaced.Post κ a r e → put-spaced.Post κ a s f
    → a.1.0 + length (spaced a.1.1.0) < 2 ^ 64 → (r ≡ s) × (e.0.now ≡ f.0.now)
one_spaced κ a r s e f p q fits = same_put p q fits

pub one_named : (κ : _) (a : _) (r s : ℕ) (e f : _) → put-named.Post κ a r e → put-named.Post κ a s f
    → a.1.0 + length (a.1.1.0.now ++ spaced a.1.1.1.0) < 2 ^ 64 → (r ≡ s) × (e.0.now ≡ f.0.now)
one_named κ a r s e f p q fits = same_put p q fits

pub one_phrase : (κ : _) (a : _) (r s : Phrase) (e f : _) → phrase-of.Post κ a r e → phrase-of.Post κ a s f → words_in r ≡ words_in s
one_phrase κ a r s e f p q = p ∙ sym q

pub one_command : (κ : _) (a : _) (r s : ℕ) (e f : _) → put-command.Post κ a r e → put-command.Post κ a s f
    → a.1.0 + length (command_text a.1.1.0 (said a.1.1.0 a.1.1.1.0)) < 2 ^ 64 → (r ≡ s) × (e.0.now ≡ f.0.now)
one_command κ a r s e f p q fits = same_put p q fits

pub one_lines : (κ : _) (a : _) (r s : ℕ) (e f : _) → put-lines.Post κ a r e → put-lines.Post κ a s f → Readable a.1.1.0.now
    → a.1.0 + length (lines_text 1 (commands_of (script_of a.1.1.0.now))) < 2 ^ 64 → (r ≡ s) × (e.0.now ≡ f.0.now)
one_lines κ a r s e f p q readable fits = same_put (p readable) (q readable) fits

pub one_block : (κ : _) (a : _) (r s : ℕ) (e f : _) → put-block.Post κ a r e → put-block.Post κ a s f → Readable a.1.1.1.1.1.1.0.now
    → a.1.0
    + length (block_text a.1.1.0 a.1.1.1.0 a.1.1.1.1.0 a.1.1.1.1.1.0 (commands_of (script_of a.1.1.1.1.1.1.0.now)))
    < 2 ^ 64
    → (r ≡ s) × (e.0.now ≡ f.0.now)
one_block κ a r s e f p q readable fits = same_put (p readable) (q readable) fits

pub one_refused : (κ : _) (a : _) (r s : ℕ) (e f : _) → Put-refused.Post κ a r e → Put-refused.Post κ a s f → (r ≡ s) × (e.0.now ≡ f.0.now)
one_refused κ a r s e f p q = same_whole p q

pub one_verdict : (κ : _) (a : _) (r s : ℕ) (e f : _) → put-verdict.Post κ a r e → put-verdict.Post κ a s f → (r ≡ s) × (e.0.now ≡ f.0.now)
one_verdict κ a r s e f p q = same_whole p q
