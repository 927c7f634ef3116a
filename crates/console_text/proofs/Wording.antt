-- A fixed word at the front of a text: it is read where it stands, and where it is read it stands; and two words of which a text has only one.
-- Each law goes along the word. Assumes nothing.
use Prim.Native.Nat.{ℕ}
use mathlib.Core.Path.{◌≡◌, refl}
use mathlib.Core.Bool.{Bool, true, false, not, ◌||◌, and-false}
use mathlib.Core.List.{List, [], ◌∷◌, ◌++◌}
use mathlib.Core.Logic.{⊎_elim}
use borrow.Author.Tests.{eqb-true, eq-eqb}
use lib.Dec.{eqb}
use lib.ListN.{length, drop}
use lib.Seq.{drop-append_seam}
use Rattle.policy.proofs.Tests.{never, and_both, both_and, or_either, not_true}
use Rattle.deployment.specs.Checked.{Checked, good, bad}
use Rattle.deployment.specs.declared.Why.TheVariants.{NoCommand}
use Rattle.deployment.proofs.Tests.{tested}
use Rattle.deployment.proofs.FieldValues.{Good}
use Rattle.deployment.proofs.RefusedValues.{each_map}
use Rattle.console_text.specs.Reading.{starts, word_read}

-- What holds of a value that is read.
pub good_is : {A : Type 0} (P : A → Type 0) {read : Checked A} {a : A} → read ≡ good a → Good P read → P a
good_is P e h = rw e at h

pub good_map : {A : Type 0} (P R : A → Type 0) (read : Checked A) → ((a : A) → P a → R a) → Good P read → Good R read
good_map P R read passes h = each_map P R (λ number. Unit {0}) (λ number. Unit {0}) read passes (λ number u. u) h

word_starts : (word s : List ℕ) → starts word (word ++ s) ≡ true
unfolding starts
word_starts [] s = refl
word_starts (w ∷ word) s = both_and (eq-eqb w w refl) (word_starts word s)

starts_word : (word s : List ℕ) → starts word s ≡ true → s ≡ word ++ drop (length word) s
unfolding starts
starts_word [] s e = refl
starts_word (w ∷ word) [] e = never e refl
starts_word (w ∷ word) (b ∷ s) e =
    let both = and_both (eqb w b) (starts word s) e in
    let first = eqb-true w b both.0 in
    let others = starts_word word s both.1 in
    cc

pub word_read_lem : (word s : List ℕ) → word_read word (word ++ s) ≡ good s
unfolding word_read
word_read_lem word s = rw (word_starts word s, drop-append_seam word s)

pub word_good : (word s : List ℕ) → Good (λ rest. s ≡ word ++ rest) (word_read word s)
unfolding word_read
word_good word s = tested (Good (λ rest. s ≡ word ++ rest)) (starts word s) (λ f. tt) (λ t. starts_word word s t)

pub word_is : (word s rest : List ℕ) → word_read word s ≡ good rest → s ≡ word ++ rest
word_is word s rest e = good_is (λ rest. s ≡ word ++ rest) e (word_good word s)

-- Two words with different bytes at one place: a text that starts with the one does not start with the other.
unfoldable pub apart : List ℕ → List ℕ → Bool
apart [] other = false
apart (a ∷ word) [] = false
apart (a ∷ word) (b ∷ other) = not (eqb a b) || apart word other

apart_starts : (word other s : List ℕ) → apart word other ≡ true → starts word (other ++ s) ≡ false
unfolding apart starts
apart_starts [] other s e = never e refl
apart_starts (a ∷ word) [] s e = never e refl
apart_starts (a ∷ word) (b ∷ other) s e =
    ⊎_elim
    (λ t. rw (not_true {b = eqb a b} t))
    (λ t. rw (apart_starts word other s t) (and-false (eqb a b)))
    (or_either (not (eqb a b)) (apart word other) e)

pub word_apart : (word other s : List ℕ) → apart word other ≡ true → word_read word (other ++ s) ≡ bad NoCommand
unfolding word_read
word_apart word other s e = rw (apart_starts word other s e)
