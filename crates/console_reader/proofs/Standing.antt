-- A word in a text, compared from a position on byte by byte: each law is a step of the comparison. Assumes nothing.
use Prim.Native.Nat.{ℕ, suc, ◌+◌, ◌-◌, ◌≤◌, ◌<◌}
use native.Mathlib.Omega.{arith}
use mathlib.Core.Path.{◌≡◌, refl, sym, ◌∙◌}
use mathlib.Core.Bool.{true, false}
use mathlib.Core.List.{List, [], ◌∷◌}
use lib.Dec.{eqb}
use lib.ListN.{length, drop, get_or, length-drop, drop_of_length-le}
use lib.Seq.{drop-cons}
use borrow.Author.Tests.{eq-eqb, ne_eqb}
use Rattle.policy.proofs.Tests.{never, falsely, and_both}
use Rattle.console_text.specs.Reading.{starts}

-- no byte is compared yet
pub from_start : (word s : List ℕ) (at : ℕ) → starts word (drop at s) ≡ starts (drop 0 word) (drop (at + 0) s)
from_start word s at = let here : at + 0 ≡ at = omega arith in rw here refl

-- the byte at this place is the word's, or not
one_byte : (word s : List ℕ) (at k : ℕ) → k < length word → at + k < length s
    → starts (drop k word) (drop (at + k) s) ≡ starts (get_or word k 0 ∷ drop (k + 1) word) (get_or s (at + k) 0 ∷ drop (at + (k + 1)) s)
one_byte word s at k in-word in-text =
    let next : suc k ≡ k + 1 = omega arith in
    let further : suc (at + k) ≡ at + (k + 1) = omega arith in
    rw (drop-cons word k 0 in-word, drop-cons s (at + k) 0 in-text, next, further) refl

pub same_byte : (word s : List ℕ) (at k : ℕ) → k < length word → at + k < length s → get_or s (at + k) 0 ≡ get_or word k 0
    → starts (drop k word) (drop (at + k) s) ≡ starts (drop (k + 1) word) (drop (at + (k + 1)) s)
unfolding starts
same_byte word s at k in-word in-text same =
    one_byte word s at k in-word in-text ∙ rw (eq-eqb (get_or word k 0) (get_or s (at + k) 0) (sym same)) refl

pub other_byte : (word s : List ℕ) (at k : ℕ) → k < length word → at + k < length s → (get_or s (at + k) 0 ≡ get_or word k 0 → ⊥)
    → starts (drop k word) (drop (at + k) s) ≡ false
unfolding starts
other_byte word s at k in-word in-text differ =
    one_byte word s at k in-word in-text ∙ rw (ne_eqb (get_or word k 0) (get_or s (at + k) 0) (λ e. differ (sym e))) refl

-- no byte of the word is left
pub word_ends : (word s : List ℕ) (k : ℕ) → length word ≤ k → starts (drop k word) s ≡ true
unfolding starts
word_ends word s k ends = rw (drop_of_length-le word ends) refl

-- a word that stands in a text is no longer than it
starts_short : (word s : List ℕ) → starts word s ≡ true → length word ≤ length s
unfolding starts
starts_short [] s e = omega arith
starts_short (w ∷ word) [] e = never e refl
starts_short (w ∷ word) (b ∷ s) e = let rest = starts_short word s (and_both (eqb w b) (starts word s) e).1 in omega arith

pub fits : (word s : List ℕ) (at : ℕ) → at ≤ length s → starts word (drop at s) ≡ true → at + length word ≤ length s
fits word s at inside e = let short = starts_short word (drop at s) e in omega (arith, length-drop at s)

pub too_short : (word s : List ℕ) (at : ℕ) → at ≤ length s → length s - at < length word → starts word (drop at s) ≡ false
too_short word s at inside short = falsely (λ e. let long = fits word s at inside e in omega arith)
