-- Pieces from a position on: the first one is a part of the bytes, and behind the byte that ends it the bytes are parted again. Assumes nothing.
use Prim.Native.Nat.{ℕ, ◌+◌, ◌-◌, ◌≤◌, ◌<◌}
use native.Mathlib.Numerals.{add-one}
use native.Mathlib.Omega.{arith}
use mathlib.Core.Path.{◌≡◌, refl, sym, ◌∙◌, ap}
use mathlib.Core.Bool.{cond}
use mathlib.Core.Logic.{◌≢◌}
use mathlib.Core.List.{List, [], ◌∷◌}
use borrow.Author.Tests.{ltb-true, ltb-false, lt-ltb, le-ltb}
use lib.Dec.{ltb}
use lib.ListN.{length, take, drop, get_or, drop_of_length-le, length-drop}
use lib.Seq.{drop-cons, drop-drop, take_all}
use Rattle.policy.proofs.Tests.{by_test}
use Rattle.iptables.specs.Words.{parted, cut_at, pieces_behind}
use Rattle.iptables.proofs.Parting.{parted_cut, cut_inside, cut_at_end, cut_at_byte, cut_behind_byte}

-- The loop that looks for the byte: the piece goes on, ends at such a byte, or ends with the bytes.
abbrev pub Ahead : ℕ → List ℕ → ℕ → ℕ → Type 0
Ahead by s at end = at + cut_at by (drop at s) ≡ end + cut_at by (drop end s)

module _ (by : ℕ) (s : List ℕ) (at end : ℕ) (ahead : Ahead by s at end) where
  pub goes_on_lem : end < length s → get_or s end 0 ≢ by → Ahead by s at (end + 1)
  goes_on_lem inside other = omega (arith, ahead, cut_behind_byte by s end inside other)

  pub ends_at_byte : end < length s → get_or s end 0 ≡ by → end ≡ at + cut_at by (drop at s)
  ends_at_byte inside is = omega (arith, ahead, cut_at_byte by s end inside is)

  pub ends_with_all : length s ≤ end → end ≡ at + cut_at by (drop at s)
  ends_with_all ends = omega (arith, ahead, cut_at_end by s end ends)

-- The pieces behind the end, and behind a byte before it.
module _ (by : ℕ) (s : List ℕ) (end : ℕ) where
  pub none_behind : length s ≤ end → pieces_behind by (drop end s) ≡ []
  unfolding pieces_behind
  none_behind ends = rw (drop_of_length-le s {i = end} ends) refl

  pub some_behind : end < length s → pieces_behind by (drop end s) ≡ parted by (drop (end + 1) s)
  unfolding pieces_behind
  some_behind inside = rw (drop-cons s end 0 inside, add-one end) refl

-- The pieces from a start on; past the end there are none.
unfoldable pub pieces_from : ℕ → List ℕ → ℕ → List (List ℕ)
pieces_from by s start = cond (ltb (length s) start) [] (parted by (drop start s))

module _ (by : ℕ) (s : List ℕ) (start : ℕ) where
  pub past_end : length s < start → pieces_from by s start ≡ []
  unfolding pieces_from
  past_end past = rw (lt-ltb (length s) start past) refl

  pub from_start : start ≤ length s → pieces_from by s start ≡ parted by (drop start s)
  unfolding pieces_from
  from_start inside = rw (le-ltb (length s) start inside) refl

from_behind : (by : ℕ) (s : List ℕ) (end : ℕ) → pieces_behind by (drop end s) ≡ pieces_from by s (end + 1)
from_behind by s end =
    by_test (ltb end (length s))
    (λ t. let inside = ltb-true end (length s) t in some_behind by s end inside ∙ sym (from_start by s (end + 1) (omega arith)))
    (λ f. let ends = ltb-false end (length s) f in none_behind by s end ends ∙ sym (past_end by s (end + 1) (omega arith)))

-- The next piece, up to where it ends.
module _ (by : ℕ) (s : List ℕ) (start end : ℕ) (inside : start ≤ length s) (is : end ≡ start + cut_at by (drop start s)) where
  pub piece_ends : (start ≤ end) × (end ≤ length s)
  piece_ends = (omega arith, omega (arith, cut_inside by (drop start s), length-drop start s))

  pub next_piece : pieces_from by s start ≡ take (end - start) (drop start s) ∷ pieces_from by s (end + 1)
  next_piece =
      let size : cut_at by (drop start s) ≡ end - start = omega arith in
      let whole : start + (end - start) ≡ end = omega arith in
      from_start by s start inside ∙ parted_cut by (drop start s)
      ∙ rw (size, drop-drop (end - start) start s, whole, from_behind by s end) refl

-- Bytes cut at their first such byte: the first piece, and those behind it.
module _ (by : ℕ) (s : List ℕ) (end : ℕ) (is : end ≡ 0 + cut_at by (drop 0 s)) where
  pub first_piece : parted by s ≡ take end s ∷ pieces_behind by (drop end s)
  first_piece = let size : cut_at by s ≡ end = omega (arith, is) in rw size at (parted_cut by s)

  pub first_ends : end ≤ length s
  first_ends = (piece_ends by s 0 end (omega arith) is).1

-- What is behind the byte that ends a piece is one piece alone, or several.
pub record Several (pieces : List (List ℕ)) : Type 0 where
  pub first : List ℕ
  pub second : List ℕ
  pub others : List (List ℕ)
  pub is : pieces ≡ first ∷ second ∷ others

module _ (by : ℕ) (s : List ℕ) (end : ℕ) (inside : end < length s) (rest : List ℕ) (part : rest ≡ drop (end + 1) s) (to : ℕ)
    (is : to ≡ 0 + cut_at by (drop 0 rest)) where
  behind : pieces_behind by (drop end s) ≡ take to rest ∷ pieces_behind by (drop to rest)
  behind = some_behind by s end inside ∙ ap (parted by) (sym part) ∙ first_piece by rest to is

  pub one_behind : to ≡ length rest → pieces_behind by (drop end s) ≡ rest ∷ []
  one_behind ends = behind ∙ rw (none_behind by rest to (omega arith), take_all to rest (omega arith)) refl

  pub several_behind : to ≢ length rest → Several (pieces_behind by (drop end s))
  several_behind on =
      let more : to < length rest = omega (arith, first_ends by rest to is, on) in
      let next = drop (to + 1) rest in
      record {
        first = take to rest;
        second = take (cut_at by next) next;
        others = pieces_behind by (drop (cut_at by next) next);
        is = behind ∙ ap (λ (pieces : List (List ℕ)). take to rest ∷ pieces) (some_behind by rest to more ∙ parted_cut by next);
      }
