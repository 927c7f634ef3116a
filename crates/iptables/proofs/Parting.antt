-- Bytes are parted in one way: at each such byte, and nowhere else; the lines of a listing are the pieces that a line feed ends. The idea: the first
-- piece goes up to the first such byte, and what is behind that byte is parted again. Assumes nothing.
use Prim.Native.Nat.{ℕ, suc, ◌+◌, ◌≤◌, ◌<◌}
use native.Mathlib.Numerals.{add-one}
use native.Mathlib.Omega.{arith}
use mathlib.Core.Path.{◌≡◌, refl, sym, ◌∙◌, ap}
use mathlib.Core.Logic.{⊎_elim, ◌≢◌}
use mathlib.Core.List.{List, [], ◌∷◌, ◌++◌, map, append_assoc, cons-ne-nil}
use mathlib.Core.List.Memᴰ
use mathlib.Core.List.{Memᴰ}
use borrow.Author.Tests.{eqb-true, eqb-false, eq-eqb, ne_eqb}
use lib.Dec.{eqb}
use lib.ListN.{length, take, drop, get_or, drop_of_length-le}
use lib.Seq.{drop-cons, drop-length, append_snoc}
use Rattle.policy.proofs.Tests.{by_test}
use Rattle.deployment.specs.Bytes.{joined}
use Rattle.lines.specs.Text.{text}
use Rattle.iptables.specs.Words.{line_feed, longer, parted, cut_at, pieces_behind}
use Rattle.iptables.specs.Listing.{but_last, lines_of}
use Rattle.iptables.specs.Properties.{joined_by}
use Rattle.iptables.specs.Claims.{PartedOnce, LinesEnd}

-- The first piece, by the first byte: it ends there, or is longer by it.
ends_here : (by : ℕ) (s : List ℕ) → parted by (by ∷ s) ≡ [] ∷ parted by s
unfolding parted
ends_here by s = rw (eq-eqb by by refl, parted)

goes_on_lem : (by b : ℕ) (s : List ℕ) → b ≢ by → parted by (b ∷ s) ≡ longer b (parted by s)
unfolding parted
goes_on_lem by b s other = rw (ne_eqb b by other, parted)

-- what holds of bytes holds of bytes with one more in front, whether it parts or not
by_bytes : (by : ℕ) (P : List ℕ → Type 0) → P [] → ((s : List ℕ) → P s → P (by ∷ s)) → ((b : ℕ) (s : List ℕ) → b ≢ by → P s → P (b ∷ s))
    → (s : List ℕ) → P s
by_bytes by P empty parts other [] = empty
by_bytes by P empty parts other (b ∷ s) =
    let rest = by_bytes by P empty parts other s in
    by_test (eqb b by) (λ t. rw (eqb-true b by t) (parts s rest)) (λ f. other b s (eqb-false b by f) rest)

-- The place where the first piece ends.
cut_here : (by : ℕ) (s : List ℕ) → cut_at by (by ∷ s) ≡ 0
unfolding cut_at
cut_here by s = rw (eq-eqb by by refl)

cut_further : (by b : ℕ) (s : List ℕ) → b ≢ by → cut_at by (b ∷ s) ≡ suc (cut_at by s)
unfolding cut_at
cut_further by b s other = rw (ne_eqb b by other)

pub parted_cut : (by : ℕ) (s : List ℕ) → parted by s ≡ take (cut_at by s) s ∷ pieces_behind by (drop (cut_at by s) s)
unfolding parted cut_at pieces_behind longer
parted_cut by =
    by_bytes by (λ s. parted by s ≡ take (cut_at by s) s ∷ pieces_behind by (drop (cut_at by s) s)) refl
    (λ s h. rw (ends_here by s, cut_here by s))
    (λ b s other h. rw (goes_on_lem by b s other, cut_further by b s other, h))

pub cut_inside : (by : ℕ) (s : List ℕ) → cut_at by s ≤ length s
unfolding cut_at
cut_inside by =
    by_bytes by (λ s. cut_at by s ≤ length s) (omega arith)
    (λ s h. rw (cut_here by s) (omega arith))
    (λ b s other h. rw (cut_further by b s other) (omega arith))

-- The place from a position on, byte by byte: for a loop that looks for it.
module _ (by : ℕ) (s : List ℕ) (at : ℕ) where
  pub cut_at_end : length s ≤ at → cut_at by (drop at s) ≡ 0
  unfolding cut_at
  cut_at_end ends = rw (drop_of_length-le s {i = at} ends)

  pub cut_at_byte : at < length s → get_or s at 0 ≡ by → cut_at by (drop at s) ≡ 0
  cut_at_byte inside is = rw (drop-cons s at 0 inside, is) (cut_here by (drop (suc at) s))

  pub cut_behind_byte : at < length s → get_or s at 0 ≢ by → cut_at by (drop at s) ≡ suc (cut_at by (drop (at + 1) s))
  cut_behind_byte inside other = rw (drop-cons s at 0 inside, add-one at) (cut_further by (get_or s at 0) (drop (suc at) s) other)

-- Pieces put together again.
joined_more : (by : ℕ) (piece : List ℕ) (pieces : List (List ℕ)) → pieces ≢ []
    → joined_by by (piece ∷ pieces) ≡ piece ++ (by ∷ joined_by by pieces)
unfolding joined_by
joined_more by piece [] some = absurd (some refl)
joined_more by piece (next ∷ pieces) some = refl

joined_longer : (by b : ℕ) (pieces : List (List ℕ)) → pieces ≢ [] → joined_by by (longer b pieces) ≡ b ∷ joined_by by pieces
unfolding joined_by longer
joined_longer by b [] some = absurd (some refl)
joined_longer by b (piece ∷ []) some = refl
joined_longer by b (piece ∷ next ∷ pieces) some = refl

some_piece : (by : ℕ) (s : List ℕ) → parted by s ≢ []
some_piece by s e = cons-ne-nil _ _ (sym (parted_cut by s) ∙ e)

joined_parted : (by : ℕ) (s : List ℕ) → s ≡ joined_by by (parted by s)
unfolding parted joined_by
joined_parted by =
    by_bytes by (λ s. s ≡ joined_by by (parted by s)) refl
    (λ s h. rw (ends_here by s, joined_more by [] (parted by s) (some_piece by s)) (ap (λ (l : List ℕ). by ∷ l) h))
    (λ b s other h. rw (goes_on_lem by b s other, joined_longer by b (parted by s) (some_piece by s)) (ap (λ (l : List ℕ). b ∷ l) h))

-- No piece has such a byte.
abbrev AllPlain : ℕ → List (List ℕ) → Type 0
AllPlain by pieces = (piece : List ℕ) → Memᴰ piece pieces → ¬ Memᴰ by piece

plain_cons : (by : ℕ) (piece : List ℕ) (pieces : List (List ℕ)) → ¬ Memᴰ by piece → AllPlain by pieces → AllPlain by (piece ∷ pieces)
plain_cons by piece pieces first others p t = ⊎_elim (λ e. rw e first) (λ u. others p u) (Memᴰ.cases_cons t)

plain_longer : (by b : ℕ) (pieces : List (List ℕ)) → b ≢ by → AllPlain by pieces → AllPlain by (longer b pieces)
unfolding longer
plain_longer by b [] other plain = plain
plain_longer by b (piece ∷ pieces) other plain =
    plain_cons by (b ∷ piece) pieces
    (λ t. ⊎_elim (λ e. other (sym e)) (plain piece (Memᴰ.head refl)) (Memᴰ.cases_cons t))
    (λ p t. plain p (Memᴰ.tail t))

all_plain : (by : ℕ) (s : List ℕ) → AllPlain by (parted by s)
unfolding parted
all_plain by =
    by_bytes by (λ s. AllPlain by (parted by s)) (plain_cons by [] [] Memᴰ.not-nil (λ p t. absurd (Memᴰ.not-nil t)))
    (λ s h. rw (ends_here by s) (plain_cons by [] (parted by s) Memᴰ.not-nil h))
    (λ b s other h. rw (goes_on_lem by b s other) (plain_longer by b (parted by s) other h))

-- And back: a piece without such a byte, in front of one or at the end.
pub plain_ends : (by : ℕ) (piece s : List ℕ) → ¬ Memᴰ by piece → parted by (piece ++ (by ∷ s)) ≡ piece ∷ parted by s
unfolding longer
plain_ends by [] s plain = ends_here by s
plain_ends by (b ∷ piece) s plain =
    goes_on_lem by b (piece ++ (by ∷ s)) (λ e. plain (Memᴰ.head (sym e)))
    ∙ ap (longer b) (plain_ends by piece s (λ t. plain (Memᴰ.tail t)))

pub plain_last : (by : ℕ) (piece : List ℕ) → ¬ Memᴰ by piece → parted by piece ≡ piece ∷ []
unfolding longer parted
plain_last by [] plain = refl
plain_last by (b ∷ piece) plain =
    goes_on_lem by b piece (λ e. plain (Memᴰ.head (sym e))) ∙ ap (longer b) (plain_last by piece (λ t. plain (Memᴰ.tail t)))

parted_joined : (by : ℕ) (pieces : List (List ℕ)) → pieces ≢ [] → AllPlain by pieces → parted by (joined_by by pieces) ≡ pieces
unfolding joined_by
parted_joined by [] some plain = absurd (some refl)
parted_joined by (piece ∷ []) some plain = plain_last by piece (plain piece (Memᴰ.head refl))
parted_joined by (piece ∷ next ∷ pieces) some plain =
    plain_ends by piece (joined_by by (next ∷ pieces)) (plain piece (Memᴰ.head refl))
    ∙ ap (λ (l : List (List ℕ)). piece ∷ l) (parted_joined by (next ∷ pieces) (cons-ne-nil next pieces) (λ p t. plain p (Memᴰ.tail t)))

pub parted_once : PartedOnce
parted_once by s pieces = (
  λ e. rw (← e) (record { is = joined_parted by s; some = some_piece by s; plain = all_plain by s }),
  λ p. ap (parted by) p.is ∙ parted_joined by pieces p.some p.plain,
)

-- The lines: each but the last piece, with a line feed.
more_lines : (piece : List ℕ) (pieces : List (List ℕ)) → pieces ≢ [] → but_last (piece ∷ pieces) ≡ piece ∷ but_last pieces
unfolding but_last
more_lines piece [] some = absurd (some refl)
more_lines piece (next ∷ pieces) some = refl

pub lines_cut : (s : List ℕ) → cut_at line_feed s < length s
    → lines_of s ≡ take (cut_at line_feed s) s ∷ lines_of (drop (suc (cut_at line_feed s)) s)
unfolding lines_of pieces_behind
lines_cut s inside =
    let cut = cut_at line_feed s in
    rw (parted_cut line_feed s, drop-cons s cut 0 inside)
    (more_lines (take cut s) (parted line_feed (drop (suc cut) s)) (some_piece line_feed (drop (suc cut) s)))

pub no_line : (s : List ℕ) → cut_at line_feed s ≡ length s → lines_of s ≡ []
unfolding lines_of pieces_behind but_last
no_line s ends = rw (parted_cut line_feed s, ends, drop-length s)

-- pieces are those but the last with such a byte each, and the last
record Ended (by : ℕ) (pieces : List (List ℕ)) : Type 0 where
  last : List ℕ
  there : Memᴰ last pieces
  is : joined_by by pieces ≡ joined (map (λ line. line ++ (by ∷ [])) (but_last pieces)) ++ last
  lines : (line : List ℕ) → Memᴰ line (but_last pieces) → Memᴰ line pieces

ended : (by : ℕ) (pieces : List (List ℕ)) → pieces ≢ [] → Ended by pieces
unfolding joined_by but_last joined
ended by [] some = absurd (some refl)
ended by (piece ∷ []) some =
    record { last = piece; there = Memᴰ.head refl; is = refl; lines = λ line t. absurd (Memᴰ.not-nil t) }
ended by (piece ∷ next ∷ pieces) some =
    let rest = ended by (next ∷ pieces) (cons-ne-nil next pieces) in
    let others = joined (map (λ (line : List ℕ). line ++ (by ∷ [])) (but_last (next ∷ pieces))) in
    record {
      last = rest.last;
      there = Memᴰ.tail rest.there;
      is = ap (λ (l : List ℕ). piece ++ (by ∷ l)) rest.is ∙ sym (append_snoc piece by (others ++ rest.last))
          ∙ sym (append_assoc (piece ++ (by ∷ [])) others rest.last);
      lines = λ line t. ⊎_elim (λ e. Memᴰ.head e) (λ u. Memᴰ.tail (rest.lines line u)) (Memᴰ.cases_cons t);
    }

pub lines_end : LinesEnd
unfolding lines_of text
lines_end listing =
    let end = ended line_feed (parted line_feed listing) (some_piece line_feed listing) in
    let plain = all_plain line_feed listing in
    ((end.last, joined_parted line_feed listing ∙ end.is, plain end.last end.there), λ line t. plain line (end.lines line t))
