-- A text in a lent place: with room it fills the first bytes, without the place is left as it was. Assumes nothing.
use Rattle.std.proofs.Common.{◌≡◌, ℕ, ◌<◌, ◌≤◌, List, length, sym, ap, ◌∙◌, inl, inr, arith, le-leb}
use borrow.Author.Tests.{lt-leb}
use Rattle.deployment.specs.FieldValues.{Writing, left_by, unwritten, writing}
use Rattle.deployment.specs.declared.Why.TheVariants.{Room}
use Rattle.std.specs.Prelude.{Result, Ok, Err}
use Rattle.deployment.specs.declared.Refusal.{Refusal}
use Rattle.deployment.proofs.Storing.{stored_fills}
use Rattle.lines.specs.Printing.{Whole, Needed}

pub no_room : {most : ℕ} (text place : List ℕ) (n : ℕ) → Needed most text (length place) n → length place < n
    → left_by (Err (record { why = Room; at = n })) place ≡ writing text place
unfolding writing unwritten
no_room text place n (inl e) small = rw (e, lt-leb (length text) (length place) (omega arith))
no_room text place n (inr (none, much)) small = absurd (omega arith)

fits : {most : ℕ} (text place : List ℕ) (n : ℕ) → Needed most text (length place) n → n ≤ length place → length text ≤ most → length text ≤ length place
fits text place n (inl e) enough short = omega arith
fits text place n (inr (none, much)) enough short = omega arith

pub room : {most : ℕ} (text place after : List ℕ) (n next : ℕ) → Needed most text (length place) n → n ≤ length place → Whole most place text after next
    → left_by (Ok next) after ≡ writing text place
unfolding writing
room text place after n next needed enough whole =
    let h = fits text place n needed enough whole.ends in
    let end : next ≡ length text = omega (arith, whole.put.end) in
    rw (end, le-leb (length text) (length place) h) (ap (left_by (Ok (length text))) (stored_fills whole.put h))

-- Two answers that leave the same are the same.
pub same_answers : {r s : (Result ℕ Refusal)} {after other : List ℕ} {left : Writing} → left_by r after ≡ left → left_by s other ≡ left → (r ≡ s) × (after ≡ other)
same_answers p q = let same = p ∙ sym q in (ap (λ (w : Writing). w.answer) same, ap (λ (w : Writing). w.place) same)

-- with room, the answer counts the text's bytes
pub written_all : {r : (Result ℕ Refusal)} {after : List ℕ} (output place : List ℕ) → left_by r after ≡ writing output place → length output ≤ length place
    → r ≡ Ok (length output)
unfolding writing
written_all output place p h = ap (λ (w : Writing). w.answer) (rw (le-leb (length output) (length place) h) at p)
