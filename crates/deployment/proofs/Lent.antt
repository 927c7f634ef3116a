-- What an entry answers and what it leaves in a lent place, whatever its answer is: turned away as what is read is, or answered for the
-- contents; and the output in the place, or 13. Every entry over files and over lists cites these. Assumes nothing.
use Prim.Native.Nat.{ℕ, ◌≤◌, ◌<◌}
use native.Mathlib.Omega.{arith}
use mathlib.Core.Path.{◌≡◌, refl, sym, ◌∙◌, ap}
use mathlib.Core.Logic.{◌↔◌}
use mathlib.Core.List.{List, [], ◌∷◌}
use borrow.Author.Tests.{le-leb, lt-leb, leb-true, leb-false}
use lib.Dec.{leb}
use lib.ListN.{length}
use Rattle.policy.proofs.Tests.{by_test}
use Rattle.deployment.specs.Checked.{Checked, good, bad, refusal_numbers}
use Rattle.deployment.specs.Contents.{Contents}
use Rattle.deployment.specs.File.{Reading, accepted, refused, reading_numbers}
use Rattle.deployment.specs.FieldValues.{answered, answered_at_zero, Left, left_by, left_alone, filled, sent, TooSmall}
use Rattle.deployment.specs.declared.Why.{Why}
use Rattle.deployment.specs.declared.Why.TheVariants.{Room}
use Rattle.deployment.specs.declared.Refusal.{Refusal}
use Rattle.deployment.proofs.Numbers.{both_same}

-- What is read: turned away, or answered for the contents.
module _ {A : Type 0} (for : Contents → A) (turned : Refusal → A) {reading : Reading} where
  pub turned_away : (refusal : Refusal) → reading ≡ refused refusal → turned refusal ≡ answered for turned reading
  turned_away refusal read = rw read

  pub for_contents : {c : Contents} {answer : A} → reading ≡ accepted c → answer ≡ for c → answer ≡ answered for turned reading
  for_contents read is = rw read is

-- Values that are tested: turned away at position 0, or answered for what they are read as.
module _ {A B : Type 0} (for : A → B) (turned : Refusal → B) {read : Checked A} where
  pub turned_at_zero : (why : Why) → read ≡ bad why → turned (record { why = why; at = 0 }) ≡ answered_at_zero for turned read
  turned_at_zero why e = rw e

  pub for_passed : {a : A} {answer : B} → read ≡ good a → answer ≡ for a → answer ≡ answered_at_zero for turned read
  for_passed e is = rw e is

-- What is left says the answer and the place.
pub same_left : {A : Type 0} {r s : A} {p q : List ℕ} {left : Left A} → left_by r p ≡ left → left_by s q ≡ left → (r ≡ s) × (p ≡ q)
same_left {A} one two = let same = one ∙ sym two in (ap (λ (l : Left A). l.answer) same, ap (λ (l : Left A). l.place) same)

-- The output in the place, or 13.
module _ {A : Type 0} (turned : Refusal → A) (done : A) (output place : List ℕ) where
  pub no_room : (n : ℕ) → length output ≡ n → length place < n
      → left_by (turned (record { why = Room; at = n })) place ≡ sent turned done output place
  no_room n long small = rw (long, lt-leb n (length place) small)

  pub with_room : (n : ℕ) → length output ≡ n → n ≤ length place → {now : List ℕ} → now ≡ filled place output
      → left_by done now ≡ sent turned done output place
  with_room n long room is = rw (long, le-leb n (length place) room, is)

  pub sent_cases {ℓ} : (P : Left A → Type ℓ) → (length output ≤ length place → P (left_by done (filled place output)))
      → (length place < length output → P (left_alone turned place (record { why = Room; at = length output })))
      → P (sent turned done output place)
  sent_cases P fits small =
      by_test (leb (length output) (length place))
      (λ t. rw t (fits (leb-true (length output) (length place) t)))
      (λ f. rw f (small (leb-false (length output) (length place) f)))

-- no numbers are those of a refusal
pub no_numbers {ℓ} : {A : Type ℓ} {number at : ℕ} → ◌≡◌ {A = List ℕ} [] (number ∷ at ∷ []) → A
no_numbers e = absurd (omega (arith, ap length e))

-- An entry that writes an output for accepted contents, by the numbers of its answer: three answers.
module _ {A : Type 0} (numbers : A → List ℕ) (turned : Refusal → A) (say : (r : Refusal) → numbers (turned r) ≡ refusal_numbers r)
    (done : Contents → A) (none : (c : Contents) → numbers (done c) ≡ []) (output : Contents → List ℕ) (reading : Reading) (place : List ℕ) where
  abbrev pub left : Left A
  left = answered (λ c. sent turned (done c) (output c) place) (left_alone turned place) reading

  written_cases {ℓ} : (P : Left A → Type ℓ)
      → ((c : Contents) → reading ≡ accepted c → length (output c) ≤ length place → P (left_by (done c) (filled place (output c))))
      → ((c : Contents) → reading ≡ accepted c → length place < length (output c)
      → P (left_alone turned place (record { why = Room; at = length (output c) })))
      → ((refusal : Refusal) → reading ≡ refused refusal → P (left_alone turned place refusal)) → P left
  written_cases P fits small away = go reading refl
    where
      go : (r : Reading) → reading ≡ r → P (answered (λ c. sent turned (done c) (output c) place) (left_alone turned place) r)
      go (accepted c) e = sent_cases turned (done c) (output c) place P (fits c e) (small c e)
      go (refused refusal) e = away refusal e

  pub turned_away_keeps : (number at : ℕ) → numbers left.answer ≡ number ∷ at ∷ [] → left.place ≡ place
  turned_away_keeps number at =
      written_cases (λ l. numbers l.answer ≡ number ∷ at ∷ [] → l.place ≡ place)
      (λ c read fits e. no_numbers (sym (none c) ∙ e)) (λ c read small e. refl) (λ refusal read e. refl)

  pub refused_for_room : (at : ℕ) → ¬ (reading_numbers reading ≡ 13 ∷ at ∷ [])
      → (numbers left.answer ≡ 13 ∷ at ∷ []) ↔ TooSmall output reading place at
  unfolding reading_numbers refusal_numbers
  refused_for_room at other = (
    written_cases (λ l. numbers l.answer ≡ 13 ∷ at ∷ [] → TooSmall output reading place at)
        (λ c read fits e. no_numbers (sym (none c) ∙ e)) (λ c read small e. (c, read, small, sym (both_same (sym (say _) ∙ e)).1))
        (λ refusal read e. absurd (other (ap reading_numbers read ∙ (sym (say refusal) ∙ e)))),
    λ h.
        written_cases (λ l. numbers l.answer ≡ 13 ∷ at ∷ [])
        (λ c read fits. let same : c ≡ h.0 = cc in absurd (omega (arith, h.2, ap (λ (d : Contents). length (output d)) same)))
        (λ c read small. let same : c ≡ h.0 = cc in say _ ∙ rw (same, ← h.3))
        (λ refusal read. absurd (let z : ◌≡◌ {A = ℕ} 0 1 = cc in omega arith)),
  )

  pub refused_for_reading : (number at : ℕ) → ¬ (number ≡ 13)
      → (numbers left.answer ≡ number ∷ at ∷ []) ↔ (reading_numbers reading ≡ number ∷ at ∷ [])
  unfolding reading_numbers refusal_numbers
  refused_for_reading number at other = (
    written_cases (λ l. numbers l.answer ≡ number ∷ at ∷ [] → reading_numbers reading ≡ number ∷ at ∷ [])
        (λ c read fits e. no_numbers (sym (none c) ∙ e)) (λ c read small e. absurd (other (sym (both_same (sym (say _) ∙ e)).0)))
        (λ refusal read e. ap reading_numbers read ∙ (sym (say refusal) ∙ e)),
    λ is.
        written_cases (λ l. numbers l.answer ≡ number ∷ at ∷ [])
        (λ c read fits. no_numbers (sym (ap reading_numbers read) ∙ is))
        (λ c read small. no_numbers (sym (ap reading_numbers read) ∙ is))
        (λ refusal read. say refusal ∙ (sym (ap reading_numbers read) ∙ is)),
  )
