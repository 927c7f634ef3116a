-- What a rule's place says: 0, that the rule is absent; and above a number, that the rule stands behind so many others. Assumes nothing.
use Prim.Native.Nat.{ℕ, zero, suc, ◌<◌}
use native.Mathlib.Numerals.{add-one}
use native.Mathlib.Omega.{arith}
use mathlib.Core.Path.{◌≡◌, sym, ◌∙◌, ap}
use mathlib.Core.Bool.{true, false, not}
use mathlib.Core.List.Memᴰ
use mathlib.Core.List.{List, [], ◌∷◌, ◌++◌}
use borrow.Author.Tests.{eq-eqb, ne_eqb, lt-ltb, ltb-true}
use lib.Dec.{eqb, ltb}
use lib.ListN.{length, take, drop, get_or, replicate, take-append-drop}
use lib.Seq.{drop-append-le, drop-append-add}
use Rattle.policy.specs.Lists.{mem, before, after}
use Rattle.policy.specs.Properties.{In, Distinct}
use Rattle.policy.proofs.Tests.{by_test, never, falsely, truly}
use Rattle.policy.proofs.Lists.{mem_in, in_mem, in_middle, before_after, not_before, after_at}
use Rattle.running.specs.Place.{further, place_in}
use Rattle.places.specs.Places.{renumbered, Says}
use Rattle.running.proofs.Place.{absent_place, place_present}
use Rattle.places.proofs.Says.{says_numbered}

-- a place that isn't 0 says that the rule is in the list
pub place_tells : (places l : List ℕ) (r place : ℕ) → Says places l → r < 1024 → place ≡ get_or places r 0 → not (eqb place 0) ≡ mem r l
place_tells places l r place says small is =
    let at : place ≡ place_in r l = is ∙ says.1 r small in
    by_test (mem r l)
    (λ t. rw (t, ne_eqb place 0 (λ e. omega (arith, place_present r l (mem_in r l t)))))
    (λ f. rw (f, eq-eqb place 0 (at ∙ absent_place r l f)))

-- the places of rules that differ, numbered from none
pub places_say : {places : List ℕ} (l : List ℕ) → Distinct l → places ≡ renumbered 1 l (replicate 1024 0) → Says places l
places_say l d is = rw is (says_numbered l d)

-- what is left when some are dropped was in the list
pub drop_in : (n r : ℕ) (l : List ℕ) → In r (drop n l) → In r l
drop_in n r l h = rw (take-append-drop n l) at (Memᴰ.append_right (take n l) h)

-- a rule that stands behind so many others has a greater place
behind_place : (n r : ℕ) (l : List ℕ) → Distinct l → In r (drop n l) → n < place_in r l
unfolding place_in further
behind_place zero r l d h = omega (arith, place_present r l h)
behind_place (suc n) r [] d h = absurd (Memᴰ.not-nil h)
behind_place (suc n) r (x ∷ l) d h =
    let here = drop_in n r l h in
    let other : eqb x r ≡ false = ne_eqb x r (λ e. d.0 (Memᴰ.cast e here)) in
    let place = place_present r l here in
    rw (other, place) (omega (arith, behind_place n r l d.1 h))

-- a rule with a greater place stands behind so many others, and what follows it there follows its place
module _ (n r : ℕ) (l : List ℕ) (greater : n < place_in r l) where
  present : In r l
  present = mem_in r l (truly (λ f. omega (arith, absent_place r l f)))

  cut : drop n l ≡ drop n (before r l) ++ (r ∷ after r l)
  cut =
      ap (drop n) (before_after r l present)
      ∙ drop-append-le n (before r l) (r ∷ after r l) (omega (arith, place_present r l present))

  place_behind : mem r (drop n l) ≡ true
  place_behind = in_mem r (drop n l) (rw cut (in_middle r (drop n (before r l)) (after r l)))

  pub place_after : after r (drop n l) ≡ drop (place_in r l) l
  place_after =
      ap (after r) cut
      ∙ after_at r (drop n (before r l)) (after r l) (λ h. not_before r l (drop_in n r (before r l) h))
      ∙ sym (rw add-one at (drop-append-add (before r l) (r ∷ after r l) 1))
      ∙ (rw (place_present r l present) (ap (drop (suc (length (before r l)))) (sym (before_after r l present))))

-- so the test of the one is the test of the other
pub place_order : (n r : ℕ) (l : List ℕ) → Distinct l → ltb n (place_in r l) ≡ mem r (drop n l)
place_order n r l d =
    by_test (mem r (drop n l))
    (λ t. lt-ltb n (place_in r l) (behind_place n r l d (mem_in r (drop n l) t)) ∙ sym t)
    (λ f. falsely (λ t. never (place_behind n r l (ltb-true n (place_in r l) t)) f) ∙ sym f)
