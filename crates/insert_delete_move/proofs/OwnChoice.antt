-- The planner's own choice of rules to keep, rule by rule of the target. What stands in the initial policy after the last rule kept is what
-- follows that rule's place; so a rule stands there exactly when its place is greater. Assumes nothing.
use Prim.Native.Nat.{ℕ, suc, ◌+◌, ◌≤◌, ◌<◌}
use native.Mathlib.Numerals.{add-one}
use mathlib.Core.Path.{◌≡◌, sym, ◌∙◌, ap}
use mathlib.Core.Bool.{true, false}
use mathlib.Core.List.{List, ◌∷◌, ◌++◌, append-nil}
use borrow.Author.Tests.{lt-ltb, le-ltb}
use lib.ListN.{length, take, drop, get_or, set, drop_of_length-le}
use lib.Seq.{drop-cons, take-suc-set, append_snoc}
use Rattle.policy.specs.Lists.{mem, after}
use Rattle.policy.specs.InsertDeleteMove.{own_choice}
use Rattle.policy.specs.Properties.{Distinct}
use Rattle.running.specs.Place.{place_in}
use Rattle.first_stage.proofs.ByPlace.{place_order, place_after}

-- The loop: the rules kept so far, and the choice among the rest of the target after the last of them.
abbrev pub Chosen : List ℕ → List ℕ → List ℕ → ℕ → ℕ → ℕ → Type 0
Chosen initial target kept count last j = take count kept ++ own_choice (drop last initial) (drop j target) ≡ own_choice initial target

choice_one : (r : ℕ) (left target : List ℕ) → mem r left ≡ true → own_choice left (r ∷ target) ≡ r ∷ own_choice (after r left) target
unfolding own_choice
choice_one r left target t = rw (t, own_choice)

choice_none : (r : ℕ) (left target : List ℕ) → mem r left ≡ false → own_choice left (r ∷ target) ≡ own_choice left target
unfolding own_choice
choice_none r left target f = rw (f, own_choice)

module _ (initial target kept : List ℕ) (count last j : ℕ) (chosen : Chosen initial target kept count last j) where
  pub choice_ends : length target ≤ j → take count kept ≡ own_choice initial target
  unfolding own_choice
  choice_ends end = sym (append-nil (take count kept)) ∙ (rw (drop_of_length-le target {i = j} end) at chosen)

  module _ (more : j < length target) where
    pub choice_keeps : Distinct initial → count < length kept → last < place_in (get_or target j 0) initial
        → Chosen initial target (set kept count (get_or target j 0)) (count + 1) (place_in (get_or target j 0) initial) (j + 1)
    choice_keeps d room greater =
        let r = get_or target j 0 in
        let left = drop last initial in
        rw (add-one count, add-one j, take-suc-set kept count r room, append_snoc)
        (ap (λ (l : List ℕ). take count kept ++ l)
        (sym (
        ap (own_choice left) (drop-cons target j 0 more)
        ∙ choice_one r left (drop (suc j) target) (sym (place_order last r initial d) ∙ lt-ltb last (place_in r initial) greater)
        ∙ ap (λ (l : List ℕ). r ∷ own_choice l (drop (suc j) target)) (place_after last r initial greater)))
        ∙ chosen)

    pub choice_passes : Distinct initial → place_in (get_or target j 0) initial ≤ last → Chosen initial target kept count last (j + 1)
    choice_passes d fewer =
        let r = get_or target j 0 in
        let left = drop last initial in
        let absent : mem r left ≡ false = sym (place_order last r initial d) ∙ le-ltb last (place_in r initial) fewer in
        rw add-one
        (ap (λ (l : List ℕ). take count kept ++ l)
        (sym (ap (own_choice left) (drop-cons target j 0 more) ∙ choice_none r left (drop (suc j) target) absent))
        ∙ chosen)
