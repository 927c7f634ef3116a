-- The side array through the commands: an array that is right for the old list, renumbered from a place on, is right for the new one.
-- The idea: `w` stays in front, and what stood behind it is among what stands there now, so what isn't numbered anew is right already.
-- Assumes nothing.
use Prim.Native.Nat.{ℕ, suc, ◌-◌, ◌≤◌, ◌<◌}
use native.Mathlib.Omega.{arith}
use mathlib.Core.Path.{◌≡◌, refl, sym, ◌∙◌, ap, subst, subst₂}
use mathlib.Core.Logic.{⊎_elim}
use mathlib.Core.List.Memᴰ
use mathlib.Core.List.{
  List,
  [],
  ◌∷◌,
  ◌++◌,
  append-nil,
}
use borrow.Author.Tests.{eqb-true, eqb-false}
use lib.Dec.{eqb}
use lib.ListN.{length, take, drop, get_or, set, replicate, length-append, length-take, length-drop, length-set, length-replicate, get_or-replicate, take-append-drop}
use lib.Seq.{get_or-set_same, get_or-set_other, drop-append_seam, take-append-le, take-take, append_snoc, split_at}
use Rattle.policy.specs.Command.{rule_at, lifted, placed, moved}
use Rattle.policy.specs.Properties.{In, Distinct, Within}
use Rattle.policy.proofs.Tests.{by_test}
use Rattle.policy.proofs.Lists.{in_around, around_cases}
use Rattle.policy.proofs.Order.{distinct_right, distinct_apart, not_earlier, distinct_around, around_distinct}
use Rattle.running.specs.Place.{place_in}
use Rattle.running.proofs.Place.{place_absent, place_at, place_front}
use Rattle.places.specs.Places.{renumbered, Says}

-- one slot set to its rule's place, and the others right already
set_right : (places l : List ℕ) (x place : ℕ) → length places ≡ 1024 → place ≡ place_in x l
    → (r : ℕ) → r < 1024 → (¬ (r ≡ x) → get_or places r 0 ≡ place_in r l) → get_or (set places x place) r 0 ≡ place_in r l
set_right places l x place slots e r h others =
    by_test (eqb x r)
    (λ t. let same = eqb-true x r t in
    subst (λ (s : ℕ). get_or (set places x place) s 0 ≡ place_in s l) same (get_or-set_same places x place 0 (omega arith) ∙ e))
    (λ f. let other : ¬ (r ≡ x) = λ same. eqb-false x r f (sym same) in
    get_or-set_other places x r place 0 other ∙ others other)

-- `b` comes behind `w`, is numbered, and everything else is right already
says_behind : (b places w : List ℕ) → length places ≡ 1024 → Distinct b → ((r : ℕ) → In r b → ¬ In r w)
    → ((r : ℕ) → r < 1024 → ¬ In r b → get_or places r 0 ≡ place_in r w) → Says (renumbered (suc (length w)) b places) (w ++ b)
unfolding renumbered
says_behind [] places w slots d apart right = (slots, λ r h. right r h Memᴰ.not-nil ∙ ap (place_in r) (sym (append-nil w)))
says_behind (x ∷ b) places w slots d apart right =
    let place = suc (length w) in
    let next = set places x place in
    let right' : (r : ℕ) → r < 1024 → ¬ In r b → get_or next r 0 ≡ place_in r (w ++ (x ∷ [])) =
    λ r h n. set_right places (w ++ (x ∷ [])) x place slots (sym (place_at x w [] (apart x (Memᴰ.head refl)))) r h
    (λ other. right r h (λ k. ⊎_elim other n (Memᴰ.cases_cons k))
    ∙ sym (place_front r w (x ∷ []) (λ k. ⊎_elim other Memᴰ.not-nil (Memᴰ.cases_cons k)))) in
    let apart' : (r : ℕ) → In r b → ¬ In r (w ++ (x ∷ [])) =
    λ r h k. ⊎_elim (λ t. apart r (Memᴰ.tail h) t)
    (λ t. ⊎_elim (λ e. d.0 (Memᴰ.cast (sym e) h)) Memᴰ.not-nil (Memᴰ.cases_cons t)) (Memᴰ.append_cases w k) in
    let longer : length (w ++ (x ∷ [])) ≡ suc (length w) = omega (arith, length-append w (x ∷ [])) in
    subst₂ (λ (n : ℕ) (l : List ℕ). Says (renumbered (suc n) b next) l) longer (append_snoc w x b)
    (says_behind b next (w ++ (x ∷ [])) (length-set places x place ∙ slots) d.1 apart' right')

-- `w` stays in front, and what stood behind it is among what stands there now
says_anew : (places w a b : List ℕ) → Says places (w ++ a) → Within a b → Distinct b → ((r : ℕ) → In r b → ¬ In r w)
    → Says (renumbered (suc (length w)) b places) (w ++ b)
says_anew places w a b right stay d apart =
    says_behind b places w right.0 d apart (λ r h n. right.1 r h ∙ place_front r w a (λ k. n (stay r k)))

-- the same where the numbering starts from an index of the new list
from_index : (places w b : List ℕ) (k : ℕ) → k ≡ length w → Says (renumbered (suc (length w)) b places) (w ++ b)
    → Says (renumbered (suc k) (drop k (w ++ b)) places) (w ++ b)
from_index places w b k e right = rw (e, drop-append_seam w b) right

-- no rule
pub says_none : Says (replicate 1024 0) []
unfolding place_in
says_none = (length-replicate {A = ℕ} 1024 0, λ r h. get_or-replicate {A = ℕ} 1024 r 0 0 h)

-- a list numbered from nothing
pub says_numbered : (l : List ℕ) → Distinct l → Says (renumbered 1 l (replicate 1024 0)) l
says_numbered l d =
    says_anew (replicate 1024 0) [] [] l says_none (λ r h. absurd (Memᴰ.not-nil h)) d (λ r h k. Memᴰ.not-nil k)

-- `app r`
pub says_appended : (places l : List ℕ) (r : ℕ) → Says places l → ¬ In r l → Says (set places r (suc (length l))) (l ++ (r ∷ []))
unfolding renumbered
says_appended places l r right new =
    says_anew places l [] (r ∷ []) (rw append-nil right) (λ s h. absurd (Memᴰ.not-nil h)) (Memᴰ.not-nil, tt)
    (λ s h k. ⊎_elim (λ e. new (Memᴰ.cast (sym e) k)) Memᴰ.not-nil (Memᴰ.cases_cons h))

pub says_appended_from : (places l : List ℕ) (r : ℕ) → Says places l → ¬ In r l
    → Says (renumbered (suc (length l)) (drop (length l) (l ++ (r ∷ []))) places) (l ++ (r ∷ []))
unfolding renumbered
says_appended_from places l r right new = from_index places l (r ∷ []) (length l) refl (says_appended places l r right new)

-- a rule taken out
pub says_lifted : (places u v : List ℕ) (x : ℕ) → Distinct (u ++ (x ∷ v)) → Says places (u ++ (x ∷ v))
    → Says (renumbered (suc (length u)) v (set places x 0)) (u ++ v)
says_lifted places u v x d right =
    let behind = distinct_right u (x ∷ v) d in
    says_behind v (set places x 0) u (length-set places x 0 ∙ right.0) behind.1
    (λ r h k. distinct_apart u (x ∷ v) d r k (Memᴰ.tail h))
    (λ r h n. set_right places u x 0 right.0 (sym (place_absent x u (not_earlier x u v d))) r h
    (λ other. right.1 r h ∙ place_front r u (x ∷ v) (λ k. ⊎_elim other n (Memᴰ.cases_cons k))))

-- a rule put in
pub says_placed : (places u v : List ℕ) (x : ℕ) → Distinct (u ++ (x ∷ v)) → Says places (u ++ v)
    → Says (renumbered (suc (length u)) (x ∷ v) places) (u ++ (x ∷ v))
says_placed places u v x d right =
    says_anew places u v (x ∷ v) right (λ r h. Memᴰ.tail h) (distinct_right u (x ∷ v) d) (λ r h k. distinct_apart u (x ∷ v) d r k h)

-- a rule moved: `w` is any common front part of the old list and the new one
pub says_moved : (places w a b u v p q : List ℕ) (x : ℕ) → w ++ a ≡ u ++ (x ∷ v) → w ++ b ≡ p ++ (x ∷ q) → u ++ v ≡ p ++ q
    → Distinct (w ++ a) → Says places (w ++ a) → Says (renumbered (suc (length w)) (drop (length w) (w ++ b)) places) (w ++ b)
says_moved places w a b u v p q x old new same d right =
    let around = distinct_around x u v (rw old at d) in
    let d' : Distinct (w ++ b) = rw new (around_distinct x p q (rw same at around.0) (rw same at around.1)) in
    let moves : Within (w ++ a) (w ++ b) =
    λ r h. rw new
    (⊎_elim (λ e. Memᴰ.append_right p (Memᴰ.head e)) (λ t. in_around x r p q (rw same at t)) (around_cases x r u v (rw old at h))) in
    from_index places w b (length w) refl
    (says_anew places w a b right
    (λ r h. ⊎_elim (λ t. absurd (distinct_apart w a d r t h)) (λ t. t) (Memᴰ.append_cases w (moves r (Memᴰ.append_right w h))))
    (distinct_right w b d') (λ r h k. distinct_apart w b d' r k h))

-- The same in the words of the commands: by places, and from an index of the new list on.

-- the list cut around its i-th rule
cut_around : (i : ℕ) (l : List ℕ) → 0 < i → i ≤ length l → l ≡ take (i - 1) l ++ (rule_at i l ∷ drop i l)
unfolding rule_at
cut_around i l some h =
    let at : suc (i - 1) ≡ i = omega arith in
    split_at l (i - 1) 0 (omega arith) ∙ ap (λ (k : ℕ). take (i - 1) l ++ (get_or l (i - 1) 0 ∷ drop k l)) at

pub says_lifted_from : (places l : List ℕ) (i : ℕ) → 0 < i → i ≤ length l → Distinct l → Says places l
    → Says (renumbered (suc (i - 1)) (drop (i - 1) (lifted i l)) (set places (rule_at i l) 0)) (lifted i l)
unfolding lifted
says_lifted_from places l i some h d right =
    let cut = cut_around i l some h in
    from_index (set places (rule_at i l) 0) (take (i - 1) l) (drop i l) (i - 1) (omega (arith, length-take (i - 1) l))
    (says_lifted places (take (i - 1) l) (drop i l) (rule_at i l) (subst Distinct cut d) (subst (Says places) cut right))

pub says_placed_from : (places l : List ℕ) (i r : ℕ) → i ≤ suc (length l) → ¬ In r l → Distinct l → Says places l
    → Says (renumbered (suc (i - 1)) (drop (i - 1) (placed i r l)) places) (placed i r l)
unfolding placed
says_placed_from places l i r h new d right =
    let u = take (i - 1) l in
    let v = drop (i - 1) l in
    let whole : l ≡ u ++ v = sym (take-append-drop (i - 1) l) in
    from_index places u (r ∷ v) (i - 1) (omega (arith, length-take (i - 1) l))
    (says_placed places u v r (around_distinct r u v (subst (λ (m : List ℕ). ¬ In r m) whole new) (subst Distinct whole d)) (subst (Says places) whole right))

-- a move leaves what stands before both places
moved_front : (l : List ℕ) (i j k : ℕ) → k < i → k < j → i ≤ length l → j ≤ length l → take k (moved i j l) ≡ take k l
unfolding moved placed lifted
moved_front l i j k before-from before-to h g =
    let u = take (i - 1) l in
    let v = drop i l in
    let long = length-append u v in
    take-append-le k (take (j - 1) (u ++ v)) (rule_at i l ∷ drop (j - 1) (u ++ v))
    (omega (arith, length-take (j - 1) (u ++ v), length-take (i - 1) l, length-drop i l))
    ∙ take-take k (j - 1) (u ++ v) (omega arith)
    ∙ take-append-le k u v (omega (arith, length-take (i - 1) l))
    ∙ take-take k (i - 1) l (omega arith)

pub says_moved_from : (places l : List ℕ) (i j k : ℕ) → k < i → k < j → i ≤ length l → j ≤ length l → Distinct l → Says places l
    → Says (renumbered (suc k) (drop k (moved i j l)) places) (moved i j l)
unfolding moved placed lifted
says_moved_from places l i j k before-from before-to h g d right =
    let new = moved i j l in
    let kept = lifted i l in
    let old : take k l ++ drop k l ≡ l = take-append-drop k l in
    let made : take k l ++ drop k new ≡ new = ap (λ (w : List ℕ). w ++ drop k new) (sym (moved_front l i j k before-from before-to h g)) ∙ take-append-drop k new in
    let long : length (take k l) ≡ k = omega (arith, length-take k l) in
    subst₂ (λ (n : ℕ) (m : List ℕ). Says (renumbered (suc n) (drop n m) places) m) long made
    (says_moved places (take k l) (drop k l) (drop k new) (take (i - 1) l) (drop i l) (take (j - 1) kept) (drop (j - 1) kept) (rule_at i l)
    (old ∙ cut_around i l (omega arith) h) made (sym (take-append-drop (j - 1) kept)) (rw old d) (rw old right))
