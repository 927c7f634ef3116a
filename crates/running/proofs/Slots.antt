-- The array of slots and the list that it shows: a rule taken out by copying those behind it up, one put in by copying them down. Assumes nothing.
use Prim.Native.Nat.{ℕ, zero, suc, ◌+◌, ◌-◌, ◌≤◌, ◌<◌}
use native.Mathlib.Omega.{arith}
use native.Mathlib.Numerals.{add-one}
use mathlib.Core.Path.{◌≡◌, refl, sym, ◌∙◌, ap, ap₂}
use mathlib.Core.List.{List, [], ◌∷◌, ◌++◌}
use lib.ListN.{length, take, drop, get_or, set, length-drop, length-append}
use lib.Seq.{length-take-le, take-take, drop-cons, drop_at, take-set-lt, set_split, get_or-take, paste, take-paste}
use Rattle.std.proofs.lemmas.List.{drop-take, take-append-le}

-- as many as are shown, taken again
pub take_shown : (n : ℕ) (l : List ℕ) → take (length (take n l)) l ≡ take n l
take_shown zero l = refl
take_shown (suc n) [] = refl
take_shown (suc n) (x ∷ l) = ap (λ (m : List ℕ). x ∷ m) (take_shown n l)

-- the slot at index k is the first of those that are shown from there on
pub behind_cons : (k n : ℕ) (a : List ℕ) → k < n → n ≤ length a → drop k (take n a) ≡ get_or a k 0 ∷ drop (suc k) (take n a)
behind_cons k n a h fits =
    drop-cons (take n a) k 0 (omega (arith, length-take-le n a fits))
    ∙ ap (λ (x : ℕ). x ∷ drop (suc k) (take n a)) (get_or-take n a k 0 h)

-- those from index k on, as many as are shown
behind : (k n : ℕ) (a : List ℕ) → k ≤ n → drop k (take n a) ≡ take (n - k) (drop k a)
behind k n a h =
    let whole : n ≡ k + (n - k) = omega arith in
    ap (λ (m : ℕ). drop k (take m a)) whole ∙ drop-take k (n - k) a

-- the rules behind the one at index `at` are copied one slot up: it is out
pub slots_closed : (at len : ℕ) (a : List ℕ) → at < len → len ≤ length a
    → take (len - 1) (paste a at (drop (at + 1) a) (len - (at + 1))) ≡ take at a ++ drop (suc at) (take len a)
slots_closed at len a h fits =
    let shown : len - 1 ≡ at + (len - suc at) = omega arith in
    rw (add-one, shown)
    (take-paste a at (drop (suc at) a) (len - suc at) (omega arith) (omega (arith, length-drop (suc at) a))
    ∙ ap (λ (u : List ℕ). take at a ++ u) (sym (behind (suc at) len a h)))

-- those from index `at` on are copied one slot down, and that slot is filled: the rule is in
pub slots_opened : (at len r : ℕ) (a : List ℕ) → at ≤ len → len < length a
    → take (suc len) (set (paste a (at + 1) (drop at a) (len - at)) at r) ≡ take at a ++ (r ∷ drop at (take len a))
slots_opened at len r a h fits =
    let b = paste a (suc at) (drop at a) (len - at) in
    let rest = take (len - at) (drop at a) in
    let shown : suc len ≡ suc at + (len - at) = omega arith in
    let front = length-take-le (suc at) a (omega arith) in
    let copied : take (suc len) b ≡ take (suc at) a ++ rest =
    ap (λ (m : ℕ). take m b) shown ∙ take-paste a (suc at) (drop at a) (len - at) (omega arith) (omega (arith, length-drop at a)) in
    rw add-one
    (take-set-lt (suc len) b at r (omega arith)
    ∙ ap (λ (u : List ℕ). set u at r) copied
    ∙ set_split (take (suc at) a ++ rest) at r (omega (arith, length-append (take (suc at) a) rest))
    ∙ ap₂ (λ (u v : List ℕ). u ++ (r ∷ v))
    (take-append-le at (take (suc at) a) rest (omega arith) ∙ take-take at (suc at) a (omega arith))
    (drop_at (take (suc at) a) rest (suc at) front ∙ sym (behind at len a h)))
