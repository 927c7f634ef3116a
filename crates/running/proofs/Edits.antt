-- What the five commands share: the tests one after another, and the array's slots after an edit as the list that a command makes.
-- Throughout, n is how many rules the list l shows, so that the first n slots are l. Assumes nothing.
use Prim.Native.Nat.{ℕ, suc, ◌+◌, ◌-◌, ◌≤◌, ◌<◌}
use native.Mathlib.Omega.{arith}
use native.Mathlib.Numerals.{add-one}
use mathlib.Core.Path.{◌≡◌, sym, ◌∙◌, ap, ap₂}
use mathlib.Core.Bool.{Bool, true, false, not}
use mathlib.Core.List.{List, [], ◌∷◌, ◌++◌}
use borrow.Author.Tests.{leb-true, not-true, not-false}
use lib.Dec.{leb}
use lib.ListN.{length, take, drop, get_or, set, length-take}
use lib.Seq.{take-take, take-suc-set, get_or-take}
use Rattle.policy.specs.Command.{Outcome, passed, failed, needs, within, rule_at, lifted, placed, moved}
use Rattle.policy.specs.declared.Fault.{Fault}
use Rattle.policy.proofs.Tests.{and_both}
use Rattle.running.specs.declared.Running.{Running}
use Rattle.running.specs.Running.{view, given}
use Rattle.running.proofs.Slots.{take_shown}

-- a test that fails ends the command with its fault; one that holds leaves the rest
pub fails : (l : List ℕ) {b : Bool} (fault : Fault) (outcome : Outcome) → b ≡ false → given l (failed fault) ≡ given l (needs b fault outcome)
unfolding needs
fails l fault outcome e = rw e

pub goes : (l : List ℕ) {b : Bool} (fault : Fault) (outcome : Outcome) → b ≡ true → given l outcome ≡ given l (needs b fault outcome)
unfolding needs
goes l fault outcome e = rw e

-- a command that passes shows its own list, whatever the list was before
pub gives : (k l : List ℕ) {m n : List ℕ} → m ≡ n → given k (passed m) ≡ given l (passed n)
unfolding given
gives k l e = rw e

-- the list that is shown, and how long it is
pub view_count : (r : Running) (n : ℕ) → n ≡ length (view r) → take n r.rules ≡ view r
unfolding view
view_count r n e = ap (λ (k : ℕ). take k r.rules) e ∙ take_shown r.len r.rules

pub view_fits : (r : Running) → length (view r) ≤ length r.rules
unfolding view
view_fits r = omega (arith, length-take r.len r.rules)

-- the code's test of a place, `!in_range(i, n)`, against the definitions' test
pub out_of_range : (i : ℕ) {n m : ℕ} {b : Bool} → b ≡ within i n → n ≡ m → not b ≡ true → within i m ≡ false
out_of_range i {b} e same h = ap (within i) (sym same) ∙ sym e ∙ not-true b h

pub in_range : (i : ℕ) {n m : ℕ} {b : Bool} → b ≡ within i n → n ≡ m → not b ≡ false → within i m ≡ true
in_range i {b} e same h = ap (within i) (sym same) ∙ sym e ∙ not-false b h

pub within_bounds : (i top : ℕ) → within i top ≡ true → (0 < i) × (i ≤ top)
unfolding within
within_bounds i top e =
    let both = and_both (leb 1 i) (leb i top) e in
    (leb-true 1 i both.0, leb-true i top both.1)

-- a place of the list is a slot of the array
pub place_bounds : (r : Running) (n i : ℕ) → length r.rules ≡ 1024 → n ≡ length (view r) → within i (length (view r)) ≡ true
    → (0 < i) × (i ≤ n) × (n ≤ 1024)
place_bounds r n i slots counted e =
    let bounds = within_bounds i (length (view r)) e in
    (bounds.0, omega arith, omega (arith, view_fits r))

-- a rule put into the slot behind the list
pub shows_appended : (n r : ℕ) (rules l : List ℕ) → take n rules ≡ l → n < length rules → take (n + 1) (set rules n r) ≡ l ++ (r ∷ [])
shows_appended n r rules l is h = rw add-one (take-suc-set rules n r h ∙ ap (λ (u : List ℕ). u ++ (r ∷ [])) is)

-- a rule taken out
pub shows_lifted : (n i : ℕ) (rules a l : List ℕ) → take n rules ≡ l → 0 < i → i ≤ n
    → take (n - 1) a ≡ take (i - 1) rules ++ drop (suc (i - 1)) (take n rules) → take (n - 1) a ≡ lifted i l
unfolding lifted
shows_lifted n i rules a l is some inside e =
    let at : suc (i - 1) ≡ i = omega arith in
    e ∙ ap₂ (λ (u v : List ℕ). u ++ v) (sym (take-take (i - 1) n rules (omega arith)) ∙ ap (take (i - 1)) is) (ap₂ drop at is)

-- a rule put in
pub shows_placed : (n i r : ℕ) (rules a l : List ℕ) → take n rules ≡ l → i ≤ suc n
    → take (suc n) a ≡ take (i - 1) rules ++ (r ∷ drop (i - 1) (take n rules)) → take (suc n) a ≡ placed i r l
unfolding placed
shows_placed n i r rules a l is inside e =
    e ∙ ap₂ (λ (u v : List ℕ). u ++ (r ∷ v)) (sym (take-take (i - 1) n rules (omega arith)) ∙ ap (take (i - 1)) is) (ap (drop (i - 1)) is)

-- the rule at a place
pub shows_rule : (n i : ℕ) (rules l : List ℕ) → take n rules ≡ l → 0 < i → i ≤ n → get_or rules (i - 1) 0 ≡ rule_at i l
unfolding rule_at
shows_rule n i rules l is some inside = sym (get_or-take n rules (i - 1) 0 (omega arith)) ∙ ap (λ (u : List ℕ). get_or u (i - 1) 0) is

-- a rule lifted out and put back
pub shows_moved : (n i j : ℕ) (rules b a l : List ℕ) → take n rules ≡ l → 0 < i → i ≤ n → j ≤ n
    → take (n - 1) b ≡ take (i - 1) rules ++ drop (suc (i - 1)) (take n rules)
    → take (suc (n - 1)) a ≡ take (j - 1) b ++ (get_or rules (i - 1) 0 ∷ drop (j - 1) (take (n - 1) b)) → take n a ≡ moved i j l
unfolding moved
shows_moved n i j rules b a l is some inside to out back =
    let whole : n ≡ suc (n - 1) = omega arith in
    ap (λ (k : ℕ). take k a) whole
    ∙ shows_placed (n - 1) j (get_or rules (i - 1) 0) b a (lifted i l) (shows_lifted n i rules b l is some inside out) (omega arith) back
    ∙ ap (λ (r : ℕ). placed j r (lifted i l)) (shows_rule n i rules l is some inside)
