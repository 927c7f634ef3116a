-- `move i before b` on a list is a move of document 01. The idea: the list is cut around the rule that moves, `u ++ (x ∷ v)`, and place b cuts
-- the part in which it lies once more. At or ahead of the rule (b up to i) it cuts u in p and q: the rule is put between p and q, and taken
-- away behind them; the list after the lift has p and q at the same places. Behind the rule (b above i) it cuts v: the rule is taken away in
-- the front part, and the place before which it is put has one number less after the lift. No rule stands twice, so one part only has it.
-- Assumes nothing.
use Prim.Native.Nat.{ℕ, suc, ◌+◌, ◌-◌, ◌≤◌, ◌<◌}
use native.Mathlib.Numerals.{sub-one}
use native.Mathlib.Omega.{arith}
use mathlib.Core.Path.{◌≡◌, sym, ◌∙◌, ap}
use mathlib.Core.Bool.{true}
use mathlib.Core.List.{List, ◌∷◌, ◌++◌, append_assoc}
use mathlib.Core.List.Memᴰ
use lib.ListN.{length, take, drop, length-append, take-append-drop}
use lib.Seq.{length-take-le, take-append_seam, drop-append_seam}
use Rattle.policy.specs.Lists.{without}
use Rattle.policy.specs.Command.{rule_at, moved, within}
use Rattle.policy.specs.Properties.{Distinct}
use Rattle.policy.proofs.Tests.{by_test, never, falsely}
use Rattle.policy.proofs.Lists.{without_at, length_around}
use Rattle.policy.proofs.Order.{not_earlier, not_later}
use Rattle.policy.proofs.Standing.{without_absent}
use Rattle.policy.proofs.Commands.{within_on, on_within, cut_around, rule_at_lem, moved_at}
use Rattle.console.specs.Console.{put_before}

-- The range of b is that of the place that it names.
same_range_lem : (a b n m : ℕ) → ((1 ≤ a) × (a ≤ n) → (1 ≤ b) × (b ≤ m)) → ((1 ≤ b) × (b ≤ m) → (1 ≤ a) × (a ≤ n)) → within a n ≡ within b m
same_range_lem a b n m there back =
    by_test (within a n)
    (λ t. let on = there (within_on a n t) in t ∙ sym (on_within b m on.0 on.1))
    (λ f. f ∙ sym (falsely (λ t. let on = back (within_on b m t) in never (on_within a n on.0 on.1) f)))

pub range_ahead : (i b n : ℕ) → i ≤ n → b ≤ i → within b (suc n) ≡ within b n
range_ahead i b n inside ahead = same_range_lem b b (suc n) n (λ on. (on.0, omega arith)) (λ on. (on.0, omega arith))

pub range_behind : (i b n : ℕ) → 1 ≤ i → i < b → within b (suc n) ≡ within (b - 1) n
range_behind i b n some behind =
    same_range_lem b (b - 1) (suc n) n (λ on. (omega arith, omega arith)) (λ on. (omega arith, omega arith))

-- The rule put between two parts, and taken away in both.
put_between : (i : ℕ) {b : ℕ} {l : List ℕ} (x : ℕ) (p q : List ℕ) → rule_at i l ≡ x → b ≡ suc (length p) → l ≡ p ++ q
    → put_before i b l ≡ without x p ++ (x ∷ without x q)
unfolding put_before
put_between i {b} {l} x p q rule at is = rw rule (rw (at, is, sub-one (suc (length p)), take-append_seam p q, drop-append_seam p q))

-- Place b at the rule or ahead of it.
put_ahead : {i b : ℕ} {l : List ℕ} (p q : List ℕ) (x : ℕ) (v : List ℕ) → i ≡ suc (length (p ++ q)) → l ≡ (p ++ q) ++ (x ∷ v)
    → b ≡ suc (length p) → Distinct l → put_before i b l ≡ moved i b l
put_ahead {i} {b} {l} p q x v at is to d =
    let once = not_earlier x (p ++ q) v (rw is at d) in
    let front = without_absent x p (λ h. once (Memᴰ.append_left q h)) in
    let back = without_at x q v (λ h. once (Memᴰ.append_right p h)) in
    put_between i x p (q ++ (x ∷ v)) (rule_at_lem (p ++ q) x v at is) to (is ∙ append_assoc p q (x ∷ v))
    ∙ rw (front, back) (sym (moved_at (p ++ q) x v p (q ++ v) at is to (append_assoc p q v)))

pub ahead_alike : (i b : ℕ) (l : List ℕ) → Distinct l → within i (length l) ≡ true → 1 ≤ b → b ≤ i → put_before i b l ≡ moved i b l
ahead_alike i b l d on some ahead =
    let (u, x, v, at, is) = cut_around i l on in
    let whole : u ≡ take (b - 1) u ++ drop (b - 1) u = sym (take-append-drop (b - 1) u) in
    let counted : b ≡ suc (length (take (b - 1) u)) = omega (arith, length-take-le (b - 1) u (omega arith)) in
    put_ahead (take (b - 1) u) (drop (b - 1) u) x v
    (at ∙ ap (λ (w : List ℕ). suc (length w)) whole) (is ∙ ap (λ (w : List ℕ). w ++ (x ∷ v)) whole) counted d

-- Place b behind the rule.
put_behind : {i b : ℕ} {l : List ℕ} (u : List ℕ) (x : ℕ) (p q : List ℕ) → i ≡ suc (length u) → l ≡ u ++ (x ∷ (p ++ q))
    → b ≡ suc (suc (length (u ++ p))) → Distinct l → put_before i b l ≡ moved i (b - 1) l
put_behind {i} {b} {l} u x p q at is to d =
    let front = without_at x u p (not_earlier x u (p ++ q) (rw is at d)) in
    let back = without_absent x q (λ h. not_later x u (p ++ q) (rw is at d) (Memᴰ.append_right p h)) in
    put_between i x (u ++ (x ∷ p)) q (rule_at_lem u x (p ++ q) at is)
    (to ∙ ap suc (sym (length_around x u p))) (is ∙ sym (append_assoc u (x ∷ p) q))
    ∙ rw (front, back) (sym (moved_at u x (p ++ q) (u ++ p) q at is (omega arith) (sym (append_assoc u p q))))

pub behind_alike : (i b : ℕ) (l : List ℕ) → Distinct l → within i (length l) ≡ true → i < b → b ≤ suc (length l)
    → put_before i b l ≡ moved i (b - 1) l
behind_alike i b l d on behind inside =
    let (u, x, v, at, is) = cut_around i l on in
    let far = b - 1 - i in
    let long : length l ≡ suc (length u + length v) = ap length is ∙ length_around x u v ∙ ap suc (length-append u v) in
    let whole : v ≡ take far v ++ drop far v = sym (take-append-drop far v) in
    let counted : b ≡ suc (suc (length (u ++ take far v))) =
    omega (arith, length-take-le far v (omega arith), length-append u (take far v)) in
    put_behind u x (take far v) (drop far v) at (is ∙ ap (λ (w : List ℕ). u ++ (x ∷ w)) whole) counted d
