-- What specs/Claims.antt claims. A number that B writes for a place names that place again; a move before a place is the move that it is read
-- as (Before.antt); so a console and document 01 go from list to list alike, word by word. Assumes nothing.
use Prim.Native.Nat.{ℕ, suc, ◌-◌, ◌≤◌, ◌<◌}
use native.Mathlib.Numerals.{sub-one}
use native.Mathlib.Omega.{arith}
use mathlib.Core.Path.{◌≡◌, refl, ◌∙◌, ap}
use mathlib.Core.Bool.{cond}
use mathlib.Core.Logic.{⊎_elim}
use mathlib.Core.List.{List, [], ◌∷◌, map}
use borrow.Author.Tests.{ltb-true, ltb-false, eqb-true, eqb-false, lt-ltb, le-ltb, ne_eqb}
use lib.Dec.{eqb, ltb}
use lib.ListN.{length}
use Rattle.policy.specs.Command.{passed, needs, within, step}
use Rattle.policy.specs.Replay.{lists}
use Rattle.policy.specs.Properties.{Distinct}
use Rattle.policy.specs.declared.Command.{Command}
use Rattle.policy.specs.declared.Command.TheVariants.{App, DelRule, Ins, DelPlace, Mov}
use Rattle.policy.proofs.Tests.{by_test}
use Rattle.policy.proofs.Commands.{within_on, makes_or_fails, makes_passes, fails_failed, makes_distinct}
use Rattle.console.specs.Makers.{number_before, place_for, second_said, second_heard, second_again, said, heard, again}
use Rattle.console.specs.Console.{step_before, console_step, console_lists}
use Rattle.console.specs.Claims.{MovesAlike, ReadAlike, StandsStill, SaidAndHeard, HeardAndSaid, SameLists, OwnLists}
use Rattle.console.specs.declared.Maker.{Maker}
use Rattle.console.specs.declared.Maker.TheVariants.{A, B}
use Rattle.console.proofs.Before.{range_ahead, range_behind, ahead_alike, behind_alike}
use Rattle.console.proofs.Words.{heard_by_a}

-- The number before which a rule is put, and the place that it gets.
place_ahead : (i b : ℕ) → b ≤ i → place_for i b ≡ b
unfolding place_for
place_ahead i b h = rw (le-ltb i b h)

place_behind : (i b : ℕ) → i < b → place_for i b ≡ b - 1
unfolding place_for
place_behind i b h = rw (lt-ltb i b h)

number_ahead : (i j : ℕ) → j ≤ i → number_before i j ≡ j
unfolding number_before
number_ahead i j h = rw (le-ltb i j h)

number_behind : (i j : ℕ) → i < j → number_before i j ≡ suc j
unfolding number_before
number_behind i j h = rw (lt-ltb i j h)

-- of two numbers, the second is at the first or ahead of it, or behind it
by_side : {A : Type 0} (i b : ℕ) → (b ≤ i → A) → (i < b → A) → A
by_side i b ahead behind = by_test (ltb i b) (λ t. behind (ltb-true i b t)) (λ f. ahead (ltb-false i b f))

pub stands_still : StandsStill
stands_still i = (place_ahead i i (omega arith), place_behind i (suc i) (omega arith) ∙ sub-one (suc i))

place_again : (i j : ℕ) → place_for i (number_before i j) ≡ j
place_again i j =
    by_side i j
    (λ h. rw (number_ahead i j h) (place_ahead i j h))
    (λ h. rw (number_behind i j h) (place_behind i (suc j) (omega arith) ∙ sub-one (suc j)))

number_again : (i b : ℕ) → number_before i (place_for i b) ≡ cond (eqb b (suc i)) i b
number_again i b =
    by_side i b
    (λ h. rw (place_ahead i b h, ne_eqb b (suc i) (λ e. omega arith)) (number_ahead i b h))
    (λ h. rw (place_behind i b h)
    (by_test (eqb b (suc i))
    (λ t. let e = eqb-true b (suc i) t in rw t (number_ahead i (b - 1) (omega arith) ∙ omega arith))
    (λ f. let n = eqb-false b (suc i) f in rw f (number_behind i (b - 1) (omega (arith, n)) ∙ omega arith))))

-- A move before a place is the move that it is read as.
pub read_alike : ReadAlike
unfolding step_before step needs
read_alike size l i b d =
    by_test (within i (length l))
    (λ on. let (some, inside) = within_on i (length l) on in
    by_side i b
    (λ h. rw (on, place_ahead i b h, ← range_ahead i b (length l) inside h)
    (by_test (within b (suc (length l)))
    (λ t. rw t (ap passed (ahead_alike i b l d on (within_on b (suc (length l)) t).0 h)))
    (λ f. rw f)))
    (λ h. rw (on, place_behind i b h, ← range_behind i b (length l) some h)
    (by_test (within b (suc (length l)))
    (λ t. rw t (ap passed (behind_alike i b l d on h (within_on b (suc (length l)) t).1)))
    (λ f. rw f))))
    (λ off. rw off)

pub moves_alike : MovesAlike
moves_alike size l i j d =
    read_alike size l i (number_before i j) d ∙ ap (λ (k : ℕ). step size l (Mov i k)) (place_again i j)

-- Words and back.
pub said_and_heard : SaidAndHeard
unfolding said heard second_said second_heard
said_and_heard m (App r) = refl
said_and_heard m (DelRule r) = refl
said_and_heard m (Ins i r) = refl
said_and_heard m (DelPlace i) = refl
said_and_heard A (Mov i j) = refl
said_and_heard B (Mov i j) = ap (Mov i) (place_again i j)

pub heard_and_said : HeardAndSaid
unfolding said heard again second_said second_heard second_again
heard_and_said m (App r) = refl
heard_and_said m (DelRule r) = refl
heard_and_said m (Ins i r) = refl
heard_and_said m (DelPlace i) = refl
heard_and_said A (Mov i b) = refl
heard_and_said B (Mov i b) = ap (Mov i) (number_again i b)

-- One word, then all of them.
words_step : (m : Maker) (size : ℕ) (l : List ℕ) (k : Command) → Distinct l → console_step m size l k ≡ step size l (heard m k)
unfolding console_step step_before heard second_heard
words_step A size l k d = rw (heard_by_a k)
words_step B size l (App r) d = refl
words_step B size l (DelRule r) d = refl
words_step B size l (Ins i r) d = refl
words_step B size l (DelPlace i) d = refl
words_step B size l (Mov i b) d = read_alike size l i b d

pub same_lists : SameLists
unfolding console_lists lists
same_lists m size l [] d = refl
same_lists m size l (k ∷ words) d =
    rw (words_step m size l k d)
    (⊎_elim
    (λ made. rw (makes_passes size l (heard m k) made.0 made.1)
    (ap (λ (rest : List (List ℕ)). l ∷ rest) (same_lists m size made.0 words (makes_distinct size l (heard m k) made.0 made.1 d))))
    (λ fails. rw (fails_failed size l (heard m k) fails.0 fails.1))
    (makes_or_fails size l (heard m k)))

heard_again : (m : Maker) (script : List Command) → map (heard m) (map (said m) script) ≡ script
heard_again m [] = refl
heard_again m (c ∷ script) = let first = said_and_heard m c in let rest = heard_again m script in cc

pub own_lists : OwnLists
own_lists m size l script d = same_lists m size l (map (said m) script) d ∙ ap (lists size l) (heard_again m script)
