-- How a list names rules: the search for one outside the catalogue asks the definition's test turned; the loop that looks for one named twice goes
-- from the end and keeps that the rules behind differ, and which they are. Both meet definitions that take a list apart from its front.
-- Assumes nothing.
use Prim.Native.Nat.{ℕ, ◌≤◌, ◌<◌}
use native.Mathlib.Omega.{arith}
use mathlib.Core.Path.{◌≡◌, refl, sym, ◌∙◌, ap}
use mathlib.Core.Bool.{Bool, true, false, not}
use mathlib.Core.List.{List, [], ◌∷◌, ◌++◌, append-nil}
use borrow.Author.Tests.{eqb-true, eqb-false, ltb-true, ltb-false, lt-ltb, le-leb, lt-leb}
use lib.Dec.{eqb, leb, ltb}
use lib.ListN.{length, get_or, set, replicate, length-set, get_or-replicate}
use lib.Seq.{append_snoc, get_or-set_same, get_or-set_other}
use Rattle.std.specs.List.{list_any}
use Rattle.policy.specs.Lists.{all, mem, differ}
use Rattle.policy.proofs.Lists.{all_in, in_middle}
use Rattle.policy.proofs.Tests.{by_test, never, and_both, both_and, not_true, false_not, falsely}
use Rattle.running.specs.declared.Naming.TheVariants.{Outside, Twice, Once}
use Rattle.running.specs.Naming.{named}

-- what holds of a list holds of its end
differ_end : (l m : List ℕ) → differ (l ++ m) ≡ true → differ m ≡ true
unfolding differ
differ_end [] m e = e
differ_end (x ∷ l) m e = differ_end l m (and_both (not (mem x (l ++ m))) (differ (l ++ m)) e).1

-- whether a number is of `size` or more, asked of each
pub all_or : (size : ℕ) (l : List ℕ) → list_any (λ r. leb size r) l ≡ not (all (λ r. ltb r size) l)
unfolding all
all_or size [] = refl
all_or size (x ∷ l) =
    by_test (ltb x size)
    (λ t. rw (t, lt-leb size x (ltb-true x size t)) (all_or size l))
    (λ f. rw (f, le-leb size x (ltb-false x size f)))

-- a wider catalogue
pub all_wider : (m n : ℕ) (l : List ℕ) → m ≤ n → all (λ r. ltb r m) l ≡ true → all (λ r. ltb r n) l ≡ true
unfolding all
all_wider m n [] h e = refl
all_wider m n (x ∷ l) h e =
    let both = and_both (ltb x m) (all (λ r. ltb r m) l) e in
    both_and (lt-ltb x n (omega (arith, ltb-true x m both.0))) (all_wider m n l h both.1)

-- from the end: the rules behind those that are left differ, and the array marks exactly them
pub record Seen (seen : List Bool) (left l : List ℕ) : Type 0 where
  pub behind : List ℕ
  pub is : l ≡ left ++ behind
  pub slots : length seen ≡ 1024
  pub apart : differ behind ≡ true
  pub marks : (r : ℕ) → r < 1024 → get_or seen r false ≡ mem r behind

pub seen_none : (l : List ℕ) → Seen (replicate 1024 false) l l
unfolding differ mem
seen_none l = record {
  behind = [];
  is = sym (append-nil l);
  slots = refl;
  apart = refl;
  marks = λ r b. get_or-replicate 1024 r false false b;
}

pub seen_all : (seen : List Bool) (l : List ℕ) → Seen seen [] l → differ l ≡ true
seen_all seen l all = rw all.is all.apart

module _ (seen : List Bool) (left : List ℕ) (x : ℕ) (l : List ℕ) (before : Seen seen (left ++ (x ∷ [])) l) where
  -- the last of those that are left
  splits : l ≡ left ++ (x ∷ before.behind)
  splits = before.is ∙ append_snoc left x before.behind

  pub seen_fits : all (λ r. ltb r 1024) l ≡ true → x < 1024
  seen_fits small =
      ltb-true x 1024 (all_in (λ r. ltb r 1024) l small x (rw splits (in_middle x left before.behind)))

  module _ (fits : x < 1024) where
    -- none of those behind it
    pub seen_one : get_or seen x false ≡ false → Seen (set seen x true) left l
    unfolding differ mem
    seen_one new = record {
      behind = x ∷ before.behind;
      is = splits;
      slots = length-set seen x true ∙ before.slots;
      apart = both_and (false_not (sym (before.marks x fits) ∙ new)) before.apart;
      marks = λ r b. by_test (eqb x r)
          (λ t. rw t (ap (λ (i : ℕ). get_or (set seen x true) i false) (sym (eqb-true x r t)) ∙ get_or-set_same seen x true false (rw before.slots fits)))
          (λ f. rw f (get_or-set_other seen x r true false (λ e. eqb-false x r f (sym e)) ∙ before.marks r b));
    }

    -- one of them: the list names it twice
    pub seen_twice : get_or seen x false ≡ true → differ l ≡ false
    unfolding differ
    seen_twice old =
        falsely (λ e. never (sym (before.marks x fits) ∙ old)
        (not_true (and_both (not (mem x before.behind)) (differ before.behind) (differ_end left (x ∷ before.behind) (rw splits at e))).0))

-- what the tests together say
module _ (size : ℕ) (l : List ℕ) where
  pub names_outside : all (λ r. ltb r size) l ≡ false → Outside ≡ named size l
  unfolding named
  names_outside e = rw e

  pub names_twice : all (λ r. ltb r size) l ≡ true → differ l ≡ false → Twice ≡ named size l
  unfolding named
  names_twice e f = rw (e, f)

  pub names_once : all (λ r. ltb r size) l ≡ true → differ l ≡ true → Once ≡ named size l
  unfolding named
  names_once e f = rw (e, f)
