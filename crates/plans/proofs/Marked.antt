-- Marks: none at first, and one rule more. Assumes nothing.
use Prim.Native.Nat.{ℕ, ◌≤◌, ◌<◌}
use native.Mathlib.Omega.{arith}
use mathlib.Core.Path.{◌≡◌, sym, ◌∙◌, subst}
use mathlib.Core.Bool.{Bool, true, false}
use mathlib.Core.List.{List, [], ◌∷◌, ◌++◌}
use borrow.Author.Tests.{eqb-true, eqb-false, ne_eqb}
use lib.Dec.{eqb}
use lib.ListN.{length, get_or, set, replicate, get_or-replicate}
use lib.Seq.{get_or-set_same, get_or-set_other}
use Rattle.policy.specs.Lists.{mem}
use Rattle.policy.proofs.Tests.{by_test}
use Rattle.policy.proofs.Lists.{in_mem, in_middle}
use Rattle.plans.specs.Marked.{Marked}

pub marks_none : Marked (replicate 1024 false) []
unfolding mem
marks_none r h = get_or-replicate {A = Bool} 1024 r false false h

mem_last : (r x : ℕ) (l : List ℕ) → ¬ (x ≡ r) → mem r (l ++ (x ∷ [])) ≡ mem r l
unfolding mem
mem_last r x [] other = rw (ne_eqb x r other)
mem_last r x (y ∷ l) other = rw (mem_last r x l other)

module _ (marks : List Bool) (l : List ℕ) (x : ℕ) (right : Marked marks l) where
  pub marks_more : length marks ≡ 1024 → x < 1024 → Marked (set marks x true) (l ++ (x ∷ []))
  marks_more slots small r h =
      by_test (eqb x r)
      (λ t. subst (λ (s : ℕ). get_or (set marks x true) s false ≡ mem s (l ++ (x ∷ []))) (eqb-true x r t)
      (get_or-set_same marks x true false (omega arith) ∙ sym (in_mem x (l ++ (x ∷ [])) (in_middle x l []))))
      (λ f. let other = eqb-false x r f in
      get_or-set_other marks x r true false (λ e. other (sym e)) ∙ right r h ∙ sym (mem_last r x l other))

  -- a number for which there is no mark
  pub marks_past : 1024 ≤ x → Marked marks (l ++ (x ∷ []))
  marks_past large r h = right r h ∙ sym (mem_last r x l (λ e. omega arith))
