-- No append-and-delete script is shorter than the planned one. The idea: a command makes the list one rule longer or shorter;
-- `app` makes the longest kept run at most one rule longer, and `del` makes it no longer. Assumes nothing.
use Prim.Native.Nat.{ℕ, ◌+◌, ◌*◌, ◌≤◌}
use native.Mathlib.Omega.{arith}
use mathlib.Core.Path.{◌≡◌, refl, ◌∙◌, ap}
use mathlib.Core.Bool.{true}
use mathlib.Core.List.Sublistᴰ
use mathlib.Core.List.{List, [], ◌∷◌, ◌++◌, append_assoc, Sublistᴰ}
use lib.ListN.{length, drop, length-append}
use Rattle.policy.specs.Lists.{all, mem}
use Rattle.policy.specs.Command.{coded, codes_of, allows, of_type}
use Rattle.policy.specs.AppendDelete.{kept_run}
use Rattle.policy.specs.Properties.{Leads}
use Rattle.policy.specs.Claims.{PlanOneFewest}
use Rattle.policy.specs.declared.Command.{Command}
use Rattle.policy.specs.declared.Command.TheVariants.{App, DelRule, Ins, DelPlace, Mov}
use Rattle.policy.proofs.Tests.{never}
use Rattle.policy.proofs.Lists.{length_around}
use Rattle.policy.proofs.Order.{sublist_length, sublist_around, sublist_parts}
use Rattle.policy.proofs.AppendDelete.{kept_run_front, kept_run_occurs, kept_run_longest, kept_run_self, plan_one_count}

-- the kept run of a longer list: not shorter, and longer by no more than the rules put at its end
kept_run_grows : (l m target : List ℕ) → Sublistᴰ l m → length (kept_run l target) ≤ length (kept_run m target)
kept_run_grows l m target s =
    kept_run_longest m target (kept_run l target) (drop (length (kept_run l target)) target)
    (kept_run_front l target) (Sublistᴰ.trans (kept_run_occurs l target) s)

kept_run_append : (u v target : List ℕ) → length (kept_run (u ++ v) target) ≤ length (kept_run u target) + length v
kept_run_append u v target =
    let kept : List ℕ = kept_run (u ++ v) target in
    let rest : List ℕ = drop (length kept) target in
    let parts = sublist_parts kept u v (kept_run_occurs (u ++ v) target) in
    let front : target ≡ parts.0 ++ (parts.1 ++ rest) =
    kept_run_front (u ++ v) target ∙ ap (λ (l : List ℕ). l ++ rest) parts.2 ∙ append_assoc parts.0 parts.1 rest in
    omega (
      arith,
      ap length parts.2 ∙ length-append parts.0 parts.1,
      kept_run_longest u target parts.0 (parts.1 ++ rest) front parts.3,
      sublist_length parts.4,
    )

-- a script of type 1 that leads from any list to the target, by its commands
fewest : (size : ℕ) (l target : List ℕ) (script : List Command) → of_type 1 script ≡ true → Leads size l script target
    → length l + length target ≤ length script + 2 * length (kept_run l target)
unfolding of_type all allows coded codes_of mem
fewest size l target [] e way =
    rw (← way) (omega (arith, ap length (kept_run_self l)))
fewest size l target (App r ∷ script) e (m, (inside, new, is), rest) =
    let later = fewest size (l ++ (r ∷ [])) target script e (rw is at rest) in
    omega (arith, later, length-append l (r ∷ []), kept_run_append l (r ∷ []) target)
fewest size l target (DelRule r ∷ script) e (m, (u, v, inside, first, is, made), rest) =
    let later = fewest size (u ++ v) target script e (rw made at rest) in
    let shorter = kept_run_grows (u ++ v) (u ++ (r ∷ v)) target (sublist_around r u v) in
    rw is (omega (arith, later, shorter, length_around r u v))
fewest size l target (Ins i r ∷ script) e way = never e refl
fewest size l target (DelPlace i ∷ script) e way = never e refl
fewest size l target (Mov i j ∷ script) e way = never e refl

pub plan_one_fewest : PlanOneFewest
plan_one_fewest size initial target script d e way =
    omega (arith, fewest size initial target script e way, plan_one_count initial target d)
