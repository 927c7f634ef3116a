-- 02, L2: what a maker's console does with a command in its own words, and the lists that it runs through. Assumes nothing.
use Rattle.std.specs.Prelude.{ℕ, suc, ◌-◌, ◌&&◌, List, [], ◌∷◌, ◌++◌, length, take, drop}
use Rattle.policy.specs.Lists.{without}
use Rattle.policy.specs.Command.{Outcome, passed, failed, needs, within, rule_at, step}
use Rattle.policy.specs.declared.Command.{Command}
use Rattle.policy.specs.declared.Command.TheVariants.{App, DelRule, Ins, DelPlace, Mov}
use Rattle.policy.specs.declared.Fault.TheVariants.{Place}
use Rattle.console.specs.declared.Maker.{Maker}
use Rattle.console.specs.declared.Maker.TheVariants.{A, B}

-- "`move i before b`, with b counted in the list as it stands": the rule is put before the one at place b, and taken away where it stood
unfoldable pub put_before : ℕ → ℕ → List ℕ → List ℕ
put_before i b l = without (rule_at i l) (take (b - 1) l) ++ (rule_at i l ∷ without (rule_at i l) (drop (b - 1) l))

-- "from 1 to one past the end"; "B differs in one"
unfoldable pub step_before : ℕ → List ℕ → Command → Outcome
step_before size l (App r) = step size l (App r)
step_before size l (DelRule r) = step size l (DelRule r)
step_before size l (Ins i r) = step size l (Ins i r)
step_before size l (DelPlace i) = step size l (DelPlace i)
step_before size l (Mov i b) = needs (within i (length l) && within b (suc (length l))) Place (passed (put_before i b l))

-- "maker A (as in document 01) and maker B"
unfoldable pub console_step : Maker → ℕ → List ℕ → Command → Outcome
console_step A size l k = step size l k
console_step B size l k = step_before size l k

-- the lists that the console runs through: the first one, and the one after each command that passes
unfoldable pub console_lists : Maker → ℕ → List ℕ → List Command → List (List ℕ)
console_lists m size l [] = l ∷ []
console_lists m size l (k ∷ words) = l ∷ elim (console_step m size l k) [ passed next ↦ console_lists m size next words | failed fault ↦ [] ]
