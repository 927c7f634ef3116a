-- 01, "The ordering rule and the judge": "The judge replays from the initial policy; the lists judged are the initial one (step 0)
-- and the one after each command." A command edits the list of a policy and leaves its default. Assumes nothing.
use Rattle.std.specs.Prelude.{ℕ, suc, List, [], ◌∷◌, map}
use Rattle.policy.specs.Policy.{Policy, under}
use Rattle.policy.specs.Command.{Outcome, passed, failed, step}
use Rattle.policy.specs.declared.Command.{Command}
use Rattle.policy.specs.declared.Fault.{Fault}

-- where a script leads: to a last list, or to a command that fails and its step, the first command being step 1
pub data Replayed : Type 0 where
  ended : List ℕ → Replayed
  broken : Fault → ℕ → Replayed

-- the rest of a script, after the given number of commands
unfoldable pub replay_from : ℕ → ℕ → List ℕ → List Command → Replayed
replay_from size done l [] = ended l
replay_from size done l (c ∷ script) = elim (step size l c) [ passed m ↦ replay_from size (suc done) m script | failed fault ↦ broken fault (suc done) ]

unfoldable pub replay : ℕ → List ℕ → List Command → Replayed
replay size l script = replay_from size 0 l script

-- the lists on the way: the first one, and the one after each command that passes
unfoldable pub lists : ℕ → List ℕ → List Command → List (List ℕ)
lists size l [] = l ∷ []
lists size l (c ∷ script) = l ∷ elim (step size l c) [ passed m ↦ lists size m script | failed fault ↦ [] ]

-- the policies on the way: those lists, each under the default, which "no command changes" (02, L1)
unfoldable pub policies : ℕ → Policy → List Command → List Policy
policies size p script = map (under p.default) (lists size p.list script)
