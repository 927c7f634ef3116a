-- One command on a running list with its side array: what the list shows then, and every entry of the array. Assumes nothing.
use Rattle.std.specs.Prelude.{Option as CodeOption, Some, None, ℕ, suc, min, ◌-◌, ◌≤◌, List, length, drop, get_or, set}
use Rattle.policy.specs.Claims.{Admitted}
use Rattle.policy.specs.Command.{rule_at}
use Rattle.policy.specs.Policy.{most_rules}
use Rattle.policy.specs.declared.Command.{Command}
use Rattle.policy.specs.declared.Command.TheVariants.{App, DelRule, Ins, DelPlace, Mov}
use Rattle.running.specs.Running.{Shown, view, appended, rule_deleted, inserted, place_deleted, relocated}
use Rattle.places.specs.Places.{renumbered, Says}
use Rattle.policy.specs.declared.Fault.{Fault}
use Rattle.replay.specs.declared.Stepped.{Stepped}

-- the list and the refusal that a command gives; presence and place of a rule are what the array says
unfoldable pub step_shown : ℕ → List ℕ → List ℕ → Command → Shown
step_shown size l places (App r) = appended size l r (get_or places r 0)
step_shown size l places (DelRule r) = rule_deleted size l r (get_or places r 0)
step_shown size l places (Ins i r) = inserted size l i r (get_or places r 0)
step_shown size l places (DelPlace i) = place_deleted l i
step_shown size l places (Mov i j) = relocated l i j

-- the array with the rule cleared that a command takes out
unfoldable pub cleared : List ℕ → List ℕ → Command → List ℕ
cleared l places (App r) = places
cleared l places (DelRule r) = set places r 0
cleared l places (Ins i r) = places
cleared l places (DelPlace i) = set places (rule_at i l) 0
cleared l places (Mov i j) = places

-- the index from which on a command changes the list
unfoldable pub changed_from : List ℕ → List ℕ → Command → ℕ
changed_from l places (App r) = length l
changed_from l places (DelRule r) = get_or places r 0 - 1
changed_from l places (Ins i r) = i - 1
changed_from l places (DelPlace i) = i - 1
changed_from l places (Mov i j) = min i j - 1

-- the whole answer of a step
pub record StepLeft : Type 0 where
  pub shown : Shown
  pub places : List ℕ

-- a command that fails leaves the array as it is
unfoldable pub places_after : CodeOption Fault → List ℕ → List ℕ → List ℕ
places_after None old new = new
places_after (Some fault) old new = old

-- what an edit leaves of the array `old`: on success the rules from the given index on are numbered anew in `places`
unfoldable pub settled : Shown → List ℕ → List ℕ → ℕ → StepLeft
settled s old places from = record {
  shown = s;
  places = places_after s.refusal old (renumbered (suc from) (drop from s.list) places);
}

unfoldable pub step_left : ℕ → List ℕ → List ℕ → Command → StepLeft
step_left size l places c = settled (step_shown size l places c) places (cleared l places c) (changed_from l places c)

unfoldable pub left_by : Stepped → StepLeft
left_by s = record {
  shown = record { list = view s.state.list; refusal = s.refusal };
  places = s.state.places.of;
}

-- differing rules of a catalogue of at most 1,024, and an array that says where they stand
pub record Sound (size : ℕ) (l places : List ℕ) : Type 0 where
  pub small : size ≤ most_rules
  pub policy : Admitted size l
  pub says : Says places l
