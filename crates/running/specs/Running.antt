-- What the running list shows, and what each method gives. The tests are those of document 01's commands, in their order; a list that has
-- all of its 1,024 slots taken has no place for another rule (22), which no list of differing rules of a catalogue meets. Assumes nothing.
use Rattle.std.specs.Prelude.{Option as CodeOption, Some, None, ℕ, suc, ◌&&◌, List, [], ◌∷◌, ◌++◌, length, take, eqb, ltb}
use Rattle.policy.specs.Policy.{most_rules}
use Rattle.policy.specs.Command.{fault_number, Outcome, passed, failed, needs, within, lifted, placed, moved}
use Rattle.policy.specs.declared.Fault.TheVariants.{Present, Absent, Place, Number}
use Rattle.running.specs.declared.Running.{Running}
use Rattle.running.specs.declared.Edited.{Edited}
use Rattle.policy.specs.declared.Fault.{Fault}

-- the list that is shown: as many of the rules as the length says, and all 1,024 where it says more
unfoldable pub view : Running → List ℕ
view r = take r.len r.rules

-- the number of a refusal; of none, no number
unfoldable pub refusing_numbers : CodeOption Fault → List ℕ
refusing_numbers None = []
refusing_numbers (Some fault) = fault_number fault ∷ []

-- a list and the refusal beside it
pub record Shown : Type 0 where
  pub list : List ℕ
  pub refusal : CodeOption Fault

unfoldable pub shown : Edited → Shown
shown e = record { list = view e.list; refusal = e.refusal }

-- the list that a command gives, or the old one and why it fails
unfoldable pub given : List ℕ → Outcome → Shown
given l (passed m) = record { list = m; refusal = None }
given l (failed fault) = record { list = l; refusal = Some fault }

-- a slot is free
unfoldable pub roomy : List ℕ → Outcome → Outcome
roomy l outcome = needs (ltb (length l) most_rules) Place outcome

-- "`app r` puts r last": 23, then 20. The last number is the place at which r stands already, 0 if nowhere.
unfoldable pub appended : ℕ → List ℕ → ℕ → ℕ → Shown
appended size l r place = given l (needs (ltb r size) Number (needs (eqb place 0) Present (roomy l (passed (l ++ (r ∷ []))))))

-- "`del r` takes r out": 23, then 21, from the place at which it stands
unfoldable pub rule_deleted : ℕ → List ℕ → ℕ → ℕ → Shown
rule_deleted size l r place = given l (needs (ltb r size) Number (needs (within place (length l)) Absent (passed (lifted place l))))

-- "`ins i r` makes r the i-th": 23, 22, then 20
unfoldable pub inserted : ℕ → List ℕ → ℕ → ℕ → ℕ → Shown
inserted size l i r place =
    given l
    (needs (ltb r size) Number
    (needs (within i (suc (length l))) Place
    (needs (eqb place 0) Present
    (roomy l (passed (placed i r l))))))

-- "`del i` takes out the i-th": 22
unfoldable pub place_deleted : List ℕ → ℕ → Shown
place_deleted l i = given l (needs (within i (length l)) Place (passed (lifted i l)))

-- "`mov i j` lifts out the i-th and puts it back so that it is the j-th of the new list": 22
unfoldable pub relocated : List ℕ → ℕ → ℕ → Shown
relocated l i j = given l (needs (within i (length l) && within j (length l)) Place (passed (moved i j l)))
