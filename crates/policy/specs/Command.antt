-- 01, "Commands": what each command does to the running list, and when it fails. Assumes nothing.
use Rattle.std.specs.Prelude.{ℕ, suc, ◌-◌, Bool, true, false, cond, not, ◌&&◌, List, [], ◌∷◌, ◌++◌, length, take, drop, get_or, eqb, leb, ltb}
use Rattle.policy.specs.Lists.{all, mem, without}
use Rattle.policy.specs.declared.Command.{Command}
use Rattle.policy.specs.declared.Command.TheVariants.{App, DelRule, Ins, DelPlace, Mov}
use Rattle.policy.specs.declared.Fault.{Fault}
use Rattle.policy.specs.declared.Fault.TheVariants.{Present, Absent, Place, Number}

-- the rule at the i-th place, places counted from 1
unfoldable pub rule_at : ℕ → List ℕ → ℕ
rule_at i l = get_or l (i - 1) 0

-- "`del i` takes out the i-th."
unfoldable pub lifted : ℕ → List ℕ → List ℕ
lifted i l = take (i - 1) l ++ drop i l

-- "`ins i r` makes r the i-th"
unfoldable pub placed : ℕ → ℕ → List ℕ → List ℕ
placed i r l = take (i - 1) l ++ (r ∷ drop (i - 1) l)

-- "`mov i j` lifts out the i-th and puts it back so that it is the j-th of the new list"
unfoldable pub moved : ℕ → ℕ → List ℕ → List ℕ
moved i j l = placed j (rule_at i l) (lifted i l)

-- what one command gives: the list after it, or why it fails
pub data Outcome : Type 0 where
  passed : List ℕ → Outcome
  failed : Fault → Outcome

-- a test that must hold before the rest counts
unfoldable pub needs : Bool → Fault → Outcome → Outcome
needs true fault outcome = outcome
needs false fault outcome = failed fault

-- "from 1 to ..": a place in its range
unfoldable pub within : ℕ → ℕ → Bool
within i top = leb 1 i && leb i top

-- "In one command: 23, 22, then 20 or 21." The first number is the catalogue's count of rules.
unfoldable pub step : ℕ → List ℕ → Command → Outcome
step size l (App r) = needs (ltb r size) Number (needs (not (mem r l)) Present (passed (l ++ (r ∷ []))))
step size l (DelRule r) = needs (ltb r size) Number (needs (mem r l) Absent (passed (without r l)))
step size l (Ins i r) =
    needs (ltb r size) Number
    (needs (within i (suc (length l))) Place
    (needs (not (mem r l)) Present (passed (placed i r l))))
step size l (DelPlace i) = needs (within i (length l)) Place (passed (lifted i l))
step size l (Mov i j) = needs (within i (length l) && within j (length l)) Place (passed (moved i j l))

-- "Turned away": the number of each failure
abbrev pub fault_number : Fault → ℕ
fault_number Present = 20
fault_number Absent = 21
fault_number Place = 22
fault_number Number = 23

-- "A command is one code byte and two two-byte numbers"
pub record Coded : Type 0 where
  pub code : ℕ
  pub one : ℕ
  pub two : ℕ

-- "code 1 `app r`, code 2 `del r` .. code 3 `ins i r`, code 4 `del i`, code 5 `mov i j`"; "a number that a command doesn't use is 0"
unfoldable pub coded : Command → Coded
coded (App r) = record { code = 1; one = r; two = 0 }
coded (DelRule r) = record { code = 2; one = r; two = 0 }
coded (Ins i r) = record { code = 3; one = i; two = r }
coded (DelPlace i) = record { code = 4; one = i; two = 0 }
coded (Mov i j) = record { code = 5; one = i; two = j }

-- "Type 1: code 1 `app r`, code 2 `del r`. Type 2: code 3 `ins i r`, code 4 `del i`, code 5 `mov i j`": the codes that a script type allows,
-- a row for each type. All that says which command stands in which script goes by this table.
unfoldable pub codes_of : ℕ → List ℕ
codes_of type =
    cond (eqb type 1) (1 ∷ 2 ∷ [])
    (cond (eqb type 2) (3 ∷ 4 ∷ 5 ∷ [])
    [])

-- whether there are scripts of a type: it allows some code
unfoldable pub is_type : ℕ → Bool
is_type type = leb 1 (length (codes_of type))

-- whether a script of the type may hold the command
unfoldable pub allows : ℕ → Command → Bool
allows type c = mem (coded c).code (codes_of type)

-- a script of one type
unfoldable pub of_type : ℕ → List Command → Bool
of_type type script = all (allows type) script
