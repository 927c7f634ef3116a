-- 01, "Examples on each side": every case marked P in one list, and the one statement that all of them hold.
-- Lists are rule numbers. The catalogue of a case has eight rules unless it is written out. Assumes nothing.
use Rattle.std.specs.Prelude.{ℕ, suc, ◌≡◌, Bool, true, false, cond, ◌&&◌, List, [], ◌∷◌, ◌++◌, map, eqb}
use Rattle.std.proofs.Math.Option.{Option, none, some}
use Rattle.policy.specs.Lists.{same}
use Rattle.policy.specs.Rule.{Range, Rule}
use Rattle.policy.specs.Policy.{Policy, under, decide, same_action, matching}
use Rattle.policy.specs.Command.{Outcome, passed, failed, step, fault_number, Coded, coded}
use Rattle.policy.specs.AppendDelete.{kept_run, plan_one}
use Rattle.policy.specs.InsertDeleteMove.{kept_two, plan_two}
use Rattle.policy.specs.Judge.{verdict, verdict_numbers}
use Rattle.policy.specs.declared.Action.{Action}
use Rattle.policy.specs.declared.Action.TheVariants.{Deny, Permit}
use Rattle.policy.specs.declared.Command.{Command}
use Rattle.policy.specs.declared.Command.TheVariants.{App, DelRule, Ins, DelPlace, Mov}
use Rattle.policy.specs.declared.Flow.{Flow}

-- what a case says
pub data Case : Type 0 where
  -- initial, target: the rules kept and the script of type 1
  append_delete : List ℕ → List ℕ → List ℕ → List Command → Case
  -- initial, target, keep list: the rules kept and the script of type 2
  insert_delete_move : List ℕ → List ℕ → Option (List ℕ) → List ℕ → List Command → Case
  -- initial, target, script: the verdict's number and values
  judge : List ℕ → List ℕ → List Command → List ℕ → Case
  -- a running list, a command that passes, the list that it makes
  passes : List ℕ → Command → List ℕ → Case
  -- a running list, a command that fails, its number
  fails : List ℕ → Command → ℕ → Case
  -- a catalogue, a policy, a flow: the action and the place
  decision : List Rule → Policy → Flow → Action → ℕ → Case

unfoldable pub size : ℕ
size = 8

unfoldable pub same_coded : Coded → Coded → Bool
same_coded a b = eqb a.code b.code && eqb a.one b.one && eqb a.two b.two

unfoldable pub same_script : List Command → List Command → Bool
same_script [] [] = true
same_script [] (d ∷ t) = false
same_script (c ∷ s) [] = false
same_script (c ∷ s) (d ∷ t) = same_coded (coded c) (coded d) && same_script s t

unfoldable pub has_made : List ℕ → Outcome → Bool
has_made m (passed l) = same l m
has_made m (failed fault) = false

unfoldable pub has_failed : ℕ → Outcome → Bool
has_failed number (passed l) = false
has_failed number (failed fault) = eqb (fault_number fault) number

unfoldable pub holds : Case → Bool
holds (append_delete initial target kept script) =
    same (kept_run initial target) kept && same_script (plan_one initial target) script
holds (insert_delete_move initial target keep kept script) =
    same (kept_two initial target keep) kept && same_script (plan_two initial target keep) script
holds (judge initial target script numbers) = same (verdict_numbers (verdict size initial target script)) numbers
holds (passes l c m) = has_made m (step size l c)
holds (fails l c number) = has_failed number (step size l c)
holds (decision catalogue policy flow action place) =
    same_action (decide (matching catalogue flow) policy).action action
    && eqb (decide (matching catalogue flow) policy).place place

-- the numbers of the cases that do not hold, counted from the given one
unfoldable pub failing : ℕ → List Case → List ℕ
failing n [] = []
failing n (c ∷ cases) = cond (holds c) [] (n ∷ []) ++ failing (suc n) cases

-- "permit, protocol 0 to 255, destination port 0 to 0, all else full"
unfoldable pub port_zero : Rule
port_zero =
    record {
      action = Permit;
      protocol = record { low = 0; high = 255 };
      source = record { low = 0; high = 4294967295 };
      source_port = record { low = 0; high = 65535 };
      destination = record { low = 0; high = 4294967295 };
      destination_port = record { low = 0; high = 0 };
    }

-- "a flow of protocol 47 with ports 0"
unfoldable pub tunnel : Flow
tunnel = record { protocol = 47; source = 3232235777; source_port = 0; destination = 167772161; destination_port = 0 }

-- the cases marked P, in the document's order, and last the empty policy under default permit (02, L1); the given flow is "any flow"
unfoldable pub cases : Flow → List Case
cases any =
    insert_delete_move (0 ∷ 1 ∷ 2 ∷ 3 ∷ []) (1 ∷ 0 ∷ 4 ∷ 3 ∷ []) none
    (1 ∷ 3 ∷ []) (Ins 3 4 ∷ DelPlace 4 ∷ Mov 1 2 ∷ [])
    ∷ append_delete (0 ∷ 1 ∷ 2 ∷ 3 ∷ []) (1 ∷ 0 ∷ 4 ∷ 3 ∷ [])
    (1 ∷ []) (DelRule 3 ∷ DelRule 2 ∷ DelRule 0 ∷ App 0 ∷ App 4 ∷ App 3 ∷ [])
    ∷ judge (0 ∷ 1 ∷ 2 ∷ 3 ∷ []) (1 ∷ 0 ∷ 4 ∷ 3 ∷ [])
    (DelRule 3 ∷ DelRule 2 ∷ DelRule 0 ∷ App 0 ∷ App 4 ∷ App 3 ∷ []) (31 ∷ [])
    ∷ insert_delete_move (0 ∷ 1 ∷ 2 ∷ []) (2 ∷ 0 ∷ 1 ∷ []) (some (0 ∷ 1 ∷ [])) (0 ∷ 1 ∷ []) (Mov 3 1 ∷ [])
    ∷ insert_delete_move (0 ∷ 1 ∷ 2 ∷ []) (2 ∷ 0 ∷ 1 ∷ []) none (2 ∷ []) (Mov 2 3 ∷ Mov 1 2 ∷ [])
    ∷ insert_delete_move (0 ∷ 1 ∷ []) (1 ∷ 0 ∷ []) (some []) [] (Mov 2 1 ∷ [])
    ∷ append_delete (0 ∷ 1 ∷ 2 ∷ []) (0 ∷ 1 ∷ 2 ∷ []) (0 ∷ 1 ∷ 2 ∷ []) []
    ∷ insert_delete_move (0 ∷ 1 ∷ 2 ∷ []) (0 ∷ 1 ∷ 2 ∷ []) none (0 ∷ 1 ∷ 2 ∷ []) []
    ∷ judge (0 ∷ 1 ∷ 2 ∷ []) (0 ∷ 1 ∷ 2 ∷ []) [] (32 ∷ [])
    ∷ append_delete [] [] [] []
    ∷ insert_delete_move [] [] none [] []
    ∷ judge [] [] [] (32 ∷ [])
    ∷ judge (0 ∷ []) (1 ∷ []) (DelPlace 1 ∷ Ins 1 1 ∷ []) (31 ∷ [])
    ∷ judge (0 ∷ 1 ∷ 2 ∷ 3 ∷ []) (1 ∷ 0 ∷ 2 ∷ 3 ∷ [])
    (DelRule 1 ∷ App 1 ∷ DelRule 0 ∷ App 0 ∷ DelRule 2 ∷ App 2 ∷ DelRule 3 ∷ App 3 ∷ []) (30 ∷ 1 ∷ 2 ∷ [])
    ∷ fails (0 ∷ 1 ∷ []) (Mov 2 3) 22
    ∷ passes (0 ∷ 1 ∷ []) (Ins 3 2) (0 ∷ 1 ∷ 2 ∷ [])
    ∷ decision (port_zero ∷ []) (under Deny []) any Deny 0
    ∷ decision (port_zero ∷ []) (under Deny (0 ∷ [])) tunnel Permit 1
    ∷ decision (port_zero ∷ []) (under Permit []) any Permit 0
    ∷ []

-- "Cases marked P are proved of the definitions by a single statement over one list of cases": none fails, whatever the flow.
abbrev pub Examples : Type 0
Examples = (any : Flow) → failing 1 (cases any) ≡ []
