-- 01, "Traps in the papers": what the papers say and what is false about it, stated on the definitions; and last a script that the
-- judge can't call safe and that is. Assumes nothing.
use Rattle.std.specs.Prelude.{ℕ, ◌-◌, ◌≤◌, ◌<◌, ◌≡◌, true, cond, ◌||◌, ◌⊎◌, ◌≢◌, length, eqb, ltb}
use mathlib.Core.List.{List, [], ◌∷◌, Memᴰ}
use Rattle.policy.specs.Policy.{Matching, Policy, under, decided}
use Rattle.policy.specs.Command.{rule_at, lifted, placed, moved}
use Rattle.policy.specs.Replay.{ended, replay, lists}
use Rattle.policy.specs.AppendDelete.{kept_run}
use Rattle.policy.specs.Judge.{verdict, verdict_numbers}
use Rattle.policy.specs.Properties.{In, Distinct, Precedes, Leads, After}
use Rattle.policy.specs.Scanning.{adding, clean_up, scanning}
use Rattle.policy.specs.declared.Action.{Action}
use Rattle.policy.specs.declared.Action.TheVariants.{Deny, Permit}
use Rattle.policy.specs.declared.Command.{Command}
use Rattle.policy.specs.declared.Command.TheVariants.{DelRule, Ins, DelPlace, Mov}

-- 002, 3.3: a deployment is "a sequence of running policies I = R0, R1, .., Rn = T". Here it is a script that ends at the target,
-- and each of its running policies meets the condition.
pub record Deploys (Condition : List ℕ → Type 0) (size : ℕ) (initial target : List ℕ) (script : List Command) : Type 0 where
  pub ends : Leads size initial script target
  pub throughout : (k : ℕ) (l : List ℕ) → After size initial script k l → Condition l

-- the papers know one default: what no rule matches is denied
abbrev pub denying : List ℕ → Policy
denying = under Deny

-- 002, 3.3: a policy A is "denial-safe w.r.t. policies B and C iff every packet that A denies is also denied by B or C", and
-- permission-safe likewise; a deployment is so "iff at every moment during the deployment the running policy is". Packets are
-- numbered, and each meets the same rules in its own way.
abbrev pub SafeIn : Action → (ℕ → Matching) → ℕ → List ℕ → List ℕ → List Command → Type 0
SafeIn action packets size initial target script =
    (k : ℕ) (l : List ℕ) → After size initial script k l → (p : ℕ) → decided (packets p) (denying l) ≡ action
    → (decided (packets p) (denying initial) ≡ action) ⊎ (decided (packets p) (denying target) ≡ action)

abbrev pub DenialSafe : (ℕ → Matching) → ℕ → List ℕ → List ℕ → List Command → Type 0
DenialSafe = SafeIn Deny

abbrev pub PermissionSafe : (ℕ → Matching) → ℕ → List ℕ → List ℕ → List Command → Type 0
PermissionSafe = SafeIn Permit

-- "only contains rules from I and T"
abbrev pub OnlyTheirs : List ℕ → List ℕ → List ℕ → Type 0
OnlyTheirs initial target l = (r : ℕ) → In r l → In r initial ⊎ In r target

-- Theorem 1 (b): "two rules in I or T or both, such that r2 always appears after r1, then r2 appears after r1 in R"; its proof
-- speaks of rules that "simultaneously appear in R"
abbrev pub KeepsPairs : List ℕ → List ℕ → List ℕ → Type 0
KeepsPairs initial target l =
    (a b : ℕ) → Precedes a b initial ⊎ Precedes a b target → ¬ Precedes b a initial → ¬ Precedes b a target
    → In a l → In b l → Precedes a b l

-- Theorem 1: (a) "Every running policy R only contains rules from I and T, and every rule common to both I and T is present in R";
-- (b) as above. Its conclusion: the deployment "is safe", that is denial-safe and permission-safe.
abbrev pub ConditionOne : List ℕ → List ℕ → List ℕ → Type 0
ConditionOne initial target l =
    OnlyTheirs initial target l × ((r : ℕ) → In r initial → In r target → In r l) × KeepsPairs initial target l

-- Theorem 2: a deployment "which only utilizes the rules of I and T, and satisfies the condition(b)". Its conclusion: the
-- deployment is "partial-safe", that is "either permission-safe or denial-safe but not both".
abbrev pub ConditionTwo : List ℕ → List ℕ → List ℕ → Type 0
ConditionTwo initial target l = OnlyTheirs initial target l × KeepsPairs initial target l

-- every rule matches the flow; rules say what is given
unfoldable pub hitting : (ℕ → Action) → Matching
hitting actions = record { hit = λ r. true; action = actions }

-- "002's condition that common rules stay present and pairs keep their order isn't enough: in the sixth case let rules 0 and 1
-- permit the same flow. The empty list between denies it." So the deployment meets Theorem 1's condition and isn't denial-safe.
unfoldable pub permits : ℕ → Action
permits r = Permit

abbrev pub sixth : List Command
sixth = DelPlace 1 ∷ Ins 1 1 ∷ []

abbrev pub CommonAndPairsAreNotEnough : Type 0
CommonAndPairsAreNotEnough =
    Deploys (ConditionOne (0 ∷ []) (1 ∷ [])) 8 (0 ∷ []) (1 ∷ []) sixth
    × After 8 (0 ∷ []) sixth 1 []
    × (decided (hitting permits) (denying (0 ∷ [])) ≡ Permit)
    × (decided (hitting permits) (denying (1 ∷ [])) ≡ Permit)
    × (decided (hitting permits) (denying []) ≡ Deny)
    × ¬ DenialSafe (λ p. hitting permits) 8 (0 ∷ []) (1 ∷ []) sixth

-- "002's weaker condition doesn't stop holes: a deny removed before another deny that covers the same flow is in." Rules 0 and 2
-- deny, 1 and 3 permit; packet 0 matches all of them, every other packet 1 and 3. From 0 1 to 2 3, the list 1 permits packet 0, and
-- the empty list denies the others: the deployment meets Theorem 2's condition and is neither permission-safe nor denial-safe.
unfoldable pub odd_permits : ℕ → Action
odd_permits r = cond (eqb r 1 || eqb r 3) Permit Deny

unfoldable pub crossing : ℕ → Matching
crossing p = record { hit = λ r. eqb p 0 || (eqb r 1 || eqb r 3); action = odd_permits }

abbrev pub one_by_one : List Command
one_by_one = DelPlace 1 ∷ DelPlace 1 ∷ Ins 1 2 ∷ Ins 2 3 ∷ []

abbrev pub PairsLeaveHoles : Type 0
PairsLeaveHoles =
    Deploys (ConditionTwo (0 ∷ 1 ∷ []) (2 ∷ 3 ∷ [])) 8 (0 ∷ 1 ∷ []) (2 ∷ 3 ∷ []) one_by_one
    × After 8 (0 ∷ 1 ∷ []) one_by_one 1 (1 ∷ [])
    × (decided (crossing 0) (denying (0 ∷ 1 ∷ [])) ≡ Deny)
    × (decided (crossing 0) (denying (2 ∷ 3 ∷ [])) ≡ Deny)
    × (decided (crossing 0) (denying (1 ∷ [])) ≡ Permit)
    × ¬ PermissionSafe crossing 8 (0 ∷ 1 ∷ []) (2 ∷ 3 ∷ []) one_by_one
    × ¬ DenialSafe crossing 8 (0 ∷ 1 ∷ []) (2 ∷ 3 ∷ []) one_by_one

-- "000's scanning listing, taken as printed, takes kept rules out in its cleanup (002 section 4.1)": "the longest prefix of T that
-- is a subsequence of I is deleted". Here 1 and 2 are that prefix; the listing deletes both, and ends at 0 3.
abbrev pub ScanningTakesKeptOut : Type 0
ScanningTakesKeptOut =
    (kept_run (0 ∷ 1 ∷ 2 ∷ 3 ∷ []) (1 ∷ 2 ∷ 0 ∷ 3 ∷ []) ≡ 1 ∷ 2 ∷ [])
    × (clean_up (adding (0 ∷ 1 ∷ 2 ∷ 3 ∷ []) (1 ∷ 2 ∷ 0 ∷ 3 ∷ [])).next ≡ DelRule 2 ∷ DelRule 1 ∷ [])
    × Leads 8 (0 ∷ 1 ∷ 2 ∷ 3 ∷ []) (scanning (0 ∷ 1 ∷ 2 ∷ 3 ∷ []) (1 ∷ 2 ∷ 0 ∷ 3 ∷ [])) (0 ∷ 3 ∷ [])

-- "Counting j of `mov i j` before the rule is lifted out": the i-th is put before the rule that was the j-th
unfoldable pub moved_early : ℕ → ℕ → List ℕ → List ℕ
moved_early i j l = placed (cond (ltb i j) (j - 1) j) (rule_at i l) (lifted i l)

-- "wrong for every downward move"
abbrev pub CountingEarlyIsWrong : Type 0
CountingEarlyIsWrong =
    (i j : ℕ) (l : List ℕ) → Distinct l → 1 ≤ i → i < j → j ≤ length l → moved_early i j l ≢ moved i j l

-- "Calling a script safe because first and last lists are right": both policies deny the flow, and the list between permits it.
-- Rule 1 permits, the others deny.
unfoldable pub denies_but_one : ℕ → Action
denies_but_one r = cond (eqb r 1) Permit Deny

abbrev pub out_and_in : List Command
out_and_in = DelPlace 1 ∷ Ins 1 0 ∷ []

abbrev pub EndsAreNotEnough : Type 0
EndsAreNotEnough =
    (replay 8 (0 ∷ 1 ∷ []) out_and_in ≡ ended (0 ∷ 1 ∷ []))
    × (decided (hitting denies_but_one) (denying (0 ∷ 1 ∷ [])) ≡ Deny)
    × Memᴰ (1 ∷ []) (lists 8 (0 ∷ 1 ∷ []) out_and_in)
    × (decided (hitting denies_but_one) (denying (1 ∷ [])) ≡ Permit)

-- "A verdict of 30 says that safety isn't shown; such a script may still be safe": rules 0 and 1 change places and change back. Where
-- both rules say the same, each list on the way decides every flow as the two policies do, which are one list, under either default.
abbrev pub there_and_back : List Command
there_and_back = Mov 1 2 ∷ Mov 1 2 ∷ []

abbrev pub UnorderedMayBeSafe : Type 0
UnorderedMayBeSafe =
    (verdict_numbers (verdict 8 (0 ∷ 1 ∷ []) (0 ∷ 1 ∷ []) there_and_back) ≡ 30 ∷ 1 ∷ 1 ∷ [])
    × ((m : Matching) (default : Action) → m.action 0 ≡ m.action 1
    → (k : ℕ) (l : List ℕ) → After 8 (0 ∷ 1 ∷ []) there_and_back k l → decided m (under default l) ≡ decided m (under default (0 ∷ 1 ∷ [])))
