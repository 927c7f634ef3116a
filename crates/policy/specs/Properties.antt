-- The same words as properties: by membership, order and the shape of lists, and not by the tests of the definitions.
-- Claims.antt is stated with these. Assumes nothing.
use Rattle.std.specs.Prelude.{ℕ, suc, ◌≤◌, ◌<◌, ◌≡◌, ◌⊎◌, length, take}
use mathlib.Core.List.{List, [], ◌∷◌, ◌++◌, Memᴰ}
use Rattle.policy.specs.Policy.{Policy}
use Rattle.policy.specs.Command.{coded, codes_of}
use Rattle.policy.specs.declared.Command.{Command}
use Rattle.policy.specs.declared.Command.TheVariants.{App, DelRule, Ins, DelPlace, Mov}

-- rule r is in the list
abbrev pub In : ℕ → List ℕ → Type 0
In r l = Memᴰ r l

-- "no two of them equal"
abbrev pub Distinct : List ℕ → Type 0
Distinct [] = Unit {0}
Distinct (x ∷ l) = ¬ In x l × Distinct l

-- every rule of the first list is in the second
abbrev pub Within : List ℕ → List ℕ → Type 0
Within l m = (r : ℕ) → In r l → In r m

-- rule a stands before rule b
abbrev pub Precedes : ℕ → ℕ → List ℕ → Type 0
Precedes a b [] = ⊥
Precedes a b (x ∷ l) = ((x ≡ a) × In b l) ⊎ Precedes a b l

-- "it is in the initial policy and every rule before it there stands before r in the running list", of one policy
pub record SupportedBy (policy running : List ℕ) (r : ℕ) : Type 0 where
  pub named : In r policy
  pub led : (x : ℕ) → Precedes x r policy → Precedes x r running

-- "supported .., or the same with the target in place of the initial policy"
abbrev pub Supported : List ℕ → List ℕ → List ℕ → ℕ → Type 0
Supported initial target running r = SupportedBy initial running r ⊎ SupportedBy target running r

-- "ordered if all its rules are supported"
abbrev pub Ordered : List ℕ → List ℕ → List ℕ → Type 0
Ordered initial target running = (r : ℕ) → In r running → Supported initial target running r

-- "full if it contains all of the initial policy or all of the target"
abbrev pub Full : List ℕ → List ℕ → List ℕ → Type 0
Full initial target running = Within initial running ⊎ Within target running

-- a script of the type may hold the command: the command's code is one that the type allows
abbrev pub Allows : ℕ → Command → Type 0
Allows type c = Memᴰ (coded c).code (codes_of type)

-- there are scripts of the type: it allows some code
abbrev pub ScriptType : ℕ → Type 0
ScriptType type = (code : ℕ) × Memᴰ code (codes_of type)

-- 23: "rule number outside the catalogue"
abbrev pub Outside : ℕ → Command → Type 0
Outside size (App r) = size ≤ r
Outside size (DelRule r) = size ≤ r
Outside size (Ins i r) = size ≤ r
Outside size (DelPlace i) = ⊥
Outside size (Mov i j) = ⊥

-- 22: "a place outside its range", which is "from 1 to" the given one
abbrev pub Off : ℕ → ℕ → Type 0
Off i top = (i ≡ 0) ⊎ (top < i)

abbrev pub OffRange : List ℕ → Command → Type 0
OffRange l (App r) = ⊥
OffRange l (DelRule r) = ⊥
OffRange l (Ins i r) = Off i (suc (length l))
OffRange l (DelPlace i) = Off i (length l)
OffRange l (Mov i j) = Off i (length l) ⊎ Off j (length l)

-- 20: "`app` or `ins` of a rule already there"
abbrev pub AlreadyThere : List ℕ → Command → Type 0
AlreadyThere l (App r) = In r l
AlreadyThere l (DelRule r) = ⊥
AlreadyThere l (Ins i r) = In r l
AlreadyThere l (DelPlace i) = ⊥
AlreadyThere l (Mov i j) = ⊥

-- 21: "`del r` of a rule not there"
abbrev pub NotThere : List ℕ → Command → Type 0
NotThere l (App r) = ⊥
NotThere l (DelRule r) = ¬ In r l
NotThere l (Ins i r) = ⊥
NotThere l (DelPlace i) = ⊥
NotThere l (Mov i j) = ⊥

-- "In one command: 23, 22, then 20 or 21": when a command fails, and with which number
pub data Fails (size : ℕ) (l : List ℕ) (c : Command) : ℕ → Type 0 where
  outside : Outside size c → Fails size l c 23
  off_range : ¬ Outside size c → OffRange l c → Fails size l c 22
  already_there : ¬ Outside size c → ¬ OffRange l c → AlreadyThere l c → Fails size l c 20
  not_there : ¬ Outside size c → ¬ OffRange l c → NotThere l c → Fails size l c 21

-- what a command that passes makes of a list: each line is a sentence of 01, "Commands", by the shape of the two lists
abbrev pub Makes : ℕ → List ℕ → Command → List ℕ → Type 0
Makes size l (App r) m = (r < size) × ¬ In r l × (m ≡ l ++ (r ∷ []))
Makes size l (DelRule r) m =
    (u : List ℕ) × (v : List ℕ) × (r < size) × ¬ In r u × (l ≡ u ++ (r ∷ v)) × (m ≡ u ++ v)
Makes size l (Ins i r) m =
    (u : List ℕ) × (v : List ℕ) × (r < size) × ¬ In r l × (i ≡ suc (length u)) × (l ≡ u ++ v) × (m ≡ u ++ (r ∷ v))
Makes size l (DelPlace i) m =
    (u : List ℕ) × (x : ℕ) × (v : List ℕ) × (i ≡ suc (length u)) × (l ≡ u ++ (x ∷ v)) × (m ≡ u ++ v)
Makes size l (Mov i j) m =
    (u : List ℕ) × (x : ℕ) × (v : List ℕ) × (p : List ℕ) × (q : List ℕ)
    × (i ≡ suc (length u)) × (l ≡ u ++ (x ∷ v))
    × (j ≡ suc (length p)) × (u ++ v ≡ p ++ q) × (m ≡ p ++ (x ∷ q))

-- every command of the script passes, and the last list is the second one
abbrev pub Leads : ℕ → List ℕ → List Command → List ℕ → Type 0
Leads size l [] n = l ≡ n
Leads size l (c ∷ script) n = (m : List ℕ) × Makes size l c m × Leads size m script n

-- the list after the first k commands
pub record After (size : ℕ) (initial : List ℕ) (script : List Command) (k : ℕ) (l : List ℕ) : Type 0 where
  pub reached : k ≤ length script
  pub leads : Leads size initial (take k script) l

-- the policy after the first k commands: they edit its list, and "no command changes" its default (02, L1)
pub record Runs (size : ℕ) (initial : Policy) (script : List Command) (k : ℕ) (running : Policy) : Type 0 where
  pub edited : After size initial.list script k running.list
  pub default : running.default ≡ initial.default

-- the default "belongs to both policies" (02, L1)
abbrev pub OneDefault : Policy → Policy → Type 0
OneDefault initial target = initial.default ≡ target.default

-- the rule at a place, places counted from 1
pub record StandsAt (l : List ℕ) (place r : ℕ) : Type 0 where
  pub left : List ℕ
  pub right : List ℕ
  pub is : l ≡ left ++ (r ∷ right)
  pub counted : place ≡ suc (length left)

-- the rule that a command appends, deletes, inserts or lifts out of the list that it meets
abbrev pub Touches : List ℕ → Command → ℕ → Type 0
Touches l (App r) x = x ≡ r
Touches l (DelRule r) x = x ≡ r
Touches l (Ins i r) x = x ≡ r
Touches l (DelPlace i) x = StandsAt l i x
Touches l (Mov i j) x = StandsAt l i x

-- no command of the script touches a rule of the list: wherever the script is cut before a command, it leads to the list that the
-- command meets
abbrev pub Untouched : ℕ → List ℕ → List Command → List ℕ → Type 0
Untouched size initial script kept =
    (first others : List Command) (c : Command) (l : List ℕ) (r : ℕ)
    → script ≡ first ++ (c ∷ others) → Leads size initial first l → Touches l c r → ¬ In r kept
