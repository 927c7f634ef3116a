-- 01, "Turned away": the numbers, and tests that are made one after another, the earlier winning. Assumes nothing.
use Rattle.std.specs.Prelude.{ℕ, Bool, true, false, List, [], ◌∷◌}
use Rattle.deployment.specs.declared.Refusal.{Refusal}
use Rattle.deployment.specs.declared.Why.{Why}
use Rattle.deployment.specs.declared.Why.TheVariants.{
  Cut,
  Tag,
  NoTarget,
  Length,
  Bounds,
  Equal,
  TooMany,
  Outside,
  Twice,
  Keep,
  Coding,
  NoScript,
  Room,
  Default,
  NoCommand,
  Beyond,
  NotRead,
  LowAbove,
}

-- the table's first column; 02, L1: "50 for a value other than 1"; L2: "55 .. for a line that isn't a command of that type, then 56 for a
-- number above 65,535"; L3: "57 for what isn't read, 58 for a low above its high"
abbrev pub why_number : Why → ℕ
why_number Cut = 1
why_number Tag = 2
why_number NoTarget = 3
why_number Length = 4
why_number Bounds = 5
why_number Equal = 6
why_number TooMany = 7
why_number Outside = 8
why_number Twice = 9
why_number Keep = 10
why_number Coding = 11
why_number NoScript = 12
why_number Room = 13
why_number Default = 50
why_number NoCommand = 55
why_number Beyond = 56
why_number NotRead = 57
why_number LowAbove = 58

-- the number of a refusal, and its position
unfoldable pub refusal_numbers : Refusal → List ℕ
refusal_numbers refusal = why_number refusal.why ∷ refusal.at ∷ []

-- what a test or a run of tests gives: a value, or why it is turned away
pub data Checked (A : Type 0) : Type 0 where
  good : A → Checked A
  bad : Why → Checked A

-- one after another: the first that turns away decides
abbrev pub ◌>>=◌ : {A B : Type 0} → Checked A → (A → Checked B) → Checked B
◌>>=◌ (good a) next = next a
◌>>=◌ (bad why) next = bad why

abbrev pub ◌>>◌ : {B : Type 0} → Checked (Unit {0}) → Checked B → Checked B
◌>>◌ (good a) next = next
◌>>◌ (bad why) next = bad why

-- a test that must pass, and the case that is named where it does not
abbrev pub require : Bool → Why → Checked (Unit {0})
require true why = good tt
require false why = bad why
