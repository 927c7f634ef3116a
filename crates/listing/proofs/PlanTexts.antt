-- The plans' blocks: what a planner leaves in a place of 5,124 bytes reads as the plan, so its block is that of the definition; and the blocks of
-- all plans end inside the longest text. Both are said of any planner; what is shown of each is one record. Assumes nothing.
use Prim.Native.Nat.{ℕ, ◌+◌, ◌-◌, ◌≤◌}
use native.Mathlib.Omega.{arith}
use mathlib.Core.Path.{◌≡◌, refl, sym, ◌∙◌, ap}
use mathlib.Core.Logic.{inl, inr}
use mathlib.Core.List.{List, [], ◌∷◌, append-nil}
use mathlib.Core.Option.{some}
use borrow.Author.Tests.{le-leb}
use lib.ListN.{length, take, drop, length-append}
use Rattle.policy.proofs.Types.{script_types}
use Rattle.policy.proofs.AppendDelete.{plan_one_count, plan_one_reaches}
use Rattle.policy.proofs.InsertDeleteMove.{plan_two_count, plan_two_reaches}
use Rattle.deployment.specs.Bytes.{number, part}
use Rattle.deployment.specs.Values.{script_of}
use Rattle.deployment.specs.Contents.{Contents}
use Rattle.deployment.specs.File.{accepted, refused, read_file, head_bytes}
use Rattle.deployment.specs.Properties.{Scripted, Valid}
use Rattle.deployment.specs.declared.Refusal.{Refusal}
use Rattle.replay.specs.Answers.{commands_of}
use Rattle.deployment.specs.FieldValues.{Left, left_by}
use Rattle.plans.specs.Plans.{Made, script_field, plan_of, made_one_of, made_one, made_two_of, made_two, sent_plan, placed_plan}
use Rattle.entries.specs.Answers.{planned}
use Rattle.plans.specs.Claims.{Holds, enough_bytes}
use Rattle.plans.specs.declared.Plan.{Plan}
use Rattle.std.specs.Prelude.{Result, Ok, Err}
use Rattle.plans.proofs.Claims.{scripted, lists_accepted, plans_few, one_holds, two_holds, room_for_every}
use Rattle.lines.specs.Text.{block_text, refused_text}
use Rattle.lines.specs.Printing.{Puts, Whole}
use Rattle.lines.proofs.Pieces.{puts_more, puts_whole}
use Rattle.lines.proofs.Lengths.{most_command, most_block, block_short}
use Rattle.listing.specs.Text.{plans, plan_block, blocks_text, plan_text, plan_printed}
use Rattle.listing.specs.Printing.{most_text, Reads}

-- The block of a plan that was made is that of the script in its field.
module _ {answer : (Result Plan Refusal)} {field : List ℕ} {made : Made} (reads : Reads answer field made) (plan : Plan) (is : answer ≡ Ok plan) where
  same_plan : reads.plan ≡ plan
  same_plan = let done : Ok reads.plan ≡ Ok plan = sym reads.done ∙ is in cc

  pub field_inside : (head_bytes ≤ plan.bytes) × (plan.bytes ≤ length field)
  field_inside = rw (← same_plan) (reads.headed, reads.inside)

  pub value_reads : script_of (take (plan.bytes - head_bytes) (drop head_bytes field)) ≡ some made.script
  unfolding part
  value_reads = rw (← same_plan) reads.script

  pub block_is : (kind initial target : ℕ)
      → block_text kind initial target plan.kept (commands_of (script_of (take (plan.bytes - head_bytes) (drop head_bytes field))))
      ≡ block_text kind initial target made.kept made.script.commands
  unfolding commands_of
  block_is kind initial target = rw (value_reads, ← same_plan, reads.keeps)

pub not_turned : {answer : (Result Plan Refusal)} {field : List ℕ} {made : Made} {refusal : Refusal} → Reads answer field made → answer ≡ Err refusal → ⊥
not_turned {refusal = refusal} reads is =
    let both : Ok reads.plan ≡ Err refusal = sym reads.done ∙ is in
    let z : ◌≡◌ {A = ℕ} 0 1 = cc in
    omega arith

-- What the text needs of a planner: a script that a file can hold, room for its field, a field that reads back, and a block that is not too long.
pub record Prints (c : Contents) (planner : Contents → Made) : Type 0 where
  pub right : Scripted (planner c).script
  pub room : length (script_field (planner c)) ≤ enough_bytes
  pub held : (place : List ℕ) → (planned planner (accepted c) place).answer ≡ Ok (plan_of (planner c))
      → Holds (planner c).script.type (planner c).script.commands (plan_of (planner c)) place (planned planner (accepted c) place).place
  pub short : length (plan_block c (planner c)) ≤ most_block (planner c).script.type

-- What such a planner leaves in a place of 5,124 bytes: its field holds the plan.
module _ {c : Contents} {planner : Contents → Made} (prints : Prints c planner) (place : List ℕ) (long : length place ≡ enough_bytes) where
  abbrev after : Left (Result Plan Refusal)
  after = planned planner (accepted c) place

  planned_done : after.answer ≡ Ok (plan_of (planner c))
  unfolding planned placed_plan sent_plan
  planned_done = rw (le-leb (length (script_field (planner c))) (length place) (omega (arith, prints.room)))

  pub planned_reads : (answer : Result Plan Refusal) (field : List ℕ) → length field ≡ enough_bytes → left_by answer field ≡ after → Reads answer field (planner c)
  unfolding plan_of
  planned_reads answer field same left =
      let plan = plan_of (planner c) in
      let there : field ≡ after.place = ap (λ (l : Left (Result Plan Refusal)). l.place) left in
      let holds : Holds (planner c).script.type (planner c).script.commands plan place field = rw there (prints.held place planned_done) in
      let size : plan.bytes - head_bytes ≡ number (part 1 2 field) = omega (arith, holds.size) in
      record {
        plan = plan;
        done = ap (λ (l : Left (Result Plan Refusal)). l.answer) left ∙ planned_done;
        keeps = refl;
        headed = omega (arith, holds.size);
        inside = omega (arith, prints.room);
        script = rw size holds.reads;
      }

-- The two planners are such.
module _ (c : Contents) (valid : Valid c) where
  initial_few : length c.initial ≤ 512
  initial_few = valid.initial.few

  target_few : length c.target ≤ 512
  target_few = valid.target.few

  pub one_prints : Prints c made_one
  unfolding made_one made_one_of plan_block placed_plan planned
  one_prints =
      let size = length c.catalogue in
      let first = valid.initial.sound in
      let reaches = plan_one_reaches size c.initial c.target first valid.target.sound in
      let script = (made_one c).script in
      let right = scripted c valid 1 ((script_types 1).types.1 (inl refl)) script.commands (plans_few c valid).0 reaches in
      record {
        right = right;
        room = (room_for_every c valid).0;
        held = λ place done. (one_holds c place (plan_of (made_one c)) valid done).holds.written;
        short =
            block_short (length c.initial) (length c.target) (made_one c).kept script (omega (arith, initial_few)) (omega (arith, target_few))
            (omega (arith, initial_few, target_few, plan_one_count c.initial c.target first.distinct)) (plans_few c valid).0 right;
      }

  pub two_prints : Prints c made_two
  unfolding made_two made_two_of plan_block placed_plan planned
  two_prints =
      let size = length c.catalogue in
      let lists = lists_accepted c valid in
      let reaches = plan_two_reaches size c.initial c.target c.keep lists in
      let script = (made_two c).script in
      let right = scripted c valid 2 ((script_types 2).types.1 (inr refl)) script.commands (plans_few c valid).1 reaches in
      record {
        right = right;
        room = (room_for_every c valid).1;
        held = λ place done. (two_holds c place (plan_of (made_two c)) valid done).holds.written;
        short =
            block_short (length c.initial) (length c.target) (made_two c).kept script (omega (arith, initial_few)) (omega (arith, target_few))
            (omega (arith, initial_few, target_few, plan_two_count size c.initial c.target c.keep lists)) (plans_few c valid).1 right;
      }

-- How long the blocks are, one law for all plans: each by its type.
unfoldable most_blocks : List Made → ℕ
most_blocks [] = 0
most_blocks (plan ∷ others) = most_block plan.script.type + most_blocks others

abbrev Short : Contents → List Made → Type 0
Short c [] = Unit {0}
Short c (plan ∷ others) = (length (plan_block c plan) ≤ most_block plan.script.type) × Short c others

blocks_short : (c : Contents) (made : List Made) → Short c made → length (blocks_text c made) ≤ most_blocks made
unfolding blocks_text most_blocks
blocks_short c [] short = omega arith
blocks_short c (plan ∷ others) (one, rest) =
    omega (arith, length-append (plan_block c plan) (blocks_text c others), one, blocks_short c others rest)

pub plans_short : (c : Contents) → Valid c → length (plan_text c) ≤ most_text
unfolding plan_text plans most_blocks most_command made_one made_one_of made_two made_two_of
plans_short c valid =
    let inside : most_blocks (plans c) ≤ most_text = omega arith in
    omega (arith, blocks_short c (plans c) ((one_prints c valid).short, ((two_prints c valid).short, tt)), inside)

-- The text of a file: the refusal's line, or the blocks one behind the other.
pub printed_refusal : (file : List ℕ) (refusal : Refusal) → read_file file ≡ refused refusal → plan_printed file ≡ refused_text refusal
unfolding plan_printed
printed_refusal file refusal e = rw (e, plan_printed)

pub printed_plans : (file : List ℕ) (c : Contents) → read_file file ≡ accepted c → plan_printed file ≡ plan_text c
unfolding plan_printed
printed_plans file c e = rw (e, plan_printed)

-- What a block ends in: the other blocks, or the end of the text.
module _ (c : Contents) (plan : Made) {old middle : List ℕ} {at next : ℕ} (first : Puts old at (plan_block c plan) middle next) where
  block_more : {place : List ℕ} {end : ℕ} (others : List Made) → Puts middle next (blocks_text c others) place end
      → Puts old at (blocks_text c (plan ∷ others)) place end
  unfolding blocks_text
  block_more others rest = puts_more first rest

  block_last : Puts old at (blocks_text c (plan ∷ [])) middle next
  unfolding blocks_text
  block_last = rw append-nil first

module _ (c : Contents) (valid : Valid c) (initial target : ℕ) (i : initial ≡ length c.initial) (t : target ≡ length c.target) where
  block_of : {old place : List ℕ} {at end : ℕ} (plan : Made)
      → Puts old at (block_text plan.script.type initial target plan.kept plan.script.commands) place end → Puts old at (plan_block c plan) place end
  unfolding plan_block
  block_of plan put = rw (← i, ← t) put

  pub all_printed : {old middle place : List ℕ} {next end : ℕ}
      → Puts old 0 (block_text 1 initial target (made_one c).kept (made_one c).script.commands) middle next
      → Puts middle next (block_text 2 initial target (made_two c).kept (made_two c).script.commands) place end
      → (file : List ℕ) → read_file file ≡ accepted c → Whole most_text old (plan_printed file) place end
  unfolding plan_text plans made_one made_one_of made_two made_two_of
  all_printed first second file e =
      rw (printed_plans file c e)
      (puts_whole (block_more c (made_one c) (block_of (made_one c) first) (made_two c ∷ []) (block_last c (made_two c) (block_of (made_two c) second)))
      (plans_short c valid) (omega arith))
