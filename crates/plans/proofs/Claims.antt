-- The claims of the planners. The idea: a script that leads from a policy names rules of the catalogue and places of lists that are no longer
-- than the catalogue, so all its numbers have two bytes and its field reads back. Assumes nothing.
use Prim.Native.Nat.{ℕ, ◌≤◌, ◌<◌}
use native.Mathlib.Omega.{arith}
use mathlib.Core.Path.{◌≡◌, refl, sym, ap}
use mathlib.Core.Logic.{inl, inr, ◌⊎◌, ⊎_elim}
use mathlib.Core.Bool.{true}
use mathlib.Core.List.Memᴰ
use mathlib.Core.List.{List, [], ◌∷◌, Memᴰ}
use lib.Dec.{leb}
use lib.ListN.{length, drop, length-append}
use lib.Seq.{drop_at}
use Rattle.policy.specs.Command.{coded, of_type}
use Rattle.policy.specs.AppendDelete.{plan_one}
use Rattle.policy.specs.InsertDeleteMove.{plan_two}
use Rattle.policy.specs.Properties.{Makes, Leads, ScriptType}
use Rattle.policy.specs.Claims.{Admitted, Accepted}
use Rattle.policy.specs.declared.Command.{Command}
use Rattle.policy.specs.declared.Command.TheVariants.{App, DelRule, Ins, DelPlace, Mov}
use Rattle.policy.proofs.Tests.{by_test}
use Rattle.policy.proofs.Types.{of_type_allows, script_types}
use Rattle.policy.proofs.Counting.{inside_length}
use Rattle.policy.proofs.Commands.{makes_policy}
use Rattle.policy.proofs.AppendDelete.{plan_one_count, plan_one_reaches}
use Rattle.policy.proofs.Fewest.{plan_one_fewest}
use Rattle.policy.proofs.InsertDeleteMove.{plan_two_count, plan_two_reaches}
use Rattle.policy.proofs.Plans.{plan_one_verdict, plan_one_keeps_the_default, plan_two_verdict, plan_two_changes_once, plans_fit}
use Rattle.deployment.specs.Bytes.{number, part}
use Rattle.deployment.specs.Values.{script_bytes}
use Rattle.deployment.specs.Contents.{Contents, initial_policy, target_policy}
use Rattle.deployment.specs.File.{script_tag}
use Rattle.deployment.specs.FieldValues.{filled}
use Rattle.deployment.specs.Properties.{Scripted, Valid}
use Rattle.deployment.specs.declared.Refusal.{Refusal}
use Rattle.deployment.proofs.Numbers.{numbers_say}
use Rattle.deployment.proofs.Scripts.{length_script, script_read_lem}
use Rattle.deployment.proofs.ReadBack.{tag_read, size_read, value_read}
use Rattle.plans.specs.Plans.{
  Made,
  script_field,
  plan_of,
  made_one_of,
  made_one,
  made_two_of,
  made_two,
  planned_numbers,
  sent_plan,
  placed_plan,
}
use Rattle.plans.specs.Claims.{
  Holds,
  HoldsPlan,
  OneHolds,
  TwoHolds,
  PlannedNumbersSay,
  RoomForEvery,
}
use Rattle.plans.specs.declared.Plan.{Plan}
use Rattle.std.specs.Prelude.{Result, Ok, Err}
use Rattle.plans.proofs.Sending.{length_field}

-- The numbers of a command that passes have two bytes.
abbrev TwoBytes : Command → Type 0
TwoBytes c = ((coded c).one < 65536) × ((coded c).two < 65536)

makes_two_bytes : (size : ℕ) (l : List ℕ) (c : Command) (m : List ℕ) → size ≤ 1024 → length l ≤ 1024 → Makes size l c m → TwoBytes c
unfolding coded
makes_two_bytes size l (App r) m small short made = (omega arith, omega arith)
makes_two_bytes size l (DelRule r) m small short made = (omega arith, omega arith)
makes_two_bytes size l (Ins i r) m small short (u, v, inside, new, at, is, made) =
    (omega (arith, ap length is, length-append u v), omega arith)
makes_two_bytes size l (DelPlace i) m small short (u, x, v, at, is, made) =
    (omega (arith, ap length is, length-append u (x ∷ v)), omega arith)
makes_two_bytes size l (Mov i j) m small short (u, x, v, p, q, from, is, to, same, made) = (
  omega (arith, ap length is, length-append u (x ∷ v)),
  omega (arith, ap length is, length-append u (x ∷ v), ap length same, length-append u v, length-append p q),
)

leads_two_bytes : (size : ℕ) (l n : List ℕ) (script : List Command) → size ≤ 1024 → Admitted size l → Leads size l script n
    → (c : Command) → Memᴰ c script → TwoBytes c
leads_two_bytes size l n [] small policy leads c t = absurd (Memᴰ.not-nil t)
leads_two_bytes size l n (d ∷ script) small policy (m, made, rest) c t =
    let few : length l ≤ size = inside_length size l policy.distinct policy.inside in
    ⊎_elim
    (λ same. rw same (makes_two_bytes size l d m small (omega arith) made))
    (λ later. leads_two_bytes size m n script small (makes_policy size l d m made policy) rest c later)
    (Memᴰ.cases_cons t)

-- A script of one type that leads from one policy to the other can stand in a file.
pub scripted : (c : Contents) → Valid c → (type : ℕ) → ScriptType type → (commands : List Command) → length commands ≤ 1024
    → (of_type type commands ≡ true) × Leads (length c.catalogue) c.initial commands c.target
    → Scripted (record { type = type; commands = commands })
scripted c valid type legal commands few (typed, leads) =
    let small = leads_two_bytes (length c.catalogue) c.initial c.target commands valid.catalogue.few valid.initial.sound leads in
    record {
      type = legal;
      few = omega arith;
      typed = of_type_allows type commands typed;
      one = λ d t. (small d t).0;
      two = λ d t. (small d t).1;
    }

-- Its field, at the front of a place, reads back.
module _ (made : Made) (right : Scripted made.script) (place : List ℕ) where
  value_short : length (script_bytes made.script) < 65536
  value_short = omega (arith, length_script made.script, right.few)

  field_holds : Holds made.script.type made.script.commands (plan_of made) place (filled place (script_field made))
  unfolding filled script_field plan_of
  field_holds =
      let value = script_bytes made.script in
      let left = drop (length (script_field made)) place in
      let size : number (part 1 2 (filled place (script_field made))) ≡ length value = size_read script_tag value left value_short in
      record {
        tag = tag_read script_tag value left (omega arith);
        size = omega (arith, size, length_field made.script, length_script made.script);
        reads = rw (size, value_read script_tag value left) (script_read_lem made.script right);
        counted = refl;
        rest = drop_at (script_field made) left (length (script_field made)) refl;
      }

-- A plan that is answered is the plan, and the place is filled.
done_filled : (plan other : Plan) (field place : List ℕ) → (sent_plan plan field place).answer ≡ Ok other
    → (other ≡ plan) × ((sent_plan plan field place).place ≡ filled place field)
unfolding sent_plan
done_filled plan other field place e =
    by_test (leb (length field) (length place))
    (λ room. let same : plan ≡ other = cc (rw room at e) in (sym same, rw room))
    (λ small. absurd (let z : ◌≡◌ {A = ℕ} 0 1 = cc (rw small at e) in omega arith))

made_holds : (made : Made) → Scripted made.script → (place : List ℕ) (plan : Plan) → (placed_plan made place).answer ≡ Ok plan
    → (plan ≡ plan_of made) × Holds made.script.type made.script.commands plan place (placed_plan made place).place
unfolding placed_plan
made_holds made right place plan e =
    let so = done_filled (plan_of made) plan (script_field made) place e in
    (so.0, rw (so.0, so.1) (field_holds made right place))

module _ (c : Contents) (valid : Valid c) where
  pub lists_accepted : Accepted (length c.catalogue) c.initial c.target c.keep
  lists_accepted = record { first = valid.initial.sound; last = valid.target.sound; keepable = valid.keep }

  pub plans_few : (length (plan_one c.initial c.target) ≤ 1024) × (length (plan_two c.initial c.target c.keep) ≤ 1024)
  plans_few =
      plans_fit (length c.catalogue) c.initial c.target c.keep lists_accepted valid.initial.few valid.target.few

  -- what a plan of either type holds
  plan_holds : (made : Made) → ScriptType made.script.type → length made.script.commands ≤ 1024
      → (of_type made.script.type made.script.commands ≡ true)
      × Leads (length c.catalogue) c.initial made.script.commands c.target
      → (place : List ℕ) (plan : Plan) → (placed_plan made place).answer ≡ Ok plan
      → HoldsPlan made.script.type made.script.commands made.kept c plan place (placed_plan made place).place
  unfolding plan_of
  plan_holds made legal few reaches place plan e =
      let right = scripted c valid made.script.type legal made.script.commands few reaches in
      let so = made_holds made right place plan e in
      record { written = so.1; keeps = ap (λ (p : Plan). p.kept) so.0; reaches = reaches.1 }

pub one_holds : OneHolds
unfolding made_one made_one_of
one_holds c place plan valid e =
    let size = length c.catalogue in
    let first = valid.initial.sound in
    let last = valid.target.sound in
    let reaches = plan_one_reaches size c.initial c.target first last in
    let holds = plan_holds c valid (made_one c) ((script_types 1).types.1 (inl refl)) (plans_few c valid).0 reaches place plan e in
    let counted = holds.written.counted in
    record {
      holds = holds;
      count = omega (arith, counted, holds.keeps, plan_one_count c.initial c.target first.distinct);
      fewest = λ other typed leads. omega (arith, counted, plan_one_fewest size c.initial c.target other first.distinct typed leads);
      judged = plan_one_verdict size c.initial c.target first last;
      spared = plan_one_keeps_the_default size (initial_policy c) (target_policy c) refl first last;
    }

pub two_holds : TwoHolds
unfolding made_two made_two_of
two_holds c place plan valid e =
    let size = length c.catalogue in
    let lists = lists_accepted c valid in
    let reaches = plan_two_reaches size c.initial c.target c.keep lists in
    let holds = plan_holds c valid (made_two c) ((script_types 2).types.1 (inr refl)) (plans_few c valid).1 reaches place plan e in
    record {
      holds = holds;
      count = omega (arith, holds.written.counted, holds.keeps, plan_two_count size c.initial c.target c.keep lists);
      judged = plan_two_verdict size c.initial c.target c.keep lists;
      once = λ m. plan_two_changes_once m size (initial_policy c) (target_policy c) c.keep refl lists;
    }

-- What the numbers of an answer say, and how much room a plan needs.
pub planned_numbers_say : PlannedNumbersSay
unfolding planned_numbers
planned_numbers_say = numbers_say planned_numbers Err (λ r. refl) cases
  where
    cases : (answer : Result Plan Refusal) → (planned_numbers answer ≡ []) ⊎ ((r : Refusal) × (answer ≡ Err r))
    cases (Ok plan) = inl refl
    cases (Err r) = inr (r, refl)

pub room_for_every : RoomForEvery
unfolding script_field made_one made_one_of made_two made_two_of
room_for_every c valid =
    let few = plans_few c valid in (
      omega (arith, length_field (made_one c).script, few.0),
      omega (arith, length_field (made_two c).script, few.1),
    )
