-- A script field under way: what is sent stands there, command after command, and the head makes a script field of it.
-- The idea: a run of stores right behind another is one run of stores. Assumes nothing.
use Prim.Native.Nat.{ℕ, ◌+◌, ◌*◌, ◌≤◌, ◌<◌}
use native.Mathlib.Omega.{arith}
use mathlib.Core.Path.{◌≡◌, refl, ◌∙◌, ap}
use mathlib.Core.List.{List, [], ◌∷◌, ◌++◌, append_assoc, append-nil}
use lib.ListN.{length, take, drop, length-append}
use lib.Seq.{sets, length-sets, sets-eq, drop_at, length-take-le}
use Rattle.policy.specs.Command.{coded}
use Rattle.policy.specs.declared.Command.{Command}
use Rattle.deployment.specs.Bytes.{bytes_of, joined}
use Rattle.deployment.specs.Values.{Script, coded_bytes, script_bytes}
use Rattle.deployment.specs.File.{field_bytes, script_tag}
use Rattle.deployment.specs.FieldValues.{filled}
use Rattle.deployment.proofs.Scripts.{length_script}
use Rattle.deployment.proofs.Storing.{sets_sets}
use Rattle.plans.specs.Sending.{script_head, records, Sent}
use Rattle.plans.specs.Plans.{Made, script_field, plan_of, plan_for, Placed}
use Rattle.plans.specs.declared.Plan.{Plan}

-- Records.
records_append : (u v : List Command) → records (u ++ v) ≡ records u ++ records v
unfolding records joined
records_append [] v = refl
records_append (c ∷ u) v = rw (append_assoc, ← records_append u v)

length_records : (commands : List Command) → length (records commands) ≡ 5 * length commands
unfolding records script_bytes bytes_of
length_records commands = omega (arith, length_script (record { type = 0; commands = commands }), length-append (bytes_of 1 0) (records commands))

pub one_record : (c : Command) → records (c ∷ []) ≡ coded_bytes (coded c)
unfolding records joined
one_record c = append-nil (coded_bytes (coded c))

-- records right behind records, the first of the later ones as number m
pub records_more : (old : List ℕ) (n m : ℕ) (first then : List Command) → m ≡ n + length first
    → sets (sets old (4 + 5 * n) (records first)) (4 + 5 * m) (records then) ≡ sets old (4 + 5 * n) (records (first ++ then))
records_more old n m first then is =
    let at : 4 + 5 * m ≡ 4 + 5 * n + length (records first) = omega (arith, length_records first) in
    rw (at, records_append first then) (sets_sets old (4 + 5 * n) (records first) (records then))

-- Nothing is sent at first.
pub none_sent : (old : List ℕ) (n : ℕ) → length old ≡ 5124 → n ≤ 1024 → Sent old n [] old
unfolding records joined
none_sent old n long few = record { long = long; few = omega arith; put = refl }

-- what is sent behind what was sent
pub sent_more : {old middle field : List ℕ} {n : ℕ} {first then : List Command} (m : ℕ) → Sent old n first middle → m ≡ n + length first
    → Sent middle m then field → Sent old n (first ++ then) field
sent_more {old} {middle} {field} {n} {first} {then} m before is after =
    record {
      long = after.long;
      few = omega (arith, length-append first then, after.few);
      put =
          after.put
          ∙ ap (λ (l : List ℕ). sets l (4 + 5 * m) (records then)) before.put
          ∙ records_more old n m first then is;
    }

-- one more command, put as number m
pub put_sent : {old field next : List ℕ} {n : ℕ} {commands : List Command} (m : ℕ) (c : Command) → Sent old n commands field
    → m ≡ n + length commands → m < 1024 → next ≡ sets field (4 + 5 * m) (coded_bytes (coded c)) → Sent old n (commands ++ (c ∷ [])) next
put_sent {field = field} {next} m c before is room e =
    sent_more m before is
    (record {
      long = ap length e ∙ length-sets field (4 + 5 * m) (coded_bytes (coded c)) ∙ before.long;
      few = omega arith;
      put = rw (one_record c) e;
    })

-- one command, put as number n
pub one_sent : {old field : List ℕ} (n : ℕ) (c : Command) → length old ≡ 5124 → n < 1024
    → field ≡ sets old (4 + 5 * n) (coded_bytes (coded c)) → Sent old n (c ∷ []) field
one_sent {old} n c long room e = put_sent n c (none_sent old n long (omega arith)) (omega arith) room e

-- A script's field is its head and its records.
field_parts : (s : Script) → field_bytes script_tag (script_bytes s) ≡ script_head s.type (length s.commands) ++ records s.commands
unfolding field_bytes script_bytes script_head records bytes_of
field_parts s = rw (length_script s)

pub length_field : (s : Script) → length (field_bytes script_tag (script_bytes s)) ≡ 4 + 5 * length s.commands
unfolding field_bytes bytes_of
length_field s = omega (arith, length_script s)

-- The records from command number 0 on, with the head, are the script's field at the front of a place that has room for it.
pub closed_put : (old : List ℕ) {field next : List ℕ} (commands : List Command) (type n : ℕ) → 4 + 5 * length commands ≤ length old
    → field ≡ sets old 4 (records commands) → n ≡ length commands → next ≡ sets field 0 (script_head type n)
    → next ≡ filled old (field_bytes script_tag (script_bytes (record { type = type; commands = commands })))
unfolding filled script_head bytes_of
closed_put old {field} commands type n room put is e =
    let same : length field ≡ length old = ap length put ∙ length-sets old 4 (records commands) in
    let inside : 4 + length (records commands) ≤ length old = omega (arith, length_records commands) in
    let behind : drop 4 field ≡ records commands ++ drop (4 + length (records commands)) old =
    ap (drop 4) (put ∙ sets-eq (records commands) old 4 inside)
    ∙ (rw append_assoc (drop_at (take 4 old) _ 4 (length-take-le 4 old (omega arith)))) in
    let counted : 4 + length (records commands) ≡ length (script_head type (length commands) ++ records commands) = omega arith in
    e ∙ sets-eq (script_head type n) field 0 (omega arith)
    ∙ rw (behind, is, counted, field_parts (record { type = type; commands = commands }))

pub closed_sent : {old field next : List ℕ} {commands : List Command} (type n : ℕ) → Sent old 0 commands field
    → n ≡ length commands → next ≡ sets field 0 (script_head type n)
    → next ≡ filled old (field_bytes script_tag (script_bytes (record { type = type; commands = commands })))
closed_sent {old} {commands} type n sent is e =
    closed_put old commands type n (omega (arith, sent.few, sent.long, ap length sent.put, length-sets old 4 (records commands))) sent.put is e

-- A planner's answer: its count and its bytes are those of the field.
pub placed : {old field next : List ℕ} {plan : Plan} (made : Made) (kept n : ℕ) → kept ≡ made.kept → n ≡ length made.script.commands
    → Sent old 0 made.script.commands field
    → (plan ≡ plan_for kept n) × (next ≡ sets field 0 (script_head made.script.type n))
    → Placed made plan old next
unfolding plan_of plan_for script_field
placed made kept n same is sent (answer, e) =
    let bytes : 4 + 5 * n ≡ length (script_field made) = omega (arith, length_field made.script) in
    record {
      answer = answer ∙ (λ i. record { kept = same i; commands = is i; bytes = bytes i });
      place = closed_sent made.script.type n sent is e;
    }
