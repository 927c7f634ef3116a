-- 01, "Script for insert, delete and move". Assumes nothing.
use Rattle.std.specs.Prelude.{ℕ, suc, ◌+◌, Bool, true, false, cond, not, List, [], ◌∷◌, ◌++◌, map, reverse, length}
use Rattle.std.proofs.Math.Option.{Option, none, some}
use Rattle.policy.specs.Lists.{mem, before, after, without}
use Rattle.policy.specs.Command.{placed}
use Rattle.policy.specs.declared.Command.{Command}
use Rattle.policy.specs.declared.Command.TheVariants.{Ins, DelPlace, Mov}

-- "go through the target in order and keep each common rule that stands in the initial policy after the last one kept":
-- the first list is what stands there after the last one kept
unfoldable pub own_choice : List ℕ → List ℕ → List ℕ
own_choice left [] = []
own_choice left (r ∷ target) = elim (mem r left) [ true ↦ r ∷ own_choice (after r left) target | false ↦ own_choice left target ]

-- "Kept: the keep list .. If absent: .."
unfoldable pub kept_two : List ℕ → List ℕ → Option (List ℕ) → List ℕ
kept_two initial target none = own_choice initial target
kept_two initial target (some keep) = keep

-- a rule that has joined the front
pub data Standing : Type 0 where
  settled : ℕ → Standing
  waiting : ℕ → Standing

unfoldable pub rule_of : Standing → ℕ
rule_of (settled r) = r
rule_of (waiting r) = r

-- the running list in the first stage: its front, and the rest of it
pub record Halves : Type 0 where
  pub front : List Standing
  pub rest : List ℕ

-- what is done for rules of the target: the commands sent, how many moves were found in place, and the list then
pub record Taken : Type 0 where
  pub sent : List Command
  pub in_place : ℕ
  pub next : Halves

-- "not in the initial policy: insert it right after the front; it joins, settled"
unfoldable pub inserted : Halves → ℕ → Taken
inserted h r =
    record {
      sent = Ins (suc (length h.front)) r ∷ [];
      in_place = 0;
      next = record { front = h.front ++ (settled r ∷ []); rest = h.rest };
    }

-- "kept: every rule between the front and it joins the front, waiting; it joins, settled"
unfoldable pub reached : Halves → ℕ → Taken
reached h r =
    record {
      sent = [];
      in_place = 0;
      next = record { front = h.front ++ (map waiting (before r h.rest) ++ (settled r ∷ [])); rest = after r h.rest };
    }

-- "move it right after the front, or send nothing if it stands there": the rules between the front and it are given
unfoldable pub move_up : ℕ → List ℕ → List Command
move_up front [] = []
move_up front (x ∷ between) = Mov (suc (front + length (x ∷ between))) (suc front) ∷ []

unfoldable pub already : List ℕ → ℕ
already [] = 1
already (x ∷ between) = 0

-- "common, not kept, not yet in the front: move it right after the front, or send nothing if it stands there; it joins, settled"
unfoldable pub raised : Halves → ℕ → Taken
raised h r =
    record {
      sent = move_up (length h.front) (before r h.rest);
      in_place = already (before r h.rest);
      next = record { front = h.front ++ (settled r ∷ []); rest = without r h.rest };
    }

-- "already in the front: it waits"
unfoldable pub left : Halves → Taken
left h = record { sent = []; in_place = 0; next = h }

-- one rule of the target, by the four cases in their order
unfoldable pub take_one : List ℕ → List ℕ → Halves → ℕ → Taken
take_one initial kept h r =
    cond (not (mem r initial)) (inserted h r)
    (cond (mem r kept) (reached h r)
    (cond (mem r h.rest) (raised h r)
    (left h)))

-- "First stage. .. Take the target's rules in order": "At the end all remaining rules join, waiting."
unfoldable pub take_all : List ℕ → List ℕ → Halves → List ℕ → Taken
take_all initial kept h [] =
    record { sent = []; in_place = 0; next = record { front = h.front ++ map waiting h.rest; rest = [] } }
take_all initial kept h (r ∷ target) =
    let one = take_one initial kept h r in
    let others = take_all initial kept one.next target in
    record {
      sent = one.sent ++ others.sent;
      in_place = one.in_place + others.in_place;
      next = others.next;
    }

-- "The front of the running list starts empty."
unfoldable pub first_stage : List ℕ → List ℕ → List ℕ → Taken
first_stage initial kept target = take_all initial kept (record { front = []; rest = initial }) target

-- how many of the settled rules come before the first one that follows r in the target: all of them if there is none
unfoldable pub ahead : List ℕ → ℕ → List ℕ → ℕ
ahead target r [] = 0
ahead target r (x ∷ done) = cond (mem x (after r target)) 0 (suc (ahead target r done))

-- "Second stage. Take the waiting rules from last place to first. One that is not in the target is deleted. Any other is moved
-- to stand just before the first settled rule that follows it in the target, or to the end if there is none; it is then settled."
-- The first list is the front still to be gone through, last place first; the second is what stands behind it, all settled.
unfoldable pub take_waiting : List ℕ → List Standing → List ℕ → List Command
take_waiting target [] done = []
take_waiting target (settled r ∷ front) done = take_waiting target front (r ∷ done)
take_waiting target (waiting r ∷ front) done =
    elim (mem r target) [
      | true ↦
          Mov (suc (length front)) (suc (length front) + ahead target r done)
          ∷ take_waiting target front (placed (suc (ahead target r done)) r done)
      | false ↦ DelPlace (suc (length front)) ∷ take_waiting target front done
    ]

unfoldable pub second_stage : List ℕ → List Standing → List Command
second_stage target front = take_waiting target (reverse front) []

unfoldable pub plan_two : List ℕ → List ℕ → Option (List ℕ) → List Command
plan_two initial target keep =
    let one = first_stage initial (kept_two initial target keep) target in
    one.sent ++ second_stage target one.next.front

-- "less the moves found already in place"
unfoldable pub moves_in_place : List ℕ → List ℕ → Option (List ℕ) → ℕ
moves_in_place initial target keep = (first_stage initial (kept_two initial target keep) target).in_place
