-- What the two stages of the script for insert, delete and move are told with: parts of the script, which touch no kept rule, and
-- the front of the running list, whose rules are settled or wait; no kept rule waits. `Passing` is what the first stage hands to the
-- second. Assumes nothing.
use Prim.Native.Nat.{ℕ, suc, ◌+◌}
use native.Mathlib.Omega.{arith}
use mathlib.Core.Path.{◌≡◌, refl, sym, ◌∙◌, ap}
use mathlib.Core.Logic.{⊎_elim, ◌≢◌}
use mathlib.Core.List.{List, [], ◌∷◌, ◌++◌, map, reverse_aux, map-append, append-nil}
use mathlib.Core.List.Memᴰ
use mathlib.Core.List.{Memᴰ}
use lib.ListN.{length, length-append}
use lib.Seq.{append_snoc}
use Rattle.policy.specs.InsertDeleteMove.{Standing, settled, waiting, rule_of}
use Rattle.policy.specs.Properties.{In, Distinct, Within, Precedes, Ordered, Makes, Leads, StandsAt}
use Rattle.policy.specs.Properties.{Touches, Untouched}
use Rattle.policy.specs.declared.Command.{Command}
use Rattle.policy.specs.declared.Command.TheVariants.{App, DelRule, Ins, DelPlace, Mov}
use Rattle.policy.proofs.Standing.{Follows}
use Rattle.policy.proofs.Way.{Forward, Sound, Steps, steps_leads, steps_append}
use Rattle.policy.proofs.Commands.{rule_at_lem, makes_unique}

-- a command of type 2 that changes the list
abbrev pub Fit : Command → Type 0
Fit (App r) = ⊥
Fit (DelRule r) = ⊥
Fit (Ins i r) = Unit {0}
Fit (DelPlace i) = Unit {0}
Fit (Mov i j) = i ≢ j

-- a script that touches no rule of the list `kept`: its first command does not, nor do the others from the list that it makes
abbrev Spares : ℕ → List ℕ → List ℕ → List Command → Type 0
Spares size kept l [] = Unit {0}
Spares size kept l (c ∷ script) =
    ((r : ℕ) → Touches l c r → ¬ In r kept) × ((m : List ℕ) → Makes size l c m → Spares size kept m script)

spares_append : (size : ℕ) (kept l m : List ℕ) (first second : List Command) → Leads size l first m
    → Spares size kept l first → Spares size kept m second → Spares size kept l (first ++ second)
spares_append size kept l m [] second e s t = rw e t
spares_append size kept l m (c ∷ first) second (x, made, rest) (free, s) t = (
  free,
  λ y makes. let same : x ≡ y = makes_unique size l c x y made makes in
      rw same at (spares_append size kept x m first second rest (s x made) t),
)

pub spares_untouched : (size : ℕ) (kept l : List ℕ) (script : List Command)
    → Spares size kept l script → Untouched size l script kept
spares_untouched size kept l [] s [] others c m r e leads touches = let clash : ◌≡◌ {A = ℕ} 0 1 = cc in absurd (omega arith)
spares_untouched size kept l [] s (d ∷ first) others c m r e leads touches =
    let clash : ◌≡◌ {A = ℕ} 0 1 = cc in absurd (omega arith)
spares_untouched size kept l (b ∷ script) s [] others c m r e leads touches =
    let same : b ≡ c = cc in s.0 r (rw (leads, same) touches)
spares_untouched size kept l (b ∷ script) s (d ∷ first) others c m r e (x, made, rest) touches =
    let same : d ≡ b = cc in
    spares_untouched size kept x script (s.1 x (rw same at made)) first others c m r (cc) rest touches

-- a part of the script, from one list to another, that touches no rule of the list `kept`
pub record Leg (size : ℕ) (initial target kept l : List ℕ) (script : List Command) (m : List ℕ) : Type 0 where
  pub steps : Steps (Sound initial target) (Forward initial target) size l script m
  pub fit : (c : Command) → Memᴰ c script → Fit c
  pub spares : Spares size kept l script

pub leg_none : {size : ℕ} {initial target kept l m : List ℕ} → Sound initial target l → l ≡ m
    → Leg size initial target kept l [] m
leg_none s e = record { steps = (s, e); fit = λ c h. absurd (Memᴰ.not-nil h); spares = tt }

pub leg_one : {size : ℕ} {initial target kept l : List ℕ} (c : Command) {m : List ℕ} → Sound initial target l → Sound initial target m
    → Makes size l c m → Forward initial target l m → Fit c → ((r : ℕ) → Touches l c r → ¬ In r kept)
    → Leg size initial target kept l (c ∷ []) m
leg_one c {m} s t makes forward fit free =
    record {
      steps = (s, (m, makes, forward, (t, refl)));
      fit = λ x h. rw (Memᴰ.eq_of_singleton h) fit;
      spares = (free, λ x made. tt);
    }

pub leg_append : {size : ℕ} {initial target kept l m n : List ℕ} {first second : List Command}
    → Leg size initial target kept l first m → Leg size initial target kept m second n
    → Leg size initial target kept l (first ++ second) n
leg_append {size} {initial} {target} {kept} {l} {m} {n} {first} {second} s t =
    let leads = steps_leads (Sound initial target) (Forward initial target) size l m first s.steps in
    record {
      steps = steps_append (Sound initial target) (Forward initial target) size l m n first second s.steps t.steps;
      fit = λ c h. ⊎_elim (λ k. s.fit c k) (λ k. t.fit c k) (Memᴰ.append_cases first h);
      spares = spares_append size kept l m first second leads s.spares t.spares;
    }

-- a command that lifts out the rule at a place touches that rule alone
pub lifts : {kept l : List ℕ} {i : ℕ} (u : List ℕ) (x : ℕ) (v : List ℕ) → i ≡ suc (length u) → l ≡ u ++ (x ∷ v) → ¬ In x kept
    → (r : ℕ) → StandsAt l i r → ¬ In r kept
lifts u x v at is n r s h =
    n (Memᴰ.cast (sym (rule_at_lem u x v at is) ∙ rule_at_lem s.left r s.right s.counted s.is) h)

-- The rules of the front, in their order: given first place first, where waiting rules join at its end ..
rules_waiting : (l : List ℕ) → map rule_of (map waiting l) ≡ l
unfolding rule_of
rules_waiting [] = refl
rules_waiting (x ∷ l) = ap (λ (m : List ℕ). x ∷ m) (rules_waiting l)

pub rules_join : (front : List Standing) (l : List ℕ) → map rule_of (front ++ map waiting l) ≡ map rule_of front ++ l
rules_join front l = map-append rule_of front (map waiting l) ∙ ap (λ (m : List ℕ). map rule_of front ++ m) (rules_waiting l)

-- .. and given last place first, as the second stage takes them.
abbrev pub standing : List Standing → List ℕ
standing [] = []
standing (x ∷ left) = standing left ++ (rule_of x ∷ [])

pub standing_in : (x : Standing) (left : List Standing) → Memᴰ x left → In (rule_of x) (standing left)
standing_in x [] h = absurd (Memᴰ.not-nil h)
standing_in x (y ∷ left) h =
    ⊎_elim (λ e. Memᴰ.append_right (standing left) (Memᴰ.head (ap rule_of e)))
    (λ k. Memᴰ.append_left (rule_of y ∷ []) (standing_in x left k))
    (Memᴰ.cases_cons h)

pub standing_length : (left : List Standing) → length (standing left) ≡ length left
standing_length [] = refl
standing_length (x ∷ left) = omega (arith, standing_length left, length-append (standing left) (rule_of x ∷ []))

pub standing_reverse : (front back : List Standing) → standing (reverse_aux front back) ≡ standing back ++ map rule_of front
standing_reverse [] back = sym (append-nil (standing back))
standing_reverse (x ∷ front) back =
    standing_reverse front (x ∷ back) ∙ append_snoc (standing back) (rule_of x) (map rule_of front)

-- every settled rule is in the first list, and precedes in the target each rule of the target that stands after it
abbrev pub Settles : List ℕ → List ℕ → List Standing → List ℕ → Type 0
Settles taken target front l =
    (s : ℕ) → Memᴰ (settled s) front → In s taken × ((x : ℕ) → Precedes s x l → In x target → Precedes s x target)

-- every waiting rule of the target has a rule after it that precedes it in the target
abbrev pub Waits : List ℕ → List Standing → List ℕ → Type 0
Waits target front l =
    (r : ℕ) → Memᴰ (waiting r) front → In r target → (s : ℕ) × Precedes r s l × Precedes s r target

-- no waiting rule is kept
abbrev pub Unkept : List ℕ → List Standing → Type 0
Unkept kept front = (r : ℕ) → Memᴰ (waiting r) front → ¬ In r kept

-- the running list in the second stage: the front that is left, last place first, and `done`
pub record Passing (initial target kept : List ℕ) (left : List Standing) (done l : List ℕ) : Type 0 where
  pub is : l ≡ standing left ++ done
  pub distinct : Distinct l
  pub ordered : Ordered initial target l
  pub whole : Within target l
  pub inside : Within done target
  pub follows : Follows done target
  pub settles : Settles target target left l
  pub waits : Waits target left l
  pub unkept : Unkept kept left

-- how many rules of the front wait
unfoldable pub waiting_count : List Standing → ℕ
waiting_count [] = 0
waiting_count (settled r ∷ front) = waiting_count front
waiting_count (waiting r ∷ front) = suc (waiting_count front)

pub waiting_append : (u v : List Standing) → waiting_count (u ++ v) ≡ waiting_count u + waiting_count v
unfolding waiting_count
waiting_append [] v = omega arith
waiting_append (settled r ∷ u) v = waiting_append u v
waiting_append (waiting r ∷ u) v = omega (arith, waiting_append u v)

pub waiting_all : (l : List ℕ) → waiting_count (map waiting l) ≡ length l
unfolding waiting_count
waiting_all [] = refl
waiting_all (x ∷ l) = ap suc (waiting_all l)

pub waiting_reverse : (front back : List Standing) → waiting_count (reverse_aux front back) ≡ waiting_count front + waiting_count back
unfolding waiting_count
waiting_reverse [] back = omega arith
waiting_reverse (settled r ∷ front) back = waiting_reverse front (settled r ∷ back)
waiting_reverse (waiting r ∷ front) back = omega (arith, waiting_reverse front (waiting r ∷ back))
