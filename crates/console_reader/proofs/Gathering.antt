-- Lines gathered one after another: the commands of the lines so far stand in the place, and the whole text is read as they are in front of what
-- the rest is read as. The idea: one line more is one command more behind those in front; a line turned away turns the text away, and so does a
-- 2,049th command; where nothing is left, the commands are all. Assumes nothing.
use Prim.Native.Nat.{ℕ, suc, ◌+◌, ◌*◌, ◌-◌, ◌≤◌, ◌<◌}
use native.Mathlib.Numerals.{add-one}
use native.Mathlib.Omega.{arith}
use mathlib.Core.Path.{◌≡◌, refl, sym, ◌∙◌, ap}
use mathlib.Core.Logic.{◌≢◌}
use mathlib.Core.List.{List, [], ◌∷◌, ◌++◌}
use lib.ListN.{length, drop, length-append, length-drop, drop_of_length-le}
use lib.Seq.{sets}
use Rattle.policy.specs.Policy.{most_commands}
use Rattle.policy.specs.Command.{coded}
use Rattle.policy.specs.declared.Command.{Command}
use Rattle.console.specs.Makers.{heard}
use Rattle.console.specs.declared.Maker.{Maker}
use Rattle.deployment.specs.Checked.{good, bad}
use Rattle.deployment.specs.Bytes.{joined}
use Rattle.deployment.specs.Values.{coded_bytes}
use Rattle.deployment.specs.declared.Why.{Why}
use Rattle.deployment.specs.declared.Why.TheVariants.{Length, Beyond}
use Rattle.lines.specs.Text.{text}
use Rattle.plans.specs.Sending.{records}
use Rattle.plans.proofs.Sending.{one_record, records_more}
use Rattle.numerals.specs.Numerals.{Got}
use Rattle.numerals.specs.Found.{Left}
use Rattle.console_text.specs.Text.{line_of}
use Rattle.console_text.specs.Reading.{command_read, Understood, understood, turned, behind_it, read_from}
use Rattle.console_text.proofs.FirstLine.{by_checked, good_bad, front_read, front_beyond, front_none, by_first_lem}
use Rattle.console_text.proofs.Whole.{line_turned, line_over, line_passes, behind_all, all_understood, all_turned, from_nothing}
use Rattle.console_reader.specs.Found.{NextFound, AllFound}
use Rattle.console_reader.specs.declared.Next.{Next}
use Rattle.std.specs.Prelude.{Result, Ok, Err}
use Rattle.std.specs.Result.{MatchResult, IsErrAnd}

-- A line that is read is taken away from the text: what is left is shorter.
line_shorter : (m : Maker) (type : ℕ) (tail : List ℕ) (got : Got Command) → command_read m type tail ≡ good got
    → length got.rest < length tail
unfolding line_of text
line_shorter m type tail got is =
    by_first_lem m type tail
    (λ none. good_bad (sym is ∙ front_none m type tail none))
    (λ k on over. good_bad {why = Beyond} (sym is ∙ rw on.is (front_beyond m type k on.rest on.typed over)))
    (λ k on bounded.
    let read : command_read m type tail ≡ good (record { value = heard m k; rest = on.rest }) =
    rw on.is (front_read m type k on.rest on.typed bounded) in
    let same : got.rest ≡ on.rest = cc in
    omega (arith, ap length same, simp length-append at (ap length on.is)))

-- An answer whose refusal alone is told anew.
abbrev pub Anew : {T E D : Type 0} → (E → D → Type 0) → Result T E → Result T D → Type 0
Anew told r answer = MatchResult r (λ x. answer ≡ Ok x) (λ e. IsErrAnd answer (told e))

pub ok_kept : {T E D : Type 0} (told : E → D → Type 0) (r : Result T E) {answer : Result T D} (x : T) → answer ≡ Ok x → Anew told r answer → r ≡ Ok x
ok_kept told (Ok y) x is same = cc
ok_kept told (Err e) x is other = absurd (rw is at other)

pub err_kept : {T E D : Type 0} (told : E → D → Type 0) (r : Result T E) {answer : Result T D} (d : D) → answer ≡ Err d → Anew told r answer
    → (e : E) × (r ≡ Err e) × told e d
err_kept told (Ok y) d is same = absurd (cc)
err_kept told (Err e) d is other = (e, refl, rw is at other)

-- A command that is found: it is the one that is read.
pub record CommandAt (m : Maker) (type : ℕ) (s tail : List ℕ) (next : Next) : Type 0 where
  pub got : Got Command
  pub is : command_read m type tail ≡ good got
  pub value_is : got.value ≡ next.command
  pub left : Left s next.end got.rest

found_not {ℓ} : {B : Type ℓ} (s : List ℕ) (why : Why) (next : Next) → NextFound s (bad why) (Ok next) → B
found_not s why next e = absurd (cc)

found_good : (m : Maker) (type : ℕ) (s tail : List ℕ) (next : Next) (got : Got Command) → command_read m type tail ≡ good got
    → NextFound s (good got) (Ok next) → CommandAt m type s tail next
found_good m type s tail next got is (behind, e, left) =
    let here : next.end ≡ behind = cc in
    record { got = got; is = is; value_is = cc; left = rw here left }

pub command_at_lem : (m : Maker) (type : ℕ) (s tail : List ℕ) (next : Next) → NextFound s (command_read m type tail) (Ok next)
    → CommandAt m type s tail next
command_at_lem m type s tail next found =
    by_checked (command_read m type tail)
    (λ got is. found_good m type s tail next got is (rw is at found))
    (λ why is. found_not s why next (rw is at found))

-- and a refusal
not_found {ℓ} : {B : Type ℓ} (s : List ℕ) (got : Got Command) (why : Why) → NextFound s (good got) (Err why) → B
not_found s got why (end, e, left) = absurd (cc)

turned_for : (s : List ℕ) (why other : Why) → NextFound s (bad other) (Err why) → other ≡ why
turned_for s why other e = cc

refused_at : (m : Maker) (type : ℕ) (s tail : List ℕ) (why : Why) → NextFound s (command_read m type tail) (Err why)
    → command_read m type tail ≡ bad why
refused_at m type s tail why found =
    by_checked (command_read m type tail)
    (λ got is. not_found s got why (rw is at found))
    (λ other is. is ∙ ap bad (turned_for s why other (rw is at found)))

-- one command more in front
front_more : (done : List Command) (c : Command) (read : Understood) → behind_all (done ++ (c ∷ [])) read ≡ behind_all done (behind_it c read)
front_more [] c read = refl
front_more (first ∷ done) c read = ap (behind_it first) (front_more done c read)

-- The lines before index `at`, which have given n commands: they stand in the place, which held `old`.
pub record Gathered (m : Maker) (type : ℕ) (s old place : List ℕ) (at n : ℕ) : Type 0 where
  pub done : List Command
  pub read : read_from m type most_commands 1 s ≡ behind_all done (read_from m type (most_commands - n) (suc n) (drop at s))
  pub counted : n ≡ length done
  pub few : n ≤ most_commands
  pub inside : at ≤ length s
  pub put : place ≡ sets old 4 (records done)

pub gathered_none : (m : Maker) (type : ℕ) (s old : List ℕ) → Gathered m type s old old 0 0
unfolding records joined
gathered_none m type s old =
    record { done = []; read = refl; counted = refl; few = omega arith; inside = omega arith; put = refl }

module _ {m : Maker} {type : ℕ} {s old place : List ℕ} {at n : ℕ} (so_far : Gathered m type s old place at n) where
  abbrev tail : List ℕ
  tail = drop at s

  abbrev whole : Understood
  whole = read_from m type most_commands 1 s

  -- nothing is left
  pub gathered_all : length s ≤ at → AllFound whole (Ok n) old place
  gathered_all over =
      let read : whole ≡ understood so_far.done =
      so_far.read
      ∙ ap (λ (l : List ℕ). behind_all so_far.done (read_from m type (most_commands - n) (suc n) l)) (drop_of_length-le s over)
      ∙ ap (behind_all so_far.done) (from_nothing m type (most_commands - n) (suc n))
      ∙ all_understood so_far.done in
      rw read (ap Ok so_far.counted, so_far.put)

  module _ (more : at < length s) where
    some : tail ≢ []
    some e = omega (arith, more, ap length e, length-drop at s)

    turned_here : (why : Why) → read_from m type (most_commands - n) (suc n) tail ≡ turned (record { why = why; at = suc n })
        → AllFound whole (Err (record { why = why; at = n + 1 })) old place
    turned_here why is =
        let read : whole ≡ turned (record { why = why; at = suc n }) =
        so_far.read ∙ ap (behind_all so_far.done) is ∙ all_turned so_far.done (record { why = why; at = suc n }) in
        rw (read, add-one)

    -- 55, 56
    pub gathered_turned : (why : Why) → NextFound s (command_read m type tail) (Err why)
        → AllFound whole (Err (record { why = why; at = n + 1 })) old place
    gathered_turned why found =
        turned_here why (line_turned m type (most_commands - n) (suc n) tail why some (refused_at m type s tail why found))

    module _ {next : Next} (there : CommandAt m type s tail next) where
      abbrev c : Command
      c = next.command

      abbrev end : ℕ
      end = next.end

      -- 4
      pub gathered_full : n ≡ most_commands → AllFound whole (Err (record { why = Length; at = n + 1 })) old place
      gathered_full full =
          let none : most_commands - n ≡ 0 = omega arith in
          turned_here Length (rw none (line_over m type (suc n) tail there.got some there.is))

      -- the measure falls
      pub further : at < next.end
      further =
          omega (
            arith,
            line_shorter m type tail there.got there.is,
            there.left.inside,
            ap length there.left.is,
            length-drop at s,
            length-drop end s,
          )

      -- a command more
      pub gathered_more : {more : List ℕ} → n < most_commands → more ≡ sets place (4 + 5 * n) (coded_bytes (coded c))
          → Gathered m type s old more end (n + 1)
      gathered_more {more} room put =
          let left : most_commands - n ≡ suc (most_commands - suc n) = omega arith in
          let here : read_from m type (most_commands - n) (suc n) tail
          ≡ behind_it c (read_from m type (most_commands - suc n) (suc (suc n)) (drop end s)) =
          rw (left, there.left.is, ← there.value_is) (line_passes m type (most_commands - suc n) (suc n) tail there.got some there.is) in
          record {
            done = so_far.done ++ (c ∷ []);
            read = rw add-one (so_far.read ∙ ap (behind_all so_far.done) here ∙ sym (front_more so_far.done c _));
            counted = omega (arith, so_far.counted, length-append so_far.done (c ∷ []));
            few = omega arith;
            inside = there.left.inside;
            put =
                put
                ∙ ap (λ (l : List ℕ). sets l (4 + 5 * n) (coded_bytes (coded c))) so_far.put
                ∙ rw (← one_record c) (records_more old 0 n so_far.done (c ∷ []) (omega (arith, so_far.counted)));
          }
