-- One line as code reads it: numbers are held up to 65,537, which is above every bound, so the bounds say the same of a number that is held, and
-- a number within them is held as it is. Then the outcomes of a line are those of the code: none of the type, a number beyond, a command, or no
-- command. Assumes nothing.
use Prim.Native.Nat.{ℕ, suc, ◌≤◌, ◌<◌}
use native.Mathlib.Omega.{arith}
use mathlib.Core.Path.{◌≡◌, refl, sym, ◌∙◌, ap}
use mathlib.Core.Bool.{true, false}
use mathlib.Core.Logic.{◌⊎◌, ⊎_elim}
use mathlib.Core.List.{List}
use borrow.Author.Tests.{ltb-true, ltb-false, le-leb}
use lib.Dec.{eqb, ltb}
use Rattle.policy.specs.Command.{Coded, codes_of}
use Rattle.policy.specs.declared.Command.{Command}
use Rattle.policy.proofs.Tests.{by_test, both_and}
use Rattle.console.specs.Makers.{place_for, second_heard}
use Rattle.console.specs.declared.Maker.{Maker}
use Rattle.console.specs.declared.Maker.TheVariants.{A, B}
use Rattle.deployment.specs.Checked.{good, bad}
use Rattle.deployment.specs.Values.{command_from}
use Rattle.deployment.specs.Commands.{decoded}
use Rattle.std.specs.Prelude.{Result, Ok, Err, Option, Some, None}
use Rattle.std.specs.Option.{ok_or}
use Rattle.deployment.specs.declared.Why.{Why}
use Rattle.deployment.specs.declared.Why.TheVariants.{NoCommand, Beyond}
use Rattle.deployment.proofs.Tests.{says_and, says_at_most, not_says}
use Rattle.values.proofs.Scripts.{decoded_is, decoded_wrong}
use Rattle.numerals.specs.Numerals.{Got}
use Rattle.numerals.specs.Found.{most_held, held, Left}
use Rattle.numerals.proofs.Counting.{held_within, held_is}
use Rattle.console_text.specs.Reading.{any_read, most_number, most_second, in_bounds, heard_coded, decoded_read, command_read}
use Rattle.console_text.proofs.FirstLine.{by_checked, any_bad}
use Rattle.console_reader.specs.Found.{LineFound, NextFound}
use Rattle.console_reader.specs.declared.line.Line.{Line}

-- The bounds are below the most that is held, and a second number within them is heard as one of two bytes.
most_second_below : (m : Maker) (code : ℕ) → most_second m code < most_held
unfolding most_second
most_second_below A code = omega arith
most_second_below B code = by_test (eqb code 5) (λ t. rw t (omega arith)) (λ f. rw f (omega arith))

pub heard_within : (m : Maker) (k : Coded) → k.one ≤ most_number → k.two ≤ most_second m k.code → (heard_coded m k).two ≤ most_number
unfolding heard_coded second_heard place_for most_second
heard_within A k one two = by_test (eqb k.code 5) (λ t. rw t two) (λ f. rw f two)
heard_within B k one two =
    by_test (eqb k.code 5)
    (λ t.
    let most : k.two ≤ suc most_number = rw t at two in
    by_test (ltb k.one k.two)
    (λ less. rw (t, less) (omega (arith, most, ltb-true k.one k.two less)))
    (λ more. rw (t, more) (omega (arith, one, ltb-false k.one k.two more))))
    (λ f. rw f (rw f at two))

-- The reason that stands in for what isn't there.
pub none_why : {T : Type 0} (o : Option T) (why due : Why) → ◌≡◌ {A = Result T Why} (Err why) (ok_or o due) → why ≡ due
none_why None why due e = cc
none_why (Some x) why due e = absurd (cc)

-- No line of the type.
not_found {ℓ} : {B : Type ℓ} (s : List ℕ) (got : Got Coded) → LineFound s (good got) None → B
not_found s got (end, e, left) = absurd (cc)

pub no_line : (m : Maker) (type : ℕ) (s tail : List ℕ) → LineFound s (any_read m (codes_of type) tail) None
    → NextFound s (command_read m type tail) (Err NoCommand)
unfolding command_read
no_line m type s tail found =
    by_checked (any_read m (codes_of type) tail)
    (λ got is. not_found s got (rw is at found))
    (λ why is. rw (is, any_bad m (codes_of type) tail why is) refl)

-- A line that is found: it is the one that is read, with its numbers held.
pub record LineAt (m : Maker) (type : ℕ) (s tail : List ℕ) (line : Line) : Type 0 where
  pub got : Got Coded
  pub is : any_read m (codes_of type) tail ≡ good got
  pub code_is : line.code ≡ got.value.code
  pub one_is : line.one ≡ held got.value.one
  pub two_is : line.two ≡ held got.value.two
  pub left : Left s line.end got.rest

found_not {ℓ} : {B : Type ℓ} (s : List ℕ) (why : Why) (line : Line) → LineFound s (bad why) (Some line) → B
found_not s why line e = absurd (cc)

found_good : (m : Maker) (type : ℕ) (s tail : List ℕ) (line : Line) (got : Got Coded) → any_read m (codes_of type) tail ≡ good got
    → LineFound s (good got) (Some line) → LineAt m type s tail line
found_good m type s tail line got is (behind, e, left) =
    let here : line.end ≡ behind = cc in
    record { got = got; is = is; code_is = cc; one_is = cc; two_is = cc; left = rw here left }

pub line_at : (m : Maker) (type : ℕ) (s tail : List ℕ) (line : Line) → LineFound s (any_read m (codes_of type) tail) (Some line)
    → LineAt m type s tail line
line_at m type s tail line found =
    by_checked (any_read m (codes_of type) tail)
    (λ got is. found_good m type s tail line got is (rw is at found))
    (λ why is. found_not s why line (rw is at found))

module _ {m : Maker} {type : ℕ} {s tail : List ℕ} {line : Line} (there : LineAt m type s tail line) where
  -- a number beyond
  pub line_beyond : (most_number < line.one) ⊎ (most_second m line.code < line.two) → NextFound s (command_read m type tail) (Err Beyond)
  unfolding command_read in_bounds
  line_beyond over =
      let k = there.got.value in
      let beyond : in_bounds m k ≡ false = not_says (says_and (says_at_most k.one most_number) (says_at_most k.two (most_second m k.code)))
      (λ within. ⊎_elim
      (λ h. omega (arith, h, within.0, there.one_is, held_within k.one))
      (λ h. omega (arith, h, within.1, there.two_is, held_within k.two, ap (most_second m) there.code_is))
      over) in
      rw (there.is, beyond) refl

  module _ (within-one : line.one ≤ most_number) (within-two : line.two ≤ most_second m line.code) where
    abbrev line_coded : Coded
    line_coded = record { code = line.code; one = line.one; two = line.two }

    -- within the bounds the numbers are those of the line
    coded_is : there.got.value ≡ line_coded
    coded_is i =
        let one_same : there.got.value.one ≡ line.one =
        sym (there.one_is ∙ held_is there.got.value.one (omega (arith, within-one, there.one_is))) in
        let two_same : there.got.value.two ≡ line.two =
        sym (there.two_is ∙ held_is there.got.value.two (omega (arith, within-two, there.two_is, most_second_below m line.code))) in
        record { code = sym there.code_is i; one = one_same i; two = two_same i }

    -- what is heard of it fits into two bytes, and is what is heard of the line
    pub heard_fits : (heard_coded m line_coded).two ≤ most_number
    heard_fits = heard_within m line_coded within-one within-two

    abbrev pub heard_line : Coded
    heard_line = record { code = line.code; one = line.one; two = (heard_coded m line_coded).two }

    heard_is : heard_coded m there.got.value ≡ heard_line
    unfolding heard_coded
    heard_is = ap (heard_coded m) coded_is

    within : in_bounds m there.got.value ≡ true
    unfolding in_bounds
    within = rw coded_is (both_and (le-leb line.one most_number within-one) (le-leb line.two (most_second m line.code) within-two))

    -- a command of the type, or none
    pub line_read_lem : (c : Command) → Some c ≡ decoded (command_from type heard_line) → NextFound s (command_read m type tail) (Ok (record { command = c; end = line.end }))
    unfolding command_read decoded_read
    line_read_lem c e = rw (there.is, within, heard_is, decoded_is (command_from type heard_line) c e, decoded_read) (line.end, refl, there.left)

    pub line_wrong : None ≡ decoded (command_from type heard_line) → NextFound s (command_read m type tail) (Err NoCommand)
    unfolding command_read decoded_read
    line_wrong e = rw (there.is, within, heard_is, decoded_wrong (command_from type heard_line) e, decoded_read) refl
