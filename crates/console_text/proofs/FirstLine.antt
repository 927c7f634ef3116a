-- The first line of a text, read as a command: 55 where no line of the type stands in front, then 56 where a number is beyond, and else the
-- command that the words are. The idea: a line is read by the table of words (Line.antt); its bounds are a test, and a command of the type that
-- is heard is one of the type again. Assumes nothing.
use Prim.Native.Nat.{ℕ}
use native.Mathlib.Omega.{arith}
use mathlib.Core.Path.{◌≡◌, refl, sym, ◌∙◌, ap}
use mathlib.Core.Logic.{◌≢◌}
use mathlib.Core.List.{List, [], ◌∷◌, ◌++◌}
use lib.ListN.{length, length-append}
use Rattle.policy.specs.Command.{coded, codes_of}
use Rattle.policy.specs.Properties.{Allows}
use Rattle.policy.specs.declared.Command.{Command}
use Rattle.policy.proofs.Tests.{by_test}
use Rattle.console.specs.Makers.{heard}
use Rattle.console.specs.declared.Maker.{Maker}
use Rattle.console.proofs.Words.{heard_code, heard_one, coded_heard}
use Rattle.deployment.specs.Checked.{Checked, good, bad}
use Rattle.deployment.specs.declared.Why.{Why}
use Rattle.deployment.specs.declared.Why.TheVariants.{NoCommand, Beyond}
use Rattle.deployment.proofs.Tests.{Says, says_and, says_at_most, says_not, not_says}
use Rattle.deployment.proofs.Scripts.{command_read_lem}
use Rattle.lines.specs.Text.{text}
use Rattle.console_text.specs.Text.{line_of}
use Rattle.console_text.specs.Reading.{line_read, any_read, most_number, most_second, in_bounds, heard_coded, decoded_read, command_read}
use Rattle.console_text.specs.Properties.{GoesOnWith, Bounded}
use Rattle.console_text.proofs.Line.{line_read_lem, line_is_lem}

-- a check passes or turns away: each case gets the equation
pub by_checked {ℓ} : {A : Type 0} {B : Type ℓ} (c : Checked A) → ((a : A) → c ≡ good a → B) → ((why : Why) → c ≡ bad why → B) → B
by_checked (good a) pass fail = pass a refl
by_checked (bad why) pass fail = fail why refl

pub good_bad {ℓ} : {A : Type 0} {B : Type ℓ} {a : A} {why : Why} → good a ≡ bad why → B
good_bad {a} {why} e = absurd (let z : ◌≡◌ {A = ℕ} 0 1 = cc in omega arith)

-- A line has its line feed.
pub some_line : (m : Maker) (k : Command) (rest : List ℕ) → (line_of m k ++ rest) ≢ []
unfolding line_of text
some_line m k rest e = omega (arith, simp length-append at (ap length e))

-- The bounds, as a test and as a property.
says_bounded : (m : Maker) (k : Command) → Says (in_bounds m (coded k)) (Bounded m k)
unfolding in_bounds
says_bounded m k =
    let says = says_and (says_at_most (coded k).one most_number) (says_at_most (coded k).two (most_second m (coded k).code)) in
    (λ e. let h = says.0 e in record { one = h.0; two = h.1 }, λ b. says.1 (b.one, b.two))

-- What is heard of a command of the type is a command of the type.
heard_coded_lem : (m : Maker) (k : Command) → heard_coded m (coded k) ≡ coded (heard m k)
unfolding heard_coded
heard_coded_lem m k i = record { code = sym (heard_code m k) i; one = sym (heard_one m k) i; two = sym (coded_heard m k) i }

decoded : (m : Maker) (type : ℕ) (k : Command) → Allows type k → decoded_read type (heard_coded m (coded k)) ≡ good (heard m k)
unfolding decoded_read
decoded m type k allowed =
    let typed : Allows type (heard m k) = rw (heard_code m k) allowed in
    rw (heard_coded_lem m k) (rw (command_read_lem type (heard m k) typed, decoded_read))

-- A line of the type in front ..
pub front_read : (m : Maker) (type : ℕ) (k : Command) (rest : List ℕ) → Allows type k → Bounded m k
    → command_read m type (line_of m k ++ rest) ≡ good (record { value = heard m k; rest = rest })
unfolding command_read
front_read m type k rest allowed bounded =
    rw (line_read_lem m type k rest allowed, (says_bounded m k).1 bounded, decoded m type k allowed)

pub front_beyond : (m : Maker) (type : ℕ) (k : Command) (rest : List ℕ) → Allows type k → ¬ Bounded m k
    → command_read m type (line_of m k ++ rest) ≡ bad Beyond
unfolding command_read
front_beyond m type k rest allowed beyond =
    rw (line_read_lem m type k rest allowed, not_says (says_bounded m k) beyond)

-- .. and none.
pub any_bad : (m : Maker) (codes s : List ℕ) (why : Why) → any_read m codes s ≡ bad why → why ≡ NoCommand
unfolding any_read
any_bad m [] s why e = cc
any_bad m (code ∷ codes) s why e =
    by_checked (line_read m code s)
    (λ line is. good_bad (rw (is, any_read) at e))
    (λ other is. any_bad m codes s why (rw (is, any_read) at e))

pub front_none : (m : Maker) (type : ℕ) (s : List ℕ) → ((k : Command) → ¬ GoesOnWith m type k s) → command_read m type s ≡ bad NoCommand
unfolding command_read
front_none m type s none =
    by_checked (any_read m (codes_of type) s)
    (λ got is. let line = line_is_lem m type s got is in
    absurd (none line.0 (record { typed = line.2; rest = got.rest; is = line.3 })))
    (λ why is. rw (is, any_bad m (codes_of type) s why is))

-- the first line is none of the type, or one with a number beyond, or one that passes
by_front {ℓ} : {A : Type ℓ} (m : Maker) (type : ℕ) (s : List ℕ) → (((k : Command) → ¬ GoesOnWith m type k s) → A)
    → ((k : Command) → GoesOnWith m type k s → A) → A
by_front m type s none there =
    by_checked (any_read m (codes_of type) s)
    (λ got is. let line = line_is_lem m type s got is in there line.0 (record { typed = line.2; rest = got.rest; is = line.3 }))
    (λ why is. none (λ k on. good_bad (sym (line_read_lem m type k on.rest on.typed) ∙ (rw on.is at is))))

pub by_first_lem {ℓ} : {A : Type ℓ} (m : Maker) (type : ℕ) (s : List ℕ) → (((k : Command) → ¬ GoesOnWith m type k s) → A)
    → ((k : Command) → GoesOnWith m type k s → ¬ Bounded m k → A) → ((k : Command) → GoesOnWith m type k s → Bounded m k → A) → A
by_first_lem m type s none beyond passes =
    by_front m type s none
    (λ k on. by_test (in_bounds m (coded k))
    (λ t. passes k on ((says_bounded m k).0 t))
    (λ f. beyond k on (says_not (says_bounded m k) f)))
