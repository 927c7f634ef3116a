-- The codes of a type, tried one after another from 1 on: those of a type stand in rising order, so that trying all codes up to 5 and passing over
-- those of other types is trying the type's own in their order. Assumes nothing.
use Prim.Native.Nat.{ℕ, ◌+◌}
use native.Mathlib.Omega.{arith}
use mathlib.Core.Path.{◌≡◌, refl, sym, ap}
use mathlib.Core.Bool.{true, false, cond}
use mathlib.Core.List.{List, [], ◌∷◌}
use borrow.Author.Tests.{eqb-true, eqb-false, leb-true, leb-false, le-leb, lt-leb}
use lib.Dec.{eqb, leb}
use Rattle.policy.specs.Lists.{mem}
use Rattle.policy.specs.Command.{Coded, codes_of}
use Rattle.policy.proofs.Tests.{by_test, never, or_neither}
use Rattle.std.specs.Prelude.{Some, None}
use Rattle.console.specs.declared.Maker.{Maker}
use Rattle.deployment.specs.Checked.{Checked, good, bad}
use Rattle.numerals.specs.Numerals.{Got}
use Rattle.console_text.specs.Reading.{line_read, any_read}
use Rattle.console_text.proofs.Line.{by_type}
use Rattle.console_reader.specs.Found.{LineFound}
use Rattle.console_reader.specs.declared.line.Line.{Line}

-- those codes that aren't tried yet: from one code on
unfoldable pub from : ℕ → List ℕ → List ℕ
from code [] = []
from code (k ∷ codes) = cond (leb code k) (k ∷ from code codes) (from code codes)

-- at first all, at last none
pub from_first : (type : ℕ) → codes_of type ≡ from 1 (codes_of type)
unfolding from
from_first = by_type (λ codes. codes ≡ from 1 codes) refl refl refl

pub from_last : (type : ℕ) → from 6 (codes_of type) ≡ []
unfolding from
from_last = by_type (λ codes. from 6 codes ≡ []) refl refl refl

-- a code of another type is passed over
passed_over : (code : ℕ) (codes : List ℕ) → mem code codes ≡ false → from code codes ≡ from (code + 1) codes
unfolding from mem
passed_over code [] other = refl
passed_over code (k ∷ codes) other =
    let (differ, others) = or_neither (eqb k code) (mem code codes) other in
    by_test (leb code k)
    (λ t.
    let above = le-leb (code + 1) k (omega (arith, leb-true code k t, eqb-false k code differ)) in
    rw (t, above) (ap (λ (l : List ℕ). k ∷ l) (passed_over code codes others)))
    (λ f.
    let below = lt-leb (code + 1) k (omega (arith, leb-false code k f)) in
    rw (f, below) (passed_over code codes others))

-- a code of the type is the next one
abbrev Next : List ℕ → Type 0
Next codes = (code : ℕ) → mem code codes ≡ true → from code codes ≡ code ∷ from (code + 1) codes

next_code : (type : ℕ) → Next (codes_of type)
unfolding from mem
next_code =
    by_type Next
    (λ code e. by_test (eqb 1 code) (λ t. rw (sym (eqb-true 1 code t)) refl) (λ f.
    by_test (eqb 2 code) (λ t. rw (sym (eqb-true 2 code t)) refl) (λ g. never e (rw (f, g) refl))))
    (λ code e. by_test (eqb 3 code) (λ t. rw (sym (eqb-true 3 code t)) refl) (λ f.
    by_test (eqb 4 code) (λ t. rw (sym (eqb-true 4 code t)) refl) (λ g.
    by_test (eqb 5 code) (λ t. rw (sym (eqb-true 5 code t)) refl) (λ h. never e (rw (f, g, h) refl)))))
    (λ code e. never e refl)

-- one code tried: the line is found, or the others are left
tried : (s : List ℕ) (read others : Checked (Got Coded)) → LineFound s read None → elim read [ good line ↦ good line | bad why ↦ others ] ≡ others
tried s (good got) others (to, is, left) = absurd (cc)
tried s (bad why) others is = refl

met : (s : List ℕ) (read others : Checked (Got Coded)) (line : Line) → LineFound s read (Some line)
    → LineFound s (elim read [ good got ↦ good got | bad why ↦ others ]) (Some line)
met s (good got) others line found = found
met s (bad why) others line is = absurd (cc)

-- the reading of a line, from one code on
module _ (m : Maker) (type : ℕ) (t : List ℕ) where
  abbrev pub read_from : ℕ → Checked (Got Coded)
  read_from code = any_read m (from code (codes_of type)) t

  pub all_codes : any_read m (codes_of type) t ≡ read_from 1
  all_codes = ap (λ (codes : List ℕ). any_read m codes t) (from_first type)

  pub no_code_left : (s : List ℕ) → LineFound s (read_from 6) None
  unfolding any_read
  no_code_left s = rw (from_last type) refl

  module _ (code : ℕ) where
    pub other_type : mem code (codes_of type) ≡ false → read_from code ≡ read_from (code + 1)
    other_type other = ap (λ (codes : List ℕ). any_read m codes t) (passed_over code (codes_of type) other)

    module _ (s : List ℕ) (allowed : mem code (codes_of type) ≡ true) where
      pub no_line : LineFound s (line_read m code t) None → read_from code ≡ read_from (code + 1)
      unfolding any_read
      no_line found = rw (next_code type code allowed) (tried s (line_read m code t) (read_from (code + 1)) found)

      pub line_met : (line : Line) → LineFound s (line_read m code t) (Some line) → LineFound s (read_from code) (Some line)
      unfolding any_read
      line_met line found = rw (next_code type code allowed) (met s (line_read m code t) (read_from (code + 1)) line found)
