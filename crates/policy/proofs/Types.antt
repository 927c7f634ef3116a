-- Script types: what the table of codes says of each type and each command. The idea: a code that a type allows stands in a row of the table,
-- and each row is looked through. Assumes nothing.
use Prim.Native.Nat.{ℕ}
use native.Mathlib.Omega.{arith}
use mathlib.Core.Path.{◌≡◌, refl}
use mathlib.Core.Bool.{true, false}
use mathlib.Core.Logic.{◌⊎◌, inl, inr, ⊎_elim}
use mathlib.Core.List.Memᴰ
use mathlib.Core.List.{List, [], ◌∷◌, Memᴰ}
use borrow.Author.Tests.{eqb-true, le-leb}
use lib.Dec.{eqb, leb}
use lib.ListN.{length}
use Rattle.policy.specs.Lists.{mem}
use Rattle.policy.specs.Command.{coded, codes_of, is_type, allows, of_type}
use Rattle.policy.specs.Properties.{In, Allows, ScriptType}
use Rattle.policy.specs.Claims.{ScriptTypes}
use Rattle.policy.specs.declared.Command.{Command}
use Rattle.policy.proofs.Tests.{by_test, never}
use Rattle.policy.proofs.Lists.{mem_in, in_mem, all_in}

-- A list that is not empty has an element.
some_in : (l : List ℕ) → leb 1 (length l) ≡ true → (x : ℕ) × In x l
some_in [] e = never e refl
some_in (x ∷ l) e = (x, Memᴰ.head refl)

in_some : (x : ℕ) (l : List ℕ) → In x l → leb 1 (length l) ≡ true
in_some x [] h = absurd (Memᴰ.not-nil h)
in_some x (y ∷ l) h = le-leb 1 (length (y ∷ l)) (omega arith)

-- The tests and the properties.
pub is_type_lem : (type : ℕ) → is_type type ≡ true → ScriptType type
unfolding is_type
is_type_lem type e = some_in (codes_of type) e

pub type_is : (type : ℕ) → ScriptType type → is_type type ≡ true
unfolding is_type
type_is type (code, t) = in_some code (codes_of type) t

pub of_type_allows : (type : ℕ) (script : List Command) → of_type type script ≡ true → (c : Command) → Memᴰ c script → Allows type c
unfolding of_type allows
of_type_allows type script e c t = mem_in (coded c).code (codes_of type) (all_in (allows type) script e c t)

-- A type that allows a code has a row.
has_row : (type code : ℕ) → mem code (codes_of type) ≡ true
    → ((type ≡ 1) × (mem code (codes_of 1) ≡ true)) ⊎ ((type ≡ 2) × (mem code (codes_of 2) ≡ true))
unfolding codes_of mem
has_row type code e =
    by_test (eqb type 1)
    (λ t. inl (eqb-true type 1 t, rw t at e))
    (λ f. by_test (eqb type 2) (λ t. inr (eqb-true type 2 t, rw (f, t) at e)) (λ g. never (rw (f, g) at e) refl))

in_first : (code type : ℕ) → mem code (codes_of 2) ≡ false → In code (codes_of type) → type ≡ 1
in_first code type other t =
    ⊎_elim (λ row. row.0) (λ row. never row.1 other) (has_row type code (in_mem code (codes_of type) t))

in_second : (code type : ℕ) → mem code (codes_of 1) ≡ false → In code (codes_of type) → type ≡ 2
in_second code type other t =
    ⊎_elim (λ row. never row.1 other) (λ row. row.0) (has_row type code (in_mem code (codes_of type) t))

row_in : (code row type : ℕ) → mem code (codes_of row) ≡ true → type ≡ row → In code (codes_of type)
row_in code row type e same = mem_in code (codes_of type) (rw same e)

pub script_types : ScriptTypes
unfolding coded codes_of mem
script_types type =
    record {
      types = (
        λ some. ⊎_elim (λ row. inl row.0) (λ row. inr row.0) (has_row type some.0 (in_mem some.0 (codes_of type) some.1)),
        λ either. ⊎_elim (λ e. (1, row_in 1 1 type refl e)) (λ e. (3, row_in 3 2 type refl e)) either,
      );
      app = λ r. (in_first 1 type refl, row_in 1 1 type refl);
      del_rule = λ r. (in_first 2 type refl, row_in 2 1 type refl);
      ins = λ i r. (in_second 3 type refl, row_in 3 2 type refl);
      del_place = λ i. (in_second 4 type refl, row_in 4 2 type refl);
      mov = λ i j. (in_second 5 type refl, row_in 5 2 type refl);
    }
