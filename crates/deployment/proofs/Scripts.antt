-- Commands and scripts, read and written: what is written reads back as the same script, and what is read from bytes of the right length
-- writes those bytes. The idea: a command is five bytes, and its code tells which; that its type allows the code is a test beside it.
-- Assumes nothing.
use Prim.Native.Nat.{ℕ, ◌+◌, ◌*◌, ◌-◌, ◌/◌, ◌<◌}
use native.Mathlib.Omega.{arith}
use mathlib.Core.Path.{◌≡◌, refl, sym, ◌∙◌, ap}
use mathlib.Core.Bool.{true, ◌&&◌}
use mathlib.Core.Logic.{inl, inr, ⊎_elim}
use mathlib.Core.Option.{none, some}
use mathlib.Core.List.Memᴰ
use mathlib.Core.List.{
  List,
  [],
  ◌∷◌,
  ◌++◌,
  map,
  append-nil,
  Memᴰ,
}
use borrow.Author.Tests.{eqb-true}
use lib.Dec.{eqb}
use lib.ListN.{length, drop, length-map, length-drop, drop_of_length-le}
use Rattle.policy.specs.Lists.{mem}
use Rattle.policy.specs.Command.{Coded, coded, codes_of, is_type}
use Rattle.policy.specs.Properties.{Allows, ScriptType}
use Rattle.policy.specs.declared.Command.{Command}
use Rattle.policy.specs.declared.Command.TheVariants.{App, DelRule, Ins, DelPlace, Mov}
use Rattle.policy.proofs.Tests.{by_test, never, and_both}
use Rattle.policy.proofs.Lists.{mem_in, in_mem}
use Rattle.policy.proofs.Types.{is_type_lem, type_is, script_types}
use Rattle.deployment.specs.Bytes.{number, bytes_of, part, chunks}
use Rattle.deployment.specs.Values.{
  Script,
  command_of,
  command_from,
  coded_of,
  coded_bytes,
  every_command,
  command_chunks,
  script_of,
  script_bytes,
}
use Rattle.deployment.specs.Properties.{AreBytes, Scripted, RightScript, NoCommand, WrongCoding}
use Rattle.deployment.proofs.Bytes.{
  are_bytes_append,
  are_bytes_drop,
  bytes_are_bytes,
  number_bytes,
  part_rest,
  part_written,
  part_fits,
  chunks_joined,
  joined_chunks,
  chunk_length,
  length_joined,
  length_chunks,
  are_bytes_chunk,
  are_bytes_joined,
}
use Rattle.deployment.proofs.Values.{by_option, none_some}

-- Commands. What the definition builds where its tests pass has that code and those numbers.
command_coded : (c : Command) → command_of (coded c) ≡ some c
unfolding command_of coded
command_coded (App r) = refl
command_coded (DelRule r) = refl
command_coded (Ins i r) = refl
command_coded (DelPlace i) = refl
command_coded (Mov i j) = refl

-- the command without a second number, and with one
is_short : (n : Coded) (c : Command) (k : ℕ) → coded c ≡ record { code = k; one = n.one; two = 0 }
    → (eqb n.code k && eqb n.two 0) ≡ true → coded c ≡ n
is_short n c k e h =
    let both = and_both (eqb n.code k) (eqb n.two 0) h in
    let code : k ≡ n.code = sym (eqb-true n.code k both.0) in
    let two : 0 ≡ n.two = sym (eqb-true n.two 0 both.1) in
    e ∙ (λ i. record { code = code i; one = n.one; two = two i })

is_long : (n : Coded) (c : Command) (k : ℕ) → coded c ≡ record { code = k; one = n.one; two = n.two }
    → eqb n.code k ≡ true → coded c ≡ n
is_long n c k e h =
    let code : k ≡ n.code = sym (eqb-true n.code k h) in
    e ∙ (λ i. record { code = code i; one = n.one; two = n.two })

same_is : (n : Coded) (c d : Command) → some d ≡ some c → coded d ≡ n → coded c ≡ n
same_is n c d e h = let same : d ≡ c = cc in rw same at h

coded_command : (n : Coded) (c : Command) → command_of n ≡ some c → coded c ≡ n
unfolding command_of coded
coded_command n c e =
    by_test (eqb n.code 1 && eqb n.two 0)
    (λ t. same_is n c (App n.one) (rw t at e) (is_short n (App n.one) 1 refl t))
    (λ f₁. by_test (eqb n.code 2 && eqb n.two 0)
    (λ t. same_is n c (DelRule n.one) (rw (f₁, t) at e) (is_short n (DelRule n.one) 2 refl t))
    (λ f₂. by_test (eqb n.code 3)
    (λ t. same_is n c (Ins n.one n.two) (rw (f₁, f₂, t) at e) (is_long n (Ins n.one n.two) 3 refl t))
    (λ f₃. by_test (eqb n.code 4 && eqb n.two 0)
    (λ t. same_is n c (DelPlace n.one) (rw (f₁, f₂, f₃, t) at e) (is_short n (DelPlace n.one) 4 refl t))
    (λ f₄. by_test (eqb n.code 5)
    (λ t. same_is n c (Mov n.one n.two) (rw (f₁, f₂, f₃, f₄, t) at e) (is_long n (Mov n.one n.two) 5 refl t))
    (λ f₅. let clash : none ≡ some c = rw (f₁, f₂, f₃, f₄, f₅) at e in none_some clash)))))

-- and of the script's type
pub command_read_lem : (type : ℕ) (c : Command) → Allows type c → command_from type (coded c) ≡ some c
unfolding command_from
command_read_lem type c allowed = rw (in_mem (coded c).code (codes_of type) allowed) (command_coded c)

pub command_written : (type : ℕ) (n : Coded) (c : Command) → command_from type n ≡ some c → (coded c ≡ n) × Allows type c
unfolding command_from
command_written type n c e =
    by_test (mem n.code (codes_of type))
    (λ t. let is = coded_command n c (rw t at e) in (is, rw is (mem_in n.code (codes_of type) t)))
    (λ f. none_some (rw f at e))

-- five bytes a command
code_small : (c : Command) → (coded c).code < 256
unfolding coded
code_small (App r) = omega arith
code_small (DelRule r) = omega arith
code_small (Ins i r) = omega arith
code_small (DelPlace i) = omega arith
code_small (Mov i j) = omega arith

coded_read : (n : Coded) → n.code < 256 → n.one < 65536 → n.two < 65536 → coded_of (coded_bytes n) ≡ n
unfolding coded_of coded_bytes part bytes_of
coded_read n hc h1 h2 =
    let code : number (part 0 1 (coded_bytes n)) ≡ n.code = number_bytes 1 n.code hc in
    let one : number (part 1 2 (coded_bytes n)) ≡ n.one = number_bytes 2 n.one h1 in
    let two : number (part 3 2 (coded_bytes n)) ≡ n.two = number_bytes 2 n.two h2 in
    λ i. record { code = code i; one = one i; two = two i }

length_coded : (n : Coded) → length (coded_bytes n) ≡ 5
unfolding coded_bytes bytes_of
length_coded n = refl

coded_are_bytes : (n : Coded) → AreBytes (coded_bytes n)
unfolding coded_bytes
coded_are_bytes n =
    are_bytes_append _ _ (bytes_are_bytes 1 n.code)
    (are_bytes_append _ _ (bytes_are_bytes 2 n.one) (bytes_are_bytes 2 n.two))

coded_written : (bytes : List ℕ) → AreBytes bytes → length bytes ≡ 5 → coded_bytes (coded_of bytes) ≡ bytes
unfolding coded_of coded_bytes
coded_written bytes h long =
    let last : part 3 2 bytes ≡ drop 3 bytes =
    sym (append-nil (part 3 2 bytes))
    ∙ ap (λ (l : List ℕ). part 3 2 bytes ++ l) (sym (drop_of_length-le bytes {i = 5} (omega arith)))
    ∙ part_rest 3 2 bytes in
    rw (
      part_written 0 1 bytes h (omega arith),
      part_written 1 2 bytes h (omega arith),
      part_written 3 2 bytes h (omega arith),
      last,
      part_rest 1 2 bytes,
      part_rest 0 1 bytes,
    )

-- All commands of a script. A command's numbers have two bytes.
abbrev command_bytes : Command → List ℕ
command_bytes c = coded_bytes (coded c)

record Holdable (type : ℕ) (c : Command) : Type 0 where
  typed : Allows type c
  one : (coded c).one < 65536
  two : (coded c).two < 65536

every_read : (type : ℕ) (commands : List Command) → ((c : Command) → Memᴰ c commands → Holdable type c)
    → every_command type (map command_bytes commands) ≡ some commands
unfolding every_command
every_read type [] h = refl
every_read type (c ∷ commands) h =
    let holds = h c (Memᴰ.head refl) in
    let first : command_from type (coded_of (coded_bytes (coded c))) ≡ some c =
    rw (coded_read (coded c) (code_small c) holds.one holds.two) (command_read_lem type c holds.typed) in
    let others = every_read type commands (λ d t. h d (Memᴰ.tail t)) in
    rw (first, every_command) (rw others)

piece_written : (type : ℕ) (piece : List ℕ) (c : Command) → AreBytes piece → length piece ≡ 5
    → command_from type (coded_of piece) ≡ some c → (coded_bytes (coded c) ≡ piece) × Holdable type c
unfolding coded_of
piece_written type piece c h long e =
    let is = command_written type (coded_of piece) c e in
    let one : (coded_of piece).one < 65536 = part_fits 1 2 piece h (omega arith) in
    let two : (coded_of piece).two < 65536 = part_fits 3 2 piece h (omega arith) in (
      ap coded_bytes is.0 ∙ coded_written piece h long,
      record { typed = is.1; one = rw is.0 one; two = rw is.0 two },
    )

every_written : (type : ℕ) (pieces : List (List ℕ)) (commands : List Command) → every_command type pieces ≡ some commands
    → ((piece : List ℕ) → Memᴰ piece pieces → AreBytes piece × (length piece ≡ 5))
    → (map command_bytes commands ≡ pieces) × ((c : Command) → Memᴰ c commands → Holdable type c)
unfolding every_command
every_written type [] commands e h =
    let empty : commands ≡ [] = cc in
    rw empty (refl, λ c t. absurd (Memᴰ.not-nil t))
every_written type (piece ∷ pieces) commands e h =
    by_option (command_from type (coded_of piece))
    (λ absent. none_some (rw (absent, every_command) at e))
    (λ c is. by_option (every_command type pieces)
    (λ absent. none_some (rw absent at (rw (is, every_command) at e)))
    (λ others rest.
    let whole : some (c ∷ others) ≡ some commands = rw rest at (rw (is, every_command) at e) in
    let same : commands ≡ c ∷ others = cc in
    let bytes = h piece (Memᴰ.head refl) in
    let first = piece_written type piece c bytes.0 bytes.1 is in
    let below = every_written type pieces others rest (λ other t. h other (Memᴰ.tail t)) in
    rw same (
      (λ i. first.0 i ∷ below.0 i),
      λ d t. ⊎_elim (λ e. rw e first.1) (λ k. below.1 d k) (Memᴰ.cases_cons t),
    )))

-- one piece that is no command
every_none : (type : ℕ) (pieces : List (List ℕ)) → every_command type pieces ≡ none
    → (piece : List ℕ) × Memᴰ piece pieces × (command_from type (coded_of piece) ≡ none)
unfolding every_command
every_none type [] e = none_some (sym e)
every_none type (piece ∷ pieces) e =
    by_option (command_from type (coded_of piece))
    (λ absent. (piece, Memᴰ.head refl, absent))
    (λ c is. by_option (every_command type pieces)
    (λ absent. let below = every_none type pieces absent in (below.0, Memᴰ.tail below.1, below.2))
    (λ others rest. none_some (sym (rw rest at (rw (is, every_command) at e)))))

none_every : (type : ℕ) (pieces : List (List ℕ)) (piece : List ℕ) → Memᴰ piece pieces
    → command_from type (coded_of piece) ≡ none → every_command type pieces ≡ none
unfolding every_command
none_every type [] piece t e = absurd (Memᴰ.not-nil t)
none_every type (first ∷ pieces) piece t e =
    ⊎_elim
    (λ same. let absent : command_from type (coded_of first) ≡ none = rw same at e in rw (absent, every_command) refl)
    (λ k. by_option (command_from type (coded_of first))
    (λ absent. rw (absent, every_command) refl)
    (λ c is. rw (is, every_command) (rw (none_every type pieces piece k e))))
    (Memᴰ.cases_cons t)

-- Scripts: a type byte, then the commands.
five_bytes : (commands : List Command) (piece : List ℕ) → Memᴰ piece (map command_bytes commands) → length piece ≡ 5
five_bytes commands piece t =
    let at = Memᴰ.of_map command_bytes commands t in
    rw (← at.2) (length_coded (coded at.0))

pub length_script : (s : Script) → length (script_bytes s) ≡ 1 + 5 * length s.commands
unfolding script_bytes bytes_of
length_script s =
    omega (
      arith,
      length_joined 5 (map command_bytes s.commands) (five_bytes s.commands),
      length-map s.commands command_bytes,
    )

pub script_are_bytes : (s : Script) → AreBytes (script_bytes s)
unfolding script_bytes
script_are_bytes s =
    are_bytes_append _ _ (bytes_are_bytes 1 s.type)
    (are_bytes_joined (map command_bytes s.commands)
    (λ piece t.
    let at = Memᴰ.of_map command_bytes s.commands t in
    rw (← at.2) (coded_are_bytes (coded at.0))))

commands_at : (value : List ℕ) (count : ℕ) → length value ≡ 1 + 5 * count → command_chunks value ≡ chunks 5 count (drop 1 value)
unfolding command_chunks
commands_at value count long =
    let counted : (length value - 1) / 5 ≡ count = omega arith in
    rw counted

type_at : (s : Script) → s.type < 256 → number (part 0 1 (script_bytes s)) ≡ s.type
unfolding script_bytes bytes_of part
type_at s h = number_bytes 1 s.type h

chunks_at : (s : Script) → command_chunks (script_bytes s) ≡ map command_bytes s.commands
unfolding script_bytes bytes_of
chunks_at s =
    commands_at (script_bytes s) (length s.commands) (length_script s)
    ∙ (rw length-map at (chunks_joined 5 (map command_bytes s.commands) (five_bytes s.commands)))

pub type_small : (type : ℕ) → ScriptType type → type < 256
type_small type h = ⊎_elim (λ e. omega arith) (λ e. omega arith) ((script_types type).types.0 h)

pub script_read_lem : (s : Script) → Scripted s → script_of (script_bytes s) ≡ some s
unfolding script_of
script_read_lem s h =
    let type : number (part 0 1 (script_bytes s)) ≡ s.type = type_at s (type_small s.type h.type) in
    let commands : every_command s.type (command_chunks (script_bytes s)) ≡ some s.commands =
    rw (chunks_at s)
    (every_read s.type s.commands (λ c t. record { typed = h.typed c t; one = h.one c t; two = h.two c t })) in
    rw (type, type_is s.type h.type, commands, type)

-- what a script is read from
pub script_of_lem : (value : List ℕ) (s : Script) → script_of value ≡ some s
    → ScriptType s.type × (s.type ≡ number (part 0 1 value))
    × (every_command s.type (command_chunks value) ≡ some s.commands)
unfolding script_of
script_of_lem value s e =
    let type = number (part 0 1 value) in
    by_test (is_type type)
    (λ t. by_option (every_command type (command_chunks value))
    (λ absent. none_some (rw (t, absent) at e))
    (λ commands is.
    let whole : some (record { type = type; commands = commands }) ≡ some s = rw (t, is) at e in
    let same : record { type = type; commands = commands } ≡ s = cc in
    rw (← same) (is_type_lem type t, refl, is)))
    (λ f. none_some (rw f at e))

-- bytes of the right length that are read as a script are those of the script, and a file can hold it
module _ (value : List ℕ) (h : AreBytes value) (right : RightScript (length value)) (s : Script)
    (e : script_of value ≡ some s) where
  commands_long : length (drop 1 value) ≡ 5 * right.0
  commands_long = omega (arith, length-drop 1 value, right.1)

  pieces_written : (map command_bytes s.commands ≡ chunks 5 right.0 (drop 1 value))
      × ((c : Command) → Memᴰ c s.commands → Holdable s.type c)
  pieces_written =
      every_written s.type (chunks 5 right.0 (drop 1 value)) s.commands
      (rw (commands_at value right.0 right.1) at (script_of_lem value s e).2)
      (λ piece t. (
        are_bytes_chunk 5 right.0 (drop 1 value) (are_bytes_drop 1 value h) piece t,
        chunk_length 5 right.0 (drop 1 value) commands_long piece t,
      ))

  pub script_written : script_bytes s ≡ value
  unfolding script_bytes
  script_written =
      rw (
        pieces_written.0,
        joined_chunks 5 right.0 (drop 1 value) commands_long,
        (script_of_lem value s e).1,
        part_written 0 1 value h (omega (arith, right.1)),
        part_rest 0 1 value,
      )

  pub script_scripted : Scripted s
  script_scripted =
      let counted : length s.commands ≡ right.0 =
      sym (length-map s.commands command_bytes) ∙ ap length pieces_written.0
      ∙ length_chunks 5 right.0 (drop 1 value) in
      record {
        type = (script_of_lem value s e).0;
        few = rw counted right.2;
        typed = λ c t. (pieces_written.1 c t).typed;
        one = λ c t. (pieces_written.1 c t).one;
        two = λ c t. (pieces_written.1 c t).two;
      }

-- 11: what is no script
none_no_command : (type : ℕ) (piece : List ℕ) → command_from type (coded_of piece) ≡ none → NoCommand type piece
none_no_command type piece absent c allowed is =
    none_some (sym absent ∙ (rw is at (command_read_lem type c allowed)))

no_command_none : (type : ℕ) (piece : List ℕ) → NoCommand type piece → command_from type (coded_of piece) ≡ none
no_command_none type piece h =
    by_option (command_from type (coded_of piece)) (λ absent. absent)
    (λ c is. let at = command_written type (coded_of piece) c is in absurd (h c at.1 at.0))

pub none_wrong : (value : List ℕ) → script_of value ≡ none → WrongCoding value
unfolding script_of
none_wrong value e =
    let type = number (part 0 1 value) in
    by_test (is_type type)
    (λ t. by_option (every_command type (command_chunks value))
    (λ absent. let at = every_none type (command_chunks value) absent in inr (at.0, at.1, none_no_command type at.0 at.2))
    (λ commands is. none_some (sym (rw (t, is) at e))))
    (λ f. inl (λ some. never (type_is type some) f))

pub wrong_none : (value : List ℕ) → WrongCoding value → script_of value ≡ none
wrong_none value w =
    by_option (script_of value) (λ absent. absent)
    (λ s is.
    let at = script_of_lem value s is in
    ⊎_elim
    (λ no-type. absurd (no-type (rw at.1 at at.0)))
    (λ bad. none_some (sym (none_every (number (part 0 1 value)) (command_chunks value) bad.0 bad.1
    (no_command_none (number (part 0 1 value)) bad.0 bad.2)) ∙ (rw at.1 at at.2)))
    w)
