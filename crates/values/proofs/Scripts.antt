-- Scripts: the commands one by one, each at its five bytes. That every one can be read is that each can, from the k-th on as from the
-- first. Assumes nothing.
use Prim.Native.Nat.{ℕ, ◌+◌, ◌≤◌, ◌<◌}
use native.Mathlib.Nat.{mul_comm}
use native.Mathlib.Numerals.{add-one}
use native.Mathlib.Omega.{arith}
use mathlib.Core.Path.{◌≡◌, refl, sym, ◌∙◌, ap}
use mathlib.Core.Bool.{Bool, true, false}
use mathlib.Core.List.{List, [], ◌∷◌}
use mathlib.Core.Option.{Option, none, some}
use lib.ListN.{length, drop, get_or, drop_of_length-le}
use lib.Seq.{drop-cons, drop-drop}
use borrow.Author.Tests.{lt-ltb}
use Rattle.policy.specs.Command.{is_type}
use Rattle.policy.specs.declared.Command.{Command}
use Rattle.policy.proofs.Tests.{never}
use Rattle.deployment.specs.Bytes.{number, part}
use Rattle.deployment.specs.Values.{command_from, coded_of, every_command, command_chunks, script_of, script_fits}
use Rattle.deployment.specs.Commands.{command_count, command_at, decoded}
use Rattle.deployment.specs.Contents.{script_read}
use Rattle.deployment.specs.FieldValues.{script_value}
use Rattle.deployment.specs.declared.Why.TheVariants.{Coding}
use Rattle.std.specs.Prelude.{Ok, Err, Some, None, is_some}
use Rattle.deployment.proofs.Bytes.{length_chunks}
use Rattle.deployment.proofs.Values.{by_option}
use Rattle.deployment.proofs.Records.{chunk_at}
use Rattle.catalogue.specs.Answers.{checking}
use Rattle.values.specs.Answers.{there}

-- what a decoded command says
pub decoded_is : (o : Option Command) (c : Command) → Some c ≡ decoded o → o ≡ some c
unfolding decoded
decoded_is none c e = absurd (cc)
decoded_is (some d) c e = let same : d ≡ c = cc in ap some same

pub decoded_wrong : (o : Option Command) → None ≡ decoded o → o ≡ none
unfolding decoded
decoded_wrong none e = refl
decoded_wrong (some d) e = absurd (cc)

-- the first of the pieces
first_read : (type : ℕ) (piece : List ℕ) (pieces : List (List ℕ)) (c : Command) → command_from type (coded_of piece) ≡ some c
    → there (every_command type (piece ∷ pieces)) ≡ there (every_command type pieces)
unfolding every_command there
first_read type piece pieces c e =
    rw (e, every_command) (by_option (every_command type pieces) (λ none. rw none) (λ commands is. rw is))

first_wrong : (type : ℕ) (piece : List ℕ) (pieces : List (List ℕ)) → command_from type (coded_of piece) ≡ none
    → there (every_command type (piece ∷ pieces)) ≡ false
unfolding every_command there
first_wrong type piece pieces e = rw (e, every_command)

-- whether every command can be read, from the k-th on
abbrev pub read_from : ℕ → List ℕ → Bool
read_from k value = there (every_command (number (part 0 1 value)) (drop k (command_chunks value)))

module _ (value : List ℕ) (k : ℕ) where
  pub chunk_count : length (command_chunks value) ≡ command_count value
  unfolding command_chunks command_count
  chunk_count = length_chunks 5 (command_count value) (drop 1 value)

  module _ (inside : k < command_count value) where
    pub chunk_command : command_at value k ≡ command_from (number (part 0 1 value)) (coded_of (get_or (command_chunks value) k []))
    unfolding command_at command_chunks command_count part
    chunk_command =
        rw (lt-ltb k (command_count value) inside, chunk_at 5 (command_count value) (drop 1 value) k inside, drop-drop, mul_comm k 5)

    next : drop k (command_chunks value) ≡ get_or (command_chunks value) k [] ∷ drop (k + 1) (command_chunks value)
    next = rw add-one (drop-cons (command_chunks value) k [] (omega (arith, chunk_count)))

    pub read_further : is_some (decoded (command_at value k)) ≡ true → read_from k value ≡ read_from (k + 1) value
    unfolding decoded
    read_further t =
        by_option (command_at value k)
        (λ is. never {b = is_some (decoded (command_at value k))} t (rw is))
        (λ c is.
        rw next
        (first_read (number (part 0 1 value)) (get_or (command_chunks value) k []) (drop (k + 1) (command_chunks value)) c
        (sym chunk_command ∙ is)))

    pub read_wrong : is_some (decoded (command_at value k)) ≡ false → read_from k value ≡ false
    unfolding decoded
    read_wrong f =
        by_option (command_at value k)
        (λ is.
        rw next
        (first_wrong (number (part 0 1 value)) (get_or (command_chunks value) k []) (drop (k + 1) (command_chunks value))
        (sym chunk_command ∙ is)))
        (λ c is. never {b = is_some (decoded (command_at value k))} (rw is) f)

  pub read_all : command_count value ≤ k → read_from k value ≡ true
  unfolding every_command there
  read_all h = rw (drop_of_length-le (command_chunks value) {i = k} (omega (arith, chunk_count)))

-- 11: the type first, then the commands
module _ (value : List ℕ) (fits : script_fits (length value) ≡ true) where
  no_script : script_of value ≡ none → checking (script_value (some value)) ≡ Err Coding
  unfolding checking script_value script_read
  no_script e = rw (fits, e, script_read)

  pub wrong_type : is_type (number (part 0 1 value)) ≡ false
      → checking (script_value (some value)) ≡ Err Coding
  unfolding script_of
  wrong_type f = no_script (rw f)

  module _ (typed : is_type (number (part 0 1 value)) ≡ true) where
    pub wrong_command : read_from 0 value ≡ false → checking (script_value (some value)) ≡ Err Coding
    unfolding script_of there
    wrong_command f =
        by_option (every_command (number (part 0 1 value)) (command_chunks value))
        (λ e. no_script (rw (typed, e)))
        (λ commands e. never (ap there e) f)

    pub right_script : read_from 0 value ≡ true → checking (script_value (some value)) ≡ (Ok tt)
    unfolding checking script_value script_read script_of there
    right_script t =
        by_option (every_command (number (part 0 1 value)) (command_chunks value))
        (λ e. never t (ap there e))
        (λ commands e.
        let is : script_of value ≡ some (record { type = number (part 0 1 value); commands = commands }) = rw (typed, e) in
        rw (fits, is, script_read))
