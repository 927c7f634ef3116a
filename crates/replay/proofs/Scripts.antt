-- The commands of a script that is read, one by one: the k-th is what the bytes decode to. And the loop over them: the replay of the whole script
-- is, all the time, that of the commands that are left, from the list so far. Assumes nothing.
use Prim.Native.Nat.{ℕ, zero, suc, ◌+◌, ◌≤◌, ◌<◌}
use native.Mathlib.Numerals.{add-one}
use native.Mathlib.Omega.{arith}
use mathlib.Core.Path.{◌≡◌, sym, ◌∙◌, ap}
use mathlib.Core.List.{List, [], ◌∷◌}
use mathlib.Core.Option.{some}
use lib.ListN.{length, drop, get_or, drop_of_length-le}
use Rattle.policy.specs.Command.{passed, failed, step}
use Rattle.policy.specs.Replay.{Replayed, ended, broken, replay_from}
use Rattle.policy.specs.declared.Command.{Command}
use Rattle.policy.specs.declared.Fault.{Fault}
use Rattle.deployment.specs.Values.{command_from, coded_of, every_command, command_chunks, script_of}
use Rattle.deployment.specs.Commands.{command_count, command_at, decoded}
use Rattle.std.specs.Prelude.{Some, None}
use Rattle.deployment.proofs.Values.{by_option, none_some}
use Rattle.deployment.proofs.Scripts.{script_of_lem}
use Rattle.values.proofs.Scripts.{decoded_is, decoded_wrong, chunk_count, chunk_command}
use Rattle.replay.specs.Answers.{commands_of, Readable}

-- Pieces that are all read: as many commands as pieces, the k-th from the k-th.
first_read : (type : ℕ) (piece : List ℕ) (pieces : List (List ℕ)) (commands : List Command) → every_command type (piece ∷ pieces) ≡ some commands
    → (c : Command) × (others : List Command)
    × (command_from type (coded_of piece) ≡ some c) × (every_command type pieces ≡ some others) × (commands ≡ c ∷ others)
unfolding every_command
first_read type piece pieces commands e =
    by_option (command_from type (coded_of piece))
    (λ absent. none_some (rw (absent, every_command) at e))
    (λ c is. by_option (every_command type pieces)
    (λ absent. none_some (rw absent at (rw (is, every_command) at e)))
    (λ others rest.
    let whole : some (c ∷ others) ≡ some commands = rw rest at (rw (is, every_command) at e) in
    (c, others, is, rest, cc)))

every_count : (type : ℕ) (pieces : List (List ℕ)) (commands : List Command) → every_command type pieces ≡ some commands
    → length commands ≡ length pieces
unfolding every_command
every_count type [] commands e = let empty : commands ≡ [] = cc in rw empty
every_count type (piece ∷ pieces) commands e =
    let (c, others, is, rest, same) = first_read type piece pieces commands e in rw same (ap suc (every_count type pieces others rest))

every_at : (type : ℕ) (pieces : List (List ℕ)) (commands : List Command) (k : ℕ) → every_command type pieces ≡ some commands → k < length pieces
    → (c : Command) × (command_from type (coded_of (get_or pieces k [])) ≡ some c) × (drop k commands ≡ c ∷ drop (suc k) commands)
every_at type [] commands k e h = absurd (omega arith)
every_at type (piece ∷ pieces) commands zero e h =
    let (c, others, is, rest, same) = first_read type piece pieces commands e in
    (c, is, same ∙ ap (λ (l : List Command). c ∷ drop 1 l) (sym same))
every_at type (piece ∷ pieces) commands (suc k) e h =
    let (c, others, is, rest, same) = first_read type piece pieces commands e in
    rw same (every_at type pieces others k rest (omega arith))

-- The loop: a script value that is read, and the list after its first k commands.
module _ (value : List ℕ) (readable : Readable value) where
  pub script_count : length (commands_of (script_of value)) ≡ command_count value
  unfolding commands_of
  script_count =
      let (script, read) = readable in
      let (known, typed, every) = script_of_lem value script read in
      rw read (every_count script.type (command_chunks value) script.commands every ∙ chunk_count value 0)

  -- the k-th command, and the rest of the script
  pub command_next : (k : ℕ) → k < command_count value
      → (c : Command) × (command_at value k ≡ some c) × (drop k (commands_of (script_of value)) ≡ c ∷ drop (suc k) (commands_of (script_of value)))
  unfolding commands_of
  command_next k h =
      let (script, read) = readable in
      let (known, typed, every) = script_of_lem value script read in
      let (c, is, rest) = every_at script.type (command_chunks value) script.commands k every (rw (chunk_count value k) h) in
      (c, chunk_command value k h ∙ rw (← typed) is, rw read rest)

  -- a command that can't be read isn't met
  pub never_wrong : (k : ℕ) → k < command_count value → None ≡ decoded (command_at value k) → ⊥
  never_wrong k h e = let (c, is, rest) = command_next k h in none_some (sym (decoded_wrong (command_at value k) e) ∙ is)

  module _ (size : ℕ) {whole : Replayed} (k : ℕ) (l : List ℕ) (left : whole ≡ replay_from size k l (drop k (commands_of (script_of value)))) where
    -- one more command, that passes or fails
    module _ (c : Command) (h : k < command_count value) (is : Some c ≡ decoded (command_at value k)) where
      rest_from : whole ≡ replay_from size k l (c ∷ drop (suc k) (commands_of (script_of value)))
      rest_from =
          let (d, at, rest) = command_next k h in
          let same : d ≡ c = cc (at, decoded_is (command_at value k) c is) in
          left ∙ ap (replay_from size k l) (rest ∙ ap (λ (x : Command). x ∷ drop (suc k) (commands_of (script_of value))) same)

      pub run_on : (m : List ℕ) → step size l c ≡ passed m → whole ≡ replay_from size (k + 1) m (drop (k + 1) (commands_of (script_of value)))
      unfolding replay_from
      run_on m e = rw add-one (rw (e, replay_from) at rest_from)

      pub run_breaks : (fault : Fault) → step size l c ≡ failed fault → whole ≡ broken fault (k + 1)
      unfolding replay_from
      run_breaks fault e = rw add-one (rw (e, replay_from) at rest_from)

    -- no command is left
    pub run_ends : command_count value ≤ k → whole ≡ ended l
    unfolding replay_from
    run_ends h =
        let none_left = drop_of_length-le (commands_of (script_of value)) {i = k} (omega (arith, script_count)) in
        left ∙ rw none_left
