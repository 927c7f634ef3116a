-- Lines and other items, one by one: what is put and the text of the items that are left are the text of all items, all the time. Stated of any
-- text that goes item by item; the commands of a script are one case. Assumes nothing.
use Rattle.std.proofs.Common.{◌≡◌, ℕ, suc, ◌+◌, ◌<◌, ◌≤◌, List, [], ◌∷◌, ◌++◌, length, drop, sym, refl, ap, ◌∙◌, append_assoc, append-nil, add-one, arith, drop_of_length-le}
use Rattle.policy.specs.declared.Command.{Command}
use Rattle.deployment.specs.Values.{script_of}
use Rattle.deployment.specs.Commands.{command_count, command_at, decoded}
use Rattle.std.specs.Prelude.{Some}
use Rattle.values.proofs.Scripts.{decoded_is}
use Rattle.replay.specs.Answers.{commands_of, Readable}
use Rattle.replay.proofs.Scripts.{command_next}
use Rattle.lines.specs.Text.{spaced_all}
use Rattle.lines.specs.Printing.{Puts}
use Rattle.lines.proofs.Pieces.{puts_more}

-- the text of the first k items, numbered from `first` on, stands from `at` on, and with that of the others it is the whole
pub record Lines {A : Type 0} (all : ℕ → List A → List ℕ) (first : ℕ) (items : List A) (whole old : List ℕ) (at : ℕ) (place : List ℕ) (next k : ℕ) : Type 0 where
  pub written : List ℕ
  pub put : Puts old at written place next
  pub left : written ++ all (k + first) (drop k items) ≡ whole

module _ {A : Type 0} (all : ℕ → List A → List ℕ) (first : ℕ) (items : List A) where
  pub no_lines : (old : List ℕ) (at : ℕ) → Lines all first items (all first items) old at old at 0
  no_lines old at =
      let start : 0 + first ≡ first = omega arith in
      record { written = []; put = record { stored = λ fits. record { place = refl; end = omega arith } }; left = rw start }

  module _ {whole old : List ℕ} {at : ℕ} {place : List ℕ} {next : ℕ} (k : ℕ) (so_far : Lines all first items whole old at place next k) where
    pub one_line : (a : A) (line : List ℕ) → drop k items ≡ a ∷ drop (suc k) items
        → all (k + first) (a ∷ drop (suc k) items) ≡ line ++ all (suc (k + first)) (drop (suc k) items)
        → {more : List ℕ} {end : ℕ} → Puts place next line more end → Lines all first items whole old at more end (k + 1)
    one_line a line rest is put =
        let more : k + 1 + first ≡ suc (k + first) = omega arith in
        let here : drop (k + 1) items ≡ drop (suc k) items = rw add-one in
        record {
          written = so_far.written ++ line;
          put = puts_more so_far.put put;
          left =
              rw (append_assoc, more, here)
              (ap (λ (l : List ℕ). so_far.written ++ l) (sym (ap (all (k + first)) rest ∙ is)) ∙ so_far.left);
        }

    pub all_lines : length items ≤ k → all (k + first) [] ≡ [] → Puts old at whole place next
    all_lines h none =
        let none_left = drop_of_length-le items {i = k} h in
        let complete : so_far.written ≡ whole =
        sym (append-nil so_far.written) ∙ ap (λ (l : List ℕ). so_far.written ++ l) (sym (ap (all (k + first)) none_left ∙ none)) ∙ so_far.left in
        rw (← complete) so_far.put

-- the text of numbers one behind the other, wherever they stand
abbrev pub following : ℕ → List ℕ → List ℕ
following k numbers = spaced_all numbers

-- the k-th command of a script value that is read, and the rest
pub next_command : (value : List ℕ) → Readable value → (k : ℕ) (c : Command) → k < command_count value → Some c ≡ decoded (command_at value k)
    → drop k (commands_of (script_of value)) ≡ c ∷ drop (suc k) (commands_of (script_of value))
next_command value readable k c h is =
    let (d, at, rest) = command_next value readable k h in
    let same : d ≡ c = cc (at, decoded_is (command_at value k) c is) in
    rest ∙ ap (λ (x : Command). x ∷ drop (suc k) (commands_of (script_of value))) same
