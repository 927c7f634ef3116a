-- A list written number by number: two bytes a number, one behind the other, are its list value, and fill the first bytes of the place; so what is
-- left is what the definition says, with room and without. Assumes nothing.
use Prim.Native.Nat.{ℕ, ◌+◌, ◌*◌, ◌≤◌, ◌<◌}
use native.Mathlib.Numerals.{add-one}
use native.Mathlib.Omega.{arith}
use mathlib.Core.Path.{◌≡◌, refl, sym, ◌∙◌, ap}
use mathlib.Core.List.{List, [], ◌∷◌, ◌++◌, map}
use lib.ListN.{length, take, get_or}
use lib.Seq.{sets, take-suc}
use Rattle.policy.specs.Replay.{ended}
use Rattle.deployment.specs.Bytes.{bytes_of, joined}
use Rattle.deployment.specs.Values.{numbers_bytes}
use Rattle.deployment.specs.declared.Why.TheVariants.{Room}
use Rattle.deployment.proofs.Lent as lent
use Rattle.deployment.proofs.Values.{length_numbers}
use Rattle.deployment.proofs.Fields.{joined_snoc, map_snoc}
use Rattle.deployment.specs.FieldValues.{Stored, left_by}
use Rattle.deployment.proofs.Storing.{stored_more, stored_fills}
use Rattle.std.specs.Prelude.{Ok}
use Rattle.last_list.specs.Last.{turned, replay_left}

numbers_snoc : (l : List ℕ) (n : ℕ) → numbers_bytes (l ++ (n ∷ [])) ≡ numbers_bytes l ++ bytes_of 2 n
unfolding numbers_bytes
numbers_snoc l n = ap joined (map_snoc (bytes_of 2) l n) ∙ joined_snoc (map (bytes_of 2) l) (bytes_of 2 n)

list_bytes : (list : List ℕ) {count : ℕ} → count ≡ length list → length (numbers_bytes list) ≡ 2 * count
list_bytes list counted = length_numbers list ∙ ap (λ (n : ℕ). 2 * n) (sym counted)

-- Without room nothing is written, and 13 is told at the bytes needed.
pub no_room : (place list : List ℕ) {count : ℕ} → count ≡ length list → length place < 2 * count
    → left_by (turned (record { why = Room; at = 2 * count })) place ≡ replay_left place (ended list)
unfolding replay_left
no_room place list {count} counted small =
    let output = numbers_bytes list in
    lent.no_room turned (Ok (length output)) output place (2 * count) (list_bytes list counted) small

-- Nothing is written at first, then one number more, and in the end all of the list.
module _ (place : List ℕ) (rules : List ℕ) where
  abbrev pub Put : List ℕ → ℕ → Type 0
  Put now k = Stored place 0 (numbers_bytes (take k rules)) now (2 * k)

  pub none_put : Put place 0
  unfolding numbers_bytes joined
  none_put = record { place = refl; end = refl }

  pub one_more_put : {now next bytes : List ℕ} (k : ℕ) → k < length rules → bytes ≡ bytes_of 2 (get_or rules k 0) → Put now k
      → next ≡ sets now (2 * k) bytes → Put next (k + 1)
  unfolding bytes_of
  one_more_put k inside is so_far stored =
      let further : 2 * (k + 1) ≡ 2 * k + 2 = omega arith in
      rw (further, add-one k, take-suc rules k 0 inside, numbers_snoc (take k rules) (get_or rules k 0))
      (stored_more so_far (record { place = stored ∙ rw is; end = refl }))

  pub all_put : (list : List ℕ) {now : List ℕ} (k : ℕ) {count : ℕ} → count ≡ length list → take k rules ≡ list → 2 * count ≤ length place → Put now k
      → left_by (Ok (2 * count)) now ≡ replay_left place (ended list)
  unfolding replay_left
  all_put list k {count = count} counted is room put =
      let long = list_bytes list counted in
      let full = stored_fills (rw is at put) (omega (arith, long)) in
      rw long (rw long at (lent.with_room turned (Ok (2 * count)) (numbers_bytes list) place (2 * count) long room full))
