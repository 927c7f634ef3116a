-- Addresses: their numbers one after another, how many share their first bits, their masks, and the ranges that these make. Assumes nothing.
use Prim.Native.Nat.{ℕ, suc, ◌+◌, ◌*◌, ◌-◌, ◌/◌, ◌^◌, ◌≤◌, ◌<◌}
use native.Mathlib.Nat.{pow-suc, pow-le-pow_right, one-le-pow}
use native.Mathlib.Omega.{arith}
use mathlib.Core.Path.{◌≡◌, refl, ◌∙◌, ap}
use mathlib.Core.Logic.{◌≢◌}
use mathlib.Core.List.{List, [], ◌∷◌}
use lib.ListN.{length, take, drop}
use Rattle.deployment.specs.Checked.{good}
use Rattle.std.specs.Prelude.{Some, None}
use Rattle.iptables.specs.Words.{dot, slash, cut_at, pieces_behind, number_in, address_from, dotted, masked, mask_of, address_of, meant, full}
use Rattle.iptables.specs.declared.Kind.TheVariants.{Address}
use Rattle.iptables.proofs.Wording.{number_reads, high_fits}
use Rattle.iptables_words.specs.Told.{number_told, range_told}
use Rattle.iptables_words.proofs.Pieces.{
  none_behind,
  pieces_from,
  past_end,
  from_start,
  next_piece,
  first_piece,
  one_behind,
  several_behind,
}
use Rattle.iptables_words.proofs.Numbers.{told_is, told_not}

-- So many numbers of an address are read, and the others are still to come, from a start on.
pub record Reading (word : List ℕ) (address read start : ℕ) : Type 0 where
  pub few : read ≤ 4
  pub fits : address < 256 ^ read
  pub same : dotted word ≡ address_from (4 - read) address (pieces_from dot word start)

pub none_read : (word : List ℕ) → Reading word 0 0 0
unfolding dotted
none_read word = record { few = omega arith; fits = omega arith; same = rw (from_start dot word 0 (omega arith)) refl }

-- the address so far has four bytes at most
pub reading_fits : {word : List ℕ} {address read start : ℕ} → Reading word address read start → address < 256 ^ 4
reading_fits {read = read} r =
    let most : 256 ^ read ≤ 256 ^ 4 = pow-le-pow_right (omega arith) {i = read} {j = 4} r.few in
    omega (arith, r.fits, most)

module _ (word : List ℕ) (address read start : ℕ) (r : Reading word address read start) where
  -- all numbers are read: no piece may be left
  module _ (all : 4 ≤ read) where
    last : dotted word ≡ address_from 0 address (pieces_from dot word start)
    last = let none : 4 - read ≡ 0 = omega arith in r.same ∙ rw none refl

    pub all_read : length word < start → Some address ≡ number_told (dotted word)
    unfolding number_told address_from
    all_read past = rw (last, past_end dot word start past) refl

    pub one_left : start ≤ length word → None ≡ number_told (dotted word)
    unfolding number_told address_from
    one_left inside = rw (last, next_piece dot word start (start + cut_at dot (drop start word)) inside refl) refl

  -- one is still to come
  module _ (some : read < 4) where
    next : dotted word ≡ address_from (suc (4 - (read + 1))) address (pieces_from dot word start)
    next = let more : 4 - read ≡ suc (4 - (read + 1)) = omega arith in r.same ∙ ap (λ (k : ℕ). address_from k address (pieces_from dot word start)) more

    pub none_to_come : length word < start → None ≡ number_told (dotted word)
    unfolding number_told address_from
    none_to_come past = rw (next, past_end dot word start past) refl

    module _ (end : ℕ) (inside : start ≤ length word) (cut : end ≡ start + cut_at dot (drop start word)) where
      to_come : dotted word ≡ address_from (suc (4 - (read + 1))) address (take (end - start) (drop start word) ∷ pieces_from dot word (end + 1))
      to_come = next ∙ ap (address_from (suc (4 - (read + 1))) address) (next_piece dot word start end inside cut)

      pub no_byte : None ≡ number_told (number_in 0 255 (take (end - start) (drop start word))) → None ≡ number_told (dotted word)
      unfolding number_told address_from
      no_byte told = let (why, e) = told_not (number_in 0 255 (take (end - start) (drop start word))) told in rw (to_come, e) refl

      pub one_more : (n : ℕ) → Some n ≡ number_told (number_in 0 255 (take (end - start) (drop start word)))
          → Reading word (address * 256 + n) (read + 1) (end + 1)
      unfolding address_from
      one_more n told =
          let piece = take (end - start) (drop start word) in
          let is = told_is (number_in 0 255 piece) n told in
          let small : n ≤ 255 = (rw is at (number_reads 0 255 piece)).2 in
          let power : read + 1 ≡ suc read = omega arith in
          record {
            few = omega arith;
            fits = rw (power, pow-suc 256 read) (omega (arith, r.fits, small));
            same = to_come ∙ rw is refl;
          }

pub some_address : (n size : ℕ) → size ≡ 2 ^ (32 - n) → 1 ≤ size
some_address n size is = rw is (one-le-pow (32 - n) 2 (omega arith))

-- Masks: none, one, or several.
module _ (word : List ℕ) (end : ℕ) where
  pub no_mask : end ≡ length word → Some 32 ≡ number_told (mask_of (pieces_behind slash (drop end word)))
  unfolding number_told mask_of
  no_mask ends = rw (none_behind slash word end (omega arith)) refl

  module _ (inside : end < length word) (rest : List ℕ) (part : rest ≡ drop (end + 1) word) (to : ℕ) (cut : to ≡ 0 + cut_at slash (drop 0 rest)) where
    pub many_masks : to ≢ length rest → None ≡ number_told (mask_of (pieces_behind slash (drop end word)))
    unfolding number_told mask_of
    many_masks on = rw (several_behind slash word end inside rest part to cut on).is refl

    pub one_mask : to ≡ length rest → mask_of (pieces_behind slash (drop end word)) ≡ number_in 0 32 rest
    unfolding mask_of
    one_mask ends = rw (one_behind slash word end inside rest part to cut ends) refl

mask_small : (masks : List (List ℕ)) (n : ℕ) → mask_of masks ≡ good n → n ≤ 32
unfolding mask_of
mask_small [] n e = let all : 32 ≡ n = cc in omega arith
mask_small (mask ∷ []) n e = (rw e at (number_reads 0 32 mask)).2
mask_small (mask ∷ other ∷ masks) n e = absurd (let z : ◌≡◌ {A = ℕ} 0 1 = cc in omega arith)

-- An address and its mask make the range.
module _ (word : List ℕ) (end : ℕ) (cut : end ≡ 0 + cut_at slash (drop 0 word)) where
  pub no_address : None ≡ number_told (dotted (take end word)) → None ≡ range_told (address_of word)
  unfolding address_of range_told
  no_address told =
      let (why, e) = told_not (dotted (take end word)) told in
      rw (first_piece slash word end cut, address_of) (rw e refl)

  module _ (a : ℕ) (told : Some a ≡ number_told (dotted (take end word))) where
    pub wrong_mask : None ≡ number_told (mask_of (pieces_behind slash (drop end word))) → None ≡ range_told (address_of word)
    unfolding address_of range_told
    wrong_mask not =
        let (why, e) = told_not (mask_of (pieces_behind slash (drop end word))) not in
        rw (first_piece slash word end cut, address_of) (rw (told_is (dotted (take end word)) a told, e) refl)

    module _ (n : ℕ) (mask : Some n ≡ number_told (mask_of (pieces_behind slash (drop end word)))) where
      mask_is : mask_of (pieces_behind slash (drop end word)) ≡ good n
      mask_is = told_is (mask_of (pieces_behind slash (drop end word))) n mask

      pub mask_fits : n ≤ 32
      mask_fits = mask_small (pieces_behind slash (drop end word)) n mask_is

      address_is : address_of word ≡ good (masked a n)
      unfolding address_of
      address_is = rw (first_piece slash word end cut, address_of) (rw (told_is (dotted (take end word)) a told, mask_is) refl)

      module _ (size : ℕ) (is : size ≡ 2 ^ (32 - n)) where
        pub address_range : Some (record { low = a / size * size; high = a / size * size + (size - 1) }) ≡ range_told (address_of word)
        unfolding range_told masked
        address_range = rw (address_is, is) refl

        pub range_fits : a / size * size + (size - 1) ≤ 256 ^ 4 - 1
        unfolding meant masked full
        range_fits = rw is (high_fits Address word (masked a n) address_is)
