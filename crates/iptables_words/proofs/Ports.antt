-- Ports: one number, or two with a colon between them. Assumes nothing.
use Prim.Native.Nat.{ℕ, ◌+◌, ◌<◌}
use native.Mathlib.Omega.{arith}
use mathlib.Core.Path.{◌≡◌, refl}
use mathlib.Core.Logic.{◌≢◌}
use mathlib.Core.List.{List, [], ◌∷◌}
use lib.ListN.{length, take, drop}
use Rattle.std.specs.Prelude.{Some, None}
use Rattle.iptables.specs.Words.{colon, cut_at, pieces_behind, number_in, single, ports_from, ports_of}
use Rattle.iptables_words.specs.Told.{number_told, bounds_of, range_told}
use Rattle.iptables_words.proofs.Pieces.{none_behind, first_piece, one_behind, several_behind}
use Rattle.iptables_words.proofs.Numbers.{told_is, told_not}

no_first : (port : List ℕ) (behind : List (List ℕ)) → None ≡ number_told (number_in 0 65535 port)
    → None ≡ range_told (ports_from (port ∷ behind))
unfolding ports_from range_told
no_first port [] told = let (why, e) = told_not (number_in 0 65535 port) told in rw e refl
no_first port (high ∷ []) told = let (why, e) = told_not (number_in 0 65535 port) told in rw e refl
no_first port (high ∷ other ∷ pieces) told = refl

module _ (word : List ℕ) (end : ℕ) (cut : end ≡ 0 + cut_at colon (drop 0 word)) where
  pub no_port : None ≡ number_told (number_in 0 65535 (take end word)) → None ≡ range_told (ports_of word)
  unfolding ports_of
  no_port told = rw (first_piece colon word end cut) (no_first (take end word) (pieces_behind colon (drop end word)) told)

  module _ (low : ℕ) (told : Some low ≡ number_told (number_in 0 65535 (take end word))) where
    pub one_port : end ≡ length word → Some (bounds_of (single low)) ≡ range_told (ports_of word)
    unfolding ports_of ports_from range_told
    one_port ends =
        rw (first_piece colon word end cut, none_behind colon word end (omega arith), told_is (number_in 0 65535 (take end word)) low told) refl

    -- another piece behind the colon
    module _ (inside : end < length word) (rest : List ℕ) (part : rest ≡ drop (end + 1) word) (to : ℕ)
        (next : to ≡ 0 + cut_at colon (drop 0 rest)) where
      pub many_ports : to ≢ length rest → None ≡ range_told (ports_of word)
      unfolding ports_of ports_from range_told
      many_ports on = rw (first_piece colon word end cut, (several_behind colon word end inside rest part to next on).is) refl

      module _ (ends : to ≡ length rest) where
        two : ports_of word ≡ ports_from (take end word ∷ rest ∷ [])
        unfolding ports_of
        two = rw (first_piece colon word end cut, one_behind colon word end inside rest part to next ends) refl

        pub no_second : None ≡ number_told (number_in 0 65535 rest) → None ≡ range_told (ports_of word)
        unfolding ports_from range_told
        no_second not =
            let (why, e) = told_not (number_in 0 65535 rest) not in
            rw (two, told_is (number_in 0 65535 (take end word)) low told, e) refl

        pub two_ports : (high : ℕ) → Some high ≡ number_told (number_in 0 65535 rest) → Some (record { low = low; high = high }) ≡ range_told (ports_of word)
        unfolding ports_from range_told
        two_ports high second =
            rw (two, told_is (number_in 0 65535 (take end word)) low told, told_is (number_in 0 65535 rest) high second) refl
