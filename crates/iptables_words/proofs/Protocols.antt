-- Protocols: one of three names, or a number. Assumes nothing.
use Prim.Native.Nat.{ℕ}
use mathlib.Core.Path.{◌≡◌, refl}
use mathlib.Core.Bool.{true, false}
use mathlib.Core.List.{List}
use Rattle.policy.specs.Lists.{same}
use Rattle.lines.specs.Text.{text}
use Rattle.std.specs.Prelude.{Some, None}
use Rattle.iptables.specs.Words.{single, number_in, numbered_protocol, protocol_of}
use Rattle.iptables_words.specs.Told.{number_told, bounds_of, range_told}
use Rattle.iptables_words.proofs.Numbers.{told_is, told_not}

module _ (word : List ℕ) where
  pub is_tcp : same word (text "tcp") ≡ true → Some (bounds_of (single 6)) ≡ range_told (protocol_of word)
  unfolding protocol_of range_told
  is_tcp t = rw t refl

  module _ (not-tcp : same word (text "tcp") ≡ false) where
    pub is_udp : same word (text "udp") ≡ true → Some (bounds_of (single 17)) ≡ range_told (protocol_of word)
    unfolding protocol_of range_told
    is_udp t = rw (not-tcp, t) refl

    module _ (not-udp : same word (text "udp") ≡ false) where
      pub is_icmp : same word (text "icmp") ≡ true → Some (bounds_of (single 1)) ≡ range_told (protocol_of word)
      unfolding protocol_of range_told
      is_icmp t = rw (not-tcp, not-udp, t) refl

      module _ (not-icmp : same word (text "icmp") ≡ false) where
        pub numbered : (n : ℕ) → Some n ≡ number_told (number_in 1 255 word) → Some (bounds_of (single n)) ≡ range_told (protocol_of word)
        unfolding protocol_of numbered_protocol range_told
        numbered n told = rw (not-tcp, not-udp, not-icmp, told_is (number_in 1 255 word) n told) refl

        pub no_protocol : None ≡ number_told (number_in 1 255 word) → None ≡ range_told (protocol_of word)
        unfolding protocol_of numbered_protocol range_told
        no_protocol told = let (why, e) = told_not (number_in 1 255 word) told in rw (not-tcp, not-udp, not-icmp, e) refl
