-- 02, L3: the words of a listing: pieces with one byte between each two, numbers, addresses, ports, protocols. What isn't so isn't read: 57.
-- Assumes nothing.
use Rattle.std.specs.Prelude.{ℕ, zero, suc, ◌+◌, ◌*◌, ◌-◌, ◌/◌, ◌^◌, Bool, true, false, cond, not, ◌&&◌, List, [], ◌∷◌, eqb, leb, ltb}
use Rattle.std.proofs.Math.Option.{Option, none, some}
use Rattle.policy.specs.Lists.{all, same}
use Rattle.policy.specs.Rule.{Range}
use Rattle.deployment.specs.Checked.{Checked, good, bad, ◌>>=◌, ◌>>◌, require}
use Rattle.deployment.specs.declared.Why.TheVariants.{NotRead}
use Rattle.lines.specs.Text.{text}
use Rattle.numerals.specs.Numerals.{number_of}
use Rattle.iptables.specs.declared.Kind.{Kind}
use Rattle.iptables.specs.declared.Kind.TheVariants.{Protocol, Address, Port}

-- the bytes that part a listing: "one blank", the dots and the `/` of an address, the colon of "a range `low:high`"; and a line feed
abbrev pub line_feed : ℕ
line_feed = 10

abbrev pub blank : ℕ
blank = 32

abbrev pub dot : ℕ
dot = 46

abbrev pub slash : ℕ
slash = 47

abbrev pub colon : ℕ
colon = 58

-- the first piece with one byte more in front
unfoldable pub longer : ℕ → List (List ℕ) → List (List ℕ)
longer b [] = []
longer b (piece ∷ pieces) = (b ∷ piece) ∷ pieces

-- pieces "parted by one" byte: each such byte ends a piece, so two of them make an empty one; there is always a last piece, which none ends
unfoldable pub parted : ℕ → List ℕ → List (List ℕ)
parted by [] = [] ∷ []
parted by (b ∷ s) = elim (eqb b by) [ true ↦ [] ∷ parted by s | false ↦ longer b (parted by s) ]

-- the place of the first such byte, or of the end
unfoldable pub cut_at : ℕ → List ℕ → ℕ
cut_at by [] = 0
cut_at by (b ∷ s) = cond (eqb b by) 0 (suc (cut_at by s))

-- the pieces behind the first one, from the byte on that ends it
unfoldable pub pieces_behind : ℕ → List ℕ → List (List ℕ)
pieces_behind by [] = []
pieces_behind by (b ∷ s) = parted by s

-- whether bytes start with this one
unfoldable pub starts_with : ℕ → List ℕ → Bool
starts_with first [] = false
starts_with first (b ∷ s) = eqb b first

-- "a number from 1 to 255", and so on
unfoldable pub number_in : ℕ → ℕ → List ℕ → Checked ℕ
number_in low high word =
    elim (number_of word) [
      | none ↦ bad NotRead
      | some n ↦ do
        require (leb low n && leb n high) NotRead
        good n
    ]

-- "four decimal numbers 0 to 255": so many of them are still to come, behind those of the address so far
unfoldable pub address_from : ℕ → ℕ → List (List ℕ) → Checked ℕ
address_from zero address [] = good address
address_from zero address (piece ∷ pieces) = bad NotRead
address_from (suc left) address [] = bad NotRead
address_from (suc left) address (piece ∷ pieces) = do
  n ← number_in 0 255 piece
  address_from left (address * 256 + n) pieces

unfoldable pub dotted : List ℕ → Checked ℕ
dotted word = address_from 4 0 (parted dot word)

-- "A mask `/n` becomes the address range, host bits ignored."
abbrev pub hosts : ℕ → ℕ
hosts n = 2 ^ (32 - n)

unfoldable pub masked : ℕ → ℕ → Range
masked address n = record { low = address / hosts n * hosts n; high = address / hosts n * hosts n + (hosts n - 1) }

-- "then optionally `/n`, n from 0 to 32"; an address without it is a single one
unfoldable pub mask_of : List (List ℕ) → Checked ℕ
mask_of [] = good 32
mask_of (mask ∷ []) = number_in 0 32 mask
mask_of (mask ∷ other ∷ pieces) = bad NotRead

unfoldable pub address_of : List ℕ → Checked Range
address_of word =
    elim (parted slash word) [
      | [] ↦ bad NotRead
      | address ∷ masks ↦ do
        a ← dotted address
        n ← mask_of masks
        good (masked a n)
    ]

-- a range of one number
abbrev pub single : ℕ → Range
single n = record { low = n; high = n }

-- "one number 0 to 65535 or a range `low:high`"
unfoldable pub ports_from : List (List ℕ) → Checked Range
ports_from [] = bad NotRead
ports_from (port ∷ []) = do
  n ← number_in 0 65535 port
  good (single n)
ports_from (low ∷ high ∷ []) = do
  l ← number_in 0 65535 low
  h ← number_in 0 65535 high
  good (record { low = l; high = h })
ports_from (low ∷ high ∷ other ∷ pieces) = bad NotRead

unfoldable pub ports_of : List ℕ → Checked Range
ports_of word = ports_from (parted colon word)

-- "tcp, udp, icmp or a number from 1 to 255"
unfoldable pub numbered_protocol : List ℕ → Checked Range
numbered_protocol word = do
  n ← number_in 1 255 word
  good (single n)

unfoldable pub protocol_of : List ℕ → Checked Range
protocol_of word =
    cond (same word (text "tcp")) (good (single 6))
    (cond (same word (text "udp")) (good (single 17))
    (cond (same word (text "icmp")) (good (single 1))
    (numbered_protocol word)))

-- what a word of each kind means
unfoldable pub meant : Kind → List ℕ → Checked Range
meant Protocol word = protocol_of word
meant Address word = address_of word
meant Port word = ports_of word

-- "What isn't given is the full range."
unfoldable pub full : Kind → Range
full Protocol = record { low = 0; high = 256 ^ 1 - 1 }
full Address = record { low = 0; high = 256 ^ 4 - 1 }
full Port = record { low = 0; high = 256 ^ 2 - 1 }

-- a chain's name: at least one byte, none of them a blank, a control character or a quotation mark
unfoldable pub in_name : ℕ → Bool
in_name b = ltb blank b && not (eqb b 34)

unfoldable pub is_name : List ℕ → Bool
is_name [] = false
is_name (b ∷ name) = all in_name (b ∷ name)
