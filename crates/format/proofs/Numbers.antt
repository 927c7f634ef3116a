-- A number byte by byte, and its size. Assumes nothing.
use Prim.Native.Nat.{ℕ, ◌+◌, ◌*◌, ◌^◌, ◌≤◌, ◌<◌}
use native.Mathlib.Nat.{pow-suc, pow-le-pow_right}
use native.Mathlib.Numerals.{add-one}
use native.Mathlib.Omega.{arith}
use mathlib.Core.Path.{◌≡◌, sym}
use mathlib.Core.List.{List}
use lib.ListN.{length, take, get_or}
use lib.Seq.{take-suc}
use Rattle.deployment.specs.Bytes.{number, part}
use Rattle.deployment.proofs.Bytes.{elements_are_bytes, number_snoc, part_fits}

pub number_more : (bytes : List ℕ) (k : ℕ) → k < length bytes
    → number (take k bytes) * 256 + get_or bytes k 0 ≡ number (take (k + 1) bytes)
unfolding number
number_more bytes k h = rw (add-one k, take-suc bytes k 0) (sym (number_snoc 0 (take k bytes) (get_or bytes k 0)))

-- a byte more is a factor more, and of four bytes the last number but one is small
pub power_more : (n k b : ℕ) → n < 256 ^ k → b < 256 → n * 256 + b < 256 ^ (k + 1)
power_more n k b h small = rw (add-one k, pow-suc) (omega arith)

pub number_small : (n k : ℕ) → n < 256 ^ k → k ≤ 3 → n < 16777216
number_small n k h few = omega (arith, pow-le-pow_right {n = 256} (omega arith) few)

-- the number of two bytes that stand there has two bytes
pub two_fit : (start : ℕ) (l : List ℕ) → ((i : ℕ) → get_or l i 0 < 256) → start + 2 ≤ length l → number (part start 2 l) < 65536
two_fit start l are h = part_fits start 2 l (elements_are_bytes l are) h
