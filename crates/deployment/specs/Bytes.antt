-- 01, "The deployment file": numbers as bytes, and parts of bytes. Assumes nothing.
use Rattle.std.specs.Prelude.{ℕ, zero, suc, ◌+◌, ◌*◌, ◌/◌, ◌%◌, List, [], ◌∷◌, ◌++◌, cond, length, take, drop, leb}

-- "All numbers are big-endian."
unfoldable pub number_from : ℕ → List ℕ → ℕ
number_from n [] = n
number_from n (b ∷ bytes) = number_from (n * 256 + b) bytes

unfoldable pub number : List ℕ → ℕ
number bytes = number_from 0 bytes

unfoldable pub bytes_of : ℕ → ℕ → List ℕ
bytes_of zero n = []
bytes_of (suc width) n = bytes_of width (n / 256) ++ (n % 256 ∷ [])

-- the bytes from a start on, as many as are asked for
unfoldable pub part : ℕ → ℕ → List ℕ → List ℕ
part start size bytes = take size (drop start bytes)

-- the number of so many bytes from a start on; 0 where they don't all stand there
unfoldable pub number_at : ℕ → ℕ → List ℕ → ℕ
number_at start width bytes = cond (leb (start + width) (length bytes)) (number (part start width bytes)) 0

-- values that stand one after another, all of one width: the first `count` of them
unfoldable pub chunks : ℕ → ℕ → List ℕ → List (List ℕ)
chunks width zero bytes = []
chunks width (suc count) bytes = take width bytes ∷ chunks width count (drop width bytes)

-- pieces put one after another
unfoldable pub joined : List (List ℕ) → List ℕ
joined [] = []
joined (piece ∷ pieces) = piece ++ joined pieces
