-- A list that is copied from its front, one element a turn: what `list_of` does. Assumes nothing.
use Prim.Native.Nat.{ℕ, ◌+◌, ◌<◌}
use native.Mathlib.Numerals.{add-one}
use mathlib.Core.Path.{◌≡◌}
use mathlib.Core.List.{List}
use lib.ListN.{length, take, get_or, set}
use lib.Seq.{take-suc, take-suc-set}

pub copied_further : (l m : List ℕ) (k : ℕ) → k < length l → k < length m → take k l ≡ take k m
    → take (k + 1) (set l k (get_or m k 0)) ≡ take (k + 1) m
copied_further l m k in-l in-m e =
    rw (add-one k, take-suc-set l k (get_or m k 0) in-l, e, take-suc m k 0 in-m)
