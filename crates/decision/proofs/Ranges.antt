-- Whether a number lies in a range of a record, at every width: what its low bound decides alone, and what is left to its high bound.
-- Assumes nothing.
use Prim.Native.Nat.{ℕ, ◌+◌, ◌≤◌, ◌<◌}
use mathlib.Core.Path.{◌≡◌}
use mathlib.Core.List.{List}
use borrow.Author.Tests.{le-leb, lt-leb}
use lib.Dec.{leb}
use Rattle.policy.specs.Rule.{lies}
use Rattle.deployment.specs.Bytes.{number, part}
use Rattle.deployment.specs.Values.{range_at}

module _ (rule : List ℕ) (at width n low : ℕ) (is-low : low ≡ number (part at width rule)) where
  pub lies_below : n < low → leb low n ≡ lies n (range_at at width rule)
  unfolding lies range_at
  lies_below h = rw (← is-low, lt-leb low n h)

  pub lies_above : low ≤ n → (high : ℕ) → high ≡ number (part (at + width) width rule) → leb n high ≡ lies n (range_at at width rule)
  unfolding lies range_at
  lies_above h high is-high = rw (← is-low, ← is-high, le-leb low n h)
