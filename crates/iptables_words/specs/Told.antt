-- What the functions on words tell of what is read: a number or a range, or that the word isn't read. Assumes nothing.
use Rattle.std.specs.Prelude.{Option as CodeOption, Some, None, ℕ}
use Rattle.policy.specs.Rule.{Range}
use Rattle.deployment.specs.Checked.{Checked, good, bad}
use Rattle.iptables_words.specs.declared.Bounds.{Bounds}

unfoldable pub number_told : Checked ℕ → CodeOption ℕ
number_told (good n) = Some n
number_told (bad why) = None

abbrev pub bounds_of : Range → Bounds
bounds_of range = record { low = range.low; high = range.high }

unfoldable pub range_told : Checked Range → CodeOption Bounds
range_told (good range) = Some (bounds_of range)
range_told (bad why) = None
