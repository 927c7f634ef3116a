-- Marks of rules, by which equal rules are looked for; and what is then known of rules. Nothing here is asked for: it makes refusal 6
-- quick. Assumes nothing.
use Rattle.std.specs.Prelude.{ℕ, ◌+◌, ◌*◌, ◌/◌, ◌%◌, ◌<◌, ◌≡◌, Bool, false, cond, ◌||◌, List, [], ◌∷◌, take, drop, get_or, eqb}
use Rattle.deployment.specs.Bytes.{part}
use Rattle.deployment.specs.Values.{rule_width, rule_of, known}
use Rattle.deployment.specs.Catalogue.{catalogue_of}

-- byte after byte, each added and then mixed in by a factor
unfoldable pub mixed_from : ℕ → List ℕ → ℕ
mixed_from n [] = n
mixed_from n (b ∷ bytes) = mixed_from ((n + b) * 2654435761 % 4294967296) bytes

-- the mark of a rule: from its action on, the high bits of what is left
unfoldable pub mark : List ℕ → ℕ
mark rule = mixed_from (cond (eqb (get_or rule 0 0) 1) 1 0) (drop 1 rule) / 2048

-- a place in the table of marks holds 0 where no rule has come, the tag of one, and 255 where several have come
unfoldable pub may_hold : ℕ → ℕ → Bool
may_hold cell tag = eqb cell tag || eqb cell 255

unfoldable pub with_tag : ℕ → ℕ → ℕ
with_tag cell tag = cond (eqb cell 0) tag 255

-- none of the first `count` rules equals an earlier one
unfoldable pub Apart : ℕ → ℕ → List ℕ → Type 0
Apart skip count bytes =
    (k : ℕ) → k < count
    → known (rule_of (part (k * (skip + rule_width) + skip) rule_width bytes)) (take k (catalogue_of skip bytes)) ≡ false
