-- The rules of a file, one by one: the k-th is that of its bytes. Assumes nothing.
use Prim.Native.Nat.{ℕ, suc, ◌+◌, ◌*◌, ◌-◌, ◌<◌, ◌≤◌}
use native.Mathlib.Omega.{arith}
use mathlib.Core.Path.{◌≡◌, sym, ◌∙◌, ap}
use mathlib.Core.List.{List, [], ◌∷◌}
use lib.ListN.{length, take, drop}
use lib.Seq.{drop-cons}
use Rattle.policy.specs.Rule.{Rule}
use Rattle.deployment.specs.Values.{rule_of}
use Rattle.deployment.specs.Catalogue.{catalogue_of}
use Rattle.deployment.proofs.Records.{part_between}
use Rattle.catalogue.proofs.Rules.{first_count, first_at}

pub next_rule : (count : ℕ) (file : List ℕ) → count * 30 ≤ length file → (k : ℕ) → k < count →
    let rules = take count (catalogue_of 3 file) in
    let start = k * 30 + 3 in
    drop k rules ≡ rule_of (take (start + 27 - start) (drop start file)) ∷ drop (suc k) rules
next_rule count file there k inside =
    let rules = take count (catalogue_of 3 file) in
    let start = k * 30 + 3 in
    drop-cons rules k (rule_of (drop 3 [])) (omega (arith, first_count 3 count file there))
    ∙ ap (λ (rule : Rule). rule ∷ drop (suc k) rules)
    (first_at 3 count file there k inside ∙ ap rule_of (sym (part_between start 27 file)))
