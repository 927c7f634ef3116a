-- `shown` meets its contract: where a file has fewer rules than are asked for, those that it has are all. Assumes nothing.
use Rattle.std.proofs.Common.{◌≡◌, ℕ, ◌*◌, ◌≤◌, min, ltb, List, length, take, sym, ap, ◌∙◌, arith, ltb-true, ltb-false, take_all}
use Rattle.policy.proofs.Tests.{by_test}
use Rattle.deployment.specs.Catalogue.{record_count, catalogue_of}
use Rattle.deployment.proofs.Records.{catalogue_length}
use Rattle.catalogue.proofs.Rules.{records_fit}
use Rattle.rule_lines.proofs.rules.shown.Goals as goal

whole_catalogue : (skip count : ℕ) (bytes : List ℕ) → record_count skip bytes ≤ count
    → take count (catalogue_of skip bytes) ≡ catalogue_of skip bytes
whole_catalogue skip count bytes h = take_all count (catalogue_of skip bytes) (omega (arith, catalogue_length skip bytes))

fewer : (file : List ℕ) (count n : ℕ) → n ≡ min count (record_count 3 file)
    → (n * 30 ≤ length file) × (take n (catalogue_of 3 file) ≡ take count (catalogue_of 3 file))
fewer file count n is =
    let all = record_count 3 file in
    by_test (ltb all count)
    (λ t.
    let less = ltb-true all count t in
    let same : n ≡ all = omega (arith, is) in
    (records_fit 3 n file (omega arith), whole_catalogue 3 n file (omega arith) ∙ sym (whole_catalogue 3 count file (omega arith))))
    (λ f.
    let there = ltb-false all count f in
    let same : n ≡ count = omega (arith, is) in
    (records_fit 3 n file (omega arith), ap (λ k. take k (catalogue_of 3 file)) same))

pub returns : goal.returns
unfolding record_count
returns c = fewer c.args.file.now c.args.count c.min.result c.min.ensures
