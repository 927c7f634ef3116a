-- `keep` meets its contract: over 1,024 nothing is looked for; a rule that is known changes nothing; a new one is put behind the others where there is
-- room. Assumes nothing.
use native.Mathlib.Omega.{arith}
use mathlib.Core.Path.{◌≡◌, sym, ◌∙◌, ap}
use lib.ListN.{take}
use borrow.Author.Rules.{rules}
use Rattle.deployment.specs.Values.{rule_bytes}
use Rattle.catalogue.specs.RuleMarks.{mark}
use Rattle.iptables_reader.specs.Kept.{rule_at, records_at, known_record}
use Rattle.iptables_reader.proofs.Keeping.{kept_over, kept_known, kept_more, kept_full}
use Rattle.iptables_reader.proofs.table.keep.Goals as goal
use Rattle.iptables_reader.proofs.table.keep.Goals.{After-is_kept, then-count-lt-MOST_RULES, else-count-lt-MOST_RULES}

-- what is found of the record is what there is of the rule's
found : (c : After-is_kept)
    → let a = c.args in
    c.is_kept.result ≡ known_record (rule_bytes (rule_at a.listing.now a.start)) (records_at a.listing.now (take a.count a.starts.now))
found c = rw (← c.requires.1) c.is_kept.ensures

pub returns-then-count-gt-MOST_RULES : goal.returns-then-count-gt-MOST_RULES
returns-then-count-gt-MOST_RULES c rules kept =
    let a = c.args in
    kept_over a.listing.now a.marks.now a.starts.now a.count rules kept a.start c.requires.2 c.if-count-gt-MOST_RULES.true

pub returns-then-is_kept : goal.returns-then-is_kept
returns-then-is_kept c rules kept =
    let a = c.args in
    kept_known a.listing.now a.marks.now a.starts.now a.count rules kept a.start c.requires.2 c.if-count-gt-MOST_RULES.false
    (sym (found (goal.at.returns-then-is_kept c).After-is_kept) ∙ c.if-is_kept.true)

-- a new rule: where there is room, and where there is none
pub returns : goal.returns
returns c rules kept =
    let a = c.args in
    let unknown = sym (found (goal.at.returns c).After-is_kept) ∙ c.if-is_kept.false in
    elim c.if-count-lt-MOST_RULES.branch [
      | then-count-lt-MOST_RULES w ↦
          rw (w.marks-is, w.starts-is)
          (kept_more a.listing.now a.marks.now a.starts.now a.count rules kept a.start c.requires.2 c.if-count-gt-MOST_RULES.false unknown
          w.if-count-lt-MOST_RULES.true w.mark_of.result (w.mark_of.ensures.0 ∙ ap mark c.requires.1))
      | else-count-lt-MOST_RULES w ↦
          rw (w.marks-is, w.starts-is)
          (kept_full a.listing.now a.marks.now a.starts.now a.count rules kept a.start c.requires.2 c.if-count-gt-MOST_RULES.false unknown
          w.if-count-lt-MOST_RULES.false)
    ]

pub is_kept-requires : goal.is_kept-requires
is_kept-requires c =
    let kept = c.requires.0.1 in
    (omega (arith, kept.marks_fit, c.if-count-gt-MOST_RULES.false), omega (arith, kept.starts_fit, c.if-count-gt-MOST_RULES.false), kept.marked c.if-count-gt-MOST_RULES.false)
