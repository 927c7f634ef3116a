-- `placed` meets its contract: the tag says which field comes, and its place is the only one that changes. Assumes nothing.
use Prim.Native.Nat.{ℕ}
use native.Mathlib.Omega.{arith}
use mathlib.Core.Path.{subst}
use Rattle.deployment.specs.File.{last_tag}
use Rattle.deployment.proofs.Fields.{script_left_lem}
use Rattle.reader.specs.Steps.{More}
use Rattle.reader.proofs.OneMore.{
  more_stands,
  placed_rule,
  placed_initial,
  placed_target,
  placed_default,
  placed_keep,
  placed_script,
}
use Rattle.reader.proofs.file.placed.Goals as goal

pub returns-in-1 : goal.returns-in-1
returns-in-1 c = λ f g value more l w. placed_rule c.args.layout c.args.span (subst (λ (t : ℕ). More f t value g) c.in-1.is more) l

pub returns-in-2 : goal.returns-in-2
returns-in-2 c = λ f g value more l w. placed_initial c.args.layout c.args.span (subst (λ (t : ℕ). More f t value g) c.in-2.is more) l w

pub returns-in-3 : goal.returns-in-3
returns-in-3 c = λ f g value more l w. placed_target c.args.layout c.args.span (subst (λ (t : ℕ). More f t value g) c.in-3.is more) l w

pub returns-in-6 : goal.returns-in-6
returns-in-6 c = λ f g value more l w. placed_default c.args.layout c.args.span (subst (λ (t : ℕ). More f t value g) c.in-6.is more) l w

pub returns-in-4 : goal.returns-in-4
returns-in-4 c = λ f g value more l w. placed_keep c.args.layout c.args.span (subst (λ (t : ℕ). More f t value g) c.in-4.is more) l w

pub returns-in_default : goal.returns-in_default
returns-in_default c =
    λ f g value more l w.
    let e = script_left_lem (last_tag f) (more_stands more)
    (λ e. omega arith) (λ e. omega arith) (λ e. omega arith) (λ e. omega arith) (λ e. omega arith) in
    placed_script c.args.layout c.args.span (subst (λ (t : ℕ). More f t value g) e more) l w
