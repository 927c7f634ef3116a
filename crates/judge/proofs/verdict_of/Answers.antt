-- `verdict_of` meets its contract. The loop's invariant: the state is sound, and what the whole script gets is what the commands from k on get
-- from the list and the verdict so far. Assumes nothing.
use Prim.Native.Nat.{◌<◌}
use native.Mathlib.Omega.{arith}
use mathlib.Core.Path.{◌≡◌, sym, ◌∙◌}
use mathlib.Core.Bool.{cond}
use Rattle.policy.specs.Lists.{same}
use Rattle.policy.specs.Judge.{verdict}
use Rattle.policy.specs.declared.Verdict.TheVariants.{Elsewhere}
use Rattle.deployment.specs.Values.{numbers_of, script_of}
use Rattle.deployment.specs.Commands.{command_count}
use Rattle.running.specs.Running.{view}
use Rattle.replay.specs.Stepping.{Sound}
use Rattle.replay.specs.Answers.{commands_of}
use Rattle.replay.proofs.Steps.{step_failed, step_passed, step_sound}
use Rattle.replay.proofs.Scripts.{never_wrong}
use Rattle.judge.proofs.Verdicts.{verdict_rest, passes_on, breaks_off, comes_to, judging, starts}
use Rattle.judge.proofs.verdict_of.Goals as goal
use Rattle.judge.proofs.verdict_of.Goals.{After-ends_at, After-start-state, In_default-refusal, In-loop-k}

-- the first list is the initial policy
started : (c : After-start-state)
    → (view c.start-state.result.list ≡ numbers_of c.args.initial.now)
    × Sound c.args.size (view c.start-state.result.list) c.start-state.result.places.of
started c =
    starts c.args.size c.requires.0 c.requires.1 c.start-state.ensures.0 c.list_of.ensures c.start-state.ensures.1

pub note_state-found-requires : goal.note_state-found-requires
note_state-found-requires c =
    judging c.args.size (numbers_of c.args.initial.now) (numbers_of c.args.target.now) c.start-state.result.places.of
    (view c.start-state.result.list) c.requires.1 c.requires.2 (started c).1

pub loop-k-init : goal.loop-k-init
loop-k-init c =
    let initial = numbers_of c.args.initial.now in
    let target = numbers_of c.args.target.now in
    let (is, sound) = started (goal.at.loop-k-init c).After-start-state in (
      sound,
      rw (c.note_state-found.ensures, is) (verdict_rest initial target c.args.size (commands_of (script_of c.args.script.now))),
    )

-- the loop's range, in the words of the definition
inside : (c : In-loop-k)
    → c.loop-k.k < command_count c.args.script.now
inside c = omega (arith, c.loop-k-test.true, c.commands-count.ensures)

pub returns-in_default : goal.returns-in_default
returns-in_default c =
    absurd (never_wrong c.args.script.now c.requires.3 c.loop-k.k (inside (goal.at.returns-in_default c).In-loop-k) (sym c.in_default.is ∙ c.command_at.ensures))

pub returns-in-Some-refusal : goal.returns-in-Some-refusal
returns-in-Some-refusal c =
    let l = view c.loop-k.state.list in
    breaks_off (numbers_of c.args.initial.now) (numbers_of c.args.target.now) c.args.size c.args.script.now c.requires.3
    c.loop-k.found c.loop-k.k l c.loop-k.invariant.1 _ (inside (goal.at.returns-in-Some-refusal c).In-loop-k) (sym c.in-Some.is ∙ c.command_at.ensures) _
    (step_failed c.args.size l c.loop-k.state.places.of c.loop-k.invariant.0 _ c.step-s.result c.step-s.ensures _ c.in-Some-refusal.is)

-- the state after a command that passes
next_sound : (c : In_default-refusal)
    → Sound c.args.size (view c.step-s.result.state.list) c.step-s.result.state.places.of
next_sound c =
    step_sound c.args.size (view c.loop-k.state.list) c.loop-k.state.places.of c.loop-k.invariant.0 _ c.step-s.result c.step-s.ensures
    c.in_default-refusal.is

pub note_state-found-requires-in-loop-k : goal.note_state-found-requires-in-loop-k
note_state-found-requires-in-loop-k c =
    judging c.args.size (numbers_of c.args.initial.now) (numbers_of c.args.target.now) c.step-s.result.state.places.of
    (view c.step-s.result.state.list) c.requires.1 c.requires.2 (next_sound (goal.at.note_state-found-requires-in-loop-k c).In_default-refusal)

pub loop-k-preserved : goal.loop-k-preserved
loop-k-preserved c =
    let l = view c.loop-k.state.list in (
      next_sound (goal.at.loop-k-preserved c).In_default-refusal,
      rw c.note_state-found-in-loop-k.ensures
          (passes_on (numbers_of c.args.initial.now) (numbers_of c.args.target.now) c.args.size c.args.script.now c.requires.3
          c.loop-k.found c.loop-k.k l c.loop-k.invariant.1 _ (inside (goal.at.loop-k-preserved c).In-loop-k) (sym c.in-Some.is ∙ c.command_at.ensures) _
          (step_passed c.args.size l c.loop-k.state.places.of c.loop-k.invariant.0 _ c.step-s.result c.step-s.ensures
          c.in_default-refusal.is)),
    )

-- all commands have passed: the last list decides
ended : (c : After-ends_at)
    → let target = numbers_of c.args.target.now in
    verdict c.args.size (numbers_of c.args.initial.now) target (commands_of (script_of c.args.script.now))
    ≡ cond (same (view c.loop-k.state.list) target) c.loop-k.found (Elsewhere c.commands-count.result)
ended c =
    let counted = c.commands-count.ensures in
    rw counted
    (comes_to (numbers_of c.args.initial.now) (numbers_of c.args.target.now) c.args.size c.args.script.now c.requires.3
    c.loop-k.found c.loop-k.k (view c.loop-k.state.list) c.loop-k.invariant.1 (omega arith) (omega arith))

pub returns-then-not-ends_at : goal.returns-then-not-ends_at
returns-then-not-ends_at c =
    sym (rw (sym c.ends_at.ensures ∙ c.if-not-ends_at.true) at (ended (goal.at.returns-then-not-ends_at c).After-ends_at))

pub returns : goal.returns
returns c = sym (rw (sym c.ends_at.ensures ∙ c.if-not-ends_at.false) at (ended (goal.at.returns c).After-ends_at))
