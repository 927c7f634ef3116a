-- `run` gives what the replay of the script's commands gives. The loop's invariant: the state is sound, and the replay of the whole script is
-- that of the commands from k on, from the list so far. Assumes nothing.
use Prim.Native.Nat.{◌<◌}
use native.Mathlib.Omega.{arith}
use mathlib.Core.Path.{◌≡◌, refl, sym, ◌∙◌, ap}
use Rattle.std.specs.Prelude.{Some}
use Rattle.policy.specs.Replay.{replay}
use Rattle.deployment.specs.Commands.{command_count, command_at, decoded}
use Rattle.running.specs.Running.{view}
use Rattle.replay.specs.Answers.{shown_by, outcome_of}
use Rattle.replay.proofs.Steps.{step_failed, step_passed, step_sound}
use Rattle.replay.proofs.Scripts.{never_wrong, run_on, run_breaks, run_ends}
use Rattle.replay.proofs.run.Goals as goal
use Rattle.replay.proofs.run.Goals.{In-loop-k, In_ok-c}

pub loop-k-init : goal.loop-k-init
unfolding replay
loop-k-init c = (c.requires.0, refl)

-- the loop's range, in the words of the definition
inside : (c : In-loop-k) → c.loop-k.k < command_count c.args.script.now
inside c = omega (arith, c.loop-k-test.true, c.commands-count.ensures)

pub returns-in_err-c : goal.returns-in_err-c
returns-in_err-c c =
    absurd (never_wrong c.args.script.now c.requires.1 c.loop-k.k (inside (goal.at.returns-in_err-c c).In-loop-k)
    (sym c.in_err-c.ensures.ok_part ∙ c.command_at.ensures))

decodes : (c : In_ok-c) → Some c.in_ok-c.c ≡ decoded (command_at c.args.script.now c.loop-k.k)
decodes c = sym c.in_ok-c.ensures.ok_part ∙ c.command_at.ensures

pub returns-in-Some : goal.returns-in-Some
unfolding shown_by outcome_of
returns-in-Some c =
    let l = view c.loop-k.state.list in
    let fails = step_failed c.args.size l c.loop-k.state.places.of c.loop-k.invariant.0 _ c.step-s.result
    c.step-s.ensures _ c.in-Some.is in
    ap outcome_of (sym (run_breaks c.args.script.now c.requires.1 c.args.size c.loop-k.k l c.loop-k.invariant.1 _
    (inside (goal.at.returns-in-Some c).In-loop-k) (decodes (goal.at.returns-in-Some c).In_ok-c) _ fails))

pub loop-k-preserved : goal.loop-k-preserved
loop-k-preserved c =
    let l = view c.loop-k.state.list in
    let stepped = c.step-s in
    let passed = c.in_default.is in
    let passes = step_passed c.args.size l c.loop-k.state.places.of c.loop-k.invariant.0 _ stepped.result
    stepped.ensures passed in (
      step_sound c.args.size l c.loop-k.state.places.of c.loop-k.invariant.0 _ stepped.result stepped.ensures passed,
      run_on c.args.script.now c.requires.1 c.args.size c.loop-k.k l c.loop-k.invariant.1 _
          (inside (goal.at.loop-k-preserved c).In-loop-k) (decodes (goal.at.loop-k-preserved c).In_ok-c) _ passes,
    )

pub returns : goal.returns
unfolding shown_by outcome_of
returns c =
    ap outcome_of (sym (run_ends c.args.script.now c.requires.1 c.args.size c.loop-k.k (view c.loop-k.state.list) c.loop-k.invariant.1
    (omega (arith, c.loop-k-test.false, c.commands-count.ensures))))
