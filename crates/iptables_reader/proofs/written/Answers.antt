-- `written` meets its contract: the tests at 0 are those of what was found; where they pass, the bytes needed are those of the file, which is put where
-- there is room. Assumes nothing.
use Prim.Native.Nat.{ℕ, ◌≤◌}
use native.Mathlib.Omega.{arith}
use mathlib.Core.Path.{sym, ◌∙◌}
use mathlib.Core.List.{List}
use Rattle.std.proofs.lemmas.Result.{err_from_is_err_and}
use Rattle.policy.specs.Policy.{most_listed}
use Rattle.iptables.specs.Listing.{Found}
use Rattle.iptables_reader.specs.Gathering.{FoundAs}
use Rattle.iptables_reader.proofs.Finishing.{Fits, passed_fits, written_turned, written_small, written_file}
use Rattle.iptables_reader.proofs.written.Goals as goal
use Rattle.iptables_reader.proofs.written.Goals.{In_ok-finished}

fits : (c : In_ok-finished) (marks : List ℕ) (f : Found)
    → let a = c.args in FoundAs a.listing.now marks a.starts.now a.seen f → Fits a.listing.now a.starts.now a.seen f
fits c marks f so_far =
    let a = c.args in
    passed_fits so_far (sym c.in_ok-finished.was ∙ c.finished.ensures a.listing.now marks a.starts.now f so_far)

few : (c : In_ok-finished) → c.args.seen.rules ≤ most_listed
few c =
    let (marks, found) = c.requires in
    (fits c marks found.0 found.1).few

pub returns : goal.returns
returns c marks f so_far =
    let a = c.args in
    written_file (fits (goal.at.returns c).In_ok-finished marks f so_far) a.place.now c.bytes_needed-needed.ensures c.if-place-needed.false c.put_file.ensures

-- 13
pub returns-then-place-needed : goal.returns-then-place-needed
returns-then-place-needed c marks f so_far =
    let a = c.args in
    written_small (fits (goal.at.returns-then-place-needed c).In_ok-finished marks f so_far) a.place.now c.bytes_needed-needed.ensures c.if-place-needed.true

-- 57, 7 and 4 at 0
pub returns-in_err-finished : goal.returns-in_err-finished
returns-in_err-finished c marks f so_far =
    let a = c.args in
    let away = err_from_is_err_and c.from_residual.result c.from_residual.ensures.1 in
    rw (away.1, away.2)
    (written_turned f a.place.now _ (sym c.in_err-finished.was ∙ c.finished.ensures a.listing.now marks a.starts.now f so_far))

pub bytes_needed-needed-requires : goal.bytes_needed-needed-requires
bytes_needed-needed-requires c = few c

pub put_file-requires : goal.put_file-requires
put_file-requires c =
    let (marks, found) = c.requires in
    (omega (arith, few (goal.at.put_file-requires c).In_ok-finished, found.1.kept.starts_fit), few (goal.at.put_file-requires c).In_ok-finished)
