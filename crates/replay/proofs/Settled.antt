-- What an edit leaves, from what the called methods give: the same edit, array and index leave the same. Before that, a rule that a list shows.
-- Assumes nothing.
use Prim.Native.Nat.{ℕ, ◌<◌}
use native.Mathlib.Omega.{arith}
use mathlib.Core.Path.{◌≡◌}
use mathlib.Core.List.{List}
use lib.ListN.{length, get_or, length-take}
use lib.Seq.{get_or-take}
use Rattle.running.specs.declared.Running.{Running}
use Rattle.running.specs.Running.{Shown, view}
use Rattle.replay.specs.Stepping.{settled}

pub view_at : (r : Running) (k : ℕ) → k < length (view r) → get_or (view r) k 0 ≡ get_or r.rules k 0
unfolding view
view_at r k h = get_or-take r.len r.rules k 0 (omega (arith, length-take r.len r.rules))

pub settles : {s t : Shown} (old : List ℕ) {p q : List ℕ} {m n : ℕ} → s ≡ t → p ≡ q → m ≡ n → settled s old p m ≡ settled t old q n
settles old e f g = rw (e, f, g)
