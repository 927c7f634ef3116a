-- The running list's commands where they are legal: each gives its list. Assumes nothing.
use Prim.Native.Nat.{ℕ, suc, ◌≤◌, ◌<◌}
use mathlib.Core.Path.{◌≡◌, ◌∙◌, ap}
use mathlib.Core.List.{List}
use borrow.Author.Tests.{lt-ltb}
use lib.ListN.{length}
use Rattle.policy.specs.Command.{needs, placed, lifted, moved}
use Rattle.policy.proofs.Commands.{on_within}
use Rattle.running.specs.declared.Edited.{Edited}
use Rattle.running.specs.Running.{view, Shown, shown, given, roomy, inserted, place_deleted, relocated}

pub ins_gives : (e : Edited) (l : List ℕ) (i r : ℕ) → shown e ≡ inserted 1024 l i r 0 → r < 1024 → 0 < i → i ≤ suc (length l) → length l < 1024
    → view e.list ≡ placed i r l
unfolding shown inserted given needs roomy
ins_gives e l i r is small some inside room =
    ap (λ (s : Shown). s.list) is
    ∙ (rw (lt-ltb r 1024 small, on_within i (suc (length l)) some inside, lt-ltb (length l) 1024 room))

pub del_gives : (e : Edited) (l : List ℕ) (i : ℕ) → shown e ≡ place_deleted l i → 0 < i → i ≤ length l → view e.list ≡ lifted i l
unfolding shown place_deleted given needs
del_gives e l i is some inside = ap (λ (s : Shown). s.list) is ∙ (rw (on_within i (length l) some inside))

pub mov_gives : (e : Edited) (l : List ℕ) (i j : ℕ) → shown e ≡ relocated l i j → 0 < i → i ≤ length l → 0 < j → j ≤ length l
    → view e.list ≡ moved i j l
unfolding shown relocated given needs
mov_gives e l i j is some inside some_to inside-to =
    ap (λ (s : Shown). s.list) is ∙ (rw (on_within i (length l) some inside, on_within j (length l) some_to inside-to))
