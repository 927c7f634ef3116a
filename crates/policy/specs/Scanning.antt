-- 000, Algorithm 1, "Scanning Deployment", as it is printed. Nothing is built on it: Traps.antt shows what is wrong with it.
-- Line 19, "ISSUECOMMAND(app T[t])", can be read as a part of line 16's case or of line 15's. Here it is of line 15's, as the text
-- beside the listing has it: T[t] "is appended to R", and "is deleted first" if it is there. In the trap's example every rule that
-- is appended was deleted first, so both readings give one script. Assumes nothing.
use Rattle.std.specs.Prelude.{ℕ, true, false, cond, List, [], ◌∷◌, ◌++◌, map, reverse, eqb}
use Rattle.policy.specs.Lists.{pick, mem, without}
use Rattle.policy.specs.declared.Command.{Command}
use Rattle.policy.specs.declared.Command.TheVariants.{App, DelRule}

-- the stack S, last pushed first; the hash table H; and the initial policy from I[i] on
pub record Scan : Type 0 where
  pub stack : List ℕ
  pub table : List ℕ
  pub left : List ℕ

-- lines 10 to 14: "while i ≤ SizeOf(I) and I[i] ≠ T[t] do S.PUSH(I[i]), H.ADD(I[i]), i ← i + 1". Where I[i] is T[t], i stays.
unfoldable pub scan_to : ℕ → List ℕ → List ℕ → List ℕ → Scan
scan_to r stack table [] = record { stack = stack; table = table; left = [] }
scan_to r stack table (x ∷ left) =
    elim (eqb x r) [
      | true ↦ record { stack = stack; table = table; left = x ∷ left }
      | false ↦ scan_to r (x ∷ stack) (x ∷ table) left
    ]

-- commands issued, and the state then
pub record Issued : Type 0 where
  pub sent : List Command
  pub next : Scan

-- lines 15 to 19: "if i > SizeOf(I) then", "if H.CONTAINS(T[t]) then H.REMOVE(T[t])", "del T[t]"; "app T[t]"
unfoldable pub add_where : ℕ → List ℕ → List ℕ → List ℕ → Issued
add_where r stack table [] =
    cond (mem r table)
    (record { sent = DelRule r ∷ App r ∷ []; next = record { stack = stack; table = without r table; left = [] } })
    (record { sent = App r ∷ []; next = record { stack = stack; table = table; left = [] } })
add_where r stack table (x ∷ left) = record { sent = []; next = record { stack = stack; table = table; left = x ∷ left } }

-- line 9: "for t ← 1 to SizeOf(T) do"
unfoldable pub add_rules : Scan → List ℕ → Issued
add_rules s [] = record { sent = []; next = s }
add_rules s (r ∷ target) =
    let at = scan_to r s.stack s.table s.left in
    let one = add_where r at.stack at.table at.left in
    let others = add_rules one.next target in
    record { sent = one.sent ++ others.sent; next = others.next }

-- lines 5 to 19, "Phase 1: add rules"
unfoldable pub adding : List ℕ → List ℕ → Issued
adding initial target = add_rules (record { stack = []; table = []; left = initial }) target

-- lines 22 to 27, "Phase 2: clean up": "for j ← SizeOf(I) down to i do del I[j]"; "r ← S.POP(), if H.CONTAINS(r) then del r"
unfoldable pub clean_up : Scan → List Command
clean_up s = map DelRule (reverse s.left) ++ map DelRule (pick (λ r. mem r s.table) s.stack)

unfoldable pub scanning : List ℕ → List ℕ → List Command
scanning initial target = let added = adding initial target in added.sent ++ clean_up added.next
