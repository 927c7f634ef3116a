-- Where the `*filter` part begins and ends, line by line: whether the next line stands in it. The idea: of lines with one more at the end, that one
-- is the `*filter` line that begins the part, or stands behind it; and the byte that a line starts with says whether it can end it. Assumes nothing.
use Prim.Native.Nat.{ℕ}
use native.Mathlib.Omega.{arith}
use mathlib.Core.Path.{◌≡◌, refl, sym, ◌∙◌, ap, subst}
use mathlib.Core.Bool.{Bool, true, false, ◌||◌}
use mathlib.Core.Logic.{◌⊎◌, inl, inr, ⊎_elim, ◌≢◌}
use mathlib.Core.List.Memᴰ
use mathlib.Core.List.{
  List,
  [],
  ◌∷◌,
  ◌++◌,
  append_assoc,
  Memᴰ,
}
use lib.Dec.{eqb}
use lib.ListN.{length, get_or, length-append}
use Rattle.policy.proofs.Tests.{never}
use Rattle.deployment.proofs.Tests.{Says}
use Rattle.lines.specs.Text.{text}
use Rattle.iptables.specs.Listing.{Line, opens, closes, default, rule, passed, is_filter, Found, with_line}
use Rattle.iptables.specs.Properties.{
  Is,
  filter_line,
  other_table,
  commit_line,
  empty_line,
  comment_line,
  default_line,
  chain_line,
  append_line,
  rule_line_lem,
  Ends,
  Inside,
}
use Rattle.iptables.proofs.Wording.{says_same}

-- Lists with one more at the end, cut before one of them.
last_cases {ℓ} : {A : Type ℓ} (u v w : List A) (x y : A) → u ++ (x ∷ []) ≡ v ++ (y ∷ w)
    → (x ≡ y) ⊎ ((m : List A) × (w ≡ m ++ (x ∷ [])) × (u ≡ v ++ (y ∷ m)))
last_cases [] [] w x y e = inl cc
last_cases (a ∷ u) [] w x y e =
    let first : a ≡ y = cc in
    let rest : w ≡ u ++ (x ∷ []) = cc in
    inr (u, rest, rw first)
last_cases [] (b ∷ v) w x y e = absurd (omega (arith, ap length e, length-append v (y ∷ w)))
last_cases (a ∷ u) (b ∷ v) w x y e =
    let first : a ≡ b = cc in
    let rest : u ++ (x ∷ []) ≡ v ++ (y ∷ w) = cc in
    ⊎_elim (λ same. inl same) (λ (m, is, from). inr (m, is, rw (first, from))) (last_cases u v w x y rest)

-- Whether the line behind some lines stands in the part, with one line more.
abbrev pub and_one : List (List ℕ) → List ℕ → List (List ℕ)
and_one lines line = lines ++ (line ∷ [])

pub inside_none : ¬ Inside []
inside_none h = omega (arith, ap length h.is, length-append h.earlier (text "*filter" ∷ h.within))

begins : (lines : List (List ℕ)) (line : List ℕ) → line ≡ text "*filter" → Inside (and_one lines line)
begins lines line is = record { earlier = lines; within = []; is = rw is; unended = λ other t. absurd (Memᴰ.not-nil t) }

goes_on_lem : (lines : List (List ℕ)) (line : List ℕ) → Inside lines → ¬ Ends line → Inside (and_one lines line)
goes_on_lem lines line h on =
    record {
      earlier = h.earlier;
      within = and_one h.within line;
      is = ap (λ (l : List (List ℕ)). and_one l line) h.is ∙ append_assoc h.earlier (text "*filter" ∷ h.within) (line ∷ []);
      unended =
          λ other t.
          ⊎_elim (h.unended other) (λ last ends. on (subst Ends (Memᴰ.eq_of_singleton last) ends)) (Memᴰ.append_cases h.within t);
    }

one_more_cases : (lines : List (List ℕ)) (line : List ℕ) → Inside (and_one lines line) → (line ≡ text "*filter") ⊎ (Inside lines × ¬ Ends line)
one_more_cases lines line h =
    ⊎_elim (λ same. inl same)
    (λ (m, last, is).
    let there : (other : List ℕ) → Memᴰ other m → ¬ Ends other =
    λ other t. h.unended other (rw last (Memᴰ.append_left (line ∷ []) t)) in
    inr (
      record { earlier = h.earlier; within = m; is = is; unended = there },
      h.unended line (rw last (Memᴰ.append_right m (Memᴰ.head refl))),
    ))
    (last_cases lines h.earlier h.within line (text "*filter") h.is)

-- The byte that a line starts with, none being 0: 42 and 67 where it can end the part.
abbrev start : List ℕ → ℕ
start line = get_or line 0 0

abbrev can_end : ℕ → Bool
can_end b = eqb b 42 || eqb b 67

ends_start : (line : List ℕ) → Ends line → can_end (start line) ≡ true
unfolding text
ends_start line = ⊎_elim (λ is. rw (ap start is)) (λ is. rw (ap start is.1))

-- What a line outside of the part makes of it: only `*filter` begins it.
pub outside_line : (lines : List (List ℕ)) (line : List ℕ) → ¬ Inside lines → Says (is_filter line) (Inside (and_one lines line))
unfolding is_filter
outside_line lines line out =
    let says = says_same line (text "*filter") in (
      λ t. begins lines line (says.0 t),
      λ h. says.1 (⊎_elim (λ is. is) (λ was. absurd (out was.0)) (one_more_cases lines line h)),
    )

-- What a line inside of it makes of it: `*filter` begins it again, other lines that start with `*` and `COMMIT` end it, and in all others it goes on.
module _ (lines : List (List ℕ)) (line : List ℕ) (f : Found) (was : f.inside ≡ true) (h : Inside lines) where
  over : Ends line → line ≢ text "*filter" → Says false (Inside (and_one lines line))
  over ends other = (
    λ t. never t refl,
    λ there. ⊎_elim (λ is. absurd (other is)) (λ on. absurd (on.1 ends)) (one_more_cases lines line there),
  )

  still : can_end (start line) ≡ false → Says f.inside (Inside (and_one lines line))
  still other = (λ t. goes_on_lem lines line h (λ ends. never (ends_start line ends) other), λ there. was)

  pub inside_line : (l : Line) → Is line l → Says (with_line f l).inside (Inside (and_one lines line))
  unfolding with_line text
  inside_line opens (filter_line is) = (λ t. begins lines line is, λ there. refl)
  inside_line closes (other_table name is other) = over (inr (name, is)) other
  inside_line closes (commit_line is) = over (inl is) (λ e. omega (arith, ap start (sym is ∙ e)))
  inside_line passed (empty_line is) = still (rw is)
  inside_line passed (comment_line comment is) = still (rw is)
  inside_line (default action) (default_line word a packets bytes target is) = still (rw is)
  inside_line passed (chain_line name behind named other ended is) = still (rw is)
  inside_line passed (append_line name behind named other ended is) = still (rw is)
  inside_line (rule r) (rule_line_lem s said rises) = still (rw said.is)
