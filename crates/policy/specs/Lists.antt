-- Words about lists that the definitions of document 01 are written in. A rule is its number in the catalogue.
-- Every test here is a Bool, so that the definitions compute. Assumes nothing.
use Rattle.std.specs.Prelude.{ℕ, ◌≡◌, Bool, true, false, cond, not, ◌&&◌, ◌||◌, List, [], ◌∷◌, ◌++◌, eqb}

-- whether every element passes the test
unfoldable pub all {ℓ} : {A : Type ℓ} → (A → Bool) → List A → Bool
all test [] = true
all test (x ∷ l) = test x && all test l

-- the elements that pass the test, in their order
unfoldable pub pick {ℓ} : {A : Type ℓ} → (A → Bool) → List A → List A
pick test [] = []
pick test (x ∷ l) = cond (test x) (x ∷ []) [] ++ pick test l

-- whether rule r is in the list
unfoldable pub mem : ℕ → List ℕ → Bool
mem r [] = false
mem r (x ∷ l) = eqb x r || mem r l

-- whether the list contains all of the other one
unfoldable pub contains : List ℕ → List ℕ → Bool
contains l other = all (λ r. mem r l) other

-- the rules before r: all of them where r is absent
unfoldable pub before : ℕ → List ℕ → List ℕ
before r [] = []
before r (x ∷ l) = cond (eqb x r) [] (x ∷ before r l)

-- the rules after r: none where r is absent
unfoldable pub after : ℕ → List ℕ → List ℕ
after r [] = []
after r (x ∷ l) = cond (eqb x r) l (after r l)

-- the list with r taken out
unfoldable pub without : ℕ → List ℕ → List ℕ
without r l = before r l ++ after r l

-- the rules of l that are in the other list as well, and those that are not
unfoldable pub common : List ℕ → List ℕ → List ℕ
common l other = pick (λ r. mem r other) l

unfoldable pub missing : List ℕ → List ℕ → List ℕ
missing l other = pick (λ r. not (mem r other)) l

-- whether the rules of the first list occur in the same order in the second
unfoldable pub occurs : List ℕ → List ℕ → Bool
occurs [] [] = true
occurs (k ∷ ks) [] = false
occurs [] (x ∷ l) = true
occurs (k ∷ ks) (x ∷ l) = elim (eqb x k) [ true ↦ occurs ks l | false ↦ occurs (k ∷ ks) l ]

-- whether two lists are the same list
unfoldable pub same : List ℕ → List ℕ → Bool
same [] [] = true
same [] (y ∷ m) = false
same (x ∷ l) [] = false
same (x ∷ l) (y ∷ m) = eqb x y && same l m

-- 01, "Flows, rules, lists": "no two of them equal". The rules of a catalogue differ, so those of a list do when its numbers do.
unfoldable pub differ : List ℕ → Bool
differ [] = true
differ (x ∷ l) = not (mem x l) && differ l
