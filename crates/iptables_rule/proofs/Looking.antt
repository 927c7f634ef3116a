-- An option looked for: what is found among those in front, with one option more. The idea: the words that an option is given are those among the
-- options in front and then those of the rest; and its place is settled by its first word. Assumes nothing.
use Prim.Native.Nat.{ℕ, suc, ◌+◌, ◌≤◌, ◌<◌}
use native.Mathlib.Omega.{arith}
use mathlib.Core.Path.{◌≡◌, refl, sym, ◌∙◌, ap}
use mathlib.Core.Bool.{Bool, true, false, cond}
use mathlib.Core.Logic.{◌≢◌}
use mathlib.Core.List.{List, [], ◌∷◌, ◌++◌, append-nil, append_assoc, nil≢cons, cons-ne-nil, head-eq_of_cons-eq}
use borrow.Author.Tests.{eq-eqb, ne_eqb}
use lib.ListN.{length, length-append}
use Rattle.policy.specs.Lists.{same}
use Rattle.policy.proofs.Tests.{by_test}
use Rattle.iptables.specs.Options.{Given, words_at, place_of}
use Rattle.iptables_rule.specs.Found.{given_from, with_pair, Looked, OptionFound}
use Rattle.iptables_rule.specs.declared.Found.{Found}
use Rattle.iptables_rule.proofs.Turns.{Ends, word_from, pair_at, name_inside, word_inside, none_given, left_given, next_given}

-- The words and the place of an option among those in front and the rest.
module _ (name : List ℕ) (rest : List Given) where
  words_append : (front : List Given) → words_at name (front ++ rest) ≡ words_at name front ++ words_at name rest
  unfolding words_at
  words_append [] = refl
  words_append (g ∷ front) =
      by_test (same g.option name)
      (λ t. rw t (ap (λ (l : List (List ℕ)). g.word ∷ l) (words_append front)))
      (λ f. rw f (words_append front))

  place_absent : (front : List Given) → words_at name front ≡ [] → place_of name (front ++ rest) ≡ place_of name front + place_of name rest
  unfolding words_at place_of
  place_absent [] none = omega arith
  place_absent (g ∷ front) none =
      by_test (same g.option name)
      (λ t. absurd (cons-ne-nil g.word (words_at name front) (rw t at none)))
      (λ f. let further = place_absent front (rw f at none) in rw f (omega arith))

  place_settled : (front : List Given) → words_at name front ≢ [] → place_of name (front ++ rest) ≡ place_of name front
  unfolding words_at place_of
  place_settled [] some = absurd (some refl)
  place_settled (g ∷ front) some =
      by_test (same g.option name)
      (λ t. rw t refl)
      (λ f. let further = place_settled front (rw f at some) in rw f (ap suc further))

place_few : (name : List ℕ) (front : List Given) → place_of name front ≤ length front
unfolding place_of
place_few name [] = omega arith
place_few name (g ∷ front) =
    let few = place_few name front in
    by_test (same g.option name) (λ t. rw t (omega arith)) (λ f. rw f (omega arith))

-- One option more, which is the one looked for or not: its words and its place.
abbrev words_more : List (List ℕ) → Bool → List ℕ → List (List ℕ)
words_more words is word = words ++ cond is (word ∷ []) []

abbrev place_more : List (List ℕ) → ℕ → Bool → ℕ
place_more [] place is = place + cond is 0 1
place_more (first ∷ others) place is = place

words_more_lem : (name : List ℕ) (front : List Given) (g : Given)
    → words_at name (front ++ (g ∷ [])) ≡ words_more (words_at name front) (same g.option name) g.word
unfolding words_at
words_more_lem name front g = words_append name (g ∷ []) front

place_more_lem : (name : List ℕ) (front : List Given) (g : Given) (words : List (List ℕ)) → words_at name front ≡ words
    → place_of name (front ++ (g ∷ [])) ≡ place_more words (place_of name front) (same g.option name)
unfolding place_of
place_more_lem name front g [] none = place_absent name (g ∷ []) front none
place_more_lem name front g (first ∷ others) some = place_settled name (g ∷ []) front (λ e. cons-ne-nil first others (sym some ∙ e))

-- What was found, with one option more.
module _ (line : List ℕ) (place : ℕ) (found : Found) (start end : ℕ) (rises : start ≤ end) (inside : end ≤ length line) where
  seen_more : (words : List (List ℕ)) → Looked line words place found → (is : Bool)
      → Looked line (words_more words is (word_from line start end)) (place_more words place is) (with_pair found is start end)
  unfolding with_pair
  seen_more [] h true =
      rw (eq-eqb found.times 0 h.times)
      (record {
        times = refl;
        place = omega (arith, h.place);
        rises = rises;
        inside = inside;
        word = λ first others e. head-eq_of_cons-eq e;
      })
  seen_more [] h false =
      rw (eq-eqb found.times 0 h.times)
      (record {
        times = refl;
        place = omega (arith, h.place);
        rises = omega arith;
        inside = omega arith;
        word = λ first others e. absurd (nil≢cons e);
      })
  seen_more (word ∷ words) h true =
      rw (ne_eqb found.times 0 (λ none. omega (arith, h.times, none)))
      (record {
        times = rw (length-append words (word_from line start end ∷ [])) (omega arith);
        place = h.place;
        rises = h.rises;
        inside = h.inside;
        word = λ first others e. h.word first words (ap (λ (w : List ℕ). w ∷ words) (head-eq_of_cons-eq e));
      })
  seen_more (word ∷ words) h false =
      rw (ne_eqb found.times 0 (λ none. omega (arith, h.times, none)), append-nil words) h

-- The loop that looks for an option: those in front, and what was found among them.
pub record Looking (line : List ℕ) (at : ℕ) (name : List ℕ) (found : Found) (end : ℕ) : Type 0 where
  pub front : List Given
  pub is : given_from at line ≡ front ++ given_from end line
  pub few : length front ≤ end
  pub found_so_far : OptionFound line name front found

pub not_looked : (line : List ℕ) (at : ℕ) (name : List ℕ) → Looking line at name (record { times = 0; place = 0; start = 0; end = 0 }) at
unfolding words_at place_of
not_looked line at name =
    record {
      front = [];
      is = refl;
      few = omega arith;
      found_so_far = record {
        times = refl;
        place = refl;
        rises = omega arith;
        inside = omega arith;
        word = λ first others e. absurd (nil≢cons e);
      };
    }

module _ (line : List ℕ) (at : ℕ) (name : List ℕ) (found : Found) (end : ℕ) (looking : Looking line at name found end) where
  pub place_fits : found.place ≤ end
  place_fits = omega (arith, looking.few, looking.found_so_far.place, place_few name looking.front)

  -- nothing is left but perhaps a word without its option
  looked : given_from end line ≡ [] → OptionFound line name (given_from at line) found
  looked none = rw (looking.is, none, append-nil looking.front) looking.found_so_far

  pub looked_to_end : length line ≤ end → OptionFound line name (given_from at line) found
  looked_to_end ends = looked (none_given line end ends)

  module _ (middle : ℕ) (inside : end < length line) (name-ends : Ends line (end + 1) middle) where
    pub looked_to_last : middle ≡ length line → OptionFound line name (given_from at line) found
    looked_to_last last = looked (left_given line end middle inside name-ends last)

    module _ (stop : ℕ) (more : middle ≢ length line) (word-ends : Ends line (middle + 1) stop) where
      pub looked_further : Looking line at name (with_pair found (same (word_from line (end + 1) middle) name) (middle + 1) stop) stop
      looked_further =
          let g = pair_at line end middle stop in
          let front = looking.front in
          let words = word_inside line end middle inside name-ends stop more word-ends in
          record {
            front = front ++ (g ∷ []);
            is = looking.is
                ∙ ap (λ (l : List Given). front ++ l) (next_given line end middle inside name-ends stop more word-ends)
                ∙ sym (append_assoc front (g ∷ []) (given_from stop line));
            few = rw (length-append front (g ∷ []))
                (omega (arith, looking.few, name_inside line end middle inside name-ends, words));
            found_so_far = rw (words_more_lem name front g, place_more_lem name front g (words_at name front) refl)
                (seen_more line (place_of name front) found (middle + 1) stop words.0 words.1 (words_at name front) looking.found_so_far
                (same g.option name));
          }
