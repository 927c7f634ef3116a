-- Lines gathered one after another: what is seen is what the lines so far have, and the whole listing is read as the lines from there on are, behind
-- what was found. The idea: one line more takes one line away from those left; a line turned away turns the listing away at its number; where no line is
-- left, the part has ended or is cut short. Assumes nothing.
use Prim.Native.Nat.{ℕ, suc, ◌+◌, ◌≤◌, ◌<◌}
use native.Mathlib.Numerals.{add-one}
use native.Mathlib.Omega.{arith}
use mathlib.Core.Path.{◌≡◌, refl, sym, ◌∙◌, ap}
use mathlib.Core.Bool.{true, false}
use mathlib.Core.List.{List, [], ◌∷◌}
use lib.ListN.{length, take, drop, length-drop}
use lib.Seq.{drop-drop}
use Rattle.policy.specs.Policy.{most_rules}
use Rattle.deployment.specs.Checked.{Checked, good, bad}
use Rattle.deployment.specs.File.{refused}
use Rattle.deployment.specs.declared.Why.{Why}
use Rattle.deployment.specs.declared.Why.TheVariants.{NotRead}
use Rattle.std.specs.Prelude.{Ok, Err}
use Rattle.iptables.specs.Words.{line_feed, cut_at}
use Rattle.iptables.specs.Listing.{Found, nothing_found, lines_of, stepped, read_from, listing_read}
use Rattle.iptables.proofs.Parting.{lines_cut, no_line}
use Rattle.iptables_words.proofs.Pieces.{piece_ends}
use Rattle.iptables_reader.specs.Kept.{line_at}
use Rattle.iptables_reader.specs.Gathering.{FoundAs, SteppedAs, Steps, GatheredAs}
use Rattle.iptables_reader.specs.declared.Seen.{Seen}
use Rattle.iptables_reader.proofs.Stepping.{nothing_seen}

-- The lines before the one with this number, which goes from `start` to `end`.
pub record LinesSeen (listing marks starts : List ℕ) (seen : Seen) (number start end : ℕ) : Type 0 where
  pub found : Found
  pub is : FoundAs listing marks starts seen found
  pub read : listing_read listing ≡ read_from number found (lines_of (drop start listing))
  pub ends : end ≡ start + cut_at line_feed (drop start listing)
  pub inside : start ≤ length listing
  pub counted : number ≤ suc start

pub no_line_seen : (listing marks starts : List ℕ) (end : ℕ) → length marks ≡ most_rules → length starts ≡ most_rules
    → end ≡ 0 + cut_at line_feed (drop 0 listing)
    → LinesSeen listing marks starts (record { inside = false; defaults = 0; permits = false; rules = 0 }) 1 0 end
unfolding listing_read
no_line_seen listing marks starts end marks-fit starts_fit ends =
    record {
      found = nothing_found;
      is = nothing_seen listing marks starts marks-fit starts_fit;
      read = refl;
      ends = ends;
      inside = omega arith;
      counted = omega arith;
    }

-- A step tells what was found with the line, or why it is turned away.
step_good : (listing marks starts : List ℕ) (found : Checked Found) (seen : Seen) → SteppedAs listing marks starts found (Ok seen)
    → (g : Found) × (found ≡ good g) × FoundAs listing marks starts seen g
step_good listing marks starts (good g) seen (other, is, more) = let same : seen ≡ other = cc in (g, refl, rw same more)
step_good listing marks starts (bad why) seen is = absurd (cc)

step_bad : (listing marks starts : List ℕ) (found : Checked Found) (why : Why) → SteppedAs listing marks starts found (Err why) → found ≡ bad why
step_bad listing marks starts (good g) why (other, is, more) = absurd (cc)
step_bad listing marks starts (bad other) why is = let same : other ≡ why = cc in ap bad same

-- The lines from one on, by what that one does.
module _ (number : ℕ) (f : Found) (line : List ℕ) (lines : List (List ℕ)) where
  turns_away : (why : Why) → stepped f line ≡ bad why → read_from number f (line ∷ lines) ≡ refused (record { why = why; at = number })
  unfolding read_from
  turns_away why e = rw (e, read_from)

  reads_on : (g : Found) → stepped f line ≡ good g → read_from number f (line ∷ lines) ≡ read_from (suc number) g lines
  unfolding read_from
  reads_on g e = rw (e, read_from)

module _ {listing marks starts : List ℕ} {seen : Seen} {number start end : ℕ} (so_far : LinesSeen listing marks starts seen number start end) where
  abbrev rest : List ℕ
  rest = drop start listing

  -- the line goes no further than the listing, which ends behind it
  pub line_inside : end ≤ length listing
  line_inside = (piece_ends line_feed listing start end so_far.inside so_far.ends).1

  module _ (more : end < length listing) where
    cut_line : cut_at line_feed rest < length rest
    cut_line = omega (arith, so_far.ends, length-drop start listing)

    next_rest : drop (suc (cut_at line_feed rest)) rest ≡ drop (end + 1) listing
    next_rest =
        let behind : start + suc (cut_at line_feed rest) ≡ end + 1 = omega (arith, so_far.ends) in
        drop-drop (suc (cut_at line_feed rest)) start listing ∙ ap (λ (n : ℕ). drop n listing) behind

    first_line : lines_of rest ≡ line_at start listing ∷ lines_of (drop (end + 1) listing)
    unfolding line_at
    first_line = lines_cut rest cut_line ∙ ap (λ (s : List ℕ). take (cut_at line_feed rest) rest ∷ lines_of s) next_rest

    module _ (marks-after starts-after : List ℕ) where
      abbrev found_with : Checked Found
      found_with = stepped so_far.found (line_at start listing)

      -- 57, 58
      pub line_turned : (why : Why) → Steps listing start seen marks starts (Err why) marks-after starts-after
          → listing_read listing ≡ refused (record { why = why; at = number })
      line_turned why steps =
          let turned = step_bad listing marks-after starts-after found_with why (steps so_far.found so_far.is) in
          so_far.read ∙ rw first_line (turns_away number so_far.found (line_at start listing) (lines_of (drop (end + 1) listing)) why turned)

      -- a line more
      pub line_seen : {next : ℕ} (more-seen : Seen) → Steps listing start seen marks starts (Ok more-seen) marks-after starts-after
          → next ≡ end + 1 + cut_at line_feed (drop (end + 1) listing)
          → LinesSeen listing marks-after starts-after more-seen (number + 1) (end + 1) next
      line_seen more-seen steps ends =
          let (g, found, seen-so) = step_good listing marks-after starts-after found_with more-seen (steps so_far.found so_far.is) in
          record {
            found = g;
            is = seen-so;
            read =
                so_far.read
                ∙ rw (first_line, add-one number) (reads_on number so_far.found (line_at start listing) (lines_of (drop (end + 1) listing)) g found);
            ends = ends;
            inside = omega arith;
            counted = omega (arith, so_far.counted, so_far.ends);
          }

  -- no line is left
  module _ (over : length listing ≤ end) where
    last_read : listing_read listing ≡ read_from number so_far.found []
    last_read =
        so_far.read
        ∙ ap (read_from number so_far.found) (no_line rest (omega (arith, so_far.ends, line_inside, length-drop start listing)))

    pub cut_short : seen.inside ≡ true → listing_read listing ≡ refused (record { why = NotRead; at = number })
    unfolding read_from
    cut_short here = last_read ∙ rw (sym so_far.is.inside ∙ here)

    pub all_seen : seen.inside ≡ false → GatheredAs listing marks starts (Ok seen)
    unfolding read_from
    all_seen outside = (so_far.found, so_far.is, last_read ∙ rw (sym so_far.is.inside ∙ outside))
