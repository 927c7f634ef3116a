-- What a `:FORWARD` line and an `-A` line tell, by the words behind the first. The idea: the next word ends at the next blank, and those behind it
-- are the words behind that position. Assumes nothing.
use Prim.Native.Nat.{ℕ, ◌+◌, ◌≤◌, ◌<◌}
use native.Mathlib.Omega.{arith}
use mathlib.Core.Path.{◌≡◌, refl, sym, ◌∙◌, ap}
use mathlib.Core.Bool.{Bool, true, false, cond}
use mathlib.Core.Logic.{◌≢◌}
use mathlib.Core.List.{List, ◌∷◌}
use lib.ListN.{length, drop}
use Rattle.policy.specs.Lists.{same}
use Rattle.policy.specs.declared.Action.{Action}
use Rattle.policy.proofs.Lists.{same_eq}
use Rattle.deployment.specs.Checked.{Checked, good, bad, ◌>>=◌, ◌>>◌, require}
use Rattle.deployment.specs.declared.Why.{Why}
use Rattle.deployment.specs.declared.Why.TheVariants.{NotRead}
use Rattle.lines.specs.Text.{text}
use Rattle.iptables.specs.Words.{blank, cut_at, is_name}
use Rattle.iptables.specs.Options.{target_of}
use Rattle.iptables.specs.Listing.{are_counters, forward_read, other_chain, append_read}
use Rattle.iptables.specs.Listing as listing
use Rattle.iptables.specs.Properties.{IsTarget}
use Rattle.iptables.proofs.Wording.{Reads}
use Rattle.iptables.proofs.Options.{target_is}
use Rattle.iptables_words.proofs.Pieces.{one_behind, several_behind}
use Rattle.iptables_rule.specs.Found.{words_from, target_told}
use Rattle.std.specs.Prelude.{Option as CodeOption, Some, None, Result, Ok, Err}
use Rattle.iptables_rule.proofs.Turns.{Ends, word_from, no_words, next_word}
use Rattle.iptables_lines.specs.Told.{line_is, line_told}
use Rattle.iptables_lines.specs.declared.Line.{Line}
use Rattle.iptables_lines.specs.declared.Line.TheVariants.{Default, Passed}

-- A chain's name, or not.
module _ (name : List ℕ) where
  pub is_passed : is_name name ≡ true → Ok Passed ≡ line_told (other_chain name)
  unfolding other_chain line_told line_is
  is_passed t = rw t refl

  pub is_turned : is_name name ≡ false → Err NotRead ≡ line_told (other_chain name)
  unfolding other_chain line_told
  is_turned f = rw f refl

-- The policy and the counters of a `:FORWARD` line.
unfoldable pub default_told : CodeOption Action → Bool → Result Line Why
default_told (Some action) counted = cond counted (Ok (Default action)) (Err NotRead)
default_told None counted = Err NotRead

-- what is read of the two, once the policy is
abbrev counted : Checked Action → Bool → Checked listing.Line
counted read counters = do
  action ← read
  require counters NotRead
  good (listing.default action)

counted_told : (policy : List ℕ) (read : Checked Action) (counters : Bool) → Reads (IsTarget policy) read
    → default_told (target_told read) counters ≡ line_told (counted read counters)
unfolding default_told target_told line_told line_is
counted_told policy (good action) true is = refl
counted_told policy (good action) false is = refl
counted_told policy (bad why) counters not = rw not refl

-- The words of a `:FORWARD` line.
module _ (line : List ℕ) (at : ℕ) where
  pub no_policy : length line ≤ at → Err NotRead ≡ line_told (forward_read (words_from at line))
  unfolding forward_read line_told
  no_policy ends = rw (no_words line at ends) refl

  module _ (inside : at < length line) (middle : ℕ) (ends : Ends line (at + 1) middle) where
    pub one_word : middle ≡ length line → Err NotRead ≡ line_told (forward_read (words_from at line))
    unfolding forward_read line_told
    one_word last = rw (next_word line at middle inside ends, no_words line middle (omega arith)) refl

    module _ (more : middle < length line) (counters : List ℕ) (behind : counters ≡ drop (middle + 1) line) (to : ℕ)
        (next : to ≡ 0 + cut_at blank (drop 0 counters)) where
      pub more_words : to ≢ length counters → Err NotRead ≡ line_told (forward_read (words_from at line))
      unfolding forward_read line_told words_from
      more_words on = rw (next_word line at middle inside ends, (several_behind blank line middle more counters behind to next on).is) refl

      pub two_words : to ≡ length counters → (target : CodeOption Action) → target ≡ target_told (target_of (word_from line (at + 1) middle))
          → default_told target (are_counters counters) ≡ line_told (forward_read (words_from at line))
      unfolding forward_read words_from
      two_words last target told =
          let policy = word_from line (at + 1) middle in
          rw (next_word line at middle inside ends, one_behind blank line middle more counters behind to next last, told)
          (counted_told policy (target_of policy) (are_counters counters) (target_is policy))

-- The words of an `-A` line.
module _ (line : List ℕ) (at : ℕ) where
  pub no_chain : length line ≤ at → Err NotRead ≡ line_told (append_read (words_from at line))
  unfolding append_read line_told
  no_chain ends = rw (no_words line at ends) refl

  module _ (inside : at < length line) (end : ℕ) (ends : Ends line (at + 1) end) where
    abbrev chain : List ℕ
    chain = word_from line (at + 1) end

    pub is_forward : same chain (text "FORWARD") ≡ true → append_read (text "FORWARD" ∷ words_from end line) ≡ append_read (words_from at line)
    is_forward t =
        ap (λ (c : List ℕ). append_read (c ∷ words_from end line)) (sym (same_eq chain (text "FORWARD") t))
        ∙ ap append_read (sym (next_word line at end inside ends))

    pub is_another : same chain (text "FORWARD") ≡ false → line_told (other_chain chain) ≡ line_told (append_read (words_from at line))
    unfolding append_read
    is_another f = rw (next_word line at end inside ends, f) refl
