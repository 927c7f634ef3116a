-- What a customer buys of a listing that is brought in. Each claim is a statement; proofs/ has, for each, a proof of the same name in small letters
-- with hyphens. Assumes nothing.
use Rattle.std.specs.Prelude.{Result, ℕ, ◌/◌, ◌≤◌, ◌≡◌, true, ◌↔◌, ◌⊎◌, length}
use mathlib.Core.List.{List, [], ◌∷◌, ◌++◌, map, Memᴰ}
use Rattle.policy.specs.Policy.{decided, matching}
use Rattle.policy.specs.Rule.{Range, Rule, lies}
use Rattle.policy.specs.declared.Action.{Action}
use Rattle.policy.specs.declared.Flow.{Flow}
use Rattle.deployment.specs.Bytes.{joined}
use Rattle.deployment.specs.Checked.{good, bad, why_number}
use Rattle.deployment.specs.Contents.{Contents, initial_policy, target_policy}
use Rattle.deployment.specs.File.{accepted, reading_numbers, read_file, file_of}
use Rattle.deployment.specs.FieldValues.{written_numbers, TooSmall}
use Rattle.deployment.specs.Properties.{AreBytes, Valid}
use Rattle.deployment.specs.declared.Why.{Why}
use Rattle.deployment.specs.declared.Why.TheVariants.{NotRead, LowAbove}
use Rattle.deployment.specs.declared.Refusal.{Refusal}
use Rattle.lines.specs.Text.{text}
use Rattle.iptables.specs.Words.{line_feed, parted, hosts, masked, meant}
use Rattle.iptables.specs.Options.{Given, rule_given}
use Rattle.iptables.specs.Listing.{Line, lines_of, line_read, listing_read}
use Rattle.iptables.specs.Answers.{file_of_listing}
use Rattle.iptables.specs.Properties.{
  Pieces,
  Means,
  RuleSaid,
  Is,
  Inside,
  Passes,
  LowIsAbove,
  Accepts,
  ListingTurned,
  by_first,
}
use Rattle.iptables.specs.declared.Kind.{Kind}

-- "words parted by one blank", and everything else that is parted: there is one way.
abbrev pub PartedOnce : Type 0
PartedOnce = (by : ℕ) (s : List ℕ) (pieces : List (List ℕ)) → (parted by s ≡ pieces) ↔ Pieces by s pieces

-- A listing is its lines, each with its line feed, and a last piece without one.
abbrev pub LinesEnd : Type 0
LinesEnd = (listing : List ℕ)
    → ((last : List ℕ) × (listing ≡ joined (map (λ line. line ++ text "\n") (lines_of listing)) ++ last) × ¬ Memᴰ line_feed last)
    × ((line : List ℕ) → Memᴰ line (lines_of listing) → ¬ Memᴰ line_feed line)

-- Each word of an address, of ports and of a protocol is read exactly when it is one, as what it means ..
abbrev pub WordRead : Type 0
WordRead = (kind : Kind) (word : List ℕ) (range : Range) → (meant kind word ≡ good range) ↔ Means kind word range

-- .. and "A mask `/n` becomes the address range, host bits ignored": the addresses whose first n bits are the given ones.
abbrev pub MaskIsPrefix : Type 0
MaskIsPrefix = (address n x : ℕ) → (lies x (masked address n) ≡ true) ↔ (x / hosts n ≡ address / hosts n)

-- A rule line's options are read exactly when they say a rule, and as that rule; what they don't say is 57.
abbrev pub RuleIsSaid : Type 0
RuleIsSaid = (given : List Given) (r : Rule) → (rule_given given ≡ good r) ↔ RuleSaid given r

abbrev pub RuleNotSaid : Type 0
RuleNotSaid = (given : List Given) (why : Why) → rule_given given ≡ bad why → why ≡ NotRead

-- A line of the `*filter` part is read exactly as what it is; "58 for a low above its high", and 57 for all else.
abbrev pub LineIs : Type 0
LineIs = (line : List ℕ) (l : Line) → (line_read line ≡ good l) ↔ Is line l

abbrev pub LineLowAbove : Type 0
LineLowAbove = (line : List ℕ) → (line_read line ≡ bad LowAbove) ↔ LowIsAbove line

abbrev pub LineNotRead : Type 0
LineNotRead = (line : List ℕ) (why : Why) → line_read line ≡ bad why → (why ≡ NotRead) ⊎ (why ≡ LowAbove)

-- A listing is brought in exactly when its lines pass, it isn't cut short, one default stands and its rules are few enough; and as these rules, each at its
-- first place, and this default.
abbrev pub ListingAccepted : Type 0
ListingAccepted = (listing : List ℕ) (c : Contents) → (listing_read listing ≡ accepted c) ↔ Accepts listing c

-- Each refusal exactly when its condition holds, the earlier line and in a line the earlier test winning.
abbrev pub ListingRefused : Type 0
ListingRefused = (listing : List ℕ) (number at : ℕ) → (reading_numbers (listing_read listing) ≡ number ∷ at ∷ []) ↔ ListingTurned listing number at

-- A listing that ends inside the `*filter` part, as one cut short in transfer, is never brought in.
abbrev pub CutShortRefused : Type 0
CutShortRefused = (listing : List ℕ) (c : Contents) → Inside (lines_of listing) → ¬ (listing_read listing ≡ accepted c)

-- "the file made is accepted by the reader and its contents are the list that the definition gives"
abbrev pub FileReadsBack : Type 0
FileReadsBack = (listing : List ℕ) (c : Contents) → listing_read listing ≡ accepted c
    → Valid c × AreBytes (file_of c) × (read_file (file_of c) ≡ accepted c)

-- No file of a listing is longer than that of 512 rules and a default.
abbrev pub most_file : ℕ
most_file = 17418

abbrev pub FileFits : Type 0
FileFits = (listing : List ℕ) (c : Contents) → listing_read listing ≡ accepted c → length (file_of c) ≤ most_file

-- "every flow is decided by the file's policy as by the first line of the listing that matches it, repeated lines included .., or the `:FORWARD` policy";
-- both policies are that one.
abbrev pub DecidedByFirstLine : Type 0
DecidedByFirstLine = (listing : List ℕ) (c : Contents) (rules : List Rule) (action : Action) (flow : Flow) → listing_read listing ≡ accepted c
    → Passes (lines_of listing) rules (action ∷ [])
    → (decided (matching c.catalogue flow) (initial_policy c) ≡ by_first rules action flow) × (target_policy c ≡ initial_policy c)

-- The entry: "Nothing is written before all have passed" ..
abbrev pub FileKeepsPlace : Type 0
FileKeepsPlace = (listing place : List ℕ) (number at : ℕ) → written_numbers (file_of_listing listing place).answer ≡ number ∷ at ∷ []
    → (file_of_listing listing place).place ≡ place

-- .. "13 last, at the bytes needed": exactly when the listing is brought in and the place is smaller than its file ..
abbrev pub FileForRoom : Type 0
FileForRoom = (listing place : List ℕ) (at : ℕ)
    → (written_numbers (file_of_listing listing place).answer ≡ 13 ∷ at ∷ []) ↔ TooSmall file_of (listing_read listing) place at

-- .. and every other number is the listing's, however large the place is.
abbrev pub FileForListing : Type 0
FileForListing = (listing place : List ℕ) (number at : ℕ) → ¬ (number ≡ 13)
    → (written_numbers (file_of_listing listing place).answer ≡ number ∷ at ∷ []) ↔ ListingTurned listing number at

-- All of this of the entry, by its answer and what it leaves in the place.
pub record ListingRefuses (listing : List ℕ) (answer : Result ℕ Refusal) (before after : List ℕ) : Type 0 where
  pub keeps : (number at : ℕ) → written_numbers answer ≡ number ∷ at ∷ [] → after ≡ before
  pub room : (at : ℕ) → (written_numbers answer ≡ 13 ∷ at ∷ []) ↔ TooSmall file_of (listing_read listing) before at
  pub row : (number at : ℕ) → ¬ (number ≡ 13) → (written_numbers answer ≡ number ∷ at ∷ []) ↔ ListingTurned listing number at
