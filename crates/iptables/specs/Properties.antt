-- A listing without computing: a word is what it is written as, a rule line is a list of options, each with a meaning, and a line stands in the
-- `*filter` part when such a line opened it and none has ended it. Claims.antt is stated with these. Assumes nothing.
use Rattle.std.specs.Prelude.{ℕ, zero, suc, ◌+◌, ◌*◌, ◌≤◌, ◌<◌, ◌≡◌, ◌⊎◌, ◌≢◌, cond, length}
use mathlib.Core.List.{List, [], ◌∷◌, ◌++◌, Memᴰ}
use Rattle.policy.specs.Policy.{most_rules, most_listed}
use Rattle.policy.specs.Rule.{Range, Rule, matches}
use Rattle.policy.specs.declared.Action.{Action}
use Rattle.policy.specs.declared.Action.TheVariants.{Deny, Permit}
use Rattle.policy.specs.declared.Flow.{Flow}
use Rattle.deployment.specs.Contents.{Contents}
use Rattle.deployment.specs.Properties.{Falling}
use Rattle.lines.specs.Text.{text, decimal}
use Rattle.iptables.specs.Words.{blank, masked, single, full}
use Rattle.iptables.specs.Options.{Given}
use Rattle.iptables.specs.Listing.{Line, opens, closes, default, rule, passed, lines_of, first_only, contents_of}
use Rattle.iptables.specs.declared.Kind.{Kind}
use Rattle.iptables.specs.declared.Kind.TheVariants.{Protocol, Address, Port}

-- pieces put one behind the other with a byte between each two
unfoldable pub joined_by : ℕ → List (List ℕ) → List ℕ
joined_by by [] = []
joined_by by (piece ∷ []) = piece
joined_by by (piece ∷ next ∷ pieces) = piece ++ (by ∷ joined_by by (next ∷ pieces))

-- the pieces of bytes that are "parted by one" byte
pub record Pieces (by : ℕ) (s : List ℕ) (pieces : List (List ℕ)) : Type 0 where
  pub is : s ≡ joined_by by pieces
  pub some : pieces ≢ []
  pub plain : (piece : List ℕ) → Memᴰ piece pieces → ¬ Memᴰ by piece

-- "four decimal numbers 0 to 255 without leading zeros", with dots between them
abbrev pub dotted_text : ℕ → ℕ → ℕ → ℕ → List ℕ
dotted_text a b c d = decimal a ++ (text "." ++ (decimal b ++ (text "." ++ (decimal c ++ (text "." ++ decimal d)))))

abbrev pub address_number : ℕ → ℕ → ℕ → ℕ → ℕ
address_number a b c d = ((a * 256 + b) * 256 + c) * 256 + d

-- "then optionally `/n`, n from 0 to 32"
pub record IsAddress (word : List ℕ) (range : Range) : Type 0 where
  pub a : ℕ
  pub b : ℕ
  pub c : ℕ
  pub d : ℕ
  pub n : ℕ
  pub a_fits : a ≤ 255
  pub b_fits : b ≤ 255
  pub c_fits : c ≤ 255
  pub d_fits : d ≤ 255
  pub n_fits : n ≤ 32
  pub is : ((word ≡ dotted_text a b c d) × (n ≡ 32)) ⊎ (word ≡ dotted_text a b c d ++ (text "/" ++ decimal n))
  pub means : range ≡ masked (address_number a b c d) n

-- "one number 0 to 65535 or a range `low:high`"
abbrev pub IsPorts : List ℕ → Range → Type 0
IsPorts word range =
    (range.low ≤ 65535) × (range.high ≤ 65535)
    × (((word ≡ decimal range.low) × (range.high ≡ range.low)) ⊎ (word ≡ decimal range.low ++ (text ":" ++ decimal range.high)))

-- "tcp, udp, icmp or a number from 1 to 255"
abbrev pub IsProtocol : List ℕ → Range → Type 0
IsProtocol word range =
    (n : ℕ) × (range ≡ single n)
    × (((word ≡ text "tcp") × (n ≡ 6))
    ⊎ (((word ≡ text "udp") × (n ≡ 17))
    ⊎ (((word ≡ text "icmp") × (n ≡ 1))
    ⊎ ((word ≡ decimal n) × (1 ≤ n) × (n ≤ 255)))))

-- what a word of each kind means
abbrev pub Means : Kind → List ℕ → Range → Type 0
Means Protocol word range = IsProtocol word range
Means Address word range = IsAddress word range
Means Port word range = IsPorts word range

-- an option isn't given, or just once, behind so many others
abbrev pub NotGiven : List ℕ → List Given → Type 0
NotGiven option given = (g : Given) → Memᴰ g given → ¬ (g.option ≡ option)

pub record GivenOnce (option word : List ℕ) (given : List Given) (place : ℕ) : Type 0 where
  pub front : List Given
  pub back : List Given
  pub is : given ≡ front ++ (record { option = option; word = word } ∷ back)
  pub before : NotGiven option front
  pub behind : NotGiven option back
  pub counted : place ≡ length front

-- "What isn't given is the full range", and "an option twice" isn't read
abbrev pub RangeIs : Kind → List ℕ → List Given → Range → Type 0
RangeIs kind option given range =
    (NotGiven option given × (range ≡ full kind))
    ⊎ ((word : List ℕ) × (place : ℕ) × GivenOnce option word given place × Means kind word range)

-- "after `-p tcp`": an option, given once, stands behind `-p` with this word
abbrev pub Follows : List ℕ → List ℕ → List Given → Type 0
Follows option protocol given =
    (first : ℕ) × (word : List ℕ) × (second : ℕ)
    × GivenOnce (text "-p") protocol given first × GivenOnce option word given second × (first < second)

-- "only after `-p tcp` or `-p udp` in the line"
abbrev pub PortStands : List ℕ → List Given → Type 0
PortStands option given = NotGiven option given ⊎ (Follows option (text "tcp") given ⊎ Follows option (text "udp") given)

-- "`-m tcp`, `-m udp`: skipped after the same `-p`"
abbrev pub ModuleIs : List ℕ → List Given → Type 0
ModuleIs word given = (place : ℕ) × GivenOnce (text "-m") word given place × Follows (text "-m") word given

abbrev pub ModuleStands : List Given → Type 0
ModuleStands given = NotGiven (text "-m") given ⊎ (ModuleIs (text "tcp") given ⊎ ModuleIs (text "udp") given)

-- "`-j ACCEPT` or `-j DROP`", and the policy of a `:FORWARD` line
abbrev pub IsTarget : List ℕ → Action → Type 0
IsTarget word action = ((word ≡ text "ACCEPT") × (action ≡ Permit)) ⊎ ((word ≡ text "DROP") × (action ≡ Deny))

-- an option that is read
abbrev pub IsOption : List ℕ → Type 0
IsOption option =
    (option ≡ text "-s")
    ⊎ ((option ≡ text "-d")
    ⊎ ((option ≡ text "-p")
    ⊎ ((option ≡ text "--sport")
    ⊎ ((option ≡ text "--dport")
    ⊎ ((option ≡ text "-m")
    ⊎ (option ≡ text "-j"))))))

-- "A rule line": what its options say
pub record RuleSaid (given : List Given) (r : Rule) : Type 0 where
  pub known : (g : Given) → Memᴰ g given → IsOption g.option
  pub target : (word : List ℕ) × (place : ℕ) × GivenOnce (text "-j") word given place × IsTarget word r.action
  pub protocol : RangeIs Protocol (text "-p") given r.protocol
  pub source : RangeIs Address (text "-s") given r.source
  pub source_port : RangeIs Port (text "--sport") given r.source_port
  pub destination : RangeIs Address (text "-d") given r.destination
  pub destination_port : RangeIs Port (text "--dport") given r.destination_port
  pub source_port_stands : PortStands (text "--sport") given
  pub destination_port_stands : PortStands (text "--dport") given
  pub module_stands : ModuleStands given

-- options as text: "words parted by one blank"
unfoldable pub options_text : List Given → List ℕ
options_text [] = []
options_text (g ∷ given) = text " " ++ (g.option ++ (text " " ++ (g.word ++ options_text given)))

abbrev pub Plain : List Given → Type 0
Plain given = (g : Given) → Memᴰ g given → ¬ Memᴰ blank g.option × ¬ Memᴰ blank g.word

-- a rule line, and the rule that it says
pub record SaysRule (line : List ℕ) (r : Rule) : Type 0 where
  pub given : List Given
  pub is : line ≡ text "-A FORWARD" ++ options_text given
  pub plain : Plain given
  pub said : RuleSaid given r

-- "a low above its high"
abbrev pub Crosses : Rule → Type 0
Crosses r = Falling r.source_port ⊎ Falling r.destination_port

-- a chain's name: at least one byte, none of them a blank, a control character or a quotation mark
pub record Name (name : List ℕ) : Type 0 where
  pub some : name ≢ []
  pub plain : (b : ℕ) → Memᴰ b name → (blank < b) × (b ≢ 34)

-- nothing behind a name, or a blank and anything
abbrev pub Ended : List ℕ → Type 0
Ended behind = (behind ≡ []) ⊎ ((s : List ℕ) × (behind ≡ blank ∷ s))

-- what a line of the `*filter` part is
pub data Is (line : List ℕ) : Line → Type 0 where
  filter_line : line ≡ text "*filter" → Is line opens
  other_table : (name : List ℕ) → line ≡ text "*" ++ name → line ≢ text "*filter" → Is line closes
  commit_line : line ≡ text "COMMIT" → Is line closes
  empty_line : line ≡ [] → Is line passed
  comment_line : (comment : List ℕ) → line ≡ text "#" ++ comment → Is line passed
  default_line : (word : List ℕ) (action : Action) (packets bytes : ℕ) → IsTarget word action
      → line ≡ text ":FORWARD " ++ (word ++ (text " [" ++ (decimal packets ++ (text ":" ++ (decimal bytes ++ text "]")))))
      → Is line (default action)
  chain_line : (name behind : List ℕ) → Name name → name ≢ text "FORWARD" → Ended behind → line ≡ text ":" ++ (name ++ behind) → Is line passed
  append_line : (name behind : List ℕ) → Name name → name ≢ text "FORWARD" → Ended behind → line ≡ text "-A " ++ (name ++ behind)
      → Is line passed
  rule_line_lem : (r : Rule) → SaysRule line r → ¬ Crosses r → Is line (rule r)

-- "from a line `*filter` to `COMMIT` or the next line that starts with `*`": the line behind these stands in the part
abbrev pub Ends : List ℕ → Type 0
Ends line = (line ≡ text "COMMIT") ⊎ ((name : List ℕ) × (line ≡ text "*" ++ name))

pub record Inside (lines : List (List ℕ)) : Type 0 where
  pub earlier : List (List ℕ)
  pub within : List (List ℕ)
  pub is : lines ≡ earlier ++ (text "*filter" ∷ within)
  pub unended : (line : List ℕ) → Memᴰ line within → ¬ Ends line

-- the rule and the default that a line has
unfoldable pub rule_in : Line → List Rule
rule_in opens = []
rule_in closes = []
rule_in (default action) = []
rule_in (rule r) = r ∷ []
rule_in passed = []

unfoldable pub default_in : Line → List Action
default_in opens = []
default_in closes = []
default_in (default action) = action ∷ []
default_in (rule r) = []
default_in passed = []

-- lines that pass, the rules of their rule lines and the defaults of their `:FORWARD` lines, in order
pub data Passes : List (List ℕ) → List Rule → List Action → Type 0 where
  no_line : Passes [] [] []
  line_outside : (lines : List (List ℕ)) (rules : List Rule) (defaults : List Action) (line : List ℕ) → Passes lines rules defaults
      → ¬ Inside lines → Passes (lines ++ (line ∷ [])) rules defaults
  line_inside : (lines : List (List ℕ)) (rules : List Rule) (defaults : List Action) (line : List ℕ) (l : Line) → Passes lines rules defaults
      → Inside lines → Is line l → Passes (lines ++ (line ∷ [])) (rules ++ rule_in l) (defaults ++ default_in l)

-- a listing that is brought in, and as what
pub record Accepts (listing : List ℕ) (c : Contents) : Type 0 where
  pub rules : List Rule
  pub action : Action
  pub passes : Passes (lines_of listing) rules (action ∷ [])
  pub whole : ¬ Inside (lines_of listing)
  pub few : length (first_only [] rules) ≤ most_listed
  pub is : c ≡ contents_of (first_only [] rules) action

-- a line of the part behind lines that pass
pub record Reaches (listing line : List ℕ) (at : ℕ) : Type 0 where
  pub front : List (List ℕ)
  pub back : List (List ℕ)
  pub rules : List Rule
  pub defaults : List Action
  pub is : lines_of listing ≡ front ++ (line ∷ back)
  pub passes : Passes front rules defaults
  pub inside : Inside front
  pub counted : at ≡ suc (length front)

-- a line whose low is above its high
abbrev pub LowIsAbove : List ℕ → Type 0
LowIsAbove line = (r : Rule) × SaysRule line r × Crosses r

-- when a listing is turned away with which number, at which line or at 0; each row supposes that the earlier ones don't hold
pub data ListingTurned (listing : List ℕ) : ℕ → ℕ → Type 0 where
  not_read : (line : List ℕ) (at : ℕ) → Reaches listing line at → ((l : Line) → ¬ Is line l) → ¬ LowIsAbove line → ListingTurned listing 57 at
  low_above : (line : List ℕ) (at : ℕ) → Reaches listing line at → LowIsAbove line → ListingTurned listing 58 at
  cut_short : (rules : List Rule) (defaults : List Action) → Passes (lines_of listing) rules defaults → Inside (lines_of listing)
      → ListingTurned listing 57 (suc (length (lines_of listing)))
  not_just_one : (rules : List Rule) (defaults : List Action) → Passes (lines_of listing) rules defaults → ¬ Inside (lines_of listing)
      → length defaults ≢ 1 → ListingTurned listing 57 0
  too_many : (rules : List Rule) (action : Action) → Passes (lines_of listing) rules (action ∷ []) → ¬ Inside (lines_of listing)
      → most_rules < length (first_only [] rules) → ListingTurned listing 7 0
  too_long : (rules : List Rule) (action : Action) → Passes (lines_of listing) rules (action ∷ []) → ¬ Inside (lines_of listing)
      → length (first_only [] rules) ≤ most_rules → most_listed < length (first_only [] rules) → ListingTurned listing 4 0

-- "the first line of the listing that matches it, repeated lines included, or the `:FORWARD` policy"
unfoldable pub by_first : List Rule → Action → Flow → Action
by_first [] action flow = action
by_first (r ∷ rules) action flow = cond (matches r flow) r.action (by_first rules action flow)
