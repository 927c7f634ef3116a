-- What specs/Claims.antt claims. A text is parted into lines that pass and what is behind them (Whole.antt), so it is read as what its words are,
-- or stops at the first wrong line; a line in front has one reading (Line.antt), so equal texts have equal words; and no line is longer than that
-- of a move of the greatest numbers (Longest.antt). Assumes nothing.
use Prim.Native.Nat.{ℕ, ◌≤◌, ◌<◌}
use native.Mathlib.Omega.{arith}
use mathlib.Core.Path.{◌≡◌, refl, sym, ◌∙◌, ap}
use mathlib.Core.Bool.{false}
use mathlib.Core.Logic.{⊎_elim}
use mathlib.Core.Option.{some}
use mathlib.Core.List.Memᴰ
use mathlib.Core.List.{
  List,
  [],
  ◌∷◌,
  map,
  Memᴰ,
  map-map,
  map-id,
}
use lib.Dec.{eqb}
use lib.ListN.{length, length-map}
use Rattle.policy.specs.Policy.{most_commands}
use Rattle.policy.specs.Command.{Coded, coded, codes_of, is_type}
use Rattle.policy.specs.Replay.{lists}
use Rattle.policy.specs.Properties.{Allows, ScriptType}
use Rattle.policy.specs.declared.Command.{Command}
use Rattle.policy.proofs.Tests.{by_test, falsely}
use Rattle.policy.proofs.Types.{is_type_lem}
use Rattle.console.specs.Makers.{heard, said, again}
use Rattle.console.specs.declared.Maker.{Maker}
use Rattle.console.specs.declared.Maker.TheVariants.{A, B}
use Rattle.console.proofs.Words.{heard_code, said_code, said_one, coded_said, said_small, said_small_by_a}
use Rattle.console.proofs.Claims.{said_and_heard, heard_and_said, same_lists}
use Rattle.deployment.specs.Checked.{good, why_number, refusal_numbers}
use Rattle.deployment.specs.Values.{command_from, Script}
use Rattle.deployment.specs.Properties.{Scripted}
use Rattle.deployment.specs.declared.Refusal.{Refusal}
use Rattle.deployment.proofs.Scripts.{command_read_lem}
use Rattle.numerals.specs.Numerals.{Got}
use Rattle.console_text.specs.Text.{lines_of, script_text}
use Rattle.console_text.specs.Reading.{any_read, most_second, understood, turned, text_read, text_numbers}
use Rattle.console_text.specs.Properties.{Bounded, Readable}
use Rattle.console_text.specs.Claims.{
  WrittenAndRead,
  TextAccepted,
  TextRefused,
  TypeRefused,
  OneReading,
  ReadAndWritten,
  SameTextAgain,
  RunsAlike,
  LongestText,
}
use Rattle.console_text.proofs.Line.{line_read_lem}
use Rattle.console_text.proofs.FirstLine.{some_line}
use Rattle.console_text.proofs.Whole.{text_understood, text_turned, by_parts}
use Rattle.console_text.proofs.Longest.{no_longer, same_moves, moves_scripted, moves_long, most_reached}

-- Accepted and refused, by how the text is parted.
understood_turned {ℓ} : {A : Type ℓ} {commands : List Command} {refusal : Refusal} → understood commands ≡ turned refusal → A
understood_turned {commands} {refusal} e = absurd (let z : ◌≡◌ {A = ℕ} 0 1 = cc in omega arith)

pub text_accepted : TextAccepted
text_accepted m type s commands is = (
  λ read. by_parts m type s is
      (λ words same h e. record { words = words; is = same; readable = h; read = cc })
      (λ why line stop e. understood_turned (sym read ∙ e)),
  λ r. ap (text_read m type) r.is ∙ text_understood m type r.words is r.readable ∙ ap understood (sym r.read),
)

pub text_refused : TextRefused
unfolding text_numbers refusal_numbers
text_refused m type s number line is = (
  λ read. by_parts m type s is
      (λ words same h e. let none : [] ≡ number ∷ line ∷ [] = rw e at read in absurd (omega (arith, ap length none)))
      (λ why at stop e.
      let same : why_number why ∷ at ∷ [] ≡ number ∷ line ∷ [] = rw e at read in
      let first : why_number why ≡ number = cc in
      let second : at ≡ line = cc in
      rw (first, second) at stop),
  λ stop.
      let (why, numbered, read) = text_turned m type number stop.words stop.rest is stop.read stop.wrong in
      rw (stop.is, read, stop.counted, numbered),
)

pub type_refused : TypeRefused
unfolding text_read text_numbers refusal_numbers
type_refused m type s none = let other : is_type type ≡ false = falsely (λ t. none (is_type_lem type t)) in rw other

-- a text that is understood has a type
understood_type : (m : Maker) (type : ℕ) (s : List ℕ) (commands : List Command) → text_read m type s ≡ understood commands → ScriptType type
unfolding text_read
understood_type m type s commands read =
    by_test (is_type type) (λ t. is_type_lem type t) (λ f. understood_turned (sym (rw f at read)))

understood_as : (m : Maker) (type : ℕ) (words commands : List Command) → text_read m type (lines_of m words) ≡ understood commands
    → Readable m type words → commands ≡ map (heard m) words
understood_as m type words commands read h =
    let e = text_understood m type words (understood_type m type (lines_of m words) commands read) h in cc

-- Equal texts have equal words: the line in front has one reading.
coded_once : (type : ℕ) (k j : Command) → Allows type k → Allows type j → coded k ≡ coded j → k ≡ j
coded_once type k j typed others e =
    let one : some k ≡ some j = sym (command_read_lem type k typed) ∙ ap (command_from type) e ∙ command_read_lem type j others in cc

same_line : {a b : Got Coded} → good a ≡ good b → a ≡ b
same_line {a} {b} e = cc

pub one_reading : OneReading
unfolding lines_of
one_reading m type [] [] h g e = refl
one_reading m type [] (j ∷ others) h g e = absurd (some_line m j (lines_of m others) (sym e))
one_reading m type (k ∷ words) [] h g e = absurd (some_line m k (lines_of m words) e)
one_reading m type (k ∷ words) (j ∷ others) h g e =
    let typed = h k (Memᴰ.head refl) in
    let as_typed = g j (Memᴰ.head refl) in
    let same =
    same_line (sym (line_read_lem m type k (lines_of m words) typed)
    ∙ ap (any_read m (codes_of type)) e ∙ line_read_lem m type j (lines_of m others) as_typed) in
    let codes : coded k ≡ coded j = ap (λ (got : Got Coded). got.value) same in
    let behind : lines_of m words ≡ lines_of m others = ap (λ (got : Got Coded). got.rest) same in
    let first = coded_once type k j typed as_typed codes in
    let rest = one_reading m type words others (λ c t. h c (Memᴰ.tail t)) (λ c t. g c (Memᴰ.tail t)) behind in
    λ i. first i ∷ rest i

-- Read and written again.
map_alike : (f g : Command → Command) (l : List Command) → ((k : Command) → Memᴰ k l → f k ≡ g k) → map f l ≡ map g l
map_alike f g [] h = refl
map_alike f g (k ∷ l) h = λ i. h k (Memᴰ.head refl) i ∷ map_alike f g l (λ j t. h j (Memᴰ.tail t)) i

pub read_and_written : ReadAndWritten
unfolding script_text
read_and_written m type words commands read h =
    rw (understood_as m type words commands read h)
    (ap (lines_of m)
    (map-map (said m) (heard m) words ∙ map_alike (λ k. said m (heard m k)) (again m) words (λ k t. heard_and_said m k)))

again_typed : (m : Maker) (type : ℕ) (words : List Command) → Readable m type words
    → (k : Command) → Memᴰ k (map (again m) words) → Allows type k
again_typed m type words h k t =
    let (c, there, is) = Memᴰ.of_map (again m) words t in
    let code : (coded (again m c)).code ≡ (coded c).code = rw (← heard_and_said m c) (said_code m (heard m c) ∙ heard_code m c) in
    rw (← is, code) (h.typed c there)

map_still : (f : Command → Command) (l : List Command) → map f l ≡ l → (k : Command) → Memᴰ k l → f k ≡ k
map_still f [] e k t = absurd (Memᴰ.not-nil t)
map_still f (c ∷ l) e k t =
    ⊎_elim (λ same. let first : f c ≡ c = cc in rw same first)
    (λ u. map_still f l (cc) k u) (Memᴰ.cases_cons t)

pub same_text_again : SameTextAgain
same_text_again m type words commands read h =
    let written = read_and_written m type words commands read h in (
      λ same. map_still (again m) words
          (one_reading m type (map (again m) words) words (again_typed m type words h) h.typed (sym written ∙ same)),
      λ still. written ∙ ap (lines_of m) (map_alike (again m) (λ k. k) words still ∙ map-id words),
    )

pub runs_alike : RunsAlike
runs_alike m type size l words commands read h d =
    same_lists m size l words d ∙ ap (lists size l) (sym (understood_as m type words commands read h))

-- Written and read: the words of a script are readable.
said_second : (m : Maker) (c : Command) → (coded c).two < 65536 → (coded (said m c)).two ≤ most_second m (coded (said m c)).code
unfolding most_second
said_second A c small = omega (arith, said_small_by_a c small)
said_second B c small =
    by_test (eqb (coded c).code 5)
    (λ t. rw (said_code B c, t) (said_small B c small))
    (λ f. rw (said_code B c, coded_said B c, f) (omega arith))

said_bounded : (m : Maker) (c : Command) → (coded c).one < 65536 → (coded c).two < 65536 → Bounded m (said m c)
said_bounded m c one two = record { one = rw (said_one m c) (omega arith); two = said_second m c two }

said_readable : (m : Maker) (script : Script) → Scripted script → Readable m script.type (map (said m) script.commands)
said_readable m script h =
    record {
      typed = λ k t. let (c, there, is) = Memᴰ.of_map (said m) script.commands t in rw (← is, said_code m c) (h.typed c there);
      bounded = λ k t.
          let (c, there, is) = Memᴰ.of_map (said m) script.commands t in
          rw (← is) (said_bounded m c (h.one c there) (h.two c there));
      few = rw (length-map script.commands (said m)) h.few;
    }

pub written_and_read : WrittenAndRead
unfolding script_text
written_and_read m script h =
    text_understood m script.type (map (said m) script.commands) h.type (said_readable m script h)
    ∙ ap understood
    (map-map (heard m) (said m) script.commands
    ∙ map_alike (λ c. heard m (said m c)) (λ c. c) script.commands (λ c t. said_and_heard m c) ∙ map-id script.commands)

-- The longest text.
pub longest_text : LongestText
longest_text m = (
  no_longer m,
  (same_moves most_commands, moves_scripted most_commands (omega arith), moves_long m most_commands ∙ most_reached m),
)
