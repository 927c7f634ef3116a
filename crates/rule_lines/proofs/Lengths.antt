-- How long the lines of rules are: a byte has at most three digits, so an address has at most 15 bytes and a rule's line 146; 1,024 rules have at
-- most 149,504, and their head 12. Assumes nothing.
use Prim.Native.Nat.{ℕ, suc, ◌+◌, ◌*◌, ◌^◌, ◌/◌, ◌%◌, ◌≤◌, ◌<◌}
use native.Mathlib.Nat.{mod-lt}
use native.Mathlib.Omega.{arith}
use mathlib.Core.Path.{refl}
use mathlib.Core.Bool.{◌&&◌}
use mathlib.Core.List.{List, [], ◌∷◌, Memᴰ}
use lib.Dec.{eqb}
use lib.ListN.{length, length-append}
use Rattle.policy.specs.Rule.{Range, Rule}
use Rattle.policy.specs.declared.Action.{Action}
use Rattle.policy.specs.declared.Action.TheVariants.{Deny, Permit}
use Rattle.policy.proofs.Tests.{by_test}
use Rattle.deployment.specs.Bytes.{bytes_of}
use Rattle.deployment.specs.Properties.{Sized, Recordable}
use Rattle.lines.specs.Text.{text, decimal, named}
use Rattle.lines.proofs.Digits.{length_decimal}
use Rattle.lines.proofs.Lengths.{two_bytes_short}
use Rattle.rule_lines.specs.Text.{dots, value_text, range_text, action_text, end_text, ends_text, rule_text, rules_text, catalogue_text}

-- Numbers, by their width.
byte_short : (n : ℕ) → length (decimal (n % 256)) ≤ 3
byte_short n = length_decimal 2 (n % 256) (omega (arith, mod-lt n {m = 256} (omega arith)))

address_short : (n : ℕ) → length (value_text 4 n) ≤ 15
unfolding value_text dots bytes_of text
address_short n =
    simp length-append
    (omega (arith, byte_short n, byte_short (n / 256), byte_short (n / 256 / 256), byte_short (n / 256 / 256 / 256)))

protocol_short : (n : ℕ) → n < 256 ^ 1 → length (value_text 1 n) ≤ 3
unfolding value_text
protocol_short n h = length_decimal 2 n (omega arith)

port_short : (n : ℕ) → n < 256 ^ 2 → length (value_text 2 n) ≤ 5
unfolding value_text
port_short n h = length_decimal 4 n (omega arith)

-- Ranges of them: two numbers and a dash, or less.
range_short : (width most : ℕ) (range : Range) → 1 ≤ most → ((n : ℕ) → n < 256 ^ width → length (value_text width n) ≤ most) → Sized width range
    → length (range_text width range) ≤ most + 1 + most
unfolding range_text text
range_short width most range some-digit short sized =
    let low = short range.low (omega (arith, sized.rises, sized.fits)) in
    let high = short range.high sized.fits in
    by_test (eqb range.low 0 && eqb (range.high + 1) (256 ^ width)) (λ t. rw t (omega arith))
    (λ f.
    by_test (eqb range.low range.high) (λ t. rw (f, t) (omega arith))
    (λ g. rw (f, g) (simp length-append (omega arith))))

action_short : (action : Action) → length (action_text action) ≤ 7
unfolding action_text text
action_short Permit = omega arith
action_short Deny = omega arith

end_short : (address port : Range) → Sized 4 address → Sized 2 port → length (end_text address port) ≤ 48
unfolding end_text text
end_short address port sized small =
    simp length-append
    (omega (
      arith,
      range_short 4 15 address (omega arith) (λ n h. address_short n) sized,
      range_short 2 5 port (omega arith) port_short small,
    ))

ends_short : (rule : Rule) → Recordable rule → length (ends_text rule) ≤ 118
unfolding ends_text text
ends_short rule right =
    simp length-append
    (omega (
      arith,
      end_short rule.source rule.source_port right.source right.source_port,
      end_short rule.destination rule.destination_port right.destination right.destination_port,
    ))

rule_short : (n : ℕ) (rule : Rule) → n < 10000 → Recordable rule → length (rule_text n rule) ≤ 146
unfolding rule_text text
rule_short n rule few right =
    simp length-append
    (omega (
      arith,
      length_decimal 3 n few,
      action_short rule.action,
      range_short 1 3 rule.protocol (omega arith) protocol_short right.protocol,
      ends_short rule right,
    ))

rules_short : (n : ℕ) (rules : List Rule) → n + length rules ≤ 10000 → ((rule : Rule) → Memᴰ rule rules → Recordable rule)
    → length (rules_text n rules) ≤ 146 * length rules
unfolding rules_text
rules_short n [] few right = omega arith
rules_short n (rule ∷ rules) few right =
    omega (
      arith,
      length-append (rule_text n rule) (rules_text (suc n) rules),
      rule_short n rule (omega arith) (right rule (Memᴰ.head refl)),
      rules_short (suc n) rules (omega arith) (λ r t. right r (Memᴰ.tail t)),
    )

pub catalogue_short : (catalogue : List Rule) → length catalogue ≤ 1024 → ((rule : Rule) → Memᴰ rule catalogue → Recordable rule)
    → length (catalogue_text catalogue) ≤ 149516
unfolding catalogue_text named text
catalogue_short catalogue few right =
    simp length-append
    (omega (arith, two_bytes_short (length catalogue) (omega arith), rules_short 0 catalogue (omega arith) right))
