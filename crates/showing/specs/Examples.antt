-- Worked examples of the text: contents with every form that a list and a script can take. Its rules are those of
-- `rule_lines`. Assumes nothing.
use Rattle.std.specs.Prelude.{◌≡◌, [], ◌∷◌}
use Rattle.std.proofs.Math.Option.{none, some}
use Rattle.policy.specs.declared.Action.TheVariants.{Deny, Permit}
use Rattle.policy.specs.declared.Command.TheVariants.{App, DelRule, Ins, DelPlace, Mov}
use Rattle.deployment.specs.Contents.{Contents}
use Rattle.lines.specs.Text.{text}
use Rattle.rule_lines.specs.Examples.{web, high_ports, rest}
use Rattle.showing.specs.Text.{show_text}

-- default permit, a keep list, and a script of inserts, deletes and moves
unfoldable pub with_both : Contents
with_both =
    record {
      catalogue = web ∷ high_ports ∷ rest ∷ [];
      initial = 0 ∷ 1 ∷ [];
      target = 2 ∷ 0 ∷ 1 ∷ [];
      default = Permit;
      keep = some (0 ∷ 1 ∷ []);
      script = some (record { type = 2; commands = Ins 1 2 ∷ DelPlace 3 ∷ Mov 1 2 ∷ [] });
    }

abbrev pub WithBothShown : Type 0
WithBothShown =
    show_text with_both
    ≡ text
    "rules 3\n0 permit protocol 6 source 10.0.0.0-10.0.0.255 port any destination 192.168.1.1 port 443\n1 deny protocol 6-17 source any port 1024-65535 destination 0.0.0.0-255.255.255.254 port 0\n2 deny protocol any source any port any destination any port any\ninitial 2\n0 1\ntarget 3\n2 0 1\ndefault permit\nkeep 2\n0 1\nscript type 2 commands 3\n1 ins 1 2\n2 del 3\n3 mov 1 2\n"

-- an empty keep list, a script of appends and deletes
unfoldable pub appended : Contents
appended =
    record {
      catalogue = rest ∷ [];
      initial = 0 ∷ [];
      target = [];
      default = Deny;
      keep = some [];
      script = some (record { type = 1; commands = DelRule 0 ∷ App 0 ∷ [] });
    }

abbrev pub AppendedShown : Type 0
AppendedShown =
    show_text appended
    ≡ text
    "rules 1\n0 deny protocol any source any port any destination any port any\ninitial 1\n0\ntarget 0\ndefault deny\nkeep 0\nscript type 1 commands 2\n1 del 0\n2 app 0\n"

-- neither, and no rule at all
unfoldable pub empty : Contents
empty = record { catalogue = []; initial = []; target = []; default = Deny; keep = none; script = none }

abbrev pub EmptyShown : Type 0
EmptyShown = show_text empty ≡ text "rules 0\ninitial 0\ntarget 0\ndefault deny\nkeep absent\nscript absent\n"

-- an empty script
unfoldable pub no_command : Contents
no_command =
    record { catalogue = []; initial = []; target = []; default = Deny; keep = none; script = some (record { type = 1; commands = [] }) }

abbrev pub NoCommandShown : Type 0
NoCommandShown = show_text no_command ≡ text "rules 0\ninitial 0\ntarget 0\ndefault deny\nkeep absent\nscript type 1 commands 0\n"
