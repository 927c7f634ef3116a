-- 01, "Examples on each side": the whole text of document 01's first example. Assumes nothing.
use Rattle.std.specs.Prelude.{◌≡◌, [], ◌∷◌}
use Rattle.std.proofs.Math.Option.{none}
use Rattle.policy.specs.declared.Action.{Action}
use Rattle.deployment.specs.Contents.{Contents}
use Rattle.lines.specs.Text.{text}
use Rattle.listing.specs.Text.{plan_text}

-- "I = 0 1 2 3, T = 1 0 4 3, keep absent"; the text depends neither on the catalogue nor on the default
unfoldable pub first_example : Action → Contents
first_example default =
    record {
      catalogue = [];
      initial = 0 ∷ 1 ∷ 2 ∷ 3 ∷ [];
      target = 1 ∷ 0 ∷ 4 ∷ 3 ∷ [];
      default = default;
      keep = none;
      script = none;
    }

-- "For the first example it prints exactly"
abbrev pub FirstExamplePrinted : Type 0
FirstExamplePrinted =
    (default : Action)
    → plan_text (first_example default)
    ≡ text
    "type 1 initial 4 target 4 kept 1 commands 6\n1 del 3\n2 del 2\n3 del 0\n4 app 0\n5 app 4\n6 app 3\ntype 2 initial 4 target 4 kept 2 commands 3\n1 ins 3 4\n2 del 4\n3 mov 1 2\n"
