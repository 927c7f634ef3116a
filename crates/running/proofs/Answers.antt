-- "Each public entry promises one answer for each input": any two answers that a method's contract allows show the same. A list shows its first
-- `len` slots, and what lies behind them is nobody's; numbers and namings are equal outright. Each follows from the contract as the checker
-- reads it, so a weaker contract breaks it. Each editing method refuses by number what the table says, where the place that it is told is the
-- rule's. Assumes nothing.
use Prim.Native.Nat.{ℕ, ◌<◌}
use mathlib.Core.Path.{◌≡◌, sym, ◌∙◌, ap, subst}
use lib.ListN.{length}
use Rattle.running.specs.declared.Running.{Running}
use Rattle.running.specs.declared.Edited.{Edited}
use Rattle.running.specs.declared.Naming.{Naming}
use Rattle.policy.specs.declared.Command.TheVariants.{App, DelRule, Ins, DelPlace, Mov}
use Rattle.policy.specs.Policy.{most_rules}
use Rattle.running.specs.Running.{view, shown, appended, rule_deleted, inserted}
use Rattle.running.specs.Place.{place_in}
use Rattle.running.specs.Claims.{ByNumber}
use Rattle.running.proofs.Claims.{place_deleted_by_number, relocated_by_number, rule_deleted_by_number, appended_by_number, inserted_by_number}
use Rattle.running.proofs.Running.empty.Reads as empty
use Rattle.running.proofs.Running.count.Reads as count
use Rattle.running.proofs.Running.app.Reads as app
use Rattle.running.proofs.Running.del_rule.Reads as del-rule
use Rattle.running.proofs.Running.ins.Reads as ins
use Rattle.running.proofs.Running.del_place.Reads as del-place
use Rattle.running.proofs.Running.mov.Reads as mov
use Rattle.running.proofs.Running.naming.Reads as naming

pub one_empty : (κ : _) (a : _) (r s : Running) (e f : _) → empty.Post κ a r e → empty.Post κ a s f → view r ≡ view s
one_empty κ a r s e f p q = p ∙ sym q

pub one_count : (κ : _) (a : _) (r s : ℕ) (e f : _) → count.Post κ a r e → count.Post κ a s f → r ≡ s
one_count κ a r s e f p q = p ∙ sym q

pub one_app : (κ : _) (a : _) (r s : Edited) (e f : _) → app.Post κ a r e → app.Post κ a s f → shown r ≡ shown s
one_app κ a r s e f p q = p ∙ sym q

pub one_del_rule : (κ : _) (a : _) (r s : Edited) (e f : _) → del-rule.Post κ a r e → del-rule.Post κ a s f → shown r ≡ shown s
one_del_rule κ a r s e f p q = p ∙ sym q

pub one_ins : (κ : _) (a : _) (r s : Edited) (e f : _) → ins.Post κ a r e → ins.Post κ a s f → shown r ≡ shown s
one_ins κ a r s e f p q = p ∙ sym q

pub one_del_place : (κ : _) (a : _) (r s : Edited) (e f : _) → del-place.Post κ a r e → del-place.Post κ a s f → shown r ≡ shown s
one_del_place κ a r s e f p q = p ∙ sym q

pub one_mov : (κ : _) (a : _) (r s : Edited) (e f : _) → mov.Post κ a r e → mov.Post κ a s f → shown r ≡ shown s
one_mov κ a r s e f p q = p ∙ sym q

pub one_naming : (κ : _) (a : _) (r s : Naming) (e f : _) → naming.Post κ a r e → naming.Post κ a s f → r ≡ s
one_naming κ a r s e f p q = p ∙ sym q

-- what each edit gives, by number
pub del_place_by_number : (κ : _) (a : _) (r : Edited) (e : _) → del-place.Post κ a r e
    → (size : ℕ) → ByNumber size (view a.0) (DelPlace a.1.0) (shown r)
del_place_by_number κ a r e p size =
    subst (ByNumber size (view a.0) (DelPlace a.1.0)) (sym p) (place_deleted_by_number size (view a.0) a.1.0)

pub mov_by_number : (κ : _) (a : _) (r : Edited) (e : _) → mov.Post κ a r e
    → (size : ℕ) → ByNumber size (view a.0) (Mov a.1.0 a.1.1.0) (shown r)
mov_by_number κ a r e p size =
    subst (ByNumber size (view a.0) (Mov a.1.0 a.1.1.0)) (sym p) (relocated_by_number size (view a.0) a.1.0 a.1.1.0)

pub del_rule_by_number : (κ : _) (a : _) (r : Edited) (e : _) → del-rule.Post κ a r e
    → a.1.1.1.0 ≡ place_in a.1.1.0 (view a.0)
    → ByNumber a.1.0 (view a.0) (DelRule a.1.1.0) (shown r)
del_rule_by_number κ a r e p told =
    subst (ByNumber a.1.0 (view a.0) (DelRule a.1.1.0))
    (sym (p ∙ ap (rule_deleted a.1.0 (view a.0) a.1.1.0) told))
    (rule_deleted_by_number a.1.0 (view a.0) a.1.1.0)

pub app_by_number : (κ : _) (a : _) (r : Edited) (e : _) → app.Post κ a r e
    → a.1.1.1.0 ≡ place_in a.1.1.0 (view a.0) → length (view a.0) < most_rules
    → ByNumber a.1.0 (view a.0) (App a.1.1.0) (shown r)
app_by_number κ a r e p told free =
    subst (ByNumber a.1.0 (view a.0) (App a.1.1.0))
    (sym (p ∙ ap (appended a.1.0 (view a.0) a.1.1.0) told))
    (appended_by_number a.1.0 (view a.0) a.1.1.0 free)

pub ins_by_number : (κ : _) (a : _) (r : Edited) (e : _) → ins.Post κ a r e
    → a.1.1.1.1.0 ≡ place_in a.1.1.1.0 (view a.0) → length (view a.0) < most_rules
    → ByNumber a.1.0 (view a.0) (Ins a.1.1.0 a.1.1.1.0) (shown r)
ins_by_number κ a r e p told free =
    subst (ByNumber a.1.0 (view a.0) (Ins a.1.1.0 a.1.1.1.0))
    (sym (p ∙ ap (inserted a.1.0 (view a.0) a.1.1.0 a.1.1.1.0) told))
    (inserted_by_number a.1.0 (view a.0) a.1.1.0 a.1.1.1.0 free)
