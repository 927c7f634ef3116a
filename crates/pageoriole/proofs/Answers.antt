-- Any two answers that a contract allows are equal: the number, every word of the answer and every byte of the place that were lent. Each
-- follows from the contract as the checker reads it, so a weaker contract breaks it. Assumes nothing.
use mathlib.Core.Path.{◌≡◌, sym, ◌∙◌}
use Prim.Native.Nat.{ℕ}
use mathlib.Core.List.{List}
use Rattle.told.proofs.Answers.{one_told}
use Rattle.pageoriole.specs.Answers.{Outcome, Leaves}
use Rattle.pageoriole.proofs.files.pageoriole_read.Reads as read
use Rattle.pageoriole.proofs.files.pageoriole_read_to_judge.Reads as read-to-judge
use Rattle.pageoriole.proofs.files.pageoriole_decide_file.Reads as decide-file
use Rattle.pageoriole.proofs.files.pageoriole_decide_flows_file.Reads as decide-flows-file
use Rattle.pageoriole.proofs.files.pageoriole_replay_file.Reads as replay-file
use Rattle.pageoriole.proofs.files.pageoriole_plan_one_file.Reads as plan-one-file
use Rattle.pageoriole.proofs.files.pageoriole_plan_two_file.Reads as plan-two-file
use Rattle.pageoriole.proofs.files.pageoriole_judge_file.Reads as judge-file
use Rattle.pageoriole.proofs.files.pageoriole_plan_text.Reads as plan-text
use Rattle.pageoriole.proofs.files.pageoriole_show_text.Reads as show-text
use Rattle.pageoriole.proofs.files.pageoriole_judge_text.Reads as judge-text
use Rattle.pageoriole.proofs.texts.pageoriole_script_text.Reads as script-text
use Rattle.pageoriole.proofs.texts.pageoriole_script_text_file.Reads as script-text-file
use Rattle.pageoriole.proofs.texts.pageoriole_plan_one_text.Reads as plan-one-text
use Rattle.pageoriole.proofs.texts.pageoriole_plan_two_text.Reads as plan-two-text
use Rattle.pageoriole.proofs.texts.pageoriole_text_script.Reads as text-script
use Rattle.pageoriole.proofs.listings.pageoriole_from_iptables.Reads as from-iptables
use Rattle.pageoriole.proofs.lists.pageoriole_check.Reads as check
use Rattle.pageoriole.proofs.lists.pageoriole_write.Reads as write
use Rattle.pageoriole.proofs.lists.pageoriole_decide.Reads as decide
use Rattle.pageoriole.proofs.lists.pageoriole_decide_flows.Reads as decide-flows
use Rattle.pageoriole.proofs.lists.pageoriole_replay.Reads as replay
use Rattle.pageoriole.proofs.lists.pageoriole_plan_one.Reads as plan-one
use Rattle.pageoriole.proofs.lists.pageoriole_plan_two.Reads as plan-two
use Rattle.pageoriole.proofs.lists.pageoriole_judge.Reads as judge

one_left : {o : Outcome} {r s : ℕ} {before after other place elsewhere : List ℕ} → Leaves o r before after place → Leaves o s before other elsewhere
    → (r ≡ s) × (after ≡ other) × (place ≡ elsewhere)
one_left p q =
    let told = one_told p.tells q.tells in
    (told.0, told.1, p.held ∙ sym q.held)

pub one_read : (κ : _) (a : _) (r s : ℕ) (e f : _) → read.Post κ a r e → read.Post κ a s f
    → (r ≡ s) × (e.1.0.now ≡ f.1.0.now)
one_read κ a r s e f p q = one_told p q

pub one_read_to_judge : (κ : _) (a : _) (r s : ℕ) (e f : _) → read-to-judge.Post κ a r e → read-to-judge.Post κ a s f
    → (r ≡ s) × (e.1.0.now ≡ f.1.0.now)
one_read_to_judge κ a r s e f p q = one_told p q

pub one_decide_file : (κ : _) (a : _) (r s : ℕ) (e f : _) → decide-file.Post κ a r e → decide-file.Post κ a s f
    → (r ≡ s) × (e.1.1.1.1.1.1.1.0.now ≡ f.1.1.1.1.1.1.1.0.now)
one_decide_file κ a r s e f p q = one_told p q

pub one_decide_flows_file : (κ : _) (a : _) (r s : ℕ) (e f : _) → decide-flows-file.Post κ a r e → decide-flows-file.Post κ a s f
    → (r ≡ s) × (e.1.1.1.1.0.now ≡ f.1.1.1.1.0.now) × (e.1.1.1.0.now ≡ f.1.1.1.0.now)
one_decide_flows_file κ a r s e f p q = one_left p q

pub one_replay_file : (κ : _) (a : _) (r s : ℕ) (e f : _) → replay-file.Post κ a r e → replay-file.Post κ a s f
    → (r ≡ s) × (e.1.1.0.now ≡ f.1.1.0.now) × (e.1.0.now ≡ f.1.0.now)
one_replay_file κ a r s e f p q = one_left p q

pub one_plan_one_file : (κ : _) (a : _) (r s : ℕ) (e f : _) → plan-one-file.Post κ a r e → plan-one-file.Post κ a s f
    → (r ≡ s) × (e.1.1.0.now ≡ f.1.1.0.now) × (e.1.0.now ≡ f.1.0.now)
one_plan_one_file κ a r s e f p q = one_left p q

pub one_plan_two_file : (κ : _) (a : _) (r s : ℕ) (e f : _) → plan-two-file.Post κ a r e → plan-two-file.Post κ a s f
    → (r ≡ s) × (e.1.1.0.now ≡ f.1.1.0.now) × (e.1.0.now ≡ f.1.0.now)
one_plan_two_file κ a r s e f p q = one_left p q

pub one_judge_file : (κ : _) (a : _) (r s : ℕ) (e f : _) → judge-file.Post κ a r e → judge-file.Post κ a s f
    → (r ≡ s) × (e.1.0.now ≡ f.1.0.now)
one_judge_file κ a r s e f p q = one_told p q

pub one_plan_text : (κ : _) (a : _) (r s : ℕ) (e f : _) → plan-text.Post κ a r e → plan-text.Post κ a s f
    → (r ≡ s) × (e.1.1.0.now ≡ f.1.1.0.now) × (e.1.0.now ≡ f.1.0.now)
one_plan_text κ a r s e f p q = one_left p q

pub one_judge_text : (κ : _) (a : _) (r s : ℕ) (e f : _) → judge-text.Post κ a r e → judge-text.Post κ a s f
    → (r ≡ s) × (e.1.1.0.now ≡ f.1.1.0.now) × (e.1.0.now ≡ f.1.0.now)
one_judge_text κ a r s e f p q = one_left p q

pub one_show_text : (κ : _) (a : _) (r s : ℕ) (e f : _) → show-text.Post κ a r e → show-text.Post κ a s f
    → (r ≡ s) × (e.1.1.0.now ≡ f.1.1.0.now) × (e.1.0.now ≡ f.1.0.now)
one_show_text κ a r s e f p q = one_left p q

pub one_script_text : (κ : _) (a : _) (r s : ℕ) (e f : _) → script-text.Post κ a r e → script-text.Post κ a s f
    → (r ≡ s) × (e.1.1.1.0.now ≡ f.1.1.1.0.now) × (e.1.1.0.now ≡ f.1.1.0.now)
one_script_text κ a r s e f p q = one_left p q

pub one_script_text_file : (κ : _) (a : _) (r s : ℕ) (e f : _) → script-text-file.Post κ a r e → script-text-file.Post κ a s f
    → (r ≡ s) × (e.1.1.1.0.now ≡ f.1.1.1.0.now) × (e.1.1.0.now ≡ f.1.1.0.now)
one_script_text_file κ a r s e f p q = one_left p q

pub one_plan_one_text : (κ : _) (a : _) (r s : ℕ) (e f : _) → plan-one-text.Post κ a r e → plan-one-text.Post κ a s f
    → (r ≡ s) × (e.1.1.1.0.now ≡ f.1.1.1.0.now) × (e.1.1.0.now ≡ f.1.1.0.now)
one_plan_one_text κ a r s e f p q = one_left p q

pub one_plan_two_text : (κ : _) (a : _) (r s : ℕ) (e f : _) → plan-two-text.Post κ a r e → plan-two-text.Post κ a s f
    → (r ≡ s) × (e.1.1.1.0.now ≡ f.1.1.1.0.now) × (e.1.1.0.now ≡ f.1.1.0.now)
one_plan_two_text κ a r s e f p q = one_left p q

pub one_text_script : (κ : _) (a : _) (r s : ℕ) (e f : _) → text-script.Post κ a r e → text-script.Post κ a s f
    → (r ≡ s) × (e.1.1.1.1.0.now ≡ f.1.1.1.1.0.now) × (e.1.1.1.0.now ≡ f.1.1.1.0.now)
one_text_script κ a r s e f p q = one_left p q

pub one_from_iptables : (κ : _) (a : _) (r s : ℕ) (e f : _) → from-iptables.Post κ a r e → from-iptables.Post κ a s f
    → (r ≡ s) × (e.1.1.0.now ≡ f.1.1.0.now) × (e.1.0.now ≡ f.1.0.now)
one_from_iptables κ a r s e f p q = one_left p q

pub one_check : (κ : _) (a : _) (r s : ℕ) (e f : _) → check.Post κ a r e → check.Post κ a s f
    → (r ≡ s) × (e.1.1.1.1.1.1.1.1.1.0.now ≡ f.1.1.1.1.1.1.1.1.1.0.now)
one_check κ a r s e f p q = one_told p q

pub one_write : (κ : _) (a : _) (r s : ℕ) (e f : _) → write.Post κ a r e → write.Post κ a s f
    → (r ≡ s) × (e.1.1.1.1.1.1.1.1.1.1.0.now ≡ f.1.1.1.1.1.1.1.1.1.1.0.now) × (e.1.1.1.1.1.1.1.1.1.0.now ≡ f.1.1.1.1.1.1.1.1.1.0.now)
one_write κ a r s e f p q = one_left p q

pub one_decide : (κ : _) (a : _) (r s : ℕ) (e f : _) → decide.Post κ a r e → decide.Post κ a s f
    → (r ≡ s) × (e.1.1.1.1.1.1.1.1.1.0.now ≡ f.1.1.1.1.1.1.1.1.1.0.now)
one_decide κ a r s e f p q = one_told p q

pub one_decide_flows : (κ : _) (a : _) (r s : ℕ) (e f : _) → decide-flows.Post κ a r e → decide-flows.Post κ a s f
    → (r ≡ s) × (e.1.1.1.1.1.1.0.now ≡ f.1.1.1.1.1.1.0.now) × (e.1.1.1.1.1.0.now ≡ f.1.1.1.1.1.0.now)
one_decide_flows κ a r s e f p q = one_left p q

pub one_replay : (κ : _) (a : _) (r s : ℕ) (e f : _) → replay.Post κ a r e → replay.Post κ a s f
    → (r ≡ s) × (e.1.1.1.1.1.1.0.now ≡ f.1.1.1.1.1.1.0.now) × (e.1.1.1.1.1.0.now ≡ f.1.1.1.1.1.0.now)
one_replay κ a r s e f p q = one_left p q

pub one_plan_one : (κ : _) (a : _) (r s : ℕ) (e f : _) → plan-one.Post κ a r e → plan-one.Post κ a s f
    → (r ≡ s) × (e.1.1.1.1.1.1.1.1.1.1.0.now ≡ f.1.1.1.1.1.1.1.1.1.1.0.now) × (e.1.1.1.1.1.1.1.1.1.0.now ≡ f.1.1.1.1.1.1.1.1.1.0.now)
one_plan_one κ a r s e f p q = one_left p q

pub one_plan_two : (κ : _) (a : _) (r s : ℕ) (e f : _) → plan-two.Post κ a r e → plan-two.Post κ a s f
    → (r ≡ s) × (e.1.1.1.1.1.1.1.1.1.1.0.now ≡ f.1.1.1.1.1.1.1.1.1.1.0.now) × (e.1.1.1.1.1.1.1.1.1.0.now ≡ f.1.1.1.1.1.1.1.1.1.0.now)
one_plan_two κ a r s e f p q = one_left p q

pub one_judge : (κ : _) (a : _) (r s : ℕ) (e f : _) → judge.Post κ a r e → judge.Post κ a s f
    → (r ≡ s) × (e.1.1.1.1.1.1.1.1.0.now ≡ f.1.1.1.1.1.1.1.1.0.now)
one_judge κ a r s e f p q = one_told p q
