-- Any two answers that a contract allows are equal, with every byte of the place that was lent; a replay that gives no list keeps that
-- place as it was; and flows decided at once are decided as one by one. Each follows from the contract as the checker reads it, so a
-- weaker contract breaks it. Assumes nothing.
use mathlib.Core.Path.{◌≡◌, refl, sym, ◌∙◌, ap}
use Prim.Native.Nat.{ℕ, ◌<◌}
use mathlib.Core.List.{List}
use lib.ListN.{length}
use Rattle.policy.specs.Replay.{Replayed, ended, broken}
use Rattle.deployment.specs.Checked.{Checked, good, bad}
use Rattle.deployment.specs.Values.{numbers_bytes}
use Rattle.deployment.specs.File.{Reading, accepted, refused, read_file, read_to_judge}
use Rattle.deployment.specs.FieldValues.{lent, Left, left_by, Writing}
use Rattle.deployment.specs.Properties.{AreBytes}
use Rattle.deployment.specs.declared.Refusal.{Refusal}
use Rattle.std.specs.Prelude.{Result, Ok, Err}
use Rattle.policy.specs.declared.Decision.{Decision}
use Rattle.deployment.proofs.Lent.{same_left, sent_cases}
use Rattle.flows.specs.Claims.{flow_count, flow_at, decision_at}
use Rattle.last_list.specs.Last.{Ran, turned, replay_left, replayed_at_zero}
use Rattle.entries.specs.Answers.{
  decided_reading,
  decided_values,
  decided_at_zero,
  replayed_contents,
  replayed_reading,
  replayed_values,
}
use Rattle.entries.proofs.files.decide.Reads as decide-file
use Rattle.entries.proofs.Claims.{file_flows_decided, values_flows_decided, file_flows_keep_rest, values_flows_keep_rest}
use Rattle.entries.proofs.files.decide_flows.Reads as flows-file
use Rattle.entries.proofs.files.replay.Reads as replay-file
use Rattle.entries.proofs.lists.decide.Reads as decide-lists
use Rattle.entries.proofs.lists.decide_flows.Reads as flows-lists
use Rattle.entries.proofs.lists.replay.Reads as replay-lists

pub one_decision_of_a_file : (κ : _) (a : _) (r s : Result Decision Refusal) (e f : _) → decide-file.Post κ a r e → decide-file.Post κ a s f → r ≡ s
one_decision_of_a_file κ a r s e f p q = p ∙ sym q

pub one_decision_of_lists : (κ : _) (a : _) (r s : Result Decision Refusal) (e f : _) → decide-lists.Post κ a r e → decide-lists.Post κ a s f → r ≡ s
one_decision_of_lists κ a r s e f p q = p ∙ sym q

pub one_answer_to_flows_of_a_file : (κ : _) (a : _) (r s : Result ℕ Refusal) (e f : _) → flows-file.Post κ a r e → flows-file.Post κ a s f
    → (r ≡ s) × (e.1.1.1.0.now ≡ f.1.1.1.0.now)
one_answer_to_flows_of_a_file κ a r s e f p q = same_left p q

pub one_answer_to_flows_of_lists : (κ : _) (a : _) (r s : Result ℕ Refusal) (e f : _) → flows-lists.Post κ a r e → flows-lists.Post κ a s f
    → (r ≡ s) × (e.1.1.1.1.0.now ≡ f.1.1.1.1.0.now)
one_answer_to_flows_of_lists κ a r s e f p q = same_left p q

pub one_replay_of_a_file : (κ : _) (a : _) (r s : Ran) (e f : _) → replay-file.Post κ a r e → replay-file.Post κ a s f
    → (r ≡ s) × (e.1.0.now ≡ f.1.0.now)
one_replay_of_a_file κ a r s e f p q = same_left p q

pub one_replay_of_lists : (κ : _) (a : _) (r s : Ran) (e f : _) → replay-lists.Post κ a r e → replay-lists.Post κ a s f
    → (r ≡ s) × (e.1.1.1.1.0.now ≡ f.1.1.1.1.0.now)
one_replay_of_lists κ a r s e f p q = same_left p q

-- "When turned away, every lent place keeps its bytes", and so where a script breaks off.
abbrev pub NothingWritten : Ran → Type 0
NothingWritten (Ok n) = ⊥
NothingWritten (Err stop) = Unit {0}

abbrev Keeps : List ℕ → Left Ran → Type 0
Keeps place left = NothingWritten left.answer → left.place ≡ place

replay_keeps : (r : Replayed) (place : List ℕ) → Keeps place (replay_left place r)
unfolding replay_left
replay_keeps (ended last) place =
    sent_cases turned (Ok (length (numbers_bytes last))) (numbers_bytes last) place (Keeps place) (λ room written. absurd written)
    (λ small nothing. refl)
replay_keeps (broken fault step) place = λ nothing. refl

reading_keeps : (reading : Reading) (place : List ℕ) → Keeps place (replayed_reading reading place)
unfolding replayed_reading
reading_keeps (accepted c) place = replay_keeps (replayed_contents c) place
reading_keeps (refused refusal) place = λ nothing. refl

values_keep : (read : Checked Replayed) (place : List ℕ) → Keeps place (replayed_at_zero read place)
unfolding replayed_at_zero
values_keep (good r) place = replay_keeps r place
values_keep (bad why) place = λ nothing. refl

-- what holds of the definition's answer holds of one that equals it
kept : (answer : Ran) (now : List ℕ) (left : Left Ran) (place : List ℕ) → left_by answer now ≡ left → Keeps place left
    → NothingWritten answer → now ≡ place
kept answer now left place e keeps = rw (← e) at keeps

pub a_file_that_gives_no_list_keeps_the_place : (κ : _) (a : _) (r : Ran) (e : _) → replay-file.Post κ a r e → NothingWritten r
    → e.1.0.now ≡ a.1.0.now
a_file_that_gives_no_list_keeps_the_place κ a r e p = kept r _ _ a.1.0.now p (reading_keeps (read_to_judge a.0.now) a.1.0.now)

pub lists_that_give_no_list_keep_the_place : (κ : _) (a : _) (r : Ran) (e : _) → replay-lists.Post κ a r e → NothingWritten r
    → e.1.1.1.1.0.now ≡ a.1.1.1.1.0.now
lists_that_give_no_list_keep_the_place κ a r e p =
    kept r _ _ a.1.1.1.1.0.now p (values_keep (replayed_values a.0.now a.1.0.now (lent a.1.1.0) a.1.1.1.0.now) a.1.1.1.1.0.now)

-- For k below the number of flows, the k-th three bytes of the place are what `decide` answers for the k-th flow.
pub flows_of_a_file_are_decided : (κ : _) (a : _) (n : ℕ) (e : _) → flows-file.Post κ a (Ok n) e → AreBytes a.0.now
    → (k : ℕ) → k < flow_count a.1.1.0.now
    → decided_reading a.1.0 (flow_at k a.1.1.0.now) (read_file a.0.now) ≡ Ok (decision_at k e.1.1.1.0.now)
flows_of_a_file_are_decided κ a n e p bytes k inside =
    rw (ap (λ (w : Writing). w.place) p)
    (file_flows_decided a.1.0 a.0.now a.1.1.0.now a.1.1.1.0.now n k bytes (sym (ap (λ (w : Writing). w.answer) p)) inside)

pub flows_of_lists_are_decided : (κ : _) (a : _) (n : ℕ) (e : _) → flows-lists.Post κ a (Ok n) e
    → (k : ℕ) → k < flow_count a.1.1.1.0.now
    → decided_at_zero (decided_values a.0.now a.1.0.now (lent a.1.1.0) (flow_at k a.1.1.1.0.now))
    ≡ Ok (decision_at k e.1.1.1.1.0.now)
flows_of_lists_are_decided κ a n e p k inside =
    rw (ap (λ (w : Writing). w.place) p)
    (values_flows_decided a.0.now a.1.0.now (lent a.1.1.0) a.1.1.1.0.now a.1.1.1.1.0.now n k (sym (ap (λ (w : Writing). w.answer) p)) inside)

-- "When turned away, every lent place keeps its bytes."
pub flows_of_a_turned_file_keep_the_place : (κ : _) (a : _) (refusal : Refusal) (e : _) → flows-file.Post κ a (Err refusal) e
    → e.1.1.1.0.now ≡ a.1.1.1.0.now
flows_of_a_turned_file_keep_the_place κ a refusal e p =
    ap (λ (w : Writing). w.place) p
    ∙ (file_flows_keep_rest a.1.0 a.0.now a.1.1.0.now a.1.1.1.0.now).1 refusal (sym (ap (λ (w : Writing). w.answer) p))

pub flows_of_turned_lists_keep_the_place : (κ : _) (a : _) (refusal : Refusal) (e : _) → flows-lists.Post κ a (Err refusal) e
    → e.1.1.1.1.0.now ≡ a.1.1.1.1.0.now
flows_of_turned_lists_keep_the_place κ a refusal e p =
    ap (λ (w : Writing). w.place) p
    ∙ (values_flows_keep_rest a.0.now a.1.0.now (lent a.1.1.0) a.1.1.1.0.now a.1.1.1.1.0.now).1 refusal (sym (ap (λ (w : Writing). w.answer) p))
