-- `whole_text` meets its contract: without room nothing is put, with room the whole text is. Assumes nothing.
use Rattle.std.proofs.Common.{ℕ, ◌^◌, ◌<◌, List, length, get_or, Fits, w8, refl, inl, inr, arith}
use Rattle.deployment.proofs.Bytes.{elements_are_bytes}
use Rattle.lines.specs.Printing.{IsFile}
use Rattle.lines.proofs.HandedOver.{no_room, room}
use Rattle.lines.proofs.whole.whole_text.Goals as goal
use Rattle.lines.proofs.whole.whole_text.Goals.{Then-most-place, Else-most-place}

bytes : (place : List ℕ) → ((i : ℕ) → Fits w8 (get_or place i 0)) → length place < 2 ^ 64 → IsFile place
bytes place small short = (elements_are_bytes place (λ i. omega (arith, small i)), short)

pub returns-then-most-place : goal.returns-then-most-place
returns-then-most-place g c =
    λ text puts.
    room text c.args.place.now _ 0 _ (inr (refl, omega arith)) (omega arith)
    (puts _ _ _ (bytes _ (goal.at.returns-then-most-place g c).Then-most-place.type_inv.place (omega arith)) c.put.ensures)

pub returns-then-place-needed : goal.returns-then-place-needed
returns-then-place-needed g c =
    λ text puts.
    let counted = puts _ _ _ (elements_are_bytes _ (λ i. omega arith), omega arith) c.put-needed.ensures in
    no_room {most = c.args.most} text c.args.place.now _ (inl (omega (arith, counted.put.end))) (omega arith)

pub returns : goal.returns
returns g c =
    λ text puts.
    let counted = puts _ _ _ (elements_are_bytes _ (λ i. omega arith), omega arith) c.put-needed.ensures in
    room text c.args.place.now _ c.put-needed.result _ (inl (omega (arith, counted.put.end))) (omega arith)
    (puts _ _ _ (bytes _ (goal.at.returns g c).Else-most-place.type_inv.place (omega arith)) c.put-2.ensures)
