-- What specs/Claims.antt claims of the entry's answer. The idea: a file for a listing is an output for accepted contents, as every entry's is, and
-- refusal 13 is none of a listing's own. Assumes nothing.
use Prim.Native.Nat.{ℕ}
use native.Mathlib.Omega.{arith}
use mathlib.Core.Path.{◌≡◌, refl, sym, ◌∙◌, ap}
use mathlib.Core.List.{List}
use lib.ListN.{length}
use Rattle.deployment.specs.File.{file_of}
use Rattle.deployment.specs.FieldValues.{Writing, left_by, writing, written_numbers}
use Rattle.std.specs.Prelude.{Result, Ok, Err}
use Rattle.deployment.specs.declared.Refusal.{Refusal}
use Rattle.deployment.proofs.Lent as lent
use Rattle.iptables.specs.Listing.{listing_read}
use Rattle.iptables.specs.Answers.{file_of_listing}
use Rattle.iptables.specs.Properties.{ListingTurned, not_read, low_above, cut_short, not_just_one, too_many, too_long}
use Rattle.iptables.specs.Claims.{FileKeepsPlace, FileForRoom, FileForListing, ListingRefuses}
use Rattle.iptables.proofs.Whole.{listing_refused}

pub file_keeps_place : FileKeepsPlace
unfolding file_of_listing writing written_numbers
file_keeps_place listing place =
    lent.turned_away_keeps written_numbers Err (λ r. refl) (λ c. Ok (length (file_of c))) (λ c. refl) file_of (listing_read listing) place

-- Refusal 13 is none of the table's.
never_room : (listing : List ℕ) (number at : ℕ) → ListingTurned listing number at → ¬ (number ≡ 13)
never_room listing _ _ (not_read line at r none low) e = omega (arith, e)
never_room listing _ _ (low_above line at r low) e = omega (arith, e)
never_room listing _ _ (cut_short rules defaults p cut) e = omega (arith, e)
never_room listing _ _ (not_just_one rules defaults p whole other) e = omega (arith, e)
never_room listing _ _ (too_many rules action p whole many) e = omega (arith, e)
never_room listing _ _ (too_long rules action p whole fits long) e = omega (arith, e)

pub file_for_room : FileForRoom
unfolding file_of_listing writing written_numbers
file_for_room listing place at =
    lent.refused_for_room written_numbers Err (λ r. refl) (λ c. Ok (length (file_of c))) (λ c. refl) file_of (listing_read listing) place at
    (λ e. never_room listing 13 at ((listing_refused listing 13 at).0 e) refl)

pub file_for_listing : FileForListing
unfolding file_of_listing writing written_numbers
file_for_listing listing place number at other =
    let (there, back) =
    lent.refused_for_reading written_numbers Err (λ r. refl) (λ c. Ok (length (file_of c))) (λ c. refl) file_of (listing_read listing) place
    number at other in
    let (row, read) = listing_refused listing number at in
    (λ e. row (there e), λ t. back (read t))

-- The claims of the entry, from its contract.
pub listing_refuses : (listing : List ℕ) {answer : (Result ℕ Refusal)} {before after : List ℕ} → left_by answer after ≡ file_of_listing listing before
    → ListingRefuses listing answer before after
listing_refuses listing {answer} {before} p =
    let is : answer ≡ (file_of_listing listing before).answer = ap (λ (w : Writing). w.answer) p in
    record {
      keeps =
          λ number at turned.
          ap (λ (w : Writing). w.place) p ∙ file_keeps_place listing before number at (sym (ap written_numbers is) ∙ turned);
      room = λ at. rw is (file_for_room listing before at);
      row = λ number at not-room. rw is (file_for_listing listing before number at not-room);
    }
