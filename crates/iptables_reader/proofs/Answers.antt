-- The entry that brings saved rules in, by its contract as the checker reads it: any two answers that it allows are equal, with every byte of the place;
-- the place is kept where it turns away, and each number is answered exactly when the listing gives it. Assumes nothing.
use mathlib.Core.Path.{◌≡◌}
use Rattle.std.specs.Prelude.{ℕ, Result}
use Rattle.deployment.specs.declared.Refusal.{Refusal}
use Rattle.deployment.proofs.Lent.{same_left}
use Rattle.iptables.specs.Claims.{ListingRefuses}
use Rattle.iptables.proofs.Claims.{listing_refuses}
use Rattle.iptables_reader.proofs.from_iptables.Reads as from-iptables

pub one_file_of_listing : (κ : _) (a : _) (r s : Result ℕ Refusal) (e f : _) → from-iptables.Post κ a r e → from-iptables.Post κ a s f
    → (r ≡ s) × (e.1.0.now ≡ f.1.0.now)
one_file_of_listing κ a r s e f p q = same_left p q

pub from_iptables_refuses : (κ : _) (a : _) (r : Result ℕ Refusal) (e : _) → from-iptables.Post κ a r e
    → ListingRefuses a.0.now r a.1.0.now e.1.0.now
from_iptables_refuses κ a r e p = listing_refuses a.0.now p
