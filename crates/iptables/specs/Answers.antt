-- The whole answer of the entry, with every byte of the lent place. Assumes nothing.
use Rattle.std.specs.Prelude.{Err, ℕ, List}
use Rattle.deployment.specs.File.{file_of}
use Rattle.deployment.specs.FieldValues.{answered, left_alone, Writing, writing}
use Rattle.iptables.specs.Listing.{listing_read}

-- "write a file with this list as both policies"; "13 last"
unfoldable pub file_of_listing : List ℕ → List ℕ → Writing
file_of_listing listing place = answered (λ c. writing (file_of c) place) (left_alone Err place) (listing_read listing)
