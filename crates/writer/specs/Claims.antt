-- What a customer buys of the writer: for field values of accepted contents, what is written is the file of these contents. proofs/Claims.antt
-- has a proof of the same name in small letters with hyphens; crate `entries` says what comes of it for each answer. Assumes nothing.
use Rattle.std.specs.Prelude.{◌≤◌, ◌≡◌}
use Rattle.deployment.specs.Contents.{Contents}
use Rattle.deployment.specs.File.{file_of}
use Rattle.deployment.specs.FieldValues.{FieldValues}
use Rattle.deployment.specs.Properties.{Valid}
use Rattle.deployment.specs.Claims.{values_of}
use Rattle.writer.specs.Answers.{given_bytes, needed}

abbrev pub GivenIsFile : Type 0
GivenIsFile = (v : FieldValues) (c : Contents) → values_of c ≡ v → given_bytes v ≡ file_of c

-- A file of accepted contents has at most 44,049 bytes, and so do the values that it is written of.
abbrev pub GivenFits : Type 0
GivenFits = (v : FieldValues) (c : Contents) → Valid c → values_of c ≡ v → needed v ≤ 44049
