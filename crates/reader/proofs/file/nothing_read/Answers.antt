-- `nothing_read` meets its contract: no field has been read, and no value has a place. Assumes nothing.
use mathlib.Core.Path.{refl}
use Rattle.deployment.specs.Bytes.{joined}
use Rattle.deployment.specs.File.{nothing, tag_or, last_tag, if_there}
use Rattle.deployment.specs.Properties.{fields_bytes}
use Rattle.reader.specs.Answers.{keep_bytes, action_bytes, command_bytes, span_if, span_given, absent, end_of}
use Rattle.reader.specs.Steps.{layout_so_far, progress_of}
use Rattle.reader.proofs.file.nothing_read.Goals as goal

pub returns : goal.returns
unfolding nothing progress_of tag_or last_tag layout_so_far keep_bytes action_bytes command_bytes span_if span_given absent end_of fields_bytes if_there joined
returns c = refl
