use Rattle.pg_wire.specs.Parts.{ends_group, is_ready}
use Rattle.pg_wire.proofs.PartLaws.{cut_after-append}
use Rattle.pg_wire.proofs.laws.pieces_of_joined_frames.Goals as goal

pub returns-clause-groups : goal.returns-clause-groups
returns-clause-groups c xs ys last = cut_after-append ends_group xs last ys

pub returns-clause-parts : goal.returns-clause-parts
returns-clause-parts c xs ys last = cut_after-append is_ready xs last ys
