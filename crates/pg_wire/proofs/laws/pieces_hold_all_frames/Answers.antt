use Rattle.pg_wire.specs.Parts.{ends_group, is_ready}
use Rattle.pg_wire.proofs.PartLaws.{flat_cut_after}
use Rattle.pg_wire.proofs.laws.pieces_hold_all_frames.Goals as goal

pub returns-clause-groups : goal.returns-clause-groups
returns-clause-groups c = flat_cut_after ends_group

pub returns-clause-parts : goal.returns-clause-parts
returns-clause-parts c = flat_cut_after is_ready
