use Rattle.pg_wire.specs.Parts.{ends_group, is_ready}
use Rattle.pg_wire.specs.Groups.{says_ready}
use Rattle.pg_wire.proofs.GroupLaws.{pieces_of_front}
use Rattle.pg_wire.proofs.laws.pieces_go_on.Goals as goal

pub returns-clause-groups : goal.returns-clause-groups
returns-clause-groups c = pieces_of_front ends_group

pub returns-clause-parts : goal.returns-clause-parts
returns-clause-parts c = pieces_of_front is_ready

pub returns-clause-replies : goal.returns-clause-replies
returns-clause-replies c = pieces_of_front says_ready
