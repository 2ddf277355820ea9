use Rattle.pg_options.proofs.EscapingLaws.{pair_written}
use Rattle.pg_options.proofs.options.switches.write_pair.Goals as goal

pub returns : goal.returns
returns c = pair_written _ _ _ _ _ _ c.in_ok-write_str.ensures.ok c.in_ok-write_char.ensures.ok c.in_ok-write_str-2.ensures.ok
