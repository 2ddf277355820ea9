use Rattle.std.proofs.Common.{arith}
use Rattle.pg_wire.proofs.FrameLaws.{framed_first}
use Rattle.pg_wire.proofs.message.sasl.encode_sasl_initial.Goals as goal

pub returns-clause-ok : goal.returns-clause-ok
returns-clause-ok c = framed_first c.args.out.now c.append_initial.new.out c.args.response.now c.in_ok-size.size (omega (arith, c.in_ok-size.ensures.ok)) (rw c.as_bytes.ensures.value at c.in_ok-append_initial.ensures.ok)
