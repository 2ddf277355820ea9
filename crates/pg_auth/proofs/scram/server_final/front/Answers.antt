use Rattle.std.proofs.Common.{arith}
use Rattle.pg_auth.proofs.VerifierLaws.{taken_bytes}
use Rattle.pg_auth.proofs.scram.server_final.front.Goals as goal

pub returns-clause-bytes : goal.returns-clause-bytes
returns-clause-bytes c = rw c.copy_from_slice.ensures.after (taken_bytes 32 c.args.bytes.now (λ i. let f = c.type_inv.bytes i in omega arith))
