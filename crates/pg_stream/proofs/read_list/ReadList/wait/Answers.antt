use Rattle.pg_stream.proofs.EventLaws.{waits}
use Rattle.pg_stream.proofs.read_list.ReadList.wait.Goals as goal

pub returns : goal.returns
returns c = λ into. waits c.args.self.now c.pass.new.self into c.requires c.pass.ensures
