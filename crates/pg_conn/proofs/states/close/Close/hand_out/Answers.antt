use Rattle.pg_conn.proofs.StateLaws.{handed_out}
use Rattle.pg_conn.proofs.states.close.Close.hand_out.Goals as goal

pub invariant_of-self : goal.invariant_of-self
invariant_of-self g c = record { closing = handed_out c.args.self.now.request c.take.new.self c.take.ensures.after }
