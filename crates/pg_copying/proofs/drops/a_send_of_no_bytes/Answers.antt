use Rattle.pg_copying.proofs.drops.a_send_of_no_bytes.Goals as goal

pub poll-requires-clause-open : goal.poll-requires-clause-open
poll-requires-clause-open g c = rw c.send-send.ensures.copy c.requires.open
