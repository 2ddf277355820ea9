use Rattle.pg_play.proofs.playing.play.Goals as goal

pub returns-in-Err-clause-start : goal.returns-in-Err-clause-start
returns-in-Err-clause-start g c = rw (c.failed-in-Err.ensures.start, c.failed-in-Err.ensures.link) c.in-Err.ensures
