use Rattle.pg_script.proofs.LineLaws.{cut_at, uncut_all}
use Rattle.pg_script.proofs.reader.line_end.Goals as goal

pub returns-in-Some-clause-cut : goal.returns-in-Some-clause-cut
returns-in-Some-clause-cut c = let h = c.in-Some.ensures in cut_at c.in-Some.end c.args.text.now h.0.high h.0.before h.1

pub returns-in-None-clause-cut : goal.returns-in-None-clause-cut
returns-in-None-clause-cut c = uncut_all c.args.text.now c.in-None.ensures
