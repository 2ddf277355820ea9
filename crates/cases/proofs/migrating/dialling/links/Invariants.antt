use Rattle.pg_conn.specs.Dials.{AreUncalled}
use Rattle.cases.proofs.migrating.dialling.links.Given as goal

abbrev pub invariant-loop-lines : goal.invariant-loop-lines
invariant-loop-lines l = AreUncalled l.links.items
