use denote.Text.{Utf8}
use denote.Shadow.{shadow}
use Rattle.pg_conn.specs.Dials.{AreUncalled}
use Rattle.pool_cases.proofs.listening.opening.links.Given as goal

abbrev pub invariant-loop : goal.invariant-loop
invariant-loop l = shadow (Utf8 l.rest) × AreUncalled l.links.items
