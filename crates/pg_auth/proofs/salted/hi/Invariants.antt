use Rattle.std.proofs.Common.{◌≡◌}
use Rattle.pg_auth.specs.Hi.{u, u_through}
use Rattle.pg_auth.proofs.salted.hi.Given as goal

abbrev pub invariant-loop : goal.invariant-loop
invariant-loop l = record {
  round : l.round ≡ u l.password l.salt l.counter;
  salted : l.salted ≡ u_through l.password l.salt l.counter;
}
