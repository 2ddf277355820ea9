-- Which connections somebody else may have.
use Rattle.std.specs.Prelude.{Bool, not, ◌&&◌, nat_eq, length}
use Rattle.std.specs.Option.{is_none}
use Rattle.pg_conn.specs.Connections.{ConnOf, runs}

-- the server has not broken it, no reply is owed, all bytes are sent, no call runs, no lock is held, and no transaction is open
abbrev pub is_clean : {A : Type 0} → ConnOf A → Bool
is_clean c = is_none c.broken && nat_eq c.ledger.owed 0 && nat_eq (length c.stream.unsent) 0 && not (runs c.call) && nat_eq c.held 0 && nat_eq c.rule.depth 0
