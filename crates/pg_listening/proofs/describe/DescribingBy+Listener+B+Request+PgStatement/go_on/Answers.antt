use Rattle.std.proofs.Common.{refl, sym, ◌∙◌}
use Rattle.std.proofs.Math.Nat.{le_refl}
use Rattle.pg_listening.proofs.HearingLaws.{hears_nothing}
use Rattle.pg_listening.proofs.DescribingLaws.{tells_at_once}
use Rattle.pg_listening.proofs.describe.DescribingBy+Listener+B+Request+PgStatement.go_on.Goals as goal

pub returns-in-Ok-None : goal.returns-in-Ok-None
returns-in-Ok-None g c = record {
  same = refl;
  hears = hears_nothing g.B.L.Link.seen _ _ refl;
  channels = refl;
  left = le_refl _;
  goes =
      tells_at_once g.B.L.Link.seen g.B.Held.PgExecutor.conn g.B.Held.PgExecutor.with_conn g.B.ConnectionSource.filling g.B.ConnectionSource.now c.args.left.now c.args.left.now c.args.statement c.args.self.now.request c.args.self.now.listener.now c.args.self.now.told c.new-in-Ok-None.result c.requires.asked c.requires.told
      (sym c.columns.ensures ∙ rw c.in-Ok-None.field-0-is at c.in-Ok-None.ensures.ok) c.new-in-Ok-None.ensures.statement (c.new-in-Ok-None.ensures.nullable ∙ c.new.ensures.items);
  stays = tt;
  closed = tt;
}

pub returns-in-Err-clause-hears : goal.returns-in-Err-clause-hears
returns-in-Err-clause-hears g c = hears_nothing g.B.L.Link.seen _ _ refl
