use Rattle.std.proofs.Common.{refl}
use Rattle.pg_startup.proofs.AskingLaws.{hears_seen}
use Rattle.pg_startup.proofs.asking.Asking.read.Goals as goal

pub returns-in-Moved : goal.returns-in-Moved
returns-in-Moved g c =
    let at = rw (← c.self.view_is) at c.requires in
    rw (← c.self.view_is) (hears_seen g.L.Link.seen _ _ c.hear.new.self c.in-Moved.field-0 c.read.new.into c.hear.result at refl refl c.read.auto.into c.in-Moved.ensures c.hear.ensures)
