use Rattle.std.proofs.Common.{◌≡◌, ℕ, List, refl, ap, ◌∙◌, drop}
use Rattle.pg_wire.specs.Frontend.{ssl_request}
use Rattle.pg_startup.specs.Asking.{asking_by}
use Rattle.pg_startup.proofs.AskingLaws.{sends_more, sendable}
use Rattle.pg_startup.proofs.asking.Asking.send.Goals as goal

pub returns-in-Moved : goal.returns-in-Moved
returns-in-Moved g c =
    let at = rw (← c.self.view_is) at c.requires in
    let from : c.behind.result.now ≡ drop c.args.sent ssl_request = c.behind.ensures ∙ ap (λ (x : List ℕ). drop c.args.sent x) c.bytes.ensures in
    let wrote = rw from at c.in-Moved.ensures in
    rw (← c.self.view_is, c.sent.ensures) (sends_more (asking_by g.L.Link.seen _) (asking_by g.L.Link.seen _) c.args.sent c.in-Moved.count at (sendable c.self.inside.asked c.args.sent at c.self.invariant) refl refl refl wrote)
