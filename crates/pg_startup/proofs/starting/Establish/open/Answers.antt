use Rattle.std.proofs.Common.{ap, sym, ◌∙◌}
use Rattle.pg_startup.specs.Greeting.{fresh_greeting}
use Rattle.pg_startup.specs.Establishing.{EstablishOf}
use Rattle.pg_startup.proofs.EstablishLaws.{opens_by, opens_from}
use Rattle.pg_startup.proofs.starting.Establish.open.Goals as goal

pub returns-clause-opens : goal.returns-clause-opens
returns-clause-opens g c =
    let phase = ap (λ (x : EstablishOf _). x.phase) (sym c.self.view_is) ∙ sym c.replace.ensures.value ∙ c.in-Asking.is in
    let message = ap (λ (x : EstablishOf _). x.message) (sym c.self.view_is) in
    let fresh = c.new-greeting.ensures ∙ ap fresh_greeting c.into_link.ensures in
    opens_from c.args.self.now.message c.self.inside.message c.args.self.now.phase c.enter.new.place c.in-Asking.asking c.say-said.new.self c.say-said.result message phase c.enter.ensures
    (opens_by c.self.inside.message c.in-Asking.asking c.say-said.new.self c.say-said.result (rw fresh at c.say-said.ensures.ok) (rw fresh at c.say-said.ensures.err) c.say-said.ensures.memory)
