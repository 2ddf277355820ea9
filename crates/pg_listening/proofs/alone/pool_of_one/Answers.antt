use Rattle.std.proofs.Common.{◌≡◌, ◌++◌, ◌∷◌, ◌∙◌, [], List, Option, ap, sym, option_to_list}
use Rattle.pg_pool.specs.Seats.{SeatSeen}
use Rattle.pg_pool.specs.Pools.{told_seats}
use Rattle.pg_listening.proofs.AloneLaws.{the_first}
use Rattle.pg_listening.proofs.alone.pool_of_one.Goals as goal

pub returns-in-Some-clause-seat : goal.returns-in-Some-clause-seat
returns-in-Some-clause-seat g c =
    let popped : c.in-Ok.seats.items ≡ c.pop.new.self.items ++ c.in-Some.seat ∷ [] = c.pop.ensures.items ∙ ap (λ (o : Option SeatSeen). c.pop.new.self.items ++ option_to_list o) c.in-Some.is in
    the_first c.args.name c.pop.new.self.items c.in-Some.seat (ap (λ (xs : List SeatSeen). told_seats xs) (sym popped) ∙ c.in-Ok.ensures.seats.0)
