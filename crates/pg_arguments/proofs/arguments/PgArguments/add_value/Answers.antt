use Rattle.pg_arguments.specs.Encoding.{value_of}
use Rattle.pg_arguments.proofs.ArgumentLaws.{one_each, still_made_of, adds_to_values}
use Rattle.pg_arguments.proofs.arguments.PgArguments.add_value.Goals as goal

pub invariant_of-self : goal.invariant_of-self
invariant_of-self g c =
    let e = c.append.ensures in
    still_made_of c.append.result c.self.inside.types.items c.append.new.types.items c.args.of c.self.inside.buffer c.append.new.buffer (value_of (g.T.Encode.encoding c.args.value)) e.types e.value e.same_types e.same_values c.self.invariant

pub returns-clause-values : goal.returns-clause-values
returns-clause-values g c =
    let e = c.append.ensures in
    rw (← c.self.view_is) (adds_to_values c.append.result c.args.of _ _ (value_of (g.T.Encode.encoding c.args.value)) e.types e.value)

pub append-requires : goal.append-requires
append-requires g c = one_each c.self.inside.types.items c.self.inside.buffer c.self.invariant
