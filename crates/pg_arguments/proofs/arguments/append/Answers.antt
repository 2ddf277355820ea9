use Rattle.pg_arguments.specs.Encoding.{value_of}
use Rattle.pg_arguments.proofs.AddLaws.{adds_extends}
use Rattle.pg_arguments.proofs.arguments.append.Goals as goal

pub cut_back-requires-clause-inside : goal.cut_back-requires-clause-inside
cut_back-requires-clause-inside g c =
    let extends = adds_extends (value_of (g.T.Encode.encoding c.args.value)) c.args.buffer.now c.add.new.self c.in_ok-add.ensures.ok in
    rw (c.len-bytes.ensures, c.holes-holes.ensures.holes, extends.0, extends.1) c.holes-holes.ensures.inside

pub cut_back-requires-clause-counted : goal.cut_back-requires-clause-counted
cut_back-requires-clause-counted g c =
    let extends = adds_extends (value_of (g.T.Encode.encoding c.args.value)) c.args.buffer.now c.add.new.self c.in_ok-add.ensures.ok in
    rw (c.len-bytes.ensures, extends.0) c.values-values.ensures.bound
