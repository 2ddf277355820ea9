use Rattle.std.proofs.Common.{◌≡◌, ◌++◌}
use Rattle.pg_script.specs.Given.{AreEncoded}
use Rattle.pg_script.proofs.encoding.encoded.Given as goal

abbrev pub invariant-loop-argument : goal.invariant-loop-argument
invariant-loop-argument l = record {
  made : AreEncoded l.yielded l.arguments;
  rest : l.yielded ++ l.argument-iterator.rest.items ≡ l.fn.given.items;
}
