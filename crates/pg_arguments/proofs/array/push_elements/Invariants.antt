use Rattle.std.proofs.Common.{◌≡◌, ◌++◌}
use Rattle.pg_arguments.specs.Arrays.{elements, AddsElements}
use Rattle.pg_arguments.proofs.array.push_elements.Given as goal

abbrev pub invariant-loop-value : goal.invariant-loop-value
invariant-loop-value g l = record {
  added : AddsElements (elements g.T.Encode.encoding l.yielded) l.initial.out l.out;
  rest : l.yielded ++ l.value-iterator.rest.items ≡ l.fn.values.items;
}
