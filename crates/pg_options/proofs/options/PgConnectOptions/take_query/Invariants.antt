use Rattle.std.proofs.Common.{◌≡◌, ◌+◌, ◌<◌, ◌^◌, length}
use Rattle.form_urlencoded.specs.Parse.{pairs_left}
use Rattle.pg_options.specs.FromUrl.{pairs_taken, decoded_pairs, query_pairs}
use Rattle.pg_options.proofs.options.PgConnectOptions.take_query.Given as goal

-- what the pairs that are left make of the options is what all pairs make of the first ones
abbrev pub invariant-loop-pair : goal.invariant-loop-pair
invariant-loop-pair l = record {
  can : (goal.iterator-loop-pair).can_next l.pair-iterator;
  finite : (goal.iterator-loop-pair).is_finite l.pair-iterator;
  fits : l.place + length (pairs_left l.pair-iterator) < 2 ^ 64;
  rest : pairs_taken l.options l.place (decoded_pairs (pairs_left l.pair-iterator))
      ≡ pairs_taken l.initial.options 0 (query_pairs l.url);
}
